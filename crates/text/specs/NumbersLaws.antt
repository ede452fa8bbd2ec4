-- What reading a line's numbers goes by, one after the other. Assumes nothing.
use Rattle.std.specs.Prelude.{◌≡◌, refl, Bool, true, false, ◌&&◌, ℕ, suc, ◌+◌, ◌-◌, ◌≤◌, ◌<◌, length, get_or, drop, replicate}
use Rattle.std.proofs.Common.{sym, ◌∙◌, arith, add-zero, drop-cons}
use Rattle.std.proofs.Math.Path.{ap}
use mathlib.Core.List.{List, [], ◌∷◌, ◌++◌, append-nil, append_assoc}
use Rattle.std.proofs.Math.Numerals.{add-one}
use Rattle.std.proofs.Math.ListN.{set, length-append, length-drop}
use Rattle.std.proofs.Math.Seq.{drop-drop, drop-length, set-append_seam}
use Rattle.refusal.specs.Choice.{pick}
use Rattle.journal.specs.Table.{padded}
use Rattle.text.specs.Reading.{Read, unread, joined, spaced_in, read_in}
use Rattle.text.specs.ReadingLaws.{spaced_size}
use Rattle.text.specs.declared.reading.Numeral.{Numeral}

-- numbers in k bytes, and then others
abbrev pub after : List ℕ → ℕ → Read → Read
after xs k r = record { ok = true; values = xs ++ r.values; size = k + r.size }

unfoldable pub prefixed : List ℕ → ℕ → Read → Read
prefixed xs k r = pick r.ok (after xs k r) unread

-- the first i numbers are read, from k bytes, into v
pub record Gathering (fs t : List ℕ) (i k : ℕ) (v : List ℕ) : Type 0 where
  pub done : List ℕ
  pub many : length done ≡ i
  pub held : v ≡ padded done
  pub inside : k ≤ length t
  pub same : read_in fs t ≡ prefixed done k (read_in (drop i fs) (drop k t))

prefixed_none : (b : Bool) (x : Numeral) (r : Read) → pick b (joined x r) unread ≡ prefixed [] 0 (pick b (joined x r) unread)
unfolding pick prefixed
prefixed_none true x r = let e : 0 + (x.size + 1 + r.size) ≡ x.size + 1 + r.size = omega arith in rw e
prefixed_none false x r = refl

read_none : (fs t : List ℕ) → read_in fs t ≡ prefixed [] 0 (read_in fs t)
unfolding read_in prefixed pick
read_none [] t = refl
read_none (f ∷ fs) t = prefixed_none ((spaced_in f t).ok && (read_in fs (drop ((spaced_in f t).size + 1) t)).ok) (spaced_in f t) (read_in fs (drop ((spaced_in f t).size + 1) t))

pub gather_none : (fs t : List ℕ) → Gathering fs t 0 0 (padded [])
gather_none fs t = record { done = []; many = refl; held = refl; inside = omega arith; same = read_none fs t }

set_padded : (xs : List ℕ) (x : ℕ) → length xs < 9 → set (padded xs) (length xs) x ≡ padded (xs ++ (x ∷ []))
unfolding padded
set_padded xs x h =
    let e : 9 - length xs ≡ suc (9 - length (xs ++ (x ∷ []))) = omega (arith, length-append xs (x ∷ [])) in
    rw e (set-append_seam xs 0 (replicate (9 - length (xs ++ (x ∷ []))) 0) x ∙ sym (append_assoc xs (x ∷ []) (replicate (9 - length (xs ++ (x ∷ []))) 0)))

prefixed_more : (b : Bool) (xs : List ℕ) (k : ℕ) (x : Numeral) (r : Read)
    → prefixed xs k (pick b (joined x r) unread) ≡ pick b (after (xs ++ (x.value ∷ [])) (k + (x.size + 1)) r) unread
unfolding pick prefixed
prefixed_more true xs k x r =
    let e : k + (x.size + 1 + r.size) ≡ k + (x.size + 1) + r.size = omega arith in
    rw (e, append_assoc xs (x.value ∷ []) r.values)
prefixed_more false xs k x r = refl

module _ {fs t : List ℕ} {i k : ℕ} {v : List ℕ} (g : Gathering fs t i k v) where
  -- the number at hand
  abbrev here : Numeral
  here = spaced_in (get_or fs i 0) (drop k t)

  rest-is : i < length fs → here.ok ≡ true → read_in (drop i fs) (drop k t) ≡ pick (read_in (drop (i + 1) fs) (drop (k + (here.size + 1)) t)).ok (joined here (read_in (drop (i + 1) fs) (drop (k + (here.size + 1)) t))) unread
  unfolding read_in
  rest-is h e = rw (drop-cons fs i 0 h, e, drop-drop (here.size + 1) k t, add-one i)

  pub gather_on : i < length fs → i < 9 → here.ok ≡ true → Gathering fs t (i + 1) (k + (here.size + 1)) (set v i here.value)
  unfolding prefixed
  gather_on h n e =
      let r = read_in (drop (i + 1) fs) (drop (k + (here.size + 1)) t) in
      record {
        done = g.done ++ (here.value ∷ []);
        many = length-append g.done (here.value ∷ []) ∙ ap (λ (j : ℕ). j + 1) g.many;
        held = ap (λ (l : List ℕ). set l i here.value) g.held ∙ ap (λ (j : ℕ). set (padded g.done) j here.value) (sym g.many) ∙ set_padded g.done here.value (omega (arith, g.many));
        inside = omega (arith, spaced_size (get_or fs i 0) (drop k t) e, length-drop k t, g.inside);
        same = g.same ∙ ap (prefixed g.done k) (rest-is h e) ∙ prefixed_more r.ok g.done k here r;
      }

  pub gather_out : i < length fs → here.ok ≡ false → read_in fs t ≡ unread
  unfolding read_in prefixed pick
  gather_out h e = let z : read_in (drop i fs) (drop k t) ≡ unread = rw (drop-cons fs i 0 h, e) in g.same ∙ ap (prefixed g.done k) z

  pub gather_done : i ≡ length fs → read_in fs t ≡ record { ok = true; values = g.done; size = k }
  unfolding read_in prefixed pick
  gather_done e = g.same ∙ rw (e, drop-length fs, append-nil, add-zero)
