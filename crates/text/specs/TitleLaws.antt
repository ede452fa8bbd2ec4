-- The edition of a text, as the code reads it; what stands in a text's title, and that it is read back. Assumes nothing.
use Rattle.std.specs.Prelude.{◌≡◌, Bool, ◌&&◌, ℕ, ◌+◌, ◌≤◌, ◌<◌, get_or, take, leb, ltb}
use Rattle.std.proofs.Math.Path.{refl, sym, ap}
use Rattle.std.proofs.Common.{◌∙◌, ltb-false}
use Rattle.std.proofs.Math.Bool.{true, false}
use mathlib.Core.List.{List, [], ◌∷◌, ◌++◌}
use native.Mathlib.Omega.{arith}
use Rattle.std.proofs.Math.ListN.{length}
use Rattle.refusal.specs.Choice.{pick}
use Rattle.refusal.specs.ChoiceLaws.{either, pick_on}
use Rattle.edition.specs.Edition.{first_edition, listed}
use Rattle.wire.specs.FieldLaws.{and_right}
use Rattle.journal.specs.Table.{top_of, padded}
use Rattle.journal.specs.HeldLaws.{Tops}
use Rattle.journal.specs.FieldLaws.{and_off}
use Rattle.journal.specs.RoundTrip.{listed_fits, listed_from_lem}
use Rattle.text.specs.Fields.{asked_of, fields_for}
use Rattle.text.specs.Line.{numerals_of, line_of}
use Rattle.text.specs.Walk.{Item, item, fault, end, all_of}
use Rattle.text.specs.WalkLaws.{Onward}
use Rattle.text.specs.Reading.{tag_in, line_in, line_at, line_for}
use Rattle.text.specs.LineWalk.{onward, at-end, at_line, line_there, Had}
use Rattle.text.specs.LineReads.{nameless, by_tag_lem}
use Rattle.text.specs.LineWay.{Good, line_stands}
use Rattle.text.specs.LineBack.{follows, line_parts, line_back}
use Rattle.text.specs.NamesApart.{edition_found, edition_not}
use Rattle.text.specs.Trip.{AllGood}
use Rattle.text.specs.Title.{is_later, title_of, title, untitled, titled, title_by, title_in}
use Rattle.text.specs.declared.reading.Line.{Line}
use Rattle.text.specs.declared.reading.Title.{Title}

-- ---- as the code reads it

-- no number past two bytes is an edition's
pub not_later : (n : ℕ) → 65535 < n → false ≡ is_later n
not_later n h = go (listed n) refl
  where
    go : (b : Bool) → listed n ≡ b → false ≡ ltb first_edition n && b
    go true e = absurd (omega (arith, listed_fits n e))
    go false e = sym (and_off (ltb first_edition n))

pub later_known : (n : ℕ) → is_later n ≡ true → listed n ≡ true
later_known n e = and_right (ltb first_edition n) (listed n) e

none_by : (b : Bool) (d : Item) → (line_for d).ok ≡ false → untitled ≡ title_by (pick b end d)
unfolding pick
none_by true d e = refl
none_by false (item x n) e = let z : ◌≡◌ {A = ℕ} 0 1 = cc in absurd (omega arith)
none_by false fault e = refl
none_by false end e = refl

pub no_title : (t : List ℕ) {r : Line} → r ≡ line_for (line_in first_edition 0x10 0x11 t 0) → r.ok ≡ false → untitled ≡ title_in t
unfolding title_in line_at
no_title t e o = none_by (leb (length t) 0) (line_in first_edition 0x10 0x11 t 0) (rw e at o)

padded_first : (l : List ℕ) → get_or (padded l) 0 0 ≡ get_or l 0 0
unfolding padded
padded_first [] = refl
padded_first (x ∷ l) = refl

pub some_title : (t : List ℕ) {r : Line} → Had (line_in first_edition 0x10 0x11 t 0) r → titled (get_or r.values 0 0) r.next ≡ title_in t
unfolding title_in
some_title t {r} h =
    let l : line_at first_edition 0x10 0x11 t 0 ≡ item h.parts r.next = at_line first_edition 0x10 0x11 t 0 (line_there first_edition 0x10 0x11 t 0 h.is) ∙ h.is in
    let v : get_or r.values 0 0 ≡ get_or h.parts.1 0 0 = ap (λ (p : ℕ × List ℕ). get_or p.1 0 0) h.sends ∙ padded_first h.parts.1 in
    ap (λ (n : ℕ). titled n r.next) v ∙ ap title_by (sym l)

-- ---- what stands in it

single : (l : List ℕ) → Tops (fields_for first_edition 0x10) l → l ≡ get_or l 0 0 ∷ []
unfolding fields_for asked_of pick
single [] h = absurd h
single (x ∷ []) h = refl
single (x ∷ y ∷ l) h = absurd h.1

pub record Heads (t : List ℕ) (h : Title) : Type 0 where
  pub known : listed h.edition ≡ true
  pub few : h.lines ≤ h.next
  pub inside : h.next ≤ length t
  pub past : h.next ≡ length (title_of h.edition)
  pub bytes : take h.next t ≡ title_of h.edition

unheaded : (t : List ℕ) → Heads t untitled
unfolding listed title_of pick
unheaded t = record { known = refl; few = omega arith; inside = omega arith; past = refl; bytes = refl }

headed : (t : List ℕ) (x : ℕ × List ℕ) (n : ℕ) → line_at first_edition 0x10 0x11 t 0 ≡ item x n → is_later (get_or x.1 0 0) ≡ true → Heads t (title (get_or x.1 0 0) n)
unfolding title_of Onward
headed t x n q b =
    let m = get_or x.1 0 0 in
    let w = line_stands first_edition 0x10 0x11 t 0 x n q in
    let g : Onward (length t) 0 (item x n) = rw q at (onward first_edition 0x10 0x11 t 0) in
    let i : x.0 ≡ 0x10 = omega (arith, w.good.low, w.good.high) in
    let l : x.1 ≡ m ∷ [] = single x.1 (rw i at w.good.range) in
    let o : line_of first_edition x ≡ title_of m = ap (λ (k : ℕ). line_of first_edition (k, x.1)) i ∙ ap (λ (v : List ℕ). line_of first_edition (0x10, v)) l ∙ sym (pick_on _ _ b) in
    let p : n ≡ length (line_of first_edition x) = omega (arith, w.past) in
    record {
      known = later_known m b;
      few = g.0;
      inside = g.1;
      past = p ∙ ap length o;
      bytes = ap (λ (k : ℕ). take k t) p ∙ w.bytes ∙ o;
    }

heads_by : (t : List ℕ) (d : Item) → line_at first_edition 0x10 0x11 t 0 ≡ d → Heads t (title_by d)
unfolding titled
heads_by t (item x n) q = either (Heads t) (is_later (get_or x.1 0 0)) (title (get_or x.1 0 0) n) untitled (headed t x n q) (λ b. unheaded t)
heads_by t fault q = unheaded t
heads_by t end q = unheaded t

pub heads : (t : List ℕ) → Heads t (title_in t)
unfolding title_in
heads t = heads_by t (line_at first_edition 0x10 0x11 t 0) refl

-- ---- written, then read

and_on : (a : Bool) → a && true ≡ a
and_on true = refl
and_on false = refl

module _ (e : ℕ) where
  not_past : listed e ≡ true → is_later e ≡ false → e ≤ first_edition
  not_past k q = ltb-false first_edition e (sym (and_on (ltb first_edition e)) ∙ ap (λ (b : Bool). ltb first_edition e && b) (sym k) ∙ q)

  -- without a title a command's line stands first
  first_line : (xs : List (ℕ × List ℕ)) → AllGood (Good e) xs → title_in (all_of (line_of e) xs) ≡ untitled
  unfolding title_in line_at all_of
  first_line [] g = ap title_by (at-end first_edition 0x10 0x11 [] 0 (omega arith))
  first_line (x ∷ xs) g =
      let t = all_of (line_of e) (x ∷ xs) in
      let z = numerals_of (fields_for e x.0) x.1 ++ (10 ∷ all_of (line_of e) xs) in
      let k : tag_in 0x10 0x11 t ≡ 0 = ap (tag_in 0x10 0x11) (line_parts e x (all_of (line_of e) xs)) ∙ edition_not x.0 z g.0.0 (follows (fields_for e x.0) x.1 (all_of (line_of e) xs)).1 in
      let f : line_in first_edition 0x10 0x11 t 0 ≡ fault = sym (nameless first_edition 0 t 0 refl ∙ by_tag_lem first_edition 0x10 0x11 t 0 (sym k)) in
      sym (none_by (leb (length t) 0) (line_in first_edition 0x10 0x11 t 0) (ap (λ (d : Item). (line_for d).ok) f))

  range : listed e ≡ true → Tops (fields_for first_edition 0x10) (e ∷ [])
  unfolding fields_for asked_of top_of pick
  range k = (omega (arith, listed_fits e k), tt)

  later : (r : List ℕ) → is_later e ≡ true → title_in (line_of first_edition (0x10, e ∷ []) ++ r) ≡ title e (length (line_of first_edition (0x10, e ∷ [])))
  unfolding title_in titled
  later r l =
      let b = line_back first_edition 0x10 0x11 (0x10, e ∷ []) edition_found (omega arith) (range (later_known e l)) [] r in
      let n : 0 + length (line_of first_edition (0x10, e ∷ [])) ≡ length (line_of first_edition (0x10, e ∷ [])) = omega arith in
      ap title_by b ∙ ap (titled e) n ∙ pick_on _ _ l

  pub title_back : (xs : List (ℕ × List ℕ)) → listed e ≡ true → AllGood (Good e) xs
      → ((title_in (title_of e ++ all_of (line_of e) xs)).edition ≡ e) × ((title_in (title_of e ++ all_of (line_of e) xs)).next ≡ length (title_of e))
  unfolding title_of pick
  title_back xs k g = go (is_later e) refl
    where
      go : (b : Bool) → is_later e ≡ b → ((title_in (pick b (line_of first_edition (0x10, e ∷ [])) [] ++ all_of (line_of e) xs)).edition ≡ e) × ((title_in (pick b (line_of first_edition (0x10, e ∷ [])) [] ++ all_of (line_of e) xs)).next ≡ length (pick b (line_of first_edition (0x10, e ∷ [])) []))
      go true l = let q = later (all_of (line_of e) xs) l in (ap (λ (h : Title). h.edition) q, ap (λ (h : Title). h.next) q)
      go false l =
          let q = first_line xs g in
          let i : first_edition ≡ e = omega (arith, not_past k l, listed_from_lem e k) in
          (ap (λ (h : Title). h.edition) q ∙ i, ap (λ (h : Title). h.next) q)
