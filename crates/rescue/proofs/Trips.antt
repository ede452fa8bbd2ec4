-- Document 02, k, as theorems: an undamaged journal comes out unchanged with an empty report, and what comes out is undamaged: each kept record is what writing its
-- command gives, and is read wherever it stands. Assumes nothing.
use Rattle.std.proofs.Math.Path.{◌≡◌, refl, ap}
use Rattle.std.proofs.Common.{sym, ◌∙◌, arith, length-append, length-drop, drop_of_length-le, drop-drop, le-leb, leb-true}
use Rattle.std.specs.Prelude.{Bool, false, ℕ, zero, suc, ◌+◌, ◌≤◌}
use Rattle.std.proofs.Math.Bool.{true}
use mathlib.Core.List.{List, [], ◌∷◌, ◌++◌, append_assoc, append-nil}
use Rattle.std.proofs.Math.ListN.{length, take, drop, take-append-drop}
use Rattle.std.proofs.Math.Seq.{length-take-le}
use Rattle.refusal.specs.Choice.{pick}
use Rattle.refusal.specs.ChoiceLaws.{pick_on, either}
use Rattle.refusal.specs.Placed.{placed}
use Rattle.refusal.specs.PlacedLaws.{placed_none}
use Rattle.command.specs.declared.Command.{Command}
use Rattle.wire.specs.FieldLaws.{and_left, and_right}
use Rattle.wire.specs.NumberLaws.{Bytes}
use Rattle.journal.specs.Answers.{Opening, good_header, Reading, found, refused, ended}
use Rattle.journal.specs.Table.{rows, fields_of, made, parts_of}
use Rattle.journal.specs.Format.{header_of, opening_of, zeros, read_at, bytes_for}
use Rattle.journal.specs.Held.{by_tag}
use Rattle.journal.specs.ReadLaws.{at-end}
use Rattle.journal.specs.RoundTrip.{header_long, header_back, parts_back}
use Rattle.journal.specs.WriteLaws.{length_for}
use Rattle.journal.proofs.Canonical.{canonical, header_canonical}
use Rattle.journal.proofs.Ahead.{Goes, goes}
use Rattle.rescue.specs.Rescue.{outer, fits, is_record, stands, Piece, piece_at, pieces_by, pieces_from, bytes_in, kept_in, dropped_in, opens, pieces_of, clean_of, report_of, left_of, to_end, whole_by, undamaged, answer}
use Rattle.rescue.proofs.Walk.{fits_not, from_piece, from_stop}
use Rattle.rescue.proofs.Answers.{Answers, answering}
use Rattle.rescue.proofs.Laws.{header_good, made_moves, Found, is_found}

-- ---- AN UNDAMAGED JOURNAL COMES OUT UNCHANGED

record Clear (e : ℕ) (s : List ℕ) (at : ℕ) : Type 0 where
  kept : kept_in (pieces_from e s at) ≡ drop at s
  all : bytes_in (pieces_from e s at) ≡ drop at s
  none : dropped_in (pieces_from e s at) ≡ []

clear_end : (e : ℕ) (s : List ℕ) (at : ℕ) → length s ≤ at → Clear e s at
unfolding kept_in bytes_in dropped_in
clear_end e s at h =
    let z : pieces_from e s at ≡ [] = from_stop e s at (fits_not s at (omega arith)) in
    let d : drop at s ≡ [] = drop_of_length-le s h in
    record { kept = rw (z, d) refl; all = rw (z, d) refl; none = rw z refl }

clear_step : (e : ℕ) (s : List ℕ) (at n : ℕ) → Found e s at n → Clear e s n → Clear e s at
unfolding kept_in bytes_in dropped_in
clear_step e s at n f i =
    let o = outer (drop at s) in
    let z : pieces_from e s at ≡ piece_at e s at ∷ pieces_from e s (at + o) = from_piece e s at f.fit in
    let j : Clear e s (at + o) = rw f.next at i in
    let t : take o (drop at s) ++ drop (at + o) s ≡ drop at s = rw (← drop-drop o at s) (take-append-drop o (drop at s)) in
    record {
      kept = ap kept_in z ∙ ap (λ (b : List ℕ). b ++ kept_in (pieces_from e s (at + o))) (pick_on (take o (drop at s)) [] f.good) ∙ ap (λ (b : List ℕ). take o (drop at s) ++ b) j.kept ∙ t;
      all = ap bytes_in z ∙ ap (λ (b : List ℕ). take o (drop at s) ++ b) j.all ∙ t;
      none = ap dropped_in z ∙ ap (λ (b : List ℕ). b ++ dropped_in (pieces_from e s (at + o))) (pick_on [] (at ∷ []) f.good) ∙ j.none;
    }

clear : (n e : ℕ) (s : List ℕ) (at : ℕ) → whole_by n e s at ≡ true → Clear e s at
unfolding whole_by Goes
clear zero e s at h = clear_end e s at (leb-true (length s) at h)
clear (suc n) e s at h = go (clear n e s) (read_at e s at) refl (goes e s at) h
  where
    go : ((next : ℕ) → whole_by n e s next ≡ true → Clear e s next) → (d : Reading) → read_at e s at ≡ d → Goes s at d → to_end (whole_by n e s) d ≡ true → Clear e s at
    go w (found c next) q g h = clear_step e s at next (is_found e s at c next q) (w next h)
    go w (refused k p) q g h = let z : ◌≡◌ {A = ℕ} 0 1 = cc in absurd (omega arith)
    go w ended q g h = clear_end e s at g

pub record Unchanged (s : List ℕ) : Type 0 where
  pub clean : clean_of s ≡ s
  pub report : report_of s ≡ []
  pub left : left_of s ≡ []

pub unchanged : (s : List ℕ) → undamaged s ≡ true → Unchanged s
unfolding undamaged clean_of report_of left_of pieces_of
unchanged s h =
    let e = (opening_of s).edition in
    let c = clear (length s) e s 5 (and_right (opens s) _ h) in
    let l : length s ≤ 5 + length (bytes_in (pieces_from e s 5)) = omega (arith, ap length c.all, length-drop 5 s) in
    record { clean = ap (λ (b : List ℕ). take 5 s ++ b) c.kept ∙ take-append-drop 5 s; report = c.none; left = drop_of_length-le s l }

-- so says the function, whatever the report's room
pub answers_unchanged : (s out report : List ℕ) → undamaged s ≡ true → length s ≤ length out → Answers s out report (answer 0 (length s) 0 0) (placed 0 s out) report
unfolding undamaged
answers_unchanged s out report h k =
    let u = unchanged s h in
    let r : length (report_of s) ≤ length report = rw u.report (omega arith) in
    answering s out report (and_left (opens s) _ h) k r (rw (u.clean, u.report, u.left) refl) (rw u.clean refl) (rw u.report (placed_none 0 report))

-- ---- EACH KEPT RECORD is what writing its command gives, and is read wherever it stands

pub record Written (e : ℕ) (b : List ℕ) : Type 0 where
  pub command : Command
  pub bytes : b ≡ bytes_for e command
  pub reads : (p r : List ℕ) → read_at e (p ++ (b ++ r)) (length p) ≡ found command (length p + length b)

module _ (e : ℕ) (s : List ℕ) (at : ℕ) (k : Bytes s) where
  -- the same record behind anything else
  elsewhere : (c : Command) (n : ℕ) → read_at e s at ≡ found c n → (p r : List ℕ) → read_at e (p ++ (bytes_for e c ++ r)) (length p) ≡ found c (length p + length (bytes_for e c))
  unfolding bytes_for made Goes
  elsewhere c n q p r =
      let t = canonical e s at c n k q in
      let g = rw q at (goes e s at) in
      let l : length (take at s) ≡ at = length-take-le at s (omega arith) in
      let x = length (bytes_for e c) in
      let j : take at s ++ (bytes_for e c ++ drop x (drop at s)) ≡ s = ap (λ (b : List ℕ). take at s ++ b) (ap (λ (b : List ℕ). b ++ drop x (drop at s)) (sym t.bytes) ∙ take-append-drop x (drop at s)) ∙ take-append-drop at s in
      let h = rw (j, l) at (parts_back e (parts_of e c).0 (parts_of e c).1 (take at s) (drop x (drop at s)) t.range) in
      parts_back e (parts_of e c).0 (parts_of e c).1 p r t.range ∙ made_moves (rows e) (parts_of e c).0 (by_tag zeros (fields_of e (parts_of e c).0) (parts_of e c).1) at _ c n (sym h ∙ q) (length p) (length p + x)

  a_record : (c : Command) (n : ℕ) → read_at e s at ≡ found c n → Written e (take (outer (drop at s)) (drop at s))
  a_record c n q =
      let t = canonical e s at c n k q in
      let f = is_found e s at c n q in
      let l : length (bytes_for e c) ≡ outer (drop at s) = omega (arith, t.past, f.next) in
      let b : take (outer (drop at s)) (drop at s) ≡ bytes_for e c = rw l at t.bytes in
      record { command = c; bytes = b; reads = λ p r. rw b (elsewhere c n q p r) }

  written : stands e s at ≡ true → Written e (take (outer (drop at s)) (drop at s))
  unfolding stands
  written h = go (read_at e s at) refl h
    where
      go : (d : Reading) → read_at e s at ≡ d → is_record d ≡ true → Written e (take (outer (drop at s)) (drop at s))
      go (found c n) q h = a_record c n q
      go (refused n p) q h = let z : ◌≡◌ {A = ℕ} 0 1 = cc in absurd (omega arith)
      go ended q h = let z : ◌≡◌ {A = ℕ} 0 1 = cc in absurd (omega arith)

unfoldable pub EachWritten : ℕ → List Piece → Type 0
EachWritten e [] = Unit {0}
EachWritten e (x ∷ ps) = (x.good ≡ true → Written e x.bytes) × EachWritten e ps

each_by : (n e : ℕ) (s : List ℕ) (at : ℕ) → Bytes s → EachWritten e (pieces_by n e s at)
unfolding pieces_by EachWritten
each_by zero e s at k = tt
each_by (suc n) e s at k =
    either (EachWritten e) (fits (drop at s)) (piece_at e s at ∷ pieces_by n e s (at + outer (drop at s))) [] (λ q. (written e s at k, each_by n e s (at + outer (drop at s)) k)) (λ q. tt)

pub each_written : (s : List ℕ) → Bytes s → EachWritten (opening_of s).edition (pieces_of s)
unfolding pieces_of pieces_from
each_written s k = each_by (length s) (opening_of s).edition s 5 k

-- ---- WHAT COMES OUT IS UNDAMAGED

at_its_end : (m e : ℕ) (p : List ℕ) → whole_by m e (p ++ []) (length p) ≡ true
unfolding whole_by
at_its_end zero e p = rw (append-nil p) (le-leb (length p) (length p) (omega arith))
at_its_end (suc m) e p = ap (to_end (whole_by m e (p ++ []))) (sym (at-end e (p ++ []) (length p) (omega (arith, length-append p []))))

goes_on : (m e : ℕ) (p b r : List ℕ) → Written e b → length b + length r ≤ m → ((j : ℕ) → length r ≤ j → whole_by j e ((p ++ b) ++ r) (length (p ++ b)) ≡ true) → whole_by m e (p ++ (b ++ r)) (length p) ≡ true
unfolding whole_by
goes_on zero e p b r w h i = let l = ap length w.bytes ∙ length_for e w.command in absurd (omega arith)
goes_on (suc m) e p b r w h i =
    let l = ap length w.bytes ∙ length_for e w.command in
    ap (to_end (whole_by m e (p ++ (b ++ r)))) (w.reads p r) ∙ rw (append_assoc p b r, length-append p b) at (i m (omega arith))

whole_again : (e : ℕ) (ps : List Piece) → EachWritten e ps → (m : ℕ) (p : List ℕ) → length (kept_in ps) ≤ m → whole_by m e (p ++ kept_in ps) (length p) ≡ true
unfolding EachWritten kept_in pick
whole_again e [] w m p h = at_its_end m e p
whole_again e (x ∷ ps) w m p h = go (whole_again e ps w.1) x.good w.0 h
  where
    go : ((j : ℕ) (q : List ℕ) → length (kept_in ps) ≤ j → whole_by j e (q ++ kept_in ps) (length q) ≡ true) → (g : Bool) → (g ≡ true → Written e x.bytes) → length (pick g x.bytes [] ++ kept_in ps) ≤ m
        → whole_by m e (p ++ (pick g x.bytes [] ++ kept_in ps)) (length p) ≡ true
    go i true k h = goes_on m e p x.bytes (kept_in ps) (k refl) (omega (arith, length-append x.bytes (kept_in ps))) (λ j l. i j (p ++ x.bytes) l)
    go i false k h = i m p h

pub record Clean (s : List ℕ) : Type 0 where
  pub edition : (opening_of (clean_of s)).edition ≡ (opening_of s).edition
  pub whole : undamaged (clean_of s) ≡ true

pub comes_out_whole : (s : List ℕ) → Bytes s → opens s ≡ true → Clean s
unfolding undamaged opens clean_of
comes_out_whole s k h =
    let e = (opening_of s).edition in
    let d = header_canonical s e 5 k (header_good s h) in
    let x = kept_in (pieces_of s) in
    let c : take 5 s ++ x ≡ header_of e ++ x = ap (λ (b : List ℕ). b ++ x) d.bytes in
    let o : opening_of (take 5 s ++ x) ≡ good_header e 5 = ap opening_of c ∙ header_back e x d.known in
    let l : length x ≤ length (header_of e ++ x) = omega (arith, length-append (header_of e) x) in
    let w : whole_by (length (header_of e ++ x)) e (header_of e ++ x) 5 ≡ true = rw (header_long e) at (whole_again e (pieces_of s) (each_written s k) (length (header_of e ++ x)) (header_of e) l) in
    record { edition = ap (λ (y : Opening). y.edition) o; whole = rw (o, c) w }

-- so a second rescue changes nothing, and only an undamaged journal comes out unchanged
pub once_is_enough : (s : List ℕ) → Bytes s → opens s ≡ true → Unchanged (clean_of s)
once_is_enough s k h = unchanged (clean_of s) (comes_out_whole s k h).whole

pub only_undamaged : (s : List ℕ) → Bytes s → opens s ≡ true → clean_of s ≡ s → undamaged s ≡ true
only_undamaged s k h q = rw q at (comes_out_whole s k h).whole
