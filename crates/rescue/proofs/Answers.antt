-- How a rescue answers: what a header that is good or bad gives, each refusal, and the whole. Assumes nothing.
use Rattle.std.specs.Prelude.{◌≡◌, Bool, ◌&&◌, ℕ, ◌+◌, ◌-◌, ◌≤◌, ◌<◌, take, drop}
use Rattle.std.proofs.Math.Path.{refl, sym, ap}
use Rattle.std.proofs.Common.{◌∙◌, arith, length-drop}
use Rattle.std.proofs.Math.Bool.{true, false}
use mathlib.Core.List.{List, ◌++◌}
use Rattle.std.proofs.Math.Nat.{zero-add}
use Rattle.std.proofs.Math.ListN.{length, length-append}
use Rattle.std.proofs.Math.Seq.{length-take-le, take-length}
use Rattle.std.proofs.Math.Dec.{eqb}
use borrow.Author.Tests.{le-leb, lt-leb, eq-eqb, leb-true}
use Rattle.refusal.specs.Choice.{pick}
use Rattle.refusal.specs.ChoiceLaws.{on, off, not_on, not_off}
use Rattle.refusal.specs.declared.Refusal.{Refusal}
use Rattle.refusal.specs.Refusal.{number, journal_malformed, buffer_short}
use Rattle.refusal.specs.RefusalLaws.{refusal_not-0, fails, passes, none_left}
use Rattle.refusal.specs.Placed.{placed}
use Rattle.refusal.specs.PlacedLaws.{placed_twice, length-placed}
use Rattle.edition.specs.Edition.{listed}
use Rattle.wire.specs.Field.{begins}
use Rattle.wire.specs.FieldLaws.{and_left}
use Rattle.journal.specs.Answers.{Opening, good_header, bad_header}
use Rattle.journal.specs.Format.{edition_in, opening_of}
use Rattle.rescue.specs.Rescue.{Piece, pieces_from, bytes_in, kept_in, dropped_in, opens, pieces_of, clean_of, report_of, left_of, number_for, Answer, answer, answer_for, out_for, report_for}
use Rattle.rescue.proofs.Walk.{parted, all_within}
use Rattle.rescue.specs.Swept.{Swept}

-- ---- the header

pub record Opens (s : List ℕ) (e at : ℕ) : Type 0 where
  pub good : opens s ≡ true
  pub five : at ≡ 5
  pub room : 5 ≤ length s
  pub pieces : pieces_from e s at ≡ pieces_of s

pub opened : (s : List ℕ) {e at : ℕ} → opening_of s ≡ good_header e at → Opens s e at
unfolding opening_of begins pick opens pieces_of
opened s {e} {at} o = go (begins 0x10 2 s && listed (edition_in s)) refl o
  where
    go : (t : Bool) → begins 0x10 2 s && listed (edition_in s) ≡ t → pick t (good_header (edition_in s) 5) (bad_header 0) ≡ good_header e at → Opens s e at
    go true h q =
        let n : edition_in s ≡ e = ap (λ (x : Opening). x.edition) q in
        let z : 5 ≡ at = ap (λ (x : Opening). x.first) q in
        let l = leb-true 5 (length s) (and_left _ _ (and_left _ _ h)) in
        record { good = rw h refl; five = sym z; room = l; pieces = rw (h, n, z) refl }
    go false h q = let z = ap (λ (x : Opening). x.answer) q in absurd (omega arith)

pub not_opened : (s : List ℕ) {at : ℕ} → opening_of s ≡ bad_header at → opens s ≡ false
unfolding opens
not_opened s q = rw q refl

-- ---- the answer

pub record Answers (s out report : List ℕ) (a : Answer) (wrote noted : List ℕ) : Type 0 where
  pub says : a ≡ answer_for s out report
  pub clean : wrote ≡ out_for s out report
  pub offsets : noted ≡ report_for s out report

module _ (s out report : List ℕ) where
  refusing : (n : Refusal) → number n ≡ number_for s out report → Answers s out report (answer (number n) 0 0 0) out report
  unfolding answer_for out_for report_for
  refusing n e =
      let z : eqb (number_for s out report) 0 ≡ false = ap (λ (k : ℕ). eqb k 0) (sym e) ∙ refusal_not-0 n in
      record { says = off _ z (ap (λ (k : ℕ). answer k 0 0 0) e); clean = off _ z refl; offsets = off _ z refl }

  pub bad_header_lem : opens s ≡ false → Answers s out report (answer 13 0 0 0) out report
  unfolding number_for
  bad_header_lem h = refusing journal_malformed (fails journal_malformed _ (not_on h))

  module _ (h : opens s ≡ true) where
    pub short_out : length out < length s → Answers s out report (answer 14 0 0 0) out report
    unfolding number_for
    short_out k = refusing buffer_short (passes journal_malformed _ (not_off h) (fails buffer_short _ (not_on (lt-leb (length s) (length out) k))))

    module _ (k : length s ≤ length out) where
      pub short_report : length report < length (report_of s) → Answers s out report (answer 14 0 0 0) out report
      unfolding number_for
      short_report r =
          refusing buffer_short (passes journal_malformed _ (not_off h) (passes buffer_short _ (not_off (le-leb (length s) (length out) k)) (fails buffer_short _ (not_on (lt-leb (length (report_of s)) (length report) r)))))

      module _ (r : length (report_of s) ≤ length report) where
        pub accepts : 0 ≡ number_for s out report
        unfolding number_for
        accepts =
            passes journal_malformed _ (not_off h) (passes buffer_short _ (not_off (le-leb (length s) (length out) k)) (passes buffer_short _ (not_off (le-leb (length (report_of s)) (length report) r)) none_left))

        pub answering : {a : Answer} {wrote noted : List ℕ} → a ≡ answer 0 (length (clean_of s)) (length (report_of s)) (length (left_of s)) → wrote ≡ placed 0 (clean_of s) out → noted ≡ placed 0 (report_of s) report
            → Answers s out report a wrote noted
        unfolding answer_for out_for report_for
        answering f g j =
            let z : eqb (number_for s out report) 0 ≡ true = eq-eqb _ _ (sym accepts) in
            record { says = on _ z f; clean = on _ z g; offsets = on _ z j }

-- ---- the five bytes of the header, and then the pass
module _ (s out report : List ℕ) {e at : ℕ} (o : Opens s e at) (k : length s ≤ length out) where
  pub count-is : {n : ℕ} → n ≡ length (dropped_in (pieces_from e s at)) → n ≡ length (report_of s)
  unfolding report_of
  count-is q = q ∙ ap (λ (ps : List Piece). length (dropped_in ps)) o.pieces

  clean_long : 5 + length (kept_in (pieces_of s)) ≡ length (clean_of s)
  unfolding clean_of
  clean_long = let l = length-take-le 5 s o.room in omega (arith, length-append (take 5 s) (kept_in (pieces_of s)))

  left_long : length s - (5 + length (bytes_in (pieces_of s))) ≡ length (left_of s)
  unfolding left_of
  left_long = sym (length-drop (5 + length (bytes_in (pieces_of s))) s)

  pub clean_short : length (clean_of s) ≤ length s
  clean_short =
      let l : 5 + length (bytes_in (pieces_of s)) ≤ length s = rw (← o.pieces, ← o.five) (all_within e s at (omega (arith, o.five, o.room))) in
      omega (arith, clean_long, parted (pieces_of s))

  pub head_is : {m : List ℕ} → m ≡ take (length (take at s)) (take at s) ++ drop (length (take at s)) out → m ≡ placed 0 (take at s) out
  unfolding placed
  head_is f = f ∙ rw (take-length (take at s), zero-add (length (take at s))) refl

  pub head_long : {m : List ℕ} → m ≡ placed 0 (take at s) out → length m ≡ length out
  head_long f = ap length f ∙ length-placed 0 (take at s) out (omega (arith, length-take-le at s (omega (arith, o.five, o.room))))

  pub rescued : {a : Answer} {head wrote noted : List ℕ} → length (report_of s) ≤ length report → head ≡ placed 0 (take at s) out → Swept e s at head report a wrote noted → Answers s out report a wrote noted
  unfolding clean_of report_of
  rescued {a} {head} {wrote} {noted} r f w =
      let l : length (take 5 s) ≡ 5 = length-take-le 5 s o.room in
      let c : wrote ≡ placed 5 (kept_in (pieces_of s)) head = rw (o.pieces, o.five) at w.clean in
      let h : head ≡ placed 0 (take 5 s) out = rw o.five at f in
      let t : placed 5 (kept_in (pieces_of s)) (placed 0 (take 5 s) out) ≡ placed 0 (take 5 s ++ kept_in (pieces_of s)) out = rw l at (placed_twice 0 (take 5 s) (kept_in (pieces_of s)) out (omega (arith, clean_short, clean_long))) in
      let q : a ≡ answer 0 (5 + length (kept_in (pieces_of s))) (length (dropped_in (pieces_of s))) (length s - (5 + length (bytes_in (pieces_of s)))) = rw (o.pieces, o.five) at w.says in
      answering s out report o.good k r
      (q ∙ ap (λ (x : ℕ). answer 0 x (length (dropped_in (pieces_of s))) (length s - (5 + length (bytes_in (pieces_of s))))) clean_long ∙ ap (λ (x : ℕ). answer 0 (length (clean_of s)) (length (dropped_in (pieces_of s))) x) left_long)
      (c ∙ ap (placed 5 (kept_in (pieces_of s))) h ∙ t)
      (rw o.pieces at w.offsets)
