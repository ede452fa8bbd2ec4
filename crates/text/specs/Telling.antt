-- The invariant of a walk that writes: what is still to come, written from here on, completes the whole. Assumes nothing.
use Rattle.std.specs.Prelude.{◌≡◌, refl, Bool, true, false, List, ℕ, ◌+◌}
use Rattle.std.proofs.Math.Path.{sym, ap}
use Rattle.std.proofs.Common.{◌∙◌, arith}
use Rattle.std.proofs.Math.ListN.{length}
use Rattle.sheet.specs.declared.Pen.{Pen}
use Rattle.sheet.specs.Sheet.{Wrote}
use Rattle.sheet.specs.SheetLaws.{next, retext, none, kept}
use Rattle.text.specs.Walk.{Item, item, fault, end, Walk, halted, more, follow, walk_by, all_of}
use Rattle.text.specs.WalkLaws.{Onward, from_here}

module _ (ink : Bool) (len : ℕ) (f : ℕ → Item) (write : ℕ × List ℕ → List ℕ) (all : Walk) (from : List ℕ) (start : Pen) where
  -- k commands are written, and the walk is at a place
  pub record Telling (at k : ℕ) (out : List ℕ) (pen : Pen) : Type 0 where
    pub long : length out ≡ length from
    pub count : k + length (walk_by len f at).items ≡ length all.items
    pub bad : (walk_by len f at).bad ≡ all.bad
    pub place : (walk_by len f at).at ≡ all.at
    pub completes : (l : List ℕ) (q : Pen) → Wrote ink (all_of write (walk_by len f at).items) out pen l q → Wrote ink (all_of write all.items) from start l q

  -- all is written, and why the walk stopped
  pub record Ended (b : Bool) (at k : ℕ) (out : List ℕ) (pen : Pen) : Type 0 where
    pub all_written : Wrote ink (all_of write all.items) from start out pen
    pub bad : b ≡ all.bad
    pub place : at ≡ all.at
    pub count : k ≡ length all.items

module _ {ink : Bool} {len : ℕ} {f : ℕ → Item} {write : ℕ × List ℕ → List ℕ} {all : Walk} {from : List ℕ} {start : Pen} where
  pub begins : (at : ℕ) → walk_by len f at ≡ all → Telling ink len f write all from start at 0 from start
  begins at e = record {
    long = refl;
    count = omega (arith, ap (λ (w : Walk). length w.items) e);
    bad = ap (λ (w : Walk). w.bad) e;
    place = ap (λ (w : Walk). w.at) e;
    completes = λ l q x. retext x (ap (λ (w : Walk). all_of write w.items) e);
  }

  module _ (g : (at : ℕ) → Onward len at (f at)) {at k : ℕ} {out : List ℕ} {pen : Pen} (t : Telling ink len f write all from start at k out pen) where
    pub goes_on : {x : ℕ × List ℕ} {after : ℕ} {l : List ℕ} {p : Pen} → f at ≡ item x after → Wrote ink (write x) out pen l p → Telling ink len f write all from start after (k + 1) l p
    unfolding all_of
    goes_on {x} {after} d w =
        let e : walk_by len f at ≡ more x (walk_by len f after) = from_here len f g at ∙ ap (follow (walk_by len f) at) d in
        record {
          long = kept w ∙ t.long;
          count = omega (arith, ap (λ (v : Walk). length v.items) e, t.count);
          bad = sym (ap (λ (v : Walk). v.bad) e) ∙ t.bad;
          place = sym (ap (λ (v : Walk). v.at) e) ∙ t.place;
          completes = λ l q y. t.completes l q (retext (next w y) (sym (ap (λ (v : Walk). all_of write v.items) e)));
        }

    stopped : (b : Bool) → walk_by len f at ≡ halted b at → Ended ink len f write all from start b at k out pen
    unfolding all_of
    stopped b e = record {
      all_written = t.completes out pen (retext (none ink out pen) (sym (ap (λ (v : Walk). all_of write v.items) e)));
      bad = sym (ap (λ (v : Walk). v.bad) e) ∙ t.bad;
      place = sym (ap (λ (v : Walk). v.at) e) ∙ t.place;
      count = omega (arith, ap (λ (v : Walk). length v.items) e, t.count);
    }

    pub stops : f at ≡ fault → Ended ink len f write all from start true at k out pen
    stops d = stopped true (from_here len f g at ∙ ap (follow (walk_by len f) at) d)

    pub ends : f at ≡ end → Ended ink len f write all from start false at k out pen
    ends d = stopped false (from_here len f g at ∙ ap (follow (walk_by len f) at) d)
