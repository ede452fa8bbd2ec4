use Rattle.std.proofs.Common.{ℕ, ◌≡◌, ◌<◌, ◌∙◌, sym, min, List, [], length, take, get_or, length-take, arith}
use Rattle.std.proofs.lemmas.List.{get_or-take}
use Rattle.table.specs.Find.{middle}
use Rattle.table.specs.Halves.{Searching, search_start, search_up, search_down, search_end, up_less, down_less}
use Rattle.table.specs.Seek.{found_over, found_at, found_not}
use Rattle.table.proofs.find.Goals as goal

-- a place of the first ids is a place of all, and what is there is the same
inside : (len k : ℕ) (ids : List ℕ) → k < length (take len ids) → (k < len) × (k < length ids)
inside len k ids h = let e : length (take len ids) ≡ min len (length ids) = length-take len ids in (omega arith, omega arith)

seen : (len k : ℕ) (ids : List ℕ) → k < length (take len ids) → get_or (take len ids) k 0 ≡ get_or ids k 0
seen len k ids h = get_or-take len ids k 0 (inside len k ids h).0

looked : {xs : List ℕ} {id lo hi : ℕ} → Searching xs id lo hi → lo < hi → middle lo hi < length xs
looked s h = omega (arith, h, s.top)

pub loop-lo-init : goal.loop-lo-init
loop-lo-init c =
    let e = c.min-count.ensures ∙ sym (length-take c.args.len c.args.ids.now) in
    (e, rw e (search_start _ _))

pub loop-lo-smaller-then-ids-mid : goal.loop-lo-smaller-then-ids-mid
loop-lo-smaller-then-ids-mid c = up_less [] 0 _ _ c.loop-lo-test.true

pub loop-lo-preserved-then-ids-mid : goal.loop-lo-preserved-then-ids-mid
loop-lo-preserved-then-ids-mid c =
    let s = c.loop-lo.invariant.1 in
    (c.loop-lo.invariant.0, search_up _ _ s c.loop-lo-test.true (rw (seen _ _ c.args.ids.now (looked s c.loop-lo-test.true)) c.if-ids-mid.true))

pub loop-lo-smaller : goal.loop-lo-smaller
loop-lo-smaller c = down_less [] 0 _ _ c.loop-lo-test.true

pub loop-lo-preserved : goal.loop-lo-preserved
loop-lo-preserved c =
    let s = c.loop-lo.invariant.1 in
    (c.loop-lo.invariant.0, search_down _ _ s c.loop-lo-test.true (rw (seen _ _ c.args.ids.now (looked s c.loop-lo-test.true)) c.if-ids-mid.false))

pub returns-then-count-lo : goal.returns-then-count-lo
returns-then-count-lo c = let i = c.loop-lo.invariant in found_over _ _ (search_end _ _ i.1 c.loop-lo-test.false) (omega (arith, i.0, c.if-count-lo.true))

pub returns-then-ids-lo : goal.returns-then-ids-lo
returns-then-ids-lo c =
    let i = c.loop-lo.invariant in
    let l : c.loop-lo.lo < length (take c.args.len c.args.ids.now) = omega (arith, i.0, c.if-count-lo.false) in
    found_at _ _ (search_end _ _ i.1 c.loop-lo-test.false) l (seen _ _ c.args.ids.now l ∙ c.if-ids-lo.true)

pub returns : goal.returns
returns c =
    let i = c.loop-lo.invariant in
    let l : c.loop-lo.lo < length (take c.args.len c.args.ids.now) = omega (arith, i.0, c.if-count-lo.false) in
    found_not _ _ (search_end _ _ i.1 c.loop-lo-test.false) l (λ e. c.if-ids-lo.false (sym (seen _ _ c.args.ids.now l) ∙ e))
