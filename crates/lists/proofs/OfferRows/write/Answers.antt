use Rattle.std.proofs.Common.{◌∙◌, ◌*◌, sym, ap, refl, arith, List, ℕ, length}
use Rattle.refusal.specs.Placed.{placed}
use Rattle.lists.specs.Pick.{walk_few}
use Rattle.lists.specs.Written.{write-start, write_on, write_off, write_done, write_room}
use Rattle.lists.specs.Listing.{offers_of, taking, ten_of, in_order, filled}
use Rattle.lists.specs.Rows.{none, past, inside, entry, asked}
use Rattle.lists.proofs.OfferRows.write.Goals as goal
use Rattle.lists.proofs.OfferRows.write.Goals.{then-takes, else-takes}

pub loop-i-init : goal.loop-i-init
loop-i-init c = write-start (taking c.args.w) ten_of (offers_of c.args.self) c.args.out.now

pub overflow_mul-n : goal.overflow_mul-n
overflow_mul-n c = omega (arith, walk_few c.loop-i.invariant.walked, c.in_use-i-end.ensures.few, c.loop-i-test.true)

pub put-requires : goal.put-requires
put-requires c =
    let u = c.in_use-i-end.ensures in
    let l = c.loop-i in
    let h = c.loop-i-test.true in
    omega (
      arith,
      write_room l.invariant 10 (λ a. refl) c.requires none (inside u l.i h) (asked u l.i h c.args.w _ _ c.takes.ensures c.if-takes.true),
      ap length c.in_order-numbers.ensures,
    )

pub overflow_add-n : goal.overflow_add-n
overflow_add-n c = omega (arith, walk_few c.loop-i.invariant.walked, c.in_use-i-end.ensures.few, c.loop-i-test.true)

pub loop-i-preserved : goal.loop-i-preserved
loop-i-preserved c =
    let u = c.in_use-i-end.ensures in
    let l = c.loop-i in
    let h = c.loop-i-test.true in
    elim c.if-takes.branch [
      | then-takes w ↦ rw (w.out-is, w.n-is)
          (write_on l.invariant 10 (λ a. refl) c.requires none (inside u l.i h) (asked u l.i h c.args.w _ _ c.takes.ensures w.if-takes.true) _
          (w.put.ensures ∙ ap (λ (z : List ℕ). placed (10 * l.n) z l.out) (w.in_order-numbers.ensures ∙ ap in_order w.of.ensures ∙ ap ten_of (sym (entry u l.i h)))))
      | else-takes w ↦ rw (w.out-is, w.n-is) (write_off l.invariant 10 (λ a. refl) c.requires none (inside u l.i h) (asked u l.i h c.args.w _ _ c.takes.ensures w.if-takes.false))
    ]

pub returns : goal.returns
unfolding filled
returns c = write_done c.loop-i.invariant 10 (λ a. refl) c.requires (past c.in_use-i-end.ensures _ c.loop-i-test.false)
