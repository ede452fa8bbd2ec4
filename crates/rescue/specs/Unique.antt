-- The numbers of an answer are those of one answer only: any two answers that the contract allows coincide. (The buffers stand in equations by themselves.)
use Rattle.std.specs.Prelude.{◌≡◌, refl, eqb, Result, Ok, Err}
use Rattle.std.proofs.Common.{sym, ap, ◌∙◌}
use Rattle.refusal.specs.Choice.{pick}
use Rattle.refusal.specs.declared.Refusal.{Refusal}
use Rattle.refusal.specs.RefusalLaws.{refusal_not-0}
use Rattle.journal.specs.Unique.{refusal_of, refusal_back}
use Rattle.rescue.specs.declared.Clean.{Clean}
use Rattle.rescue.specs.Rescue.{Answer, said}

back : Answer → Result Clean Refusal
back a = pick (eqb a.number 0) (Ok (record { size = a.size; dropped = a.dropped; left = a.left })) (Err (refusal_of a.number))

same : (r : Result Clean Refusal) → back (said r) ≡ r
unfolding back pick
same (Ok c) = refl
same (Err r) = rw (refusal_not-0 r, refusal_back r)

pub one_rescued : {x y : Result Clean Refusal} {a : Answer} → said x ≡ a → said y ≡ a → x ≡ y
one_rescued {x} {y} e d = sym (same x) ∙ ap back (e ∙ sym d) ∙ same y
