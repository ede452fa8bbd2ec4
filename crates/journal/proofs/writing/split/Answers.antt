use Rattle.std.proofs.Common.{ap, ◌∙◌, ℕ, List, [], ◌∷◌, sym, arith}
use Rattle.edition.specs.Edition.{keeps_terms}
use Rattle.command.specs.declared.Command.{Command}
use Rattle.journal.specs.Table.{parts_in, parts_of, padded, sent}
use Rattle.journal.specs.TableLaws.{padded_also}
use Rattle.journal.proofs.writing.split.Goals as goal

-- the kind, or the 0 in its place
pub returns-in-ScheduleRepayment : goal.returns-in-ScheduleRepayment
unfolding parts_of parts_in padded
returns-in-ScheduleRepayment c =
    let g = c.in-ScheduleRepayment in
    let l = g.now ∷ g.caller ∷ g.id ∷ g.count ∷ g.code ∷ g.first ∷ [] in
    rw (c.padded-in-ScheduleRepayment.ensures, c.from-in-ScheduleRepayment.ensures, c.from-in-ScheduleRepayment-2.ensures, c.also.ensures, c.keeps_terms.ensures)
    (ap (λ (x : List ℕ). (0x38, x)) (padded_also (keeps_terms c.args.edition) l g.kind (omega arith)) ∙ ap (λ (x : Command). sent (parts_of c.args.edition x)) (sym g.is))
