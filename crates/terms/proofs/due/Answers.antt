use Rattle.std.specs.Prelude.{◌-◌}
use Rattle.std.proofs.Common.{sym, ◌∙◌}
use Rattle.std.proofs.Math.Facts.{to_z-of_z}
use Rattle.terms.specs.Laws.{due_in_lem, made_in_lem, seconds_pos, elapsed_le, repaid_le}
use Rattle.terms.proofs.due.Goals as goal

pub elapsed-n-requires : goal.elapsed-n-requires
elapsed-n-requires c =
    let d = due_in_lem _ _ _ _ (sym c.due_arguments.ensures ∙ c.if-not-due_arguments.false) in
    rw c.seconds.ensures (seconds_pos _ (made_in_lem _ _ d.made).code)

pub due_of-requires-clause-s_value : goal.due_of-requires-clause-s_value
due_of-requires-clause-s_value c = (due_in_lem _ _ _ _ (sym c.due_arguments.ensures ∙ c.if-not-due_arguments.false)).made

pub due_of-requires-clause-elapsed_le_count : goal.due_of-requires-clause-elapsed_le_count
due_of-requires-clause-elapsed_le_count c = rw c.elapsed-n.ensures (elapsed_le (c.args.now - c.args.s.first) c.seconds.result c.args.s.count)

pub due_of-requires-clause-repaid_bound : goal.due_of-requires-clause-repaid_bound
due_of-requires-clause-repaid_bound c =
    let a = c.args in
    let h = simp (to_z-of_z c.ranges.repaid) at (sym c.due_arguments.ensures ∙ c.if-not-due_arguments.false) in
    rw (c.magnitude.ensures, to_z-of_z c.ranges.repaid) (repaid_le a.repaid (due_in_lem a.kept a.s a.status a.repaid h).repaid_in)
