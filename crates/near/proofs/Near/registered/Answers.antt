use Rattle.std.proofs.Common.{◌≡◌, sym, ap, ◌∙◌, to_z-of_z}
use Rattle.std.proofs.lemmas.Result.{err_from_is_err_and}
use Rattle.std.specs.Prelude.{Some, Ok}
use Rattle.refusal.specs.Rule.{on_done}
use Rattle.refusal.specs.Returned.{verdict_first}
use Rattle.rules.specs.Keys.{keys_by}
use Rattle.rules.specs.Rooms.{register_room}
use Rattle.rules.specs.Rules.{registering}
use Rattle.near.specs.Near.{view_of}
use Rattle.near.specs.Returns.{other_err, other_ok}
use Rattle.near.specs.Steps.{registered_step}
use Rattle.near.proofs.Near.registered.Goals as goal

pub returns-in_err-register_checks : goal.returns-in_err-register_checks
returns-in_err-register_checks c = λ i a b o m f e.
    let u = registering m c.args.caller i c.args.amount in
    let h = sym (simp (to_z-of_z c.ranges.amount, f, e) at c.register_checks.ensures) ∙ c.in_err-register_checks.was in
    let p = err_from_is_err_and c.from_residual.result c.from_residual.ensures.1 in
    rw (p.1, p.2) (sym (ap (on_done (view_of (keys_by a b (Some i) o))) (other_err u.checks tt u.done h)))

pub returns : goal.returns
returns c = λ i a b o m f e.
    let u = registering m c.args.caller i c.args.amount in
    let h = sym (simp (to_z-of_z c.ranges.amount, f, e) at c.register_checks.ensures) ∙ c.in_ok-register_checks.was in
    rw (simp (to_z-of_z c.ranges.amount) at c.new.ensures)
    (ap (λ z. Ok z) (registered_step m i a b o e (register_room m c.args.caller i c.args.amount (verdict_first u.checks tt h)).new _)
    ∙ sym (ap (on_done (view_of (keys_by a b (Some i) o))) (other_ok u.checks tt u.done h)))
