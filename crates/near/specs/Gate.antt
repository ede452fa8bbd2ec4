-- A command that the gate lets through, or not, and one whose fields are known
use Rattle.std.specs.Prelude.{◌≡◌, Ok, Err}
use Rattle.std.proofs.Common.{sym, ap, ◌∙◌}
use Rattle.refusal.specs.declared.Refusal.{Refusal}
use Rattle.refusal.specs.Rule.{passing, on_done}
use Rattle.command.specs.Names.{names_of}
use Rattle.command.specs.Shape.{shape_of}
use Rattle.command.specs.declared.Command.{Command}
use Rattle.rules.specs.Model.{Model}
use Rattle.rules.specs.Keys.{keys_of}
use Rattle.rules.specs.Rules.{gate_by, gate_checks, ruled, commanded}
use Rattle.near.specs.declared.Counts.{Counts}
use Rattle.near.specs.declared.Near.{Near}
use Rattle.near.specs.Near.{Turn, TurnsBy, view_of}
use Rattle.near.specs.Returns.{next_err, next_go, other_err, other_ok}

module _ {n : Near} (c : Command) {f : Counts} where
  pub gated : {r : Turn} → passing (gate_by n.settings.paused n.parties.first.here (names_of c)) ≡ Ok tt → TurnsBy n r c f (λ m. ruled m (shape_of c)) → TurnsBy n r c f (λ m. commanded m c)
  gated g h = λ m q e.
      let s : passing (gate_checks m (shape_of c)) ≡ Ok tt = sym (ap (λ z. passing (gate_by z.settings.paused z.parties.first.here (names_of c))) e) ∙ g in
      h m q e ∙ sym (ap (on_done (view_of (keys_of m c))) (next_go (record { checks = gate_checks m (shape_of c); done = m }) (λ z. ruled z (shape_of c)) (other_ok (gate_checks m (shape_of c)) tt m s)))

  pub barred : {r : Refusal} → passing (gate_by n.settings.paused n.parties.first.here (names_of c)) ≡ Err r → TurnsBy n (Err r) c f (λ m. commanded m c)
  barred {r} g = λ m q e.
      let s : passing (gate_checks m (shape_of c)) ≡ Err r = sym (ap (λ z. passing (gate_by z.settings.paused z.parties.first.here (names_of c))) e) ∙ g in
      sym (ap (on_done (view_of (keys_of m c))) (next_err (record { checks = gate_checks m (shape_of c); done = m }) (λ z. ruled z (shape_of c)) (other_err (gate_checks m (shape_of c)) tt m s)))

-- the command is known to be k
pub on_it : {n : Near} {r : Turn} {c : Command} (k : Command) {f : Counts} → c ≡ k → TurnsBy n r k f (λ m. ruled m (shape_of k)) → TurnsBy n r c f (λ m. ruled m (shape_of c))
on_it k q h = rw q h
