-- No command changes the book's edition
use Rattle.std.specs.Prelude.{ℕ, ◌≡◌, refl, Bool, true, false, List, [], ◌∷◌}
use Rattle.std.proofs.Common.{◌∙◌}
use Rattle.refusal.specs.Choice.{pick}
use Rattle.command.specs.declared.Command.{Command}
use Rattle.command.specs.Shape.{OnSettings, pauses, waits, appoints, seats, Shape, opens, account, registers, cancels, creates, offer, accepts, amends, counters, totals, settings, shape_of}
use Rattle.rules.specs.Model.{Model}
use Rattle.rules.specs.Rules.{settling, concluding, agreeing, settings_rule, ruled}
use Rattle.rules.specs.Touching.{either_way}
use Rattle.soundness.specs.Played.{obeyed, played}

agreed_edition : (b : Bool) (now o : ℕ) (m : Model) → (agreeing b now o m).done.settings.edition ≡ m.settings.edition
unfolding agreeing concluding settling pick
agreed_edition true now o m = refl
agreed_edition false now o m = refl

settings_edition : (m : Model) (u : OnSettings) → (settings_rule m u).done.edition ≡ m.settings.edition
unfolding settings_rule
settings_edition m (pauses p b) = refl
settings_edition m (waits p w) = refl
settings_edition m (appoints p i) = refl
settings_edition m (seats p h q) = refl

ruled_edition : (m : Model) (c : Shape) → (ruled m c).done.settings.edition ≡ m.settings.edition
unfolding ruled settling
ruled_edition m (opens a) = refl
ruled_edition m (account a u) = refl
ruled_edition m (registers a i x) = refl
ruled_edition m (cancels a i) = refl
ruled_edition m (creates a o i t e) = refl
ruled_edition m (offer o u) = refl
ruled_edition m (accepts now a o) = refl
ruled_edition m (amends now a o t n) = agreed_edition _ now o _
ruled_edition m (counters now a o t n) = agreed_edition _ now o _
ruled_edition m (totals a x f) = refl
ruled_edition m (settings u) = settings_edition m u

pub edition_stays : (m : Model) (c : Command) → (obeyed m c).settings.edition ≡ m.settings.edition
edition_stays m c = either_way m c (λ n. n.settings.edition ≡ m.settings.edition) refl (λ h. ruled_edition m (shape_of c))

pub edition_kept : (m : Model) (cs : List Command) → (played m cs).settings.edition ≡ m.settings.edition
unfolding played
edition_kept m [] = refl
edition_kept m (c ∷ cs) = edition_kept (obeyed m c) cs ∙ edition_stays m c
