-- What the crates above need: a fresh book's settings are sound, and every rule leaves sound ones sound.
use Rattle.std.specs.Prelude.{ℕ, ◌≡◌, refl, Bool, true, false, cond, leb}
use Rattle.std.proofs.Common.{rules}
use Rattle.std.proofs.lemmas.Bool.{not-false}
use Rattle.money.specs.Facts.{both}
use Rattle.refusal.specs.RuleLaws.{passed, KeepsTest}
use Rattle.edition.specs.Edition.{listed, fresh_window}
use Rattle.seats.specs.Seats.{threshold_ok, count_seats, count_below}
use Rattle.settings.specs.declared.Settings.{Settings}
use Rattle.settings.specs.Settings.{fresh_settings, in_window, settings_sound, pause_of, window_of, repayer_of, seats_of}

pub fresh_sound : (e : ℕ) → listed e ≡ true → settings_sound (fresh_settings e) ≡ true
unfolding settings_sound threshold_ok count_seats count_below fresh_window
fresh_sound e h = rw (h, within (leb 3 e))
  where
    within : (t : Bool) → in_window (cond t 259200 604800) ≡ true
    within true = refl
    within false = refl

-- what soundness says of the settings
pub record SettingsRanges (s : Settings) : Type 0 where
  pub edition_in_lem : listed s.edition ≡ true
  pub window_in : in_window s.window ≡ true
  pub threshold_in : threshold_ok s.seats s.threshold ≡ true

pub settings_ranges : {s : Settings} → settings_sound s ≡ true → SettingsRanges s
unfolding settings_sound
settings_ranges {s} e =
    let a = both (listed s.edition) _ e in
    let b = both (in_window s.window) (threshold_ok s.seats s.threshold) a.1 in
    record { edition_in_lem = a.0; window_in = b.0; threshold_in = b.1 }

pub ranges_settings : {s : Settings} → SettingsRanges s → settings_sound s ≡ true
unfolding settings_sound
ranges_settings {s} h = rw (h.edition_in_lem, h.window_in, h.threshold_in)

-- soundness speaks of neither the pause nor the repayment account
pub pause_keeps : (s : Settings) (presented : ℕ) (b : Bool) → KeepsTest settings_sound s (pause_of s presented b)
unfolding settings_sound
pause_keeps s presented b h e = h

pub repayer_keeps : (s : Settings) (presented id : ℕ) (known : Bool) → KeepsTest settings_sound s (repayer_of s presented id known)
unfolding settings_sound
repayer_keeps s presented id known h e = h

pub window_keeps : (s : Settings) (presented w : ℕ) → KeepsTest settings_sound s (window_of s presented w)
window_keeps s presented w h e =
    let k = settings_ranges h in
    let a = not-false (in_window w) (passed _ _ _ (passed _ _ _ e).1).0 in
    ranges_settings (search rules)

pub seats_keeps : (s : Settings) (presented threshold next : ℕ) → KeepsTest settings_sound s (seats_of s presented threshold next)
seats_keeps s presented threshold next h e =
    let k = settings_ranges h in
    let a = not-false (threshold_ok next threshold) (passed _ _ _ (passed _ _ _ e).1).0 in
    ranges_settings (search rules)
