-- What the admins set: a fresh book's, what a sound book holds of it, and document 01's admin commands (module 5, "Admin").
use Rattle.std.specs.Prelude.{ℕ, Bool, true, false, not, ◌&&◌, [], ◌∷◌, leb, eqb}
use Rattle.refusal.specs.Refusal.{◌gives◌, invalid_input, not_found, unauthorized}
use Rattle.refusal.specs.Rule.{Rule}
use Rattle.edition.specs.Edition.{listed, fresh_window}
use Rattle.seats.specs.Seats.{reaches_of, threshold_ok}
use Rattle.settings.specs.declared.Settings.{Settings}

-- seat 0 alone with threshold 1, no repayment account, not paused; the edition's window
abbrev pub fresh_settings : ℕ → Settings
fresh_settings e = record { window = fresh_window e; repayer = 0; seats = 1; threshold = 1; edition = e; appointed = false; paused = false }

abbrev pub in_window : ℕ → Bool
in_window w = leb 3600 w && leb w 2592000

-- a listed edition; a window in range; seats in 32 bits and a threshold from 1 to their number
unfoldable pub settings_sound : Settings → Bool
settings_sound s = listed s.edition && (in_window s.window && threshold_ok s.seats s.threshold)

-- the number of seats that are both presented and configured reaches the threshold
unfoldable pub admin_passes : Settings → ℕ → Bool
admin_passes s presented = reaches_of presented s.seats s.threshold

-- the caller is the set repayment account
unfoldable pub is_repayer : Settings → ℕ → Bool
is_repayer s caller = s.appointed && eqb s.repayer caller

-- pause and unpause: seats 6
abbrev pub pause_of : Settings → ℕ → Bool → Rule Settings
pause_of s presented b = record {
  checks = (not (admin_passes s presented) gives unauthorized) ∷ [];
  done = record { window = s.window; repayer = s.repayer; seats = s.seats; threshold = s.threshold; edition = s.edition; appointed = s.appointed; paused = b };
}

-- window: seats 6; out of range 3
abbrev pub window_of : Settings → ℕ → ℕ → Rule Settings
window_of s presented w = record {
  checks = (not (admin_passes s presented) gives unauthorized) ∷ (not (in_window w) gives invalid_input) ∷ [];
  done = record { window = w; repayer = s.repayer; seats = s.seats; threshold = s.threshold; edition = s.edition; appointed = s.appointed; paused = s.paused };
}

-- repayment account: seats 6; account 4
abbrev pub repayer_of : Settings → ℕ → ℕ → Bool → Rule Settings
repayer_of s presented id known = record {
  checks = (not (admin_passes s presented) gives unauthorized) ∷ (not known gives not_found) ∷ [];
  done = record { window = s.window; repayer = id; seats = s.seats; threshold = s.threshold; edition = s.edition; appointed = true; paused = s.paused };
}

-- seats: seats 6; new seats past 32 bits or a threshold not from 1 to their number 3
abbrev pub seats_of : Settings → ℕ → ℕ → ℕ → Rule Settings
seats_of s presented threshold next = record {
  checks = (not (admin_passes s presented) gives unauthorized) ∷ (not (threshold_ok next threshold) gives invalid_input) ∷ [];
  done = record { window = s.window; repayer = s.repayer; seats = next; threshold = threshold; edition = s.edition; appointed = s.appointed; paused = s.paused };
}
