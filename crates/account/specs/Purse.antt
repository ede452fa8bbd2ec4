-- A purse: the one of a new account, its parts put anew, and what a sound book holds of it.
use Rattle.std.specs.Prelude.{Bool, ◌&&◌, ℤ, pos, ◌+ℤ◌}
use Rattle.money.specs.Range.{in_total, is_zero}
use Rattle.account.specs.declared.Purse.{Purse}

abbrev pub no_purse : Purse
no_purse = record { balance = pos 0; allowance = pos 0; offered = pos 0; accepted = pos 0 }

-- the balance grows by x, which may be below 0; likewise the others
abbrev pub gains : ℤ → Purse → Purse
gains x p = record { balance = p.balance +ℤ x; allowance = p.allowance; offered = p.offered; accepted = p.accepted }

abbrev pub allows : ℤ → Purse → Purse
allows x p = record { balance = p.balance; allowance = x; offered = p.offered; accepted = p.accepted }

abbrev pub reoffers : ℤ → Purse → Purse
reoffers x p = record { balance = p.balance; allowance = p.allowance; offered = p.offered +ℤ x; accepted = p.accepted }

abbrev pub pays : ℤ → Purse → Purse
pays x p = record { balance = p.balance +ℤ x; allowance = p.allowance +ℤ x; offered = p.offered; accepted = p.accepted }

abbrev pub accepts : ℤ → Purse → Purse
accepts x p = record { balance = p.balance; allowance = p.allowance; offered = p.offered; accepted = p.accepted +ℤ x }

unfoldable pub purse_sound : Purse → Bool
purse_sound p = ((in_total p.balance && in_total p.allowance) && in_total p.offered) && in_total p.accepted

unfoldable pub purse_zero : Purse → Bool
purse_zero p = ((is_zero p.balance && is_zero p.allowance) && is_zero p.offered) && is_zero p.accepted
