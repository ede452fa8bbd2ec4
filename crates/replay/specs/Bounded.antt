-- What bounds a listing: the book that it starts from is sound, and its accounts' ids are numbers of 64 bits.
use Rattle.table.specs.Tables.{Table, keys}
use Rattle.account.specs.declared.Account.{Account}
use Rattle.sheet.specs.Size.{Small}
use Rattle.rules.specs.Model.{Model}
use Rattle.soundness.specs.Sound.{ModelSound}

pub record Low (t : Table Account) : Type 0 where
  pub ids : Small (keys t)

pub record Bounded (m : Model) : Type 0 where
  pub sound : ModelSound m
  pub low : Low m.accounts
