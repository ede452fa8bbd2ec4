-- The figures to which the sums of a book that is not fresh are added.
use Rattle.std.specs.Prelude.{◌-ℤ◌}
use Rattle.rules.specs.Model.{Model}
use Rattle.history.specs.History.{offered}
use Rattle.history.specs.Since.{said_before}
use Rattle.history.specs.Ledger.{Ledger, start}

abbrev pub base : Model → Ledger
base s = record {
  bargains = (start s).bargains;
  papers = (start s).papers;
  purses = record {
    balances = (start s).purses.balances;
    offereds = λ a. (start s).purses.offereds a -ℤ offered (said_before s) a;
    accepteds = (start s).purses.accepteds;
    together = (start s).purses.together;
  };
  financed = (start s).financed;
}
