-- The keys of the rows that a command sees. They do not depend on what the rows hold, but for the invoice and the parties of its offer.
use Rattle.std.specs.Prelude.{ℕ}
use Rattle.table.specs.Named.{Named}
use Rattle.command.specs.Names.{names_of, paper_key, other_key}
use Rattle.command.specs.declared.Command.{Command}
use Rattle.command.specs.declared.Names.{Names}
use Rattle.rules.specs.Model.{Model, invoice_by, offer_by}

pub record Keys : Type 0 where
  pub first : Named
  pub second : Named
  pub paper : Named
  pub deal : Named

abbrev pub keys_by : Named → Named → Named → Named → Keys
keys_by a b i o = record { first = a; second = b; paper = i; deal = o }

-- where its offer is on the invoice i and has these parties
abbrev pub keys_for : Names → ℕ → ℕ → ℕ → Keys
keys_for n i lender originator = keys_by n.first (other_key n.second lender originator) (paper_key n.paper i) n.offer

abbrev pub keys_in : Model → Names → Keys
keys_in m n =
    let o = (offer_by m n.offer).row.offer in
    keys_for n o.invoice o.lender (invoice_by m (paper_key n.paper o.invoice)).row.originator

abbrev pub keys_of : Model → Command → Keys
keys_of m c = keys_in m (names_of c)
