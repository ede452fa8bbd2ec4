-- What a command names. Document 01, "Numbered refusals", the test order: 1 stops state-changing commands, except pause and unpause; then 4 if the caller has no account, not for admin commands or opening.
use Rattle.std.specs.Prelude.{ℕ, Bool, true, false}
use Rattle.table.specs.Named.{Named}
use Rattle.std.specs.Prelude.{None, Some}
use Rattle.command.specs.declared.Command.{Command}
use Rattle.command.specs.declared.Names as Declared
use Rattle.command.specs.declared.Other.{Other}
use Rattle.command.specs.declared.Other.TheVariants as Other
use Rattle.command.specs.declared.Paper.{Paper}
use Rattle.command.specs.declared.Paper.TheVariants as Paper
use Rattle.command.specs.Shape.{OnAccount, deposits, pays, approves, lender_repaid, blacklists, OnOffer, withdraws, rejects, closes, schedules, marks, repaid, OnSettings, pauses, waits, appoints, seats, Shape, opens, account, registers, cancels, creates, offer, accepts, amends, counters, totals, settings, shape_of}

-- by a caller, whose account must be there, and not while the book is paused; the other account, the invoice and the offer that he sees
abbrev pub called : ℕ → Other → Paper → Named → Declared.Names
called a other paper o = record { called = true; pausable = true; first = Some a; second = other; paper = paper; offer = o }

-- by nobody whose account must be there; the account that is named, if one is
abbrev pub uncalled : Bool → Named → Declared.Names
uncalled stops first = record { called = false; pausable = stops; first = first; second = Other.Nobody; paper = Paper.Nothing; offer = None }

unfoldable pub account_names : ℕ → OnAccount → Declared.Names
account_names a (deposits x) = called a Other.Nobody Paper.Nothing None
account_names a (pays x) = called a Other.Nobody Paper.Nothing None
account_names a (approves x) = called a Other.Nobody Paper.Nothing None
account_names a (lender_repaid b f) = called b (Other.Account a) Paper.Nothing None
account_names a (blacklists p c) = uncalled true (Some a)

unfoldable pub offer_names : ℕ → OnOffer → Declared.Names
offer_names o (withdraws a) = called a Other.Nobody Paper.OfOffer (Some o)
offer_names o (rejects a) = called a Other.Nobody Paper.OfOffer (Some o)
offer_names o (closes now a) = called a Other.Nobody Paper.OfOffer (Some o)
offer_names o (schedules now a n c d k) = called a Other.Nobody Paper.OfOffer (Some o)
offer_names o (marks a c) = called a Other.Nobody Paper.OfOffer (Some o)
offer_names o (repaid a x) = called a Other.Nobody Paper.OfOffer (Some o)

unfoldable pub settings_names : OnSettings → Declared.Names
settings_names (pauses p b) = uncalled false None
settings_names (waits p w) = uncalled true None
settings_names (appoints p i) = uncalled true (Some i)
settings_names (seats p h q) = uncalled true None

unfoldable pub names_for : Shape → Declared.Names
names_for (opens a) = uncalled true (Some a)
names_for (account a u) = account_names a u
names_for (registers a i x) = called a Other.Nobody (Paper.Id i) None
names_for (cancels a i) = called a Other.Nobody (Paper.Id i) None
names_for (creates a o i t e) = called a Other.Nobody (Paper.Id i) (Some o)
names_for (offer o u) = offer_names o u
names_for (accepts now a o) = called a Other.Lender Paper.OfOffer (Some o)
names_for (amends now a o t n) = called a Other.Originator Paper.OfOffer (Some o)
names_for (counters now a o t n) = called a Other.Lender Paper.OfOffer (Some o)
names_for (totals a x f) = called a Other.Nobody Paper.Nothing None
names_for (settings u) = settings_names u

abbrev pub names_of : Command → Declared.Names
names_of c = names_for (shape_of c)

-- ── The keys of the rows that it sees, some of which its offer and invoice hold ──
abbrev pub paper_key : Paper → ℕ → Named
paper_key Paper.Nothing of_offer = None
paper_key (Paper.Id i) of_offer = Some i
paper_key Paper.OfOffer of_offer = Some of_offer

abbrev pub other_key : Other → ℕ → ℕ → Named
other_key Other.Nobody lender originator = None
other_key (Other.Account a) lender originator = Some a
other_key Other.Lender lender originator = Some lender
other_key Other.Originator lender originator = Some originator
