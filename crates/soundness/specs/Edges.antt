-- Document 01, "Edges on both sides", the deadline of module 3, stopped at 2^64−1, and document 02, i and j: one table that is computed.
use Rattle.std.specs.Prelude.{ℕ, ◌≡◌, refl, Bool, true, false, ◌&&◌, List, [], ◌∷◌, replicate, pos, eqb}
use Rattle.refusal.specs.Choice.{pick}
use Rattle.money.specs.Range.{same_amount, movable}
use Rattle.terms.specs.declared.Terms.{Terms}
use Rattle.terms.specs.declared.Schedule.{Schedule}
use Rattle.terms.specs.Terms.{terms_ok}
use Rattle.terms.specs.Kind.{flat_kind, falling_kind, kind_listed, first_of}
use Rattle.terms.specs.Installment.{installment_amount, installment_of, none_to_pay}
use Rattle.installments.specs.Sums as Sums
use Rattle.installments.specs.Even.{even}
use Rattle.installments.specs.Flat.{part_of, total_of, flat}
use Rattle.installments.specs.Falling.{listed, outstanding, principal, interest, falling_member, falling}
use Rattle.terms.specs.Schedule.{seconds_of, keeps_ok, keeps_none, schedule_in, schedule_ok, made_of, kept_installments, installments_of}
use Rattle.edition.specs.Edition.{keeps_terms}
use Rattle.terms.specs.Status.{status_financed}
use Rattle.terms.specs.Due.{elapsed_of, owed_at, due_arguments, due_of}
use Rattle.negotiation.specs.declared.Negotiation.{Negotiation}
use Rattle.negotiation.specs.Rounds.{round_slots, no_round, deadline_of, status_of}
use Rattle.refusal.specs.Refusal.{first}
use Rattle.refusal.specs.Rule.{after}
use Rattle.table.specs.Tables.{find, adjust, insert}
use Rattle.command.specs.Shape.{shape_of}
use Rattle.command.specs.Names.{account_names, offer_names, settings_names, names_for}
use Rattle.command.specs.declared.Command.{Command}
use Rattle.command.specs.declared.Command.TheVariants.{OpenAccount, RegisterInvoice, CreateOffer, ScheduleRepayment}
use Rattle.rules.specs.Model.{fresh_model}
use Rattle.rules.specs.Rules.{account_rule, offer_rule, settings_rule, ruled}
use Rattle.soundness.specs.Played.{answers_of}

pub data Edge : Type 0 where
  -- kind, amount, rate and count, with the installment
  installs : ℕ → ℕ → ℕ → ℕ → ℕ → Edge
  -- the same of an offer in an edition, with what command 38 answers
  schedules : ℕ → ℕ → ℕ → ℕ → ℕ → ℕ → Edge
  -- now and amount repaid, with the number due of the schedule below and what is owed on it: without kept terms or with them, by kind
  dues : Bool → ℕ → ℕ → ℕ → ℕ → ℕ → Edge
  -- the deadline of a negotiation on a Pending offer and now, with its status
  stands : ℕ → ℕ → ℕ → Edge
  -- now and the window, with the deadline that the first round sets
  ends : ℕ → ℕ → ℕ → Edge

abbrev day : ℕ → ℕ → Terms
day amount rate = record { amount = pos amount; rate = rate; duration = 86400 }

-- 349, weekly, count 3, first due 1,000,000; of 1000 at 500 where it keeps its terms
abbrev weekly : Bool → ℕ → Schedule
weekly kept kind = made_of kept (day 1000 500) kind 3 1 1000000 (pos 349)

abbrev same_due : ℕ × (ℕ × ℕ) → ℕ → ℕ → Bool
same_due d n x = (eqb d.0 0 && eqb d.1.0 n) && eqb d.1.1 x

abbrev one_round : ℕ → Negotiation
one_round deadline = record { rounds = replicate round_slots no_round; deadline = deadline; len = 1; outcome = 0 }

-- 1 offers 2 these terms on invoice 10, and asks for so many weekly installments of a kind
abbrev asking : Terms → ℕ → ℕ → List Command
asking t count kind =
    OpenAccount 100 1
    ∷ OpenAccount 100 2
    ∷ RegisterInvoice 100 2 10 t.amount
    ∷ CreateOffer 100 1 20 10 t 0
    ∷ ScheduleRepayment 100 1 20 count 1 200 kind
    ∷ []

unfoldable pub same_list : List ℕ → List ℕ → Bool
same_list [] [] = true
same_list [] (b ∷ m) = false
same_list (a ∷ l) [] = false
same_list (a ∷ l) (b ∷ m) = eqb a b && same_list l m

unfoldable pub holds : Edge → Bool
holds (installs kind amount rate count x) = eqb (installment_of (day amount rate) kind count).0 0 && same_amount (installment_of (day amount rate) kind count).1 (pos x)
holds (schedules e kind amount rate count n) = same_list (answers_of (fresh_model e) (asking (day amount rate) count kind)) (0 ∷ 0 ∷ 0 ∷ 0 ∷ n ∷ [])
holds (dues kept kind now repaid n x) = same_due (due_of kept (weekly kept kind) status_financed (pos repaid) now) n x
holds (stands deadline now status) = eqb (status_of (one_round deadline) true now) status
holds (ends now window deadline) = eqb (deadline_of 0 now window 0) deadline

unfoldable pub all : List Edge → Bool
all [] = true
all (e ∷ l) = holds e && all l

unfoldable pub edges : List Edge
edges =
    installs flat_kind 1000 500 3 349
    ∷ installs flat_kind 1200 10000 1200 2
    ∷ installs flat_kind 1199 500 1200 0
    ∷ installs falling_kind 1000 500 3 349
    ∷ installs falling_kind 5 7500 3 2
    ∷ installs falling_kind 1199 10000 1200 0
    ∷ installs falling_kind 1200 10000 1200 2
    ∷ schedules 1 flat_kind 1199 500 1200 3
    ∷ schedules 1 flat_kind 1200 500 1200 0
    ∷ schedules 4 0 1000 500 3 0
    ∷ schedules 4 1 1000 500 3 3
    ∷ schedules 5 0 1000 500 3 0
    ∷ schedules 5 1 1000 500 3 0
    ∷ schedules 5 1 1199 10000 1200 3
    ∷ schedules 5 1 1200 10000 1200 0
    ∷ schedules 5 2 1000 500 3 3
    ∷ schedules 5 4294967297 1000 500 3 3
    ∷ schedules 5 18446744073709551615 1000 500 3 3
    ∷ dues false flat_kind 999999 0 0 0
    ∷ dues false flat_kind 1000000 0 1 349
    ∷ dues false flat_kind 1604799 349 0 0
    ∷ dues false flat_kind 1604800 349 2 349
    ∷ dues false flat_kind 1604800 697 2 1
    ∷ dues false flat_kind 1604800 698 0 0
    ∷ dues false flat_kind 18446744073709551615 698 3 349
    ∷ dues false flat_kind 18446744073709551615 1047 0 0
    ∷ dues true flat_kind 999999 0 0 0
    ∷ dues true flat_kind 18446744073709551615 348 1 1
    ∷ dues true flat_kind 18446744073709551615 349 2 349
    ∷ dues true flat_kind 18446744073709551615 697 2 1
    ∷ dues true flat_kind 18446744073709551615 698 3 352
    ∷ dues true flat_kind 18446744073709551615 1047 3 3
    ∷ dues true flat_kind 18446744073709551615 1049 3 1
    ∷ dues true flat_kind 18446744073709551615 1050 0 0
    ∷ dues true falling_kind 999999 0 0 0
    ∷ dues true falling_kind 18446744073709551615 348 1 1
    ∷ dues true falling_kind 18446744073709551615 349 2 344
    ∷ dues true falling_kind 18446744073709551615 692 2 1
    ∷ dues true falling_kind 18446744073709551615 693 3 339
    ∷ dues true falling_kind 18446744073709551615 1031 3 1
    ∷ dues true falling_kind 18446744073709551615 1032 0 0
    ∷ stands 604900 604900 1
    ∷ stands 604900 604901 4
    ∷ stands 18446744073709551615 18446744073709551615 1
    ∷ ends 100 604800 604900
    ∷ ends 18446744073708946814 604800 18446744073709551614
    ∷ ends 18446744073708946815 604800 18446744073709551615
    ∷ ends 18446744073708946816 604800 18446744073709551615
    ∷ ends 18446744073709551615 2592000 18446744073709551615
    ∷ []

pub edges_hold : all edges ≡ true
unfolding all edges holds same_list answers_of pick first after find adjust insert shape_of account_names offer_names settings_names names_for account_rule offer_rule settings_rule ruled terms_ok installment_amount installment_of none_to_pay kind_listed first_of seconds_of keeps_terms keeps_ok keeps_none schedule_in schedule_ok kept_installments installments_of even flat part_of total_of listed outstanding principal interest falling_member falling Sums.sum_to Sums.paid_of Sums.number_due Sums.owed_on Sums.due_of elapsed_of owed_at due_arguments due_of deadline_of status_of movable
edges_hold = refl
