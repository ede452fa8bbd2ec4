-- Document 01's session of ten commands, computed on the definitions: its answers and the figures it played
use Rattle.money.specs.Range.{movable}
use Rattle.std.specs.Prelude.{ℕ, ◌≡◌, refl, List, [], ◌∷◌, ℤ, pos}
use Rattle.refusal.specs.Choice.{pick}
use Rattle.refusal.specs.Refusal.{first}
use Rattle.refusal.specs.Rule.{after}
use Rattle.table.specs.Tables.{find, adjust, insert}
use Rattle.terms.specs.Terms.{terms_ok, same_terms}
use Rattle.terms.specs.declared.Terms.{Terms}
use Rattle.negotiation.specs.Rounds.{deadline_of, status_of, added_of, accepted_of, latest_below, matches, agrees_of}
use Rattle.offer.specs.Offer.{expired, settled_deal, amended_deal, countered_deal}
use Rattle.command.specs.Shape.{shape_of}
use Rattle.command.specs.Names.{account_names, offer_names, settings_names, names_for}
use Rattle.command.specs.declared.Command.{Command}
use Rattle.command.specs.declared.Command.TheVariants.{OpenAccount, Deposit, Approve, RegisterInvoice, CreateOffer, AcceptOffer, AmendOffer, CounterOffer}
use Rattle.edition.specs.Edition.{holds_amount, fresh_window, round_limit}
use Rattle.rules.specs.Model.{Model, fresh_model, account_in}
use Rattle.soundness.specs.Played.{played, answers_of}
use Rattle.rules.specs.Rules.{settling, concluding, agreeing, account_rule, offer_rule, settings_rule, ruled}

abbrev terms : ℕ → Terms
terms x = record { amount = pos x; rate = 500; duration = 86400 }

-- all at time 100: open 1; open 2; 1 deposits 5000; 1 approves 5000; 2 registers invoice 10, 2000; 1 creates 20; 2 counters 900; 1 amends the same, round 0; again, round 1; 2 accepts
unfoldable pub session : List Command
session =
    OpenAccount 100 1
    ∷ OpenAccount 100 2
    ∷ Deposit 100 1 (pos 5000)
    ∷ Approve 100 1 (pos 5000)
    ∷ RegisterInvoice 100 2 10 (pos 2000)
    ∷ CreateOffer 100 1 20 10 (terms 1000) 0
    ∷ CounterOffer 100 2 20 (terms 900) 0
    ∷ AmendOffer 100 1 20 (terms 900) 0
    ∷ AmendOffer 100 1 20 (terms 900) 1
    ∷ AcceptOffer 100 2 20
    ∷ []

pub session_answers : answers_of (fresh_model 1) session ≡ 0 ∷ 0 ∷ 0 ∷ 0 ∷ 0 ∷ 0 ∷ 0 ∷ 3 ∷ 0 ∷ 7 ∷ []
unfolding answers_of session pick first after find adjust insert terms_ok same_terms holds_amount fresh_window round_limit deadline_of status_of added_of accepted_of latest_below matches agrees_of expired settled_deal amended_deal countered_deal settling concluding agreeing shape_of account_names offer_names settings_names names_for account_rule offer_rule settings_rule ruled movable
session_answers = refl

-- balance, allowance, offered, accepted
abbrev figures : Model → ℕ → List ℤ
figures m a = (account_in m a).row.purse.balance ∷ (account_in m a).row.purse.allowance ∷ (account_in m a).row.purse.offered ∷ (account_in m a).row.purse.accepted ∷ []

pub session_lender : figures (played (fresh_model 1) session) 1 ≡ pos 4100 ∷ pos 4100 ∷ pos 900 ∷ pos 900 ∷ []
unfolding played session pick first after find adjust insert terms_ok same_terms holds_amount fresh_window round_limit deadline_of status_of added_of accepted_of latest_below matches agrees_of expired settled_deal amended_deal countered_deal settling concluding agreeing shape_of account_names offer_names settings_names names_for account_rule offer_rule settings_rule ruled movable
session_lender = refl

pub session_originator : figures (played (fresh_model 1) session) 2 ≡ pos 900 ∷ pos 0 ∷ pos 0 ∷ pos 0 ∷ []
unfolding played session pick first after find adjust insert terms_ok same_terms holds_amount fresh_window round_limit deadline_of status_of added_of accepted_of latest_below matches agrees_of expired settled_deal amended_deal countered_deal settling concluding agreeing shape_of account_names offer_names settings_names names_for account_rule offer_rule settings_rule ruled movable
session_originator = refl

pub session_totals : (played (fresh_model 1) session).totals ≡ record { financed = pos 900; repaid = pos 0; fees = pos 0; offers = 1 }
unfolding played session pick first after find adjust insert terms_ok same_terms holds_amount fresh_window round_limit deadline_of status_of added_of accepted_of latest_below matches agrees_of expired settled_deal amended_deal countered_deal settling concluding agreeing shape_of account_names offer_names settings_names names_for account_rule offer_rule settings_rule ruled movable
session_totals = refl
