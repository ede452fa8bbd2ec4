use Rattle.std.proofs.Common.{◌∙◌, ℕ, ap, [], ◌∷◌}
use Rattle.refusal.specs.Choice.{pick}
use Rattle.refusal.specs.Rule.{sure}
use Rattle.account.specs.Seen.{SeenAccount}
use Rattle.offer.specs.Seen.{SeenDeal}
use Rattle.offer.specs.Rules.{standing}
use Rattle.totals.specs.declared.Totals.{Totals}
use Rattle.settings.specs.declared.Settings.{Settings}
use Rattle.rules.specs.Model.{offer_in}
use Rattle.query.specs.Numbers.{lender_numbers, totals_numbers, due_in, flag}
use Rattle.query.specs.Reads.{deal_read, due_order, lender_order, totals_order, schedule_values}
use Rattle.query.specs.Questions.{read_in, read_of, twelve, purse_order}
use Rattle.query.specs.QuestionLaws.{by_code, by_sure, by_none}
use Rattle.query.proofs.answer.Goals as goal

pub returns-in-1 : goal.returns-in-1
unfolding read_of read_in pick
returns-in-1 c m s = by_code c.args.code c.args.id c.args.time m 1 (deal_read c.args.id c.args.deal) c.in-1.is c.offer_words.ensures (ap (λ (d : SeenDeal). deal_read c.args.id d) s.deal_seen)

pub returns-in-2 : goal.returns-in-2
unfolding read_of read_in pick
returns-in-2 c m s = by_sure c.args.code c.args.id c.args.time m 2 (purse_order c.args.account.row) c.in-2.is c.account_words.ensures (ap (λ (a : SeenAccount). sure (purse_order a.row)) s.account_seen)

pub returns-in-3 : goal.returns-in-3
unfolding read_of read_in pick
returns-in-3 c m s = by_sure c.args.code c.args.id c.args.time m 3 (lender_order (lender_numbers c.args.account.row)) c.in-3.is c.lender_words.ensures (ap (λ (a : SeenAccount). sure (lender_order (lender_numbers a.row))) s.account_seen)

pub returns-in-4 : goal.returns-in-4
unfolding read_of read_in pick
returns-in-4 c m s = by_sure c.args.code c.args.id c.args.time m 4 (schedule_values c.args.deal.row.schedule) c.in-4.is c.schedule_words.ensures (ap (λ (d : SeenDeal). sure (schedule_values d.row.schedule)) s.deal_seen)

pub returns-in-5 : goal.returns-in-5
unfolding read_of read_in pick
returns-in-5 c m s = by_sure c.args.code c.args.id c.args.time m 5 (c.args.deal.row.negotiation.deadline ∷ []) c.in-5.is c.words.ensures (ap (λ (d : SeenDeal). sure (d.row.negotiation.deadline ∷ [])) s.deal_seen)

pub returns-in-6 : goal.returns-in-6
unfolding read_of read_in pick
returns-in-6 c m s = by_sure c.args.code c.args.id c.args.time m 6 (standing c.args.deal c.args.time ∷ []) c.in-6.is c.status_words.ensures (ap (λ (d : SeenDeal). sure (standing d c.args.time ∷ [])) s.deal_seen)

pub returns-in-7 : goal.returns-in-7
unfolding read_of read_in pick
returns-in-7 c m s = by_sure c.args.code c.args.id c.args.time m 7 (due_order (due_in c.args.settings.edition c.args.deal.row c.args.time)) c.in-7.is c.due_words.ensures (ap (λ (d : SeenDeal). sure (due_order (due_in c.args.settings.edition d.row c.args.time))) s.deal_seen ∙ ap (λ (t : Settings). sure (due_order (due_in t.edition (offer_in m c.args.id).row c.args.time))) s.settings_seen)

pub returns-in-8 : goal.returns-in-8
unfolding read_of read_in pick
returns-in-8 c m s = by_sure c.args.code c.args.id c.args.time m 8 (c.args.count ∷ []) c.in-8.is c.words-in-8.ensures (ap (λ (n : ℕ). sure (n ∷ [])) s.counted)

pub returns-in-9 : goal.returns-in-9
unfolding read_of read_in pick
returns-in-9 c m s = by_sure c.args.code c.args.id c.args.time m 9 (c.args.settings.window ∷ []) c.in-9.is c.words-in-9.ensures (ap (λ (t : Settings). sure (t.window ∷ [])) s.settings_seen)

pub returns-in-10 : goal.returns-in-10
unfolding read_of read_in pick
returns-in-10 c m s = by_sure c.args.code c.args.id c.args.time m 10 (c.args.settings.seats ∷ []) c.in-10.is c.words-in-10.ensures (ap (λ (t : Settings). sure (t.seats ∷ [])) s.settings_seen)

pub returns-in-11 : goal.returns-in-11
unfolding read_of read_in pick
returns-in-11 c m s = by_sure c.args.code c.args.id c.args.time m 11 (c.args.settings.threshold ∷ []) c.in-11.is c.words-in-11.ensures (ap (λ (t : Settings). sure (t.threshold ∷ [])) s.settings_seen)

pub returns-in-12 : goal.returns-in-12
unfolding read_of read_in pick
returns-in-12 c m s = by_sure c.args.code c.args.id c.args.time m 12 (flag c.args.settings.paused ∷ []) c.in-12.is (c.words-in-12.ensures ∙ ap (λ (n : ℕ). twelve (0, n ∷ [])) c.from.ensures) (ap (λ (t : Settings). sure (flag t.paused ∷ [])) s.settings_seen)

pub returns-in-13 : goal.returns-in-13
unfolding read_of read_in pick
returns-in-13 c m s = by_sure c.args.code c.args.id c.args.time m 13 (totals_order (totals_numbers c.args.totals)) c.in-13.is c.totals_words.ensures (ap (λ (t : Totals). sure (totals_order (totals_numbers t))) s.totals_seen)

pub returns-in_default : goal.returns-in_default
returns-in_default c m s = by_none c.args.code c.args.id c.args.time m c.in_default.in_default-own.rest (c.words-in_default.ensures ∙ ap (λ (n : ℕ). twelve (n, [])) c.number.ensures)
