-- Every accepted command leaves a sound model sound
use Rattle.std.specs.Prelude.{ℕ, ◌≡◌, Bool, ◌++◌}
use Rattle.std.proofs.Math.Path.{refl}
use Rattle.std.proofs.Math.Bool.{true, false}
use Rattle.std.proofs.Math.Dec.{eqb}
use Rattle.std.proofs.lemmas.Bool.{not-false}
use Rattle.std.proofs.Common.{eqb-true}
use Rattle.refusal.specs.Choice.{pick}
use Rattle.refusal.specs.ChoiceLaws.{pick_on, pick_off}
use Rattle.refusal.specs.Refusal.{first}
use Rattle.refusal.specs.Rule.{Rule, after}
use Rattle.refusal.specs.RuleLaws.{KeepsTest, Keeps, passed, both_pass}
use Rattle.money.specs.Range.{in_amount}
use Rattle.table.specs.Tables.{here, full}
use Rattle.table.proofs.Sound.{all_insert}
use Rattle.terms.specs.Terms.{terms_ok}
use Rattle.terms.specs.declared.Terms.{Terms}
use Rattle.account.specs.Account.{no_account, account_sound}
use Rattle.account.specs.declared.Account.{Account}
use Rattle.account.specs.Rules.{offer_of, reoffer_of}
use Rattle.account.proofs.Laws as Account
use Rattle.invoice.specs.Invoice.{invoice_of, invoice_sound}
use Rattle.invoice.specs.declared.Invoice.{Invoice}
use Rattle.invoice.specs.Laws as Invoice
use Rattle.offer.specs.declared.Deal.{Deal}
use Rattle.offer.specs.Offer.{new_deal}
use Rattle.offer.specs.Rules.{create_checks, accept_checks}
use Rattle.offer.specs.Laws.{DealKept, new-kept}
use Rattle.offer.specs.Kept as Deal
use Rattle.settings.specs.declared.Settings.{Settings}
use Rattle.settings.specs.Settings.{settings_sound, admin_passes, is_repayer}
use Rattle.settings.specs.Laws as Settings
use Rattle.totals.specs.Laws as Totals
use Rattle.command.specs.declared.Command.{Command}
use Rattle.command.specs.Shape.{OnAccount, deposits, pays, approves, lender_repaid, blacklists, OnOffer, withdraws, rejects, closes, schedules, marks, repaid, OnSettings, pauses, waits, appoints, seats, Shape, opens, account, registers, cancels, creates, offer, accepts, amends, counters, totals, settings, shape_of}
use Rattle.rules.specs.Model.{Model, account_in, invoice_in, offer_in, paper_of, on_account, on_offer}
use Rattle.rules.specs.Rules.{gate_checks, creating, terms_in, amended_in, countered_in, amending, countering, account_rule, offer_rule, settings_rule, ruled, commanded, amends_in, counters_in}
use Rattle.table.proofs.Keeping.{fine_adjust}
use Rattle.rules.specs.Fitting.{fits_ruled}
use Rattle.soundness.specs.Sound.{ModelSound}
use Rattle.soundness.specs.Parts.{account_put, invoice_put, deal_put, settled_sound, agreed_sound, with_accounts_lem, with_invoices_lem, with_offers_lem, with_totals_lem, with_settings_lem}

-- what an amendment and a counter leave before they agree
module _ {m : Model} (s : ModelSound m) (now a o : ℕ) (t : Terms) (n : ℕ) where
  amended_sound : first (amends_in m now a o t n ++ (reoffer_of (account_in m a).row (terms_in m o) t).checks) ≡ 0 → ModelSound (amended_in m now a o t)
  amended_sound e =
      let p = both_pass (amends_in m now a o t n) _ e in
      record {
        fits = record { accounts = fine_adjust s.fits.accounts _ _; invoices = s.fits.invoices; offers = fine_adjust s.fits.offers _ _ };
        accounts = account_put m.accounts a _ s.accounts (λ z. Account.reoffer_keeps (account_in m a).row (terms_in m o) t z p.1);
        invoices = s.invoices;
        offers = deal_put m.offers o _ s.offers (λ z. Deal.amended_kept m.settings.edition (offer_in m o) now a (account_in m a).row t n (paper_of m o) m.settings.window z p.0);
        totals = s.totals;
        settings = s.settings;
      }

  countered_sound : first (counters_in m now a o t n) ≡ 0 → ModelSound (countered_in m now o t)
  countered_sound e =
      with_offers_lem s _ (deal_put m.offers o _ s.offers (λ z. Deal.countered_kept m.settings.edition (offer_in m o) now a (account_in m a).row t n (paper_of m o) m.settings.window z e))
      (record { accounts = s.fits.accounts; invoices = s.fits.invoices; offers = fine_adjust s.fits.offers _ _ })

  amending_sound : first (amending m now a o t n).checks ≡ 0 → ModelSound (amending m now a o t n).done
  amending_sound e =
      let p = both_pass (amends_in m now a o t n ++ (reoffer_of (account_in m a).row (terms_in m o) t).checks) _ e in
      agreed_sound (amended_sound p.0) _ now o p.1

  countering_sound : first (countering m now a o t n).checks ≡ 0 → ModelSound (countering m now a o t n).done
  countering_sound e =
      let p = both_pass (counters_in m now a o t n) _ e in
      agreed_sound (countered_sound p.0) _ now o p.1

module _ {m : Model} (s : ModelSound m) where
  posted : (a : ℕ) (u : Rule Account) → KeepsTest account_sound (account_in m a).row u → first u.checks ≡ 0 → ModelSound (on_account m a u).done
  posted a u k e =
      with_accounts_lem s _ (account_put m.accounts a u.done s.accounts (λ z. k z e)) (record { accounts = fine_adjust s.fits.accounts _ _; invoices = s.fits.invoices; offers = s.fits.offers })

  dealt : (o : ℕ) (u : Rule Deal) → Keeps (DealKept m.settings.edition) (offer_in m o).row u → first u.checks ≡ 0 → ModelSound (on_offer m o u).done
  dealt o u k e =
      with_offers_lem s _ (deal_put m.offers o u.done s.offers (λ z. k z e)) (record { accounts = s.fits.accounts; invoices = s.fits.invoices; offers = fine_adjust s.fits.offers _ _ })

  created_sound : (a o i : ℕ) (t : Terms) (x : ℕ) → first (creating m a o i t x).checks ≡ 0 → ModelSound (creating m a o i t x).done
  unfolding ruled
  created_sound a o i t x e =
      let c = create_checks a (account_in m a).row t (invoice_in m i) (offer_in m o).here (full 64 m.offers) in
      let p = both_pass c _ e in
      let q = both_pass (offer_of (account_in m a).row t).checks _ p.1 in
      let k = passed _ _ _ (passed _ _ _ p.0).1 in
      record {
        fits = fits_ruled s.fits (creates a o i t x) e;
        accounts = account_put m.accounts a _ s.accounts (λ z. Account.offer_keeps (account_in m a).row t z q.0);
        invoices = s.invoices;
        offers = all_insert (DealKept m.settings.edition) m.offers o (new_deal a i t x) s.offers (new-kept a i t x (not-false (terms_ok t) k.0));
        totals = Totals.count_keeps m.totals s.totals q.1;
        settings = s.settings;
      }

  keeps_account : (a : ℕ) (u : OnAccount) → KeepsTest account_sound (account_in m a).row (account_rule m a u)
  unfolding account_rule
  keeps_account a (deposits x) = Account.deposit_keeps (account_in m a).row x
  keeps_account a (pays x) = Account.payout_keeps (account_in m a).row x
  keeps_account a (approves x) = Account.approve_keeps (account_in m a).row x
  keeps_account a (lender_repaid b f) = Account.lender_repaid_keeps (account_in m a) (is_repayer m.settings b) f
  keeps_account a (blacklists p c) = Account.blacklist_keeps (account_in m a) (admin_passes m.settings p) c

  keeps_offer : (o : ℕ) (u : OnOffer) → Keeps (DealKept m.settings.edition) (offer_in m o).row (offer_rule m o u)
  unfolding offer_rule
  keeps_offer o (withdraws a) = Deal.withdraw_keeps (offer_in m o) a
  keeps_offer o (rejects a) = Deal.reject_keeps (offer_in m o) a (paper_of m o)
  keeps_offer o (closes now a) = Deal.close_keeps (offer_in m o) now a (paper_of m o)
  keeps_offer o (schedules now a n c d k) = Deal.schedule_keeps m.settings.edition (offer_in m o) now a n c d k (paper_of m o)
  keeps_offer o (marks a c) = Deal.status_update_keeps (offer_in m o) (is_repayer m.settings a) c
  keeps_offer o (repaid a x) = Deal.repaid_update_keeps (offer_in m o) (is_repayer m.settings a) x

  keeps_settings : (u : OnSettings) → first (settings_rule m u).checks ≡ 0 → settings_sound (settings_rule m u).done ≡ true
  unfolding settings_rule
  keeps_settings (pauses p b) e = Settings.pause_keeps m.settings p b s.settings e
  keeps_settings (waits p w) e = Settings.window_keeps m.settings p w s.settings e
  keeps_settings (appoints p i) e = Settings.repayer_keeps m.settings p i (account_in m i).here s.settings e
  keeps_settings (seats p h q) e = Settings.seats_keeps m.settings p h q s.settings e

  same_edition : (u : OnSettings) → (settings_rule m u).done.edition ≡ m.settings.edition
  unfolding settings_rule
  same_edition (pauses p b) = refl
  same_edition (waits p w) = refl
  same_edition (appoints p i) = refl
  same_edition (seats p h q) = refl

  -- the rule of each command
  ruled_sound : (c : Shape) → first (ruled m c).checks ≡ 0 → ModelSound (ruled m c).done
  unfolding ruled
  ruled_sound (opens a) e = with_accounts_lem s _ (all_insert (λ r. account_sound r ≡ true) m.accounts a no_account s.accounts Account.no_account_sound) (fits_ruled s.fits (opens a) e)
  ruled_sound (account a u) e = posted a _ (keeps_account a u) e
  ruled_sound (registers a i x) e =
      with_invoices_lem s _ (all_insert (λ r. invoice_sound r ≡ true) m.invoices i (invoice_of a x) s.invoices (Invoice.registered_sound a x (not-false (in_amount x) (passed _ _ _ e).0))) (fits_ruled s.fits (registers a i x) e)
  ruled_sound (cancels a i) e = with_invoices_lem s _ (invoice_put m.invoices i _ s.invoices (λ z. Invoice.status_sound 2 (invoice_in m i).row refl z)) (fits_ruled s.fits (cancels a i) e)
  ruled_sound (creates a o i t x) e = created_sound a o i t x e
  ruled_sound (offer o u) e = dealt o _ (keeps_offer o u) e
  ruled_sound (accepts now a o) e = settled_sound s now o (both_pass (accept_checks (offer_in m o) now a (paper_of m o)) _ e).1
  ruled_sound (amends now a o t n) e = amending_sound s now a o t n e
  ruled_sound (counters now a o t n) e = countering_sound s now a o t n e
  ruled_sound (totals a x y) e = with_totals_lem s _ (Totals.repay_keeps m.totals (is_repayer m.settings a) x y s.totals e)
  ruled_sound (settings u) e = with_settings_lem s _ (keeps_settings u e) (same_edition u)

  -- every command, accepted or refused, leaves a sound model
  pub keeps_sound : (c : Command) → first (commanded m c).checks ≡ 0 → ModelSound (commanded m c).done
  keeps_sound c e = ruled_sound (shape_of c) (both_pass (gate_checks m (shape_of c)) (ruled m (shape_of c)).checks e).1

  pub stays_sound : (c : Command) → ModelSound (after m (commanded m c))
  unfolding after
  stays_sound c = go (eqb (first (commanded m c).checks) 0) refl
    where
      go : (b : Bool) → eqb (first (commanded m c).checks) 0 ≡ b → ModelSound (pick (eqb (first (commanded m c).checks) 0) (commanded m c).done m)
      go true q = rw (pick_on (commanded m c).done m q) (keeps_sound c (eqb-true _ _ q))
      go false q = rw (pick_off (commanded m c).done m q) s
