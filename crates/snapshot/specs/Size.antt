-- How long a snapshot can be: at most what a full book takes.
use Rattle.std.specs.Prelude.{ℕ}
use Rattle.std.proofs.Common.{arith}
use Rattle.edition.specs.Edition.{round_limit}
use Rattle.offer.specs.Kept.{limit_in_slots}
use Rattle.codec.specs.Codec.{rows}
use Rattle.codec.specs.Weight.{Weighs, weighs_less, weighs_given, weighs_led, weighs_column, weighs_then, weighs_via, weighs_signed, weighs_flag, weighs_rows}
use Rattle.snapshot.specs.Snapshot.{snapshot_most}
use Rattle.snapshot.specs.Layout.{settings, totals, purse, account, invoice, terms, offer, round, negotiation, kept, schedule, deal, fields, layout}

weighs_settings : (e : ℕ) → Weighs (settings e) 66
unfolding settings
weighs_settings e = weighs_via _ _ _ (weighs_then (weighs_column _ _) (weighs_then (weighs_column _ _) (weighs_then (weighs_column _ _) (weighs_then (weighs_flag _) (weighs_then (weighs_flag _) (weighs_column _ _))))))

weighs_totals : Weighs totals 44
unfolding totals
weighs_totals = weighs_via _ _ _ (weighs_then (weighs_column _ _) (weighs_then (weighs_signed _) (weighs_then (weighs_signed _) (weighs_signed _))))

weighs_purse : Weighs purse 44
unfolding purse
weighs_purse = weighs_via _ _ _ (weighs_then (weighs_signed _) (weighs_then (weighs_signed _) (weighs_then (weighs_signed _) (weighs_signed _))))

weighs_account : Weighs account 88
unfolding account
weighs_account = weighs_via _ _ _ (weighs_then (weighs_column _ _) (weighs_then weighs_purse (weighs_then (weighs_column _ _) (weighs_then (weighs_column _ _) (weighs_flag _)))))

weighs_invoice : Weighs invoice 44
unfolding invoice
weighs_invoice = weighs_via _ _ _ (weighs_then (weighs_column _ _) (weighs_then (weighs_column _ _) (weighs_then (weighs_signed _) (weighs_column _ _))))

weighs_terms : Weighs terms 33
unfolding terms
weighs_terms = weighs_via _ _ _ (weighs_then (weighs_signed _) (weighs_then (weighs_column _ _) (weighs_column _ _)))

weighs_offer : Weighs offer 99
unfolding offer
weighs_offer = weighs_via _ _ _ (weighs_then (weighs_column _ _) (weighs_then (weighs_column _ _) (weighs_then weighs_terms (weighs_then (weighs_column _ _) (weighs_then (weighs_column _ _) (weighs_then (weighs_column _ _) (weighs_signed _)))))))

weighs_round : Weighs round 55
unfolding round
weighs_round = weighs_via _ _ _ (weighs_then (weighs_column _ _) (weighs_then weighs_terms (weighs_column _ _)))

-- in no edition more than all the places for rounds
weighs_rounds : (e : ℕ) → Weighs (rows 0x97 (round_limit e) round) 891
weighs_rounds e = weighs_less (weighs_rows weighs_round 0x97 (round_limit e)) (omega (arith, limit_in_slots e))

weighs_negotiation : (e : ℕ) → Weighs (negotiation e) 913
unfolding negotiation
weighs_negotiation e = weighs_via _ _ _ (weighs_then (weighs_column _ _) (weighs_then (weighs_column _ _) (weighs_rounds e)))

weighs_kept : (e : ℕ) → Weighs (kept e) 33
unfolding kept
weighs_kept e = weighs_given _ _ (weighs_then (weighs_signed _) (weighs_then (weighs_column _ _) (weighs_column _ _)))

weighs_schedule : (e : ℕ) → Weighs (schedule e) 77
unfolding schedule
weighs_schedule e = weighs_via _ _ _ (weighs_then (weighs_column _ _) (weighs_then (weighs_column _ _) (weighs_then (weighs_signed _) (weighs_then (weighs_column _ _) (weighs_kept e)))))

weighs_deal : (e : ℕ) → Weighs (deal e) 1100
unfolding deal
weighs_deal e = weighs_via _ _ _ (weighs_then (weighs_column _ _) (weighs_then weighs_offer (weighs_then (weighs_negotiation e) (weighs_schedule e))))

weighs_fields : (e : ℕ) → Weighs (fields e) 78991
unfolding fields
weighs_fields e = weighs_via _ _ _ (weighs_then (weighs_settings e) (weighs_then weighs_totals (weighs_then (weighs_rows weighs_account _ _) (weighs_then (weighs_rows weighs_invoice _ _) (weighs_rows (weighs_deal e) _ _)))))

pub weighs_layout : Weighs layout snapshot_most
unfolding layout
weighs_layout = weighs_led _ _ _ _ _ weighs_fields
