use Rattle.std.proofs.Common.{arith, rules, ◌≡◌, refl, sym, ap, ◌∙◌, ℕ, ℤ, pos, Bool, true, false, cond, List, [], ◌∷◌, ◌++◌, Result, Ok, Err, Fits, w32}
use Rattle.std.proofs.lemmas.Bool.{not-false}
use Rattle.money.specs.Range.{is_zero}
use Rattle.money.specs.Facts.{back}
use Rattle.refusal.specs.declared.Refusal.{Refusal}
use Rattle.refusal.specs.Refusal.{Check, invalid_input, ◌gives◌}
use Rattle.refusal.specs.Rule.{verdict, passing, outcome, then_of}
use Rattle.refusal.specs.Returned.{verdict_append, verdict_first}
use Rattle.refusal.specs.RuleLaws.{passed}
use Rattle.edition.specs.Edition.{keeps_terms}
use Rattle.terms.specs.Kind.{kind_listed}
use Rattle.terms.specs.Installment.{installment_of, none_to_pay}
use Rattle.terms.specs.Laws.{listed_le, none_is}
use Rattle.invoice.specs.Seen.{SeenInvoice}
use Rattle.offer.specs.declared.Deal.{Deal}
use Rattle.offer.specs.Seen.{SeenDeal}
use Rattle.offer.specs.Rules.{schedule_checks, schedule_of}
use Rattle.offer.proofs.schedule.Goals as goal

module _ (e : ℕ) (s : SeenDeal) (now caller count code first kind : ℕ) (paper : SeenInvoice) where
  abbrev checked : List Check
  checked = schedule_checks e s now caller count code first kind paper

  abbrev made : Deal
  made = (schedule_of e s now caller count code first kind paper).done

  abbrev last : List Check
  last = (none_to_pay s.row.offer.terms kind count gives invalid_input) ∷ []

  refused : {r : Refusal} → passing checked ≡ Err r → Err r ≡ outcome (schedule_of e s now caller count code first kind paper)
  refused h = sym (verdict_append checked last tt made ∙ ap (λ z. then_of z (λ _. verdict last made)) h)

  passes : passing checked ≡ Ok tt → outcome (schedule_of e s now caller count code first kind paper) ≡ verdict last made
  passes h = verdict_append checked last tt made ∙ ap (λ z. then_of z (λ _. verdict last made)) h

  fits : passing checked ≡ Ok tt → Fits w32 kind
  fits h =
      let q = passed _ _ _ (passed _ _ _ (verdict_first checked tt h)).1 in
      record { fits = omega (arith, listed_le (keeps_terms e) kind (not-false (kind_listed (keeps_terms e) kind) q.0)) }

  tested : (b : Bool) → passing checked ≡ Ok tt → is_zero (installment_of s.row.offer.terms kind count).1 ≡ b → cond b (Err invalid_input) (Ok made) ≡ outcome (schedule_of e s now caller count code first kind paper)
  tested b h q = sym (passes h ∙ ap (λ t. cond t (Err invalid_input) (Ok made)) (none_is s.row.offer.terms kind count ∙ q))

pub returns-in_err-schedule_checks : goal.returns-in_err-schedule_checks
returns-in_err-schedule_checks c =
    let a = c.args in
    let d : c.from_residual.result ≡ Err c.in_err-schedule_checks.field-0.0 = search rules in
    d ∙ refused a.edition a.seen a.now a.caller a.count a.code a.first a.kind a.paper (sym c.schedule_checks.ensures ∙ c.in_err-schedule_checks.was)

pub overflow_cast-listed : goal.overflow_cast-listed
overflow_cast-listed c =
    let a = c.args in
    fits a.edition a.seen a.now a.caller a.count a.code a.first a.kind a.paper (sym c.schedule_checks.ensures ∙ c.in_ok-schedule_checks.was)

pub returns-then-is_zero : goal.returns-then-is_zero
returns-then-is_zero c =
    let a = c.args in
    let x : c.in-Some.installment ≡ (installment_of a.seen.row.offer.terms a.kind a.count).1 = ap (λ (q : ℕ × ℤ). q.1) c.in-Some.ensures in
    tested a.edition a.seen a.now a.caller a.count a.code a.first a.kind a.paper true (sym c.schedule_checks.ensures ∙ c.in_ok-schedule_checks.was)
    (sym (simp (back c.in-Some.installment (search rules)) at c.is_zero.ensures ∙ ap is_zero x) ∙ c.if-is_zero.true)

pub returns : goal.returns
returns c =
    let a = c.args in
    let x : c.in-Some.installment ≡ (installment_of a.seen.row.offer.terms a.kind a.count).1 = ap (λ (q : ℕ × ℤ). q.1) c.in-Some.ensures in
    let y = back c.in-Some.installment (search rules) ∙ x in
    let d : ◌≡◌ {A = Result Deal Refusal} (Ok record { offer = a.seen.row.offer; negotiation = a.seen.row.negotiation; schedule = c.made-row.result }) (Ok (made a.edition a.seen a.now a.caller a.count a.code a.first a.kind a.paper)) =
    rw (c.made-row.ensures, c.keeps_terms-kept.ensures, y) in
    d
    ∙ tested a.edition a.seen a.now a.caller a.count a.code a.first a.kind a.paper false (sym c.schedule_checks.ensures ∙ c.in_ok-schedule_checks.was)
    (sym (simp (back c.in-Some.installment (search rules)) at c.is_zero.ensures ∙ ap is_zero x) ∙ c.if-is_zero.false)

pub returns-in_default : goal.returns-in_default
returns-in_default c =
    let a = c.args in
    let x : pos 0 ≡ (installment_of a.seen.row.offer.terms a.kind a.count).1 = ap (λ (q : ℕ × ℤ). q.1) c.in_default.ensures in
    tested a.edition a.seen a.now a.caller a.count a.code a.first a.kind a.paper true (sym c.schedule_checks.ensures ∙ c.in_ok-schedule_checks.was) (sym (ap is_zero x))
