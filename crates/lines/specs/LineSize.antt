-- How long the lines are: the numbers of a sound book and of a journal are below 2^64, an answer is below 100. Assumes nothing.
use Rattle.std.specs.Prelude.{◌≡◌, true, List, [], ◌∷◌, ℕ, ◌*◌, ◌≤◌, ◌<◌, ℤ, length}
use Rattle.std.proofs.Common.{arith, length-append}
use Rattle.money.specs.Range.{in_total, magnitude_of}
use Rattle.money.specs.Facts.{total_le, magnitude_is}
use Rattle.table.specs.Tables.{Table, keys}
use Rattle.table.specs.Sound.{All}
use Rattle.account.specs.declared.Account.{Account}
use Rattle.account.specs.Account.{account_sound}
use Rattle.account.proofs.Laws.{sound_ranges}
use Rattle.totals.specs.declared.Totals.{Totals}
use Rattle.totals.specs.Totals.{totals_sound}
use Rattle.totals.specs.Laws.{totals_ranges}
use Rattle.sheet.specs.Decimal.{spaced, numbers_of}
use Rattle.sheet.specs.Size.{decimal_most, decimal_two, Small, numbers_most}
use Rattle.lines.specs.Lines.{edition_word, account_word, totals_word, edition_line, answer_line, mark_line, account_line, account_lines, totals_line}

pub edition_most : (e : ℕ) → e < 100 → length (edition_line e) ≤ 11
unfolding edition_line numbers_of spaced
edition_most e h = simp length-append (omega (arith, decimal_two e h))

pub answer_most : (n answer : ℕ) → n < 18446744073709551616 → answer < 100 → length (answer_line n answer) ≤ 24
unfolding answer_line numbers_of spaced
answer_most n answer h k = simp length-append (omega (arith, decimal_most n h, decimal_two answer k))

pub mark_most : (n at : ℕ) → n < 18446744073709551616 → at < 18446744073709551616 → length (mark_line n at) ≤ 45
unfolding mark_line numbers_of spaced
mark_most n at h k = simp length-append (omega (arith, decimal_most n h, decimal_two 13 (omega arith), decimal_most at k))

total_small : (x : ℤ) → in_total x ≡ true → magnitude_of x < 18446744073709551616
total_small x e = omega (arith, magnitude_is 0 4000000000000000 x e, total_le x e)

pub account_most : (id : ℕ) (r : Account) → id < 18446744073709551616 → account_sound r ≡ true → length (account_line id r) ≤ 113
unfolding account_line
account_most id r h e =
    let k = sound_ranges e in
    let ns : List ℕ = id ∷ magnitude_of r.purse.balance ∷ magnitude_of r.purse.allowance ∷ magnitude_of r.purse.offered ∷ magnitude_of r.purse.accepted ∷ [] in
    let s : Small ns = (h, (total_small r.purse.balance k.balance_in, (total_small r.purse.allowance k.allowance_in, (total_small r.purse.offered k.offered_in, (total_small r.purse.accepted k.accepted_in, tt))))) in
    rw (length-append account_word) (omega (arith, numbers_most ns s))

pub accounts_most : (t : Table Account) → Small (keys t) → All (λ r. account_sound r ≡ true) t → length (account_lines t) ≤ 113 * length t
unfolding account_lines keys
accounts_most [] s a = omega arith
accounts_most (e ∷ t) s a = rw (length-append (account_line e.0 e.1)) (omega (arith, account_most e.0 e.1 s.0 a.0, accounts_most t s.1 a.1))

pub totals_most : (t : Totals) → totals_sound t ≡ true → length (totals_line t) ≤ 70
unfolding totals_line
totals_most t e =
    let k = totals_ranges e in
    let ns : List ℕ = magnitude_of t.financed ∷ magnitude_of t.repaid ∷ magnitude_of t.fees ∷ [] in
    let s : Small ns = (total_small t.financed k.financed_in, (total_small t.repaid k.repaid_in, (total_small t.fees k.fees_in, tt))) in
    rw (length-append totals_word) (omega (arith, numbers_most ns s))
