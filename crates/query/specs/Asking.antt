-- Questions in a row of words, three words each; and what the walk that answers them goes by. Assumes nothing.
use Rattle.std.specs.Prelude.{ℕ, zero, suc, ◌+◌, ◌*◌, ◌/◌, ◌≤◌, ◌<◌, ◌≡◌, refl, Bool, true, length, get_or}
use Rattle.std.proofs.Common.{arith, sym, ◌∙◌}
use Rattle.std.proofs.Math.Path.{ap}
use mathlib.Core.List.{List, [], ◌∷◌}
use Rattle.refusal.specs.Placed.{placed}
use Rattle.lists.specs.Taking.{pick_from, spread}
use Rattle.lists.specs.Written.{Wrote, write-start, write_length, write_done, write_room, write_on}
use Rattle.lists.specs.Listing.{Reply}
use Rattle.table.specs.Tables.{Table}
use Rattle.invoice.specs.declared.Invoice.{Invoice}
use Rattle.totals.specs.declared.Totals.{Totals}
use Rattle.settings.specs.declared.Settings.{Settings}
use Rattle.shelves.specs.declared.Accounts.{Accounts}
use Rattle.shelves.specs.declared.Offers.{Offers}
use Rattle.shelves.specs.Accounts.{accounts_of}
use Rattle.shelves.specs.Offers.{deals_of}
use Rattle.rules.specs.Model.{Model}
use Rattle.query.specs.Questions.{Asking, threes, widened, twelve, reply_to, words_to, replied}

abbrev none : Asking
none = (0, (0, 0))

-- ── Threes of words ──
three_low : (l : List ℕ) → 3 * length (threes l) ≤ length l
unfolding threes
three_low [] = omega arith
three_low (a ∷ []) = omega arith
three_low (a ∷ b ∷ []) = omega arith
three_low (a ∷ b ∷ c ∷ l) = omega (arith, three_low l)

three_high : (l : List ℕ) → length l < 3 * length (threes l) + 3
unfolding threes
three_high [] = omega arith
three_high (a ∷ []) = omega arith
three_high (a ∷ b ∷ []) = omega arith
three_high (a ∷ b ∷ c ∷ l) = omega (arith, three_high l)

pub length_threes : (l : List ℕ) → length l / 3 ≡ length (threes l)
length_threes l = omega (arith, three_low l, three_high l)

both : {a x b y c z : ℕ} → a ≡ x → b ≡ y → c ≡ z → ◌≡◌ {A = Asking} (a, (b, c)) (x, (y, z))
both {a} {x} {b} {y} {c} {z} p q r = cc

-- question i stands at the words from 3 i on
three_at : (l : List ℕ) (i : ℕ) → i < length (threes l) → get_or (threes l) i none ≡ (get_or l (3 * i) 0, (get_or l (3 * i + 1) 0, get_or l (3 * i + 2) 0))
unfolding threes
three_at [] i h = absurd (omega arith)
three_at (a ∷ []) i h = absurd (omega arith)
three_at (a ∷ b ∷ []) i h = absurd (omega arith)
three_at (a ∷ b ∷ c ∷ l) zero h = refl
three_at (a ∷ b ∷ c ∷ l) (suc i) h =
    let x : 3 * suc i ≡ suc (suc (suc (3 * i))) = omega arith in
    let y : 3 * suc i + 1 ≡ suc (suc (suc (3 * i + 1))) = omega arith in
    let z : 3 * suc i + 2 ≡ suc (suc (suc (3 * i + 2))) = omega arith in
    let w = a ∷ b ∷ c ∷ l in
    three_at l i (omega arith) ∙ both (ap (λ (n : ℕ). get_or w n 0) (sym x)) (ap (λ (n : ℕ). get_or w n 0) (sym y)) (ap (λ (n : ℕ). get_or w n 0) (sym z))

-- ── Every question is taken ──
abbrev pub every : ℕ → Asking → Bool
every i q = true

take_every : (k : ℕ) (t : List Asking) → pick_from every k t ≡ t
unfolding pick_from
take_every k [] = refl
take_every k (q ∷ t) = ap (λ (z : List Asking). q ∷ z) (take_every (suc k) t)

-- ── The answers ──
length_widened : (n : ℕ) (l : List ℕ) → length (widened n l) ≡ n
length_widened zero l = refl
length_widened (suc n) [] = ap suc (length_widened n [])
length_widened (suc n) (v ∷ l) = ap suc (length_widened n l)

pub twelve_long : (r : Reply) → length (twelve r) ≡ 12
twelve_long r = omega (arith, length_widened 10 r.1)

-- a book's model by its parts
abbrev pub model_by : Accounts → Table Invoice → Offers → Totals → Settings → Model
model_by a k o t s = record { accounts = accounts_of a; invoices = k; offers = deals_of o; totals = t; settings = s }

-- i questions are answered
pub record Replied (words : List ℕ) (m : Model) (l₀ : List ℕ) (i : ℕ) (l : List ℕ) : Type 0 where
  pub wrote : Wrote every (words_to m) (threes words) l₀ i i l

pub reply_start : (words : List ℕ) (m : Model) (l : List ℕ) → Replied words m l 0 l
reply_start words m l = record { wrote = write-start every (words_to m) (threes words) l }

module _ {words : List ℕ} {m : Model} {l₀ l : List ℕ} {i : ℕ} (w : Replied words m l₀ i l) (room : 12 * length (threes words) ≤ length l₀) where
  long : (q : Asking) → length (words_to m q) ≡ 12
  long q = twelve_long (reply_to q.0 q.1.0 q.1.1 m)

  enough : 12 * length (pick_from every 0 (threes words)) ≤ length l₀
  enough = rw (take_every 0 (threes words)) room

  pub reply_length : length l ≡ length l₀
  reply_length = write_length w.wrote 12 long enough

  pub reply_done : length words / 3 ≤ i → l ≡ replied (threes words) m l₀
  unfolding replied
  reply_done h =
      write_done w.wrote 12 long enough (omega (arith, length_threes words))
      ∙ ap (λ (t : List Asking). placed 0 (spread (words_to m) t) l₀) (take_every 0 (threes words))

  module _ (h : i < length words / 3) where
    inside : i < length (threes words)
    inside = omega (arith, length_threes words)

    pub reply_room : 12 * i + 12 ≤ length l
    reply_room = write_room w.wrote 12 long enough none inside refl

    pub reply_on : {a l' : List ℕ} → a ≡ twelve (reply_to (get_or words (3 * i) 0) (get_or words (3 * i + 1) 0) (get_or words (3 * i + 2) 0) m) → l' ≡ placed (12 * i) a l → Replied words m l₀ (i + 1) l'
    reply_on {a} {l'} e p = record {
      wrote = write_on w.wrote 12 long enough none inside refl l' (p ∙ ap (λ (z : List ℕ). placed (12 * i) z l) (e ∙ ap (words_to m) (sym (three_at words i inside))));
    }
