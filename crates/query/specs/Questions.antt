-- Many questions of one book: each has a code and two arguments, an id and a time, and its reply is the one that the single query gives.
use Rattle.std.specs.Prelude.{ℕ, zero, suc, ◌*◌, true, Result, List, [], ◌∷◌, length, eqb, ltb, ◌≡◌}
use Rattle.refusal.specs.Choice.{pick}
use Rattle.refusal.specs.declared.Refusal.{Refusal}
use Rattle.refusal.specs.Refusal.{◌gives◌, invalid_input, buffer_short}
use Rattle.refusal.specs.Rule.{Rule, sure, answered}
use Rattle.refusal.specs.Placed.{placed}
use Rattle.money.specs.Range.{bits_of}
use Rattle.account.specs.declared.Account.{Account}
use Rattle.account.specs.Seen.{SeenAccount}
use Rattle.offer.specs.Seen.{SeenDeal}
use Rattle.totals.specs.declared.Totals.{Totals}
use Rattle.settings.specs.declared.Settings.{Settings}
use Rattle.lists.specs.Listing.{Reply, reply_of, one_value, told}
use Rattle.lists.specs.Taking.{spread}
use Rattle.rules.specs.Model.{Model, account_in, offer_in}
use Rattle.book.specs.declared.Book.{Book}
use Rattle.query.specs.Reads.{on_sound, reply, offer_read, lender_read, schedule_read, deadline_read, status_read, due_read, count_read, window_read, seats_read, threshold_read, pause_read, totals_read}

-- an account's purse, zeros where it is unopened: balance, allowance, offered total, accepted total
abbrev pub purse_order : Account → List ℕ
purse_order a = bits_of a.purse.balance ∷ bits_of a.purse.allowance ∷ bits_of a.purse.offered ∷ bits_of a.purse.accepted ∷ []

abbrev pub account_read : ℕ → Model → Rule (List ℕ)
account_read a m = sure (purse_order (account_in m a).row)

-- ── The codes ──
-- a code, and the query that it asks of an id and a time
pub record Question : Type 0 where
  pub code : ℕ
  pub read : ℕ → ℕ → Model → Rule (List ℕ)

abbrev asks : ℕ → (ℕ → ℕ → Model → Rule (List ℕ)) → Question
asks n q = record { code = n; read = q }

abbrev pub questions : List Question
questions =
    asks 1 (λ id now. offer_read id)
    ∷ asks 2 (λ id now. account_read id)
    ∷ asks 3 (λ id now. lender_read id)
    ∷ asks 4 (λ id now. schedule_read id)
    ∷ asks 5 (λ id now. deadline_read id)
    ∷ asks 6 (λ id now. status_read now id)
    ∷ asks 7 (λ id now. due_read now id)
    ∷ asks 8 (λ id now. count_read)
    ∷ asks 9 (λ id now. window_read)
    ∷ asks 10 (λ id now. seats_read)
    ∷ asks 11 (λ id now. threshold_read)
    ∷ asks 12 (λ id now. pause_read)
    ∷ asks 13 (λ id now. totals_read)
    ∷ []

-- no other code is a question: 3
abbrev pub unlisted : Rule (List ℕ)
unlisted = record { checks = (true gives invalid_input) ∷ []; done = [] }

unfoldable pub read_in : List Question → ℕ → ℕ → ℕ → Model → Rule (List ℕ)
read_in [] code id now m = unlisted
read_in (q ∷ qs) code id now m = pick (eqb code q.code) (q.read id now m) (read_in qs code id now m)

unfoldable pub read_of : ℕ → ℕ → ℕ → Model → Rule (List ℕ)
read_of code id now m = read_in questions code id now m

-- the number and the values
abbrev pub reply_to : ℕ → ℕ → ℕ → Model → Reply
reply_to code id now m = answered reply [] (read_of code id now m)

-- ── The buffers ──
-- n numbers, zeros after those that there are
abbrev pub widened : ℕ → List ℕ → List ℕ
widened zero l = []
widened (suc n) [] = 0 ∷ widened n []
widened (suc n) (v ∷ l) = v ∷ widened n l

-- an answer's number, how many values follow, and ten places for them
abbrev pub twelve : Reply → List ℕ
twelve r = r.0 ∷ length r.1 ∷ widened 10 r.1

-- three words are a question, fewer are none
abbrev pub Asking : Type 0
Asking = ℕ × (ℕ × ℕ)

unfoldable pub threes : List ℕ → List Asking
threes [] = []
threes (code ∷ []) = []
threes (code ∷ id ∷ []) = []
threes (code ∷ id ∷ now ∷ l) = (code, (id, now)) ∷ threes l

abbrev pub words_to : Model → Asking → List ℕ
words_to m q = twelve (reply_to q.0 q.1.0 q.1.1 m)

-- the buffer with the answers laid over its start
unfoldable pub replied : List Asking → Model → List ℕ → List ℕ
replied t m l = placed 0 (spread (words_to m) t) l

-- too short 14; else how many, and the buffer
abbrev pub answers_rule : List Asking → Model → List ℕ → Rule (List ℕ × List ℕ)
answers_rule t m l = record {
  checks = (ltb (length l) (12 * length t) gives buffer_short) ∷ [];
  done = (length t ∷ [], replied t m l);
}

-- the answer to a call, and the buffer after it
abbrev pub answers_read : Book → List ℕ → List ℕ → Reply × List ℕ
answers_read b words l = answered told ([], l) (on_sound b (λ m. answers_rule (threes words) m l))

abbrev pub answered_says : Result ℕ Refusal → Reply
answered_says r = reply_of one_value r

-- ── What is seen of a book for one question ──
pub record Shows (m : Model) (id : ℕ) (deal : SeenDeal) (account : SeenAccount) (totals : Totals) (settings : Settings) (count : ℕ) : Type 0 where
  pub deal_seen : deal ≡ offer_in m id
  pub account_seen : account ≡ account_in m id
  pub totals_seen : totals ≡ m.totals
  pub settings_seen : settings ≡ m.settings
  pub counted : count ≡ length m.offers

-- whatever book shows this, the words are the reply that it gives
abbrev pub Replies : ℕ → ℕ → ℕ → SeenDeal → SeenAccount → Totals → Settings → ℕ → List ℕ → Type 0
Replies code id now deal account totals settings count words =
    (m : Model) → Shows m id deal account totals settings count → words ≡ twelve (reply_to code id now m)
