-- What a walk over a journal goes by: a command leads on, within the journal; a fault is at the place itself. Assumes nothing.
use Rattle.std.specs.Prelude.{◌≡◌, refl, ◌&&◌, List, [], ◌∷◌, ℕ, ◌+◌, ◌*◌, ◌≤◌, ◌<◌, length, get_or, drop, eqb, leb}
use Rattle.std.proofs.Common.{arith, leb-true, leb-false}
use Rattle.refusal.specs.ChoiceLaws.{either}
use Rattle.refusal.specs.Refusal.{number, journal_malformed}
use Rattle.wire.specs.Field.{begins}
use Rattle.wire.specs.FieldLaws.{and_left, begins_room}
use Rattle.journal.specs.Answers.{Reading, found, refused, ended, malformed}
use Rattle.journal.specs.Table.{Row, rows, fields_of, named, made_in, made}
use Rattle.journal.specs.Format.{well_in, numbers_in, zeros, record_at, read_at}
use Rattle.journal.specs.declared.reading.Values.{Values}

unfoldable pub Goes : List ℕ → ℕ → Reading → Type 0
Goes s at (found c next) = (at < next) × (next ≤ length s)
Goes s at (refused n p) = (n ≡ number journal_malformed) × ((p ≡ at) × (at < length s))
Goes s at ended = length s ≤ at

made_goes : (rs : List Row) (s : List ℕ) (at t : ℕ) (f : Values) (next : ℕ) → at < next → next ≤ length s → Goes s at (made_in rs t f at next)
unfolding made_in Goes
made_goes [] s at t f next h k = (refl, (refl, omega arith))
made_goes (r ∷ rs) s at t f next h k = either (Goes s at) (eqb t r.tag) (found (r.make f) next) (made_in rs t f at next) (λ e. (h, k)) (λ e. made_goes rs s at t f next h k)

record_goes : (e t : ℕ) (fs s : List ℕ) (at : ℕ) → at < length s → Goes s at (record_at e t fs (drop at s) at)
unfolding record_at made Goes
record_goes e t fs s at h =
    either (Goes s at) (begins t (11 * length fs) (drop at s) && well_in fs (drop 3 (drop at s))) (made e t (named (numbers_in zeros fs (drop 3 (drop at s)))) at (at + (3 + 11 * length fs))) (malformed at)
    (λ q. made_goes (rows e) s at t (named (numbers_in zeros fs (drop 3 (drop at s)))) (at + (3 + 11 * length fs)) (omega arith) (begins_room t (11 * length fs) at s (and_left (begins t (11 * length fs) (drop at s)) _ q)))
    (λ q. (refl, (refl, h)))

pub goes : (e : ℕ) (s : List ℕ) (at : ℕ) → Goes s at (read_at e s at)
unfolding read_at Goes
goes e s at =
    either (Goes s at) (leb (length s) at) ended (record_at e (get_or s at 0) (fields_of e (get_or s at 0)) (drop at s) at) (λ q. leb-true (length s) at q)
    (λ q. record_goes e (get_or s at 0) (fields_of e (get_or s at 0)) s at (leb-false (length s) at q))
