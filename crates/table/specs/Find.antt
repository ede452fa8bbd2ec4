-- Where an id stands among ids that rise: the range is halved, by a look at the id in its middle, until it is empty.
use Rattle.std.specs.Prelude.{ℕ, zero, suc, ◌+◌, ◌-◌, ◌/◌, cond, ◌&&◌, List, length, get_or, ltb, eqb}
use Rattle.std.specs.Prelude.{Result}
use Rattle.std.specs.Prelude.{Ok, Err}

-- how often n can be halved before nothing is left: the least k with n < 2^k (`least_halvings`); at most b times
unfoldable pub halvings_by : ℕ → ℕ → ℕ
halvings_by zero n = 0
halvings_by (suc b) n = cond (eqb n 0) 0 (suc (halvings_by b (n / 2)))

abbrev pub halvings : ℕ → ℕ
halvings n = halvings_by n n

abbrev pub middle : ℕ → ℕ → ℕ
middle lo hi = lo + (hi - lo) / 2

-- the place in the range from lo to hi before which ids are below `id`, after at most k looks
unfoldable pub place_by : ℕ → List ℕ → ℕ → ℕ → ℕ → ℕ
place_by zero xs id lo hi = lo
place_by (suc k) xs id lo hi =
    cond (ltb lo hi) (cond (ltb (get_or xs (middle lo hi) 0) id) (place_by k xs id (middle lo hi + 1) hi) (place_by k xs id lo (middle lo hi))) lo

unfoldable pub place_in : List ℕ → ℕ → ℕ
place_in xs id = place_by (halvings (length xs)) xs id 0 (length xs)

-- Ok that place where `id` stands there, else Err: there it would be let in
unfoldable pub find_in : List ℕ → ℕ → Result ℕ ℕ
find_in xs id = cond (ltb (place_in xs id) (length xs) && eqb (get_or xs (place_in xs id) 0) id) (Ok (place_in xs id)) (Err (place_in xs id))
