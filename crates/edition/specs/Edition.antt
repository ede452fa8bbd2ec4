-- What each edition of the rules has beside all that the earlier ones have (document 02). Every other definition asks here, and none compares an edition's number itself.
use Rattle.std.specs.Prelude.{ℕ, Bool, ◌&&◌, cond, leb}

-- document 01's edition, and the latest that there is
abbrev pub first_edition : ℕ
first_edition = 1

abbrev pub latest_edition : ℕ
latest_edition = 5

unfoldable pub listed : ℕ → Bool
listed e = leb first_edition e && leb e latest_edition

-- from edition 2 on (b): amend and counter hold the amount to the invoice's, as create does in each
unfoldable pub holds_amount : ℕ → Bool
holds_amount e = leb 2 e

-- the window of a fresh book, shorter from edition 3 on (e)
unfoldable pub fresh_window : ℕ → ℕ
fresh_window e = cond (leb 3 e) 259200 604800

-- how many rounds an offer gets at most: more from edition 4 on (f)
unfoldable pub round_limit : ℕ → ℕ
round_limit e = cond (leb 4 e) 16 12

-- from edition 5 on (i, j): a schedule keeps the offer's terms, so that its installments leave no rest, and is of one of two kinds
unfoldable pub keeps_terms : ℕ → Bool
keeps_terms e = leb 5 e

-- the edition of a snapshot that names none: it is from before its field was there (f)
abbrev pub unnamed_edition : ℕ
unnamed_edition = 3
