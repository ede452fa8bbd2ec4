-- The commands by the names that document 01 gives them, and the questions by names of the same kind.
use Rattle.std.specs.Prelude.{Bool, ◌&&◌, List, [], ◌∷◌, ℕ, eqb, leb, ltb}
use Rattle.refusal.specs.Choice.{pick}

-- the tag of a command or of a question, and its name as bytes
pub record Name : Type 0 where
  pub tag : ℕ
  pub word : List ℕ

abbrev name : ℕ → List ℕ → Name
name t w = record { tag = t; word = w }

abbrev pub commands : List Name
commands =
    name 0x21 (111 ∷ 112 ∷ 101 ∷ 110 ∷ 45 ∷ 97 ∷ 99 ∷ 99 ∷ 111 ∷ 117 ∷ 110 ∷ 116 ∷ [])  -- open-account
    ∷ name 0x22 (100 ∷ 101 ∷ 112 ∷ 111 ∷ 115 ∷ 105 ∷ 116 ∷ [])  -- deposit
    ∷ name 0x23 (112 ∷ 97 ∷ 121 ∷ 111 ∷ 117 ∷ 116 ∷ [])  -- payout
    ∷ name 0x24 (97 ∷ 112 ∷ 112 ∷ 114 ∷ 111 ∷ 118 ∷ 101 ∷ [])  -- approve
    ∷ name 0x25 (114 ∷ 101 ∷ 103 ∷ 105 ∷ 115 ∷ 116 ∷ 101 ∷ 114 ∷ [])  -- register
    ∷ name 0x26 (99 ∷ 97 ∷ 110 ∷ 99 ∷ 101 ∷ 108 ∷ [])  -- cancel
    ∷ name 0x31 (99 ∷ 114 ∷ 101 ∷ 97 ∷ 116 ∷ 101 ∷ [])  -- create
    ∷ name 0x32 (119 ∷ 105 ∷ 116 ∷ 104 ∷ 100 ∷ 114 ∷ 97 ∷ 119 ∷ [])  -- withdraw
    ∷ name 0x33 (97 ∷ 99 ∷ 99 ∷ 101 ∷ 112 ∷ 116 ∷ [])  -- accept
    ∷ name 0x34 (114 ∷ 101 ∷ 106 ∷ 101 ∷ 99 ∷ 116 ∷ [])  -- reject
    ∷ name 0x35 (97 ∷ 109 ∷ 101 ∷ 110 ∷ 100 ∷ [])  -- amend
    ∷ name 0x36 (99 ∷ 111 ∷ 117 ∷ 110 ∷ 116 ∷ 101 ∷ 114 ∷ [])  -- counter
    ∷ name 0x37 (99 ∷ 108 ∷ 111 ∷ 115 ∷ 101 ∷ [])  -- close
    ∷ name 0x38 (115 ∷ 99 ∷ 104 ∷ 101 ∷ 100 ∷ 117 ∷ 108 ∷ 101 ∷ [])  -- schedule
    ∷ name 0x41 (115 ∷ 116 ∷ 97 ∷ 116 ∷ 117 ∷ 115 ∷ [])  -- status
    ∷ name 0x42 (114 ∷ 101 ∷ 112 ∷ 97 ∷ 105 ∷ 100 ∷ [])  -- repaid
    ∷ name 0x43 (108 ∷ 101 ∷ 110 ∷ 100 ∷ 101 ∷ 114 ∷ 45 ∷ 114 ∷ 101 ∷ 112 ∷ 97 ∷ 105 ∷ 100 ∷ [])  -- lender-repaid
    ∷ name 0x44 (116 ∷ 111 ∷ 116 ∷ 97 ∷ 108 ∷ 115 ∷ 45 ∷ 114 ∷ 101 ∷ 112 ∷ 97 ∷ 105 ∷ 100 ∷ [])  -- totals-repaid
    ∷ name 0x51 (112 ∷ 97 ∷ 117 ∷ 115 ∷ 101 ∷ [])  -- pause
    ∷ name 0x52 (117 ∷ 110 ∷ 112 ∷ 97 ∷ 117 ∷ 115 ∷ 101 ∷ [])  -- unpause
    ∷ name 0x53 (119 ∷ 105 ∷ 110 ∷ 100 ∷ 111 ∷ 119 ∷ [])  -- window
    ∷ name 0x54 (114 ∷ 101 ∷ 112 ∷ 97 ∷ 121 ∷ 109 ∷ 101 ∷ 110 ∷ 116 ∷ 45 ∷ 97 ∷ 99 ∷ 99 ∷ 111 ∷ 117 ∷ 110 ∷ 116 ∷ [])  -- repayment-account
    ∷ name 0x55 (98 ∷ 108 ∷ 97 ∷ 99 ∷ 107 ∷ 108 ∷ 105 ∷ 115 ∷ 116 ∷ [])  -- blacklist
    ∷ name 0x56 (115 ∷ 101 ∷ 97 ∷ 116 ∷ 115 ∷ [])  -- seats
    ∷ []

-- of two names of which one begins the other the longer stands first
abbrev pub questions : List Name
questions =
    name 0x61 (111 ∷ 102 ∷ 102 ∷ 101 ∷ 114 ∷ 115 ∷ 45 ∷ 98 ∷ 121 ∷ 45 ∷ 105 ∷ 110 ∷ 118 ∷ 111 ∷ 105 ∷ 99 ∷ 101 ∷ [])  -- offers-by-invoice
    ∷ name 0x62 (111 ∷ 102 ∷ 102 ∷ 101 ∷ 114 ∷ 115 ∷ 45 ∷ 98 ∷ 121 ∷ 45 ∷ 108 ∷ 101 ∷ 110 ∷ 100 ∷ 101 ∷ 114 ∷ [])  -- offers-by-lender
    ∷ name 0x63 (111 ∷ 102 ∷ 102 ∷ 101 ∷ 114 ∷ 115 ∷ 45 ∷ 98 ∷ 121 ∷ 45 ∷ 115 ∷ 116 ∷ 97 ∷ 116 ∷ 117 ∷ 115 ∷ [])  -- offers-by-status
    ∷ name 0x64 (112 ∷ 101 ∷ 110 ∷ 100 ∷ 105 ∷ 110 ∷ 103 ∷ 45 ∷ 111 ∷ 102 ∷ 102 ∷ 101 ∷ 114 ∷ 115 ∷ [])  -- pending-offers
    ∷ name 0x65 (97 ∷ 108 ∷ 108 ∷ 45 ∷ 111 ∷ 102 ∷ 102 ∷ 101 ∷ 114 ∷ 115 ∷ [])  -- all-offers
    ∷ name 0x66 (112 ∷ 97 ∷ 103 ∷ 101 ∷ [])  -- page
    ∷ name 0x71 (111 ∷ 102 ∷ 102 ∷ 101 ∷ 114 ∷ [])  -- offer
    ∷ name 0x72 (97 ∷ 99 ∷ 99 ∷ 111 ∷ 117 ∷ 110 ∷ 116 ∷ [])  -- account
    ∷ name 0x73 (108 ∷ 101 ∷ 110 ∷ 100 ∷ 101 ∷ 114 ∷ [])  -- lender
    ∷ name 0x74 (115 ∷ 99 ∷ 104 ∷ 101 ∷ 100 ∷ 117 ∷ 108 ∷ 101 ∷ [])  -- schedule
    ∷ name 0x76 (110 ∷ 101 ∷ 103 ∷ 111 ∷ 116 ∷ 105 ∷ 97 ∷ 116 ∷ 105 ∷ 111 ∷ 110 ∷ 45 ∷ 115 ∷ 116 ∷ 97 ∷ 116 ∷ 117 ∷ 115 ∷ [])  -- negotiation-status
    ∷ name 0x77 (100 ∷ 117 ∷ 101 ∷ [])  -- due
    ∷ name 0x78 (99 ∷ 111 ∷ 117 ∷ 110 ∷ 116 ∷ [])  -- count
    ∷ name 0x79 (119 ∷ 105 ∷ 110 ∷ 100 ∷ 111 ∷ 119 ∷ [])  -- window
    ∷ name 0x7A (115 ∷ 101 ∷ 97 ∷ 116 ∷ 115 ∷ [])  -- seats
    ∷ name 0x7B (116 ∷ 104 ∷ 114 ∷ 101 ∷ 115 ∷ 104 ∷ 111 ∷ 108 ∷ 100 ∷ [])  -- threshold
    ∷ name 0x7C (112 ∷ 97 ∷ 117 ∷ 115 ∷ 101 ∷ 100 ∷ [])  -- paused
    ∷ name 0x7D (116 ∷ 111 ∷ 116 ∷ 97 ∷ 108 ∷ 115 ∷ [])  -- totals
    ∷ name 0x7E (97 ∷ 99 ∷ 116 ∷ 105 ∷ 118 ∷ 101 ∷ [])  -- active
    ∷ name 0x7F (110 ∷ 101 ∷ 103 ∷ 111 ∷ 116 ∷ 105 ∷ 97 ∷ 116 ∷ 105 ∷ 111 ∷ 110 ∷ [])  -- negotiation
    ∷ []

-- a text's first line names its edition, as a journal's first field does
abbrev pub others : List Name
others = name 0x10 (101 ∷ 100 ∷ 105 ∷ 116 ∷ 105 ∷ 111 ∷ 110 ∷ []) ∷ questions  -- edition

-- the name of a tag, and none for a tag that the list has not
unfoldable pub word_in : List Name → ℕ → List ℕ
word_in [] t = []
word_in (n ∷ ns) t = pick (eqb t n.tag) n.word (word_in ns t)

-- the commands' tags lie above the edition's, and the questions' above them
abbrev pub is_command : ℕ → Bool
is_command t = leb 0x20 t && ltb t 0x60

unfoldable pub word_of : ℕ → List ℕ
word_of t = pick (is_command t) (word_in commands t) (word_in others t)
