-- The memory of a book: as many bytes as its types take where compiled code lays them out (document 02, f: within 64 KiB).
use Rattle.std.specs.Prelude.{ℕ, ◌≤◌, ◌≡◌, refl, [], ◌∷◌, map}
use Rattle.std.proofs.Common.{arith}
use prog.Memory.{size}
use Rattle.negotiation.specs.contracts.Negotiation as negotiation
use Rattle.book.specs.contracts.Book as book
use Rattle.account.specs.contracts.Account as account
use Rattle.invoice.specs.contracts.Invoice as invoice
use Rattle.offer.specs.contracts.Offer as offer
use Rattle.terms.specs.contracts.Schedule as schedule

abbrev pub book_bytes : ℕ
book_bytes = 47192

pub negotiation_bytes : map size (negotiation.the_row).mir ≡ 528 ∷ []
negotiation_bytes = refl

pub book_bytes_lem : map size (book.the_row).mir ≡ book_bytes ∷ []
book_bytes_lem = refl

pub book_room : book_bytes ≤ 65536
book_room = omega arith
