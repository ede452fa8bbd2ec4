use Rattle.replay.proofs.Room.{at_once}
use Rattle.replay.specs.Shown.{no_space, in_space}
use native.Mathlib.Omega.{arith}
use borrow.Author.Rules.{rules}
use Rattle.replay.proofs.list.Statement.{statement}
use Rattle.replay.proofs.list.Tie as tie

returns : tie.Need-returns-then-out-s
returns c = at_once _ c.requires.1 c.walk-all.ensures.1 (omega arith) c.if-out-ge-ROOM.true c.if-out-s.true-raw (omega arith)

returns-2 : tie.Need-returns-then-p
returns-2 c = no_space c.walk-dry.ensures.1 c.if-p.true

returns-3 : tie.Need-returns
returns-3 c = in_space c.walk-dry.ensures.1 c.if-p.false c.walk-wet.ensures.1

pub list_spec : {M : Type 1} → statement M
list_spec =
    tie.close
    (tie.spec (λ c. search rules) (λ c κs. search rules) (λ c. search rules) returns (λ c κs. search rules) (λ c. search rules) returns-2 (λ c κs. search rules) (λ c. search rules) returns-3)
