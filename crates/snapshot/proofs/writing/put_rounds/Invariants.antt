use Rattle.std.proofs.Common.{◌≤◌, take}
use Rattle.codec.specs.Puts.{Listing}
use Rattle.snapshot.specs.Layout.{round}
use Rattle.snapshot.proofs.writing.put_rounds.Given as goal

abbrev pub invariant-loop-i : goal.invariant-loop-i
invariant-loop-i l = record { few : l.n ≤ 16; listing : Listing round l.ink (take l.i l.list) l.initial.out l.initial.p l.out l.p }
