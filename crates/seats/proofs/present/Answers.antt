use Rattle.seats.specs.Seats.{present_of}
use Rattle.seats.specs.Counting.{masked}
use Rattle.seats.proofs.present.Goals as goal

pub returns : goal.returns
unfolding present_of
returns c = masked 32 c.args.presented c.args.configured c.ranges.configured.fits
