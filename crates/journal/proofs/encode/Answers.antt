use Rattle.journal.specs.WriteLaws.{command_parts}
use Rattle.journal.proofs.encode.Goals as goal

pub returns : goal.returns
returns c = rw (command_parts c.args.edition c.args.c c.split-tag.ensures) at c.encode_parts.ensures
