-- A number read at its place. Assumes nothing.
use Rattle.std.proofs.Common.{sym, ◌∙◌}
use Rattle.endian.proofs.Little.{get-numbers}
use Rattle.counters.specs.Totals.{places}
use Rattle.counters.proofs.lent.total_at.Goals as goal

pub returns : goal.returns
returns c = c.read.ensures.0 ∙ sym (get-numbers 8 places c.args.k c.args.lent.now c.requires.1)
