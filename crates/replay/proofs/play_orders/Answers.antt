-- The two parts of the trace are lent, and the front of the answers. Assumes nothing.
use Rattle.std.proofs.Common.{◌+◌, ◌*◌, rules}
use lib.Seq.{length-take-le}
use borrow.Author.Rules.{part_to_end}
use Rattle.replay.proofs.Playing.{parts_played}
use Rattle.replay.proofs.play_orders.Goals as goal

pub returns-clause-answers : goal.returns-clause-answers
returns-clause-answers c =
    let a = c.args in
    parts_played a.shape a.orders a.answers.now (part_to_end a.trace.now 16) (part_to_end a.trace.now (16 + 8 * a.orders))
    c.new-machine.ensures (length-take-le _ _ (search rules)) _ c.run_orders.ensures.answers
