-- The two parts of the trace are lent. Assumes nothing.
use Rattle.std.proofs.Common.{◌+◌, ◌*◌}
use borrow.Author.Rules.{part_to_end}
use Rattle.tally.proofs.Counting.{parts_tallied}
use Rattle.tally.proofs.tally_orders.Goals as goal

pub returns : goal.returns
returns c =
    let a = c.args in
    parts_tallied a.shape a.orders (part_to_end a.trace.now 16) (part_to_end a.trace.now (16 + 8 * a.orders)) c.new.ensures _
    c.count_orders.ensures
