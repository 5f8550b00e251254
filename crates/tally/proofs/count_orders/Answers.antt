-- Order after order is counted. Assumes nothing.
use Rattle.tally.proofs.Counting.{tallying_more, tallying_done}
use Rattle.tally.proofs.count_orders.Goals as goal

pub loop-k-preserved : goal.loop-k-preserved
loop-k-preserved c =
    let e = c.count_order.ensures in
    tallying_more _ _ _ c.loop-k.invariant c.loop-k-test.true c.order_at-word.ensures c.count_order.new.row
    e.shape e.model_after e.row_after c.count_order.auto.row

pub returns : goal.returns
returns c = tallying_done _ _ _ c.loop-k.invariant c.loop-k-test.false
