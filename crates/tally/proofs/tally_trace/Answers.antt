-- Refused, or tallied from zeros. Assumes nothing.
use Rattle.std.proofs.Common.{length, arith, ◌∙◌}
use Rattle.replay.proofs.Refusing.{whole, whole_is}
use Rattle.tally.proofs.Counting.{zero_row, tally_counted}
use Rattle.tally.proofs.tally_trace.Goals as goal

pub shape_in-shape-requires : goal.shape_in-shape-requires
shape_in-shape-requires c = omega (arith, (whole _ c.in_ok-trace_refusal.ensures).fits)

pub orders_in-orders-requires : goal.orders_in-orders-requires
orders_in-orders-requires c = omega (arith, (whole _ c.in_ok-trace_refusal.ensures).fits)

pub tally_orders-requires : goal.tally_orders-requires
tally_orders-requires c =
    let w = whole_is _ c.in_ok-trace_refusal.ensures c.shape_in-shape.ensures c.orders_in-orders.ensures.0 in
    record { range = w.0; ends = w.1.0; whole = w.1.1; sized = c.clear_bytes.auto.table ∙ c.requires }

pub returns : goal.returns
returns c =
    let w = whole_is _ c.in_ok-trace_refusal.ensures c.shape_in-shape.ensures c.orders_in-orders.ensures.0 in
    let y = tally_counted _ c.in_ok-trace_refusal.ensures c.shape_in-shape.ensures c.orders_in-orders.ensures.0 w.1.1.0
    (zero_row {n = length c.args.row.now} c.clear_bytes.ensures c.requires) c.tally_orders.ensures in
    record { refusal = c.in_ok-trace_refusal.ensures; totals = y.0; bounded = y.1 }
