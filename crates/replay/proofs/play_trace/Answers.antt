-- Refused, or played. Assumes nothing.
use Rattle.std.proofs.Common.{arith}
use Rattle.std.proofs.lemmas.Result.{err_from_is_err_and}
use Rattle.replay.proofs.Refusing.{whole, whole_is}
use Rattle.replay.proofs.Playing.{trace_refused, trace_played}
use Rattle.replay.proofs.play_trace.Goals as goal

pub returns-in_err-trace_refusal : goal.returns-in_err-trace_refusal
returns-in_err-trace_refusal c =
    let p = err_from_is_err_and c.from_residual.result c.from_residual.ensures.1 in
    let y = trace_refused _ c.args.answers.now _ c.in_err-trace_refusal.ensures in
    rw (p.1, p.2) (record { played = y.0; few = tt; answers = y.1 })

pub shape_in-shape-requires : goal.shape_in-shape-requires
shape_in-shape-requires c = omega (arith, (whole _ c.in_ok-trace_refusal.ensures).fits)

pub orders_in-orders-requires : goal.orders_in-orders-requires
orders_in-orders-requires c = omega (arith, (whole _ c.in_ok-trace_refusal.ensures).fits)

pub play_orders-passes-requires : goal.play_orders-passes-requires
play_orders-passes-requires c =
    let w = whole_is _ c.in_ok-trace_refusal.ensures c.shape_in-shape.ensures c.orders_in-orders.ensures.0 in
    record { range = w.0; ends = w.1.0; whole = w.1.1 }

pub returns : goal.returns
returns c =
    let e = c.play_orders-passes.ensures in
    let w = whole_is _ c.in_ok-trace_refusal.ensures c.shape_in-shape.ensures c.orders_in-orders.ensures.0 in
    let y = trace_played _ c.args.answers.now c.in_ok-trace_refusal.ensures c.shape_in-shape.ensures c.orders_in-orders.ensures.0 _
    e.passes e.answers in
    record { played = y.0; few = w.1.1.0; answers = y.1 }
