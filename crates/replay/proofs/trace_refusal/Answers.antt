-- The tests of a trace, in checking order. No answer names the test of the orders, which an edit changes. Assumes nothing.
use Rattle.replay.proofs.Refusing.{refused-short, refused_misfit, refused-range}
use Rattle.replay.proofs.trace_refusal.Goals as goal

pub returns-then-trace-lt16 : goal.returns-then-trace-lt16
returns-then-trace-lt16 c = refused-short _ c.if-trace-lt16.true

pub returns-then-trace-n : goal.returns-then-trace-n
returns-then-trace-n c = search refused_misfit

pub returns-then-not-is_in_range : goal.returns-then-not-is_in_range
returns-then-not-is_in_range c =
    rw c.if-not-is_in_range.true at (refused-range _ c.if-trace-lt16.false c.orders_in-n.ensures.0 (search)
    c.if-trace-n.false c.shape_in.ensures c.is_in_range.ensures)

pub returns : goal.returns
returns c =
    rw c.if-not-is_in_range.false at (refused-range _ c.if-trace-lt16.false c.orders_in-n.ensures.0 (search)
    c.if-trace-n.false c.shape_in.ensures c.is_in_range.ensures)
