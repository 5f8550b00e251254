-- The one test. Assumes nothing.
use Rattle.tally.proofs.Counting.{rest_none, rest_some}
use Rattle.tally.proofs.rest_of.Goals as goal

pub returns-then-n-gt-MAX_ORDERS : goal.returns-then-n-gt-MAX_ORDERS
returns-then-n-gt-MAX_ORDERS c = rest_none _ c.orders_in-n.ensures.0 c.if-n-gt-MAX_ORDERS.true

pub returns : goal.returns
returns c = rest_some _ c.orders_in-n.ensures.0 c.if-n-gt-MAX_ORDERS.false
