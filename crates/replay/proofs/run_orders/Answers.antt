-- Order after order, kept from turn to turn. Assumes nothing.
use Rattle.std.proofs.Common.{refl}
use Rattle.replay.proofs.Running.{running_more, running_done}
use Rattle.replay.proofs.run_orders.Goals as goal

pub loop-k-preserved : goal.loop-k-preserved
loop-k-preserved c =
    running_more _ _ c.loop-k.invariant c.loop-k-test.true c.order_at-word.ensures c.step-a.ensures.shape
    c.step-a.ensures.stepped refl

pub returns : goal.returns
returns c =
    let e = running_done _ _ c.loop-k.invariant c.loop-k-test.false refl in
    record { shape = c.loop-k.invariant.shape; model_after = e.0; answers = e.1 }
