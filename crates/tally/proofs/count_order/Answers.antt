-- No room, or the step and its answer counted. Assumes nothing.
use Rattle.std.proofs.Common.{sym, ◌∙◌, refl}
use Rattle.decode.specs.Order.{order}
use Rattle.counters.proofs.Answers.{answer_few}
use Rattle.tally.proofs.Counting.{order-full, order_counted}
use Rattle.tally.proofs.count_order.Goals as goal

pub returns-then-is_full : goal.returns-then-is_full
returns-then-is_full c =
    let e = order-full _ _ _ _ (sym c.is_full.ensures ∙ c.if-is_full.true) in
    record { shape = refl; model_after = e.0; row_after = e.1 }

pub count-requires-clause-few : goal.count-requires-clause-few
count-requires-clause-few c = answer_few _ (order c.args.word c.args.operand) _ c.step-a.ensures.stepped c.kind_of.ensures

pub returns : goal.returns
returns c =
    let e = order_counted _ _ _ _ (sym c.is_full.ensures ∙ c.if-is_full.false) c.step-a.ensures.stepped c.kind_of.ensures c.count.ensures in
    record { shape = c.step-a.ensures.shape; model_after = e.0; row_after = e.1 }
