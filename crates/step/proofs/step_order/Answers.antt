-- The word taken apart, then the call. Assumes nothing.
use Rattle.std.proofs.Common.{◌∙◌, ap}
use Rattle.refusals.specs.Numbers.{refusal_in}
use Rattle.model.specs.Step.{refused}
use Rattle.decode.specs.Order.{order}
use Rattle.ports.proofs.Bytes.{lent}
use Rattle.step.proofs.Orders.{step-refused, step-asked, asked-there}
use Rattle.step.proofs.step_order.Goals as goal

pub returns-in_default : goal.returns-in_default
returns-in_default c =
    step-refused _ _ _ (lent c.requires) c.in_default.ensures (c.refuse.ensures ∙ ap refused (c.number_of.ensures ∙ ap refusal_in c.in_default.is))

pub perform_call-requires-clause-there : goal.perform_call-requires-clause-there
perform_call-requires-clause-there c = asked-there _ (order c.args.w c.args.x) c.in-Ok.ensures

pub returns-in-Ok-perform_call : goal.returns-in-Ok-perform_call
returns-in-Ok-perform_call c = step-asked _ _ _ (lent c.requires) c.in-Ok.ensures c.in-Ok-perform_call.ensures

pub returns-in-Err : goal.returns-in-Err
returns-in-Err c =
    step-asked _ _ _ (lent c.requires) c.in-Ok.ensures (rw (c.refuse-in-Err.ensures, c.from.ensures) c.in-Err.ensures)
