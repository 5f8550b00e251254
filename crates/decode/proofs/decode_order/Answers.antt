-- The kind first, and then the fields that it uses. Assumes nothing.
use Rattle.std.proofs.Common.{sym, ◌∙◌}
use Rattle.model.specs.Order.{checked, decode}
use Rattle.decode.proofs.Numbers.{some_at, none_at}
use Rattle.decode.proofs.decode_order.Goals as goal

pub returns-in_default : goal.returns-in_default
unfolding decode checked
returns-in_default c = rw (← c.kind_of.ensures, none_at _ (sym c.kind_at.ensures ∙ c.in_default.is))

pub returns : goal.returns
unfolding decode
returns c =
    c.checked_call.ensures
    ∙ rw (c.mode_in_force.ensures, ← some_at _ _ (sym c.kind_at.ensures ∙ c.in-Some.is), c.kind_of.ensures)
