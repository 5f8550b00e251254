-- Refusals 2, 3 and 12, then the order, and its five numbers in bytes. Assumes nothing.
use Rattle.std.proofs.Common.{refl, arith, sym, ◌∙◌}
use borrow.Author.Tests.{eqb-true}
use Rattle.refusals.proofs.Numbers.{some_number}
use Rattle.lengths.proofs.Lengths.{out_fits}
use Rattle.host.proofs.Host.{of_bytes, fitting, step-accepted, step-refused}
use Rattle.moesi.proofs.moesi_step.Goals as goal

pub returns-in-Err : goal.returns-in-Err
returns-in-Err c = (
  search of_bytes,
  rw (← c.new-shape.ensures) (step-refused _ _ _ _ (c.from-n.ensures ∙ c.in-Err.ensures) (rw c.from-n.ensures (some_number _)) c.put_refusal.ensures),
)

pub step_order-a-requires : goal.step_order-a-requires
step_order-a-requires c = fitting _ _ _ (sym c.in_default.ensures)

pub put_answer-requires : goal.put_answer-requires
put_answer-requires c = eqb-true _ _ (out_fits _ _ _ _ _ _ c.in_default.ensures refl)

pub returns : goal.returns
returns c =
    let s = c.step_order-a in (
      search of_bytes,
      rw (← c.new-shape.ensures) (step-accepted _ _ _ _ c.in_default.ensures refl s.ensures s.auto.memory s.auto.tags s.auto.states s.auto.words
          (λ j. omega (arith, c.type_inv.memory j)) (λ j. omega (arith, c.type_inv.tags j)) (λ j. omega (arith, c.type_inv.data j))
          c.put_answer.ensures),
    )
