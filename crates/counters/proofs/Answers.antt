-- What a step answers may be counted. Assumes nothing.
use Prim.Native.Nat.{ℕ}
use mathlib.Core.Path.{◌≡◌, ap}
use native.Mathlib.Omega.{arith}
use Rattle.shape.specs.declared.Shape.{Shape}
use Rattle.model.specs.declared.answer.Answer.{Answer}
use Rattle.model.specs.Order.{Order, kind_of}
use Rattle.model.specs.Tables.{Model}
use Rattle.model.specs.Step.{Result, result, refused, step}
use Rattle.model.proofs.Claims.{few_accesses, swapped_once, accepted_kind}
use Rattle.counters.specs.Totals.{Few}

pub step_few : (s : Shape) (o : Order) (t : Model) → Few (kind_of o) (step s o t).answer
step_few s o t = record {
  reads = (few_accesses s o t).0;
  writes = (few_accesses s o t).1;
  swapped = swapped_once s o t;
  kind_counted = accepted_kind s o t;
}

-- The same of an answer that is the step's.
pub answer_few : (s : Shape) (o : Order) (t : Model) {r : Answer} {u : Model} {k : ℕ} → result r u ≡ step s o t → k ≡ kind_of o → Few k r
answer_few s o t e f = rw (f, ap (λ (z : Result). z.answer) e) (step_few s o t)

-- And of a refusal.
pub refused_few : (k n : ℕ) → (n ≡ 0 → ⊥) → Few k (refused n)
refused_few k n h = record { reads = omega arith; writes = omega arith; swapped = omega arith; kind_counted = λ e. absurd (h e) }
