-- An order word taken apart: what the code makes of it is the model's step. Assumes nothing.
use Prim.Native.Nat.{ℕ}
use mathlib.Core.Path.{◌≡◌, ◌∙◌}
use borrow.Author.Tests.{eq-eqb}
use Rattle.shape.specs.declared.Shape.{Shape}
use Rattle.model.specs.declared.order.Call.{Call}
use Rattle.model.specs.Order.{Asked, Refused}
use Rattle.model.specs.declared.answer.Answer.{Answer}
use Rattle.model.specs.Order.{Order, decode, There}
use Rattle.model.specs.Tables.{Model, lent_refusal}
use Rattle.model.specs.Step.{Result, result, refused, perform, step}
use Rattle.model.proofs.Decoded.{decode-sound}

module _ (s : Shape) (o : Order) (t : Model) where
  pub step-refused : lent_refusal s t ≡ 0 → {n : ℕ} → Refused n ≡ decode s o → {r : Answer} → r ≡ refused n → result r t ≡ step s o t
  unfolding step perform
  step-refused h e i = rw (i, eq-eqb (lent_refusal s t) 0 h, ← e)

  pub step-asked : lent_refusal s t ≡ 0 → {c : Call} {a : ℕ} → Asked c a ≡ decode s o → {x : Result} → x ≡ perform s t (Asked c a) → x ≡ step s o t
  unfolding step
  step-asked h e g = g ∙ rw (eq-eqb (lent_refusal s t) 0 h, ← e)

pub asked-there : (s : Shape) (o : Order) {c : Call} {a : ℕ} → Asked c a ≡ decode s o → There s c a
asked-there s o e = rw (← e) at (decode-sound s o)
