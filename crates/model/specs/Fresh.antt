-- A fresh model.
use Rattle.std.specs.Prelude.{cond, replicate, eqb}
use Rattle.shape.specs.declared.Shape.{Shape}
use Rattle.shape.specs.Shape.{entries}
use Rattle.model.specs.Tables.{Model, model, lent_refusal}

-- Zeros in all three tables; memory stays as lent.
unfoldable pub zeroed : Shape → Model → Model
zeroed s t = model t.memory (replicate (entries s) 0) (replicate (entries s) 0) (replicate (entries s) 0)

-- What making a fresh model leaves. Its answer is `lent_refusal`; where that is not 0, nothing changes.
unfoldable pub fresh : Shape → Model → Model
fresh s t = cond (eqb (lent_refusal s t) 0) (zeroed s t) t
