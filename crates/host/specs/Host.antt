-- The model as a C host lends it: main memory and the tables in little-endian bytes, the answer in 40 bytes, the verdict in one.
use Rattle.std.specs.Prelude.{ℕ, Bool, true, cond, ◌&&◌, List, [], ◌∷◌, length, eqb}
use Rattle.words.specs.Bools.{bit}
use Rattle.endian.specs.Little.{encoded}
use Rattle.lengths.specs.Lengths.{refusal_by}
use Rattle.answers.specs.Answers.{answer_bytes}
use Rattle.ports.specs.Bytes.{Bytes, bytes, model_in}
use Rattle.shape.specs.declared.Shape.{Shape}
use Rattle.model.specs.Order.{Order}
use Rattle.model.specs.Tables.{Model}
use Rattle.model.specs.Step.{refused, step}
use Rattle.model.specs.Fresh.{fresh}
use Rattle.model.specs.Audit.{audit}

-- A model in bytes.
unfoldable pub in_bytes : Model → Bytes
in_bytes t = bytes (encoded 8 t.memory) (encoded 4 t.tags) t.states (encoded 8 t.words)

-- Refusal 2, 3 or 12 of what is lent, else 0.
abbrev pub host_refusal : Shape → Bytes → Bool → ℕ
host_refusal s b out = refusal_by s (length b.memory) (length b.tags) (length b.states) (length b.words) out

-- What a call returns and leaves: its refusal, the lent bytes, and the slice that it writes to.
pub record Hosted : Type 0 where
  pub refusal : ℕ
  pub lent : Bytes
  pub out : List ℕ

abbrev pub hosted : ℕ → Bytes → List ℕ → Hosted
hosted n b out = record { refusal = n; lent = b; out = out }

-- A slice for the five numbers, with a refusal's written where it has its 40 bytes.
unfoldable pub refusal_put : ℕ → List ℕ → List ℕ
refusal_put n out = cond (eqb (length out) 40) (answer_bytes (refused n)) out

-- A slice for a verdict, with 1 for yes or 0 for no written where it has its one byte.
unfoldable pub verdict_put : Bool → List ℕ → List ℕ
verdict_put says out = cond (eqb (length out) 1) (bit says ∷ []) out

-- One order. A refusal changes no lent byte, and is written to the answer where that has its 40 bytes.
unfoldable pub host_step : Shape → Order → Bytes → List ℕ → Hosted
host_step s o b out =
    let n = host_refusal s b (eqb (length out) 40) in
    let r = step s o (model_in s b) in
    cond (eqb n 0)
    (hosted r.answer.refusal (in_bytes r.after) (answer_bytes r.answer))
    (hosted n b (refusal_put n out))

-- Making a fresh model.
unfoldable pub host_fresh : Shape → Bytes → Hosted
host_fresh s b = let n = host_refusal s b true in cond (eqb n 0) (hosted n (in_bytes (fresh s (model_in s b))) []) (hosted n b [])

-- The audit: 1 for yes; a refused audit says no. A slice of another length than one byte is left alone.
unfoldable pub host_audit : Shape → Bytes → List ℕ → Hosted
host_audit s b out =
    let n = host_refusal s b (eqb (length out) 1) in
    hosted n b (verdict_put (eqb n 0 && audit s (model_in s b)) out)
