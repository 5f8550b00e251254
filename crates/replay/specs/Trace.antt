-- A trace as a list of bytes: its sizes, its refusal, its orders, and what it yields on memory of zeros.
use Rattle.std.specs.Prelude.{ℕ, zero, suc, ◌+◌, ◌*◌, Bool, false, cond, ◌||◌, not, List, [], ◌∷◌, ◌++◌, length, drop, replicate, eqb, ltb, Result, Ok, Err}
use Rattle.endian.specs.Little.{number}
use Rattle.refusals.specs.declared.Refusal.{Refusal}
use Rattle.refusals.specs.Numbers.{number as refusal_number}
use Rattle.shape.specs.declared.Shape.{Shape}
use Rattle.model.specs.declared.answer.Answer.{Answer}
use Rattle.shape.specs.Shape.{unranged, in_range}
use Rattle.model.specs.Order.{Order}
use Rattle.model.specs.Tables.{Model, model}
use Rattle.model.specs.Step.{step}
use Rattle.model.specs.Fresh.{zeroed}
use Rattle.model.specs.Audit.{audit}
use Rattle.model.specs.Marks.{model_run}
use Rattle.replay.specs.declared.Played.{Played}

-- A trace starts with four 32-bit sizes: ports, sets, lines, orders. It carries no ranges, and both are empty.
abbrev pub shape_in : List ℕ → Shape
shape_in bs = unranged (number 4 (drop 0 bs)) (number 4 (drop 4 bs)) (number 4 (drop 8 bs))

abbrev pub orders_in : List ℕ → ℕ
orders_in bs = number 4 (drop 12 bs)

-- Refusal 1: fewer than 16 bytes, or more than 2,048 orders said, or a length that isn't 16 + 16 × orders. Then refusal 2: a number of the
-- shape outside its range. Else 0.
unfoldable pub trace_refusal : List ℕ → ℕ
trace_refusal bs =
    cond (ltb (length bs) 16 || ltb 2048 (orders_in bs) || not (eqb (length bs) (16 + 16 * orders_in bs))) 1
    (cond (in_range (shape_in bs)) 0 2)

-- Then come all order words, then all operands, of eight bytes each: two parallel arrays. Each as the part of the trace from its start on,
-- where there are n orders.
abbrev pub words_part : List ℕ → List ℕ
words_part bs = drop 16 bs

abbrev pub operands_part : ℕ → List ℕ → List ℕ
operands_part n bs = drop (16 + 8 * n) bs

-- The order at place k, from 0: word k of the one array, operand k of the other.
unfoldable pub order_at : List ℕ → List ℕ → ℕ → Order
order_at words operands k = record { word = number 8 (drop (8 * k) words); operand = number 8 (drop (8 * k) operands) }

-- The n orders from place k on.
unfoldable pub orders_of : List ℕ → List ℕ → ℕ → ℕ → List Order
orders_of words operands k zero = []
orders_of words operands k (suc n) = order_at words operands k ∷ orders_of words operands (k + 1) n

-- The n orders of a trace.
abbrev pub trace_orders : ℕ → List ℕ → List Order
trace_orders n bs = orders_of (words_part bs) (operands_part n bs) 0 n

-- The five numbers of an answer.
abbrev pub five : Answer → List ℕ
five x = x.refusal ∷ x.value ∷ x.swapped ∷ x.reads ∷ x.writes ∷ []

-- Those of a list of answers, one behind the other.
unfoldable pub fives : List Answer → List ℕ
fives [] = []
fives (x ∷ xs) = five x ++ fives xs

-- What a list of orders answers: five numbers to an order, one behind the other. Each step gets what the step before left, also after a
-- refusal. (What the list leaves is `model_run`.)
unfoldable pub answers_to : Shape → List Order → Model → List ℕ
answers_to s [] t = []
answers_to s (o ∷ os) t = five (step s o t).answer ++ answers_to s os (step s o t).after

-- A slice of numbers with a list of them stored at its start: what is behind stays.
abbrev pub placed : List ℕ → List ℕ → List ℕ
placed vs l = vs ++ drop (length vs) l

-- Memory of zeros, and the tables of a fresh model.
unfoldable pub start : Shape → Model
start s = zeroed s (model (replicate s.lines 0) [] [] [])

-- What a trace yields besides its answers, in one record: its refusal, 0 if none; its sizes; the audit of the end state.
pub record Outcome : Type 0 where
  pub refusal : ℕ
  pub shape : Shape
  pub orders : ℕ
  pub passes : Bool

-- A refused trace answers its number, and zeros.
abbrev pub refused : ℕ → Outcome
refused n = record { refusal = n; shape = unranged 0 0 0; orders = 0; passes = false }

-- What a trace yields: its refusal, else its sizes and the audit of the end state.
unfoldable pub played : List ℕ → Outcome
played bs =
    let s = shape_in bs in
    let n = orders_in bs in
    cond (eqb (trace_refusal bs) 0)
    (record { refusal = 0; shape = s; orders = n; passes = audit s (model_run s (trace_orders n bs) (start s)) })
    (refused (trace_refusal bs))

-- The same of what the code returns.
abbrev pub outcome_of : Result Played Refusal → Outcome
outcome_of (Ok p) = record { refusal = 0; shape = p.shape; orders = p.orders; passes = p.passes }
outcome_of (Err r) = refused (refusal_number r)

-- And its answers: none on a refusal.
unfoldable pub answers_of : List ℕ → List ℕ
answers_of bs =
    let s = shape_in bs in
    cond (eqb (trace_refusal bs) 0) (answers_to s (trace_orders (orders_in bs) bs) (start s)) []
