-- Document 01's fourteen orders, as document 02's seventh request amends them (order 11 is a swap miss that fails, and leaves port 0 its copy), as
-- one table: the order, the five numbers, then the bytes of the states in which ports 0 and 1 see the order's line, and the two memory words.
-- The proof is `fourteen_hold` in proofs/Examples.antt.
use Rattle.std.specs.Prelude.{ℕ, ◌+◌, ◌*◌, ◌^◌, ◌≡◌, List, [], ◌∷◌}
use Rattle.protocol.specs.declared.state.Mode.{Mode}
use Rattle.protocol.specs.declared.state.Mode.TheVariants.{Through, Back}
use Rattle.protocol.specs.State.{code}
use Rattle.protocol.specs.Coded.{mode_number}
use Rattle.shape.specs.declared.Shape.{Shape}
use Rattle.model.specs.declared.answer.Answer.{Answer}
use Rattle.shape.specs.Shape.{unranged}
use Rattle.model.specs.Order.{Order, bits}
use Rattle.model.specs.Tables.{Model, model, seen, memory_at}
use Rattle.model.specs.Step.{step}
use Rattle.model.specs.Fresh.{fresh}

-- An order of a kind, by its fields, with an operand.
abbrev pub order : ℕ → Mode → ℕ → ℕ → ℕ → ℕ → ℕ → Order
order kind m port mask line compare x = record {
  word = kind + mode_number m * 2 ^ 3 + port * 2 ^ 4 + mask * 2 ^ 8 + line * 2 ^ 16 + compare * 2 ^ 32;
  operand = x;
}

abbrev pub read : ℕ → ℕ → Mode → Order
read port line m = order 0 m port 0 line 0 0

abbrev pub write : ℕ → ℕ → Mode → ℕ → ℕ → Order
write port line m mask x = order 1 m port mask line 0 x

abbrev pub swap : ℕ → ℕ → Mode → ℕ → ℕ → ℕ → Order
swap port line m mask compare x = order 2 m port mask line compare x

abbrev pub flush : ℕ → ℕ → Order
flush port line = order 3 Through port 0 line 0 0

abbrev pub device_read : ℕ → Order
device_read line = order 4 Through 0 0 line 0 0

abbrev pub answer : ℕ → ℕ → ℕ → ℕ → ℕ → Answer
answer refusal value swapped reads writes = record { refusal = refusal; value = value; swapped = swapped; reads = reads; writes = writes }

pub record Row : Type 0 where
  pub order : Order
  pub answer : Answer
  pub state_0 : ℕ
  pub state_1 : ℕ
  pub memory_0 : ℕ
  pub memory_1 : ℕ

abbrev pub row : Order → Answer → ℕ → ℕ → ℕ → ℕ → Row
row o x s0 s1 m0 m1 = record { order = o; answer = x; state_0 = s0; state_1 = s1; memory_0 = m0; memory_1 = m1 }

unfoldable pub table : List Row
table =
    row (read 0 0 Back) (answer 0 5 0 1 0) 10 0 5 7 ∷
    row (read 1 0 Back) (answer 0 5 0 1 0) 9 9 5 7 ∷
    row (write 1 0 Back 0xFF 9) (answer 0 0 0 0 0) 9 11 5 7 ∷
    row (device_read 0) (answer 0 5 0 1 0) 9 11 5 7 ∷
    row (read 0 0 Through) (answer 0 9 0 0 1) 1 1 9 7 ∷
    row (device_read 0) (answer 0 9 0 1 0) 1 1 9 7 ∷
    row (swap 0 0 Back 0x0F 9 4) (answer 0 9 1 0 0) 11 9 9 7 ∷
    row (swap 1 0 Back 0x0F 9 0) (answer 0 4 0 0 0) 11 9 9 7 ∷
    row (write 0 1 Through 0x01 0x1FF) (answer 0 0 0 1 2) 2 0 4 255 ∷
    row (flush 1 1) (answer 0 0 0 0 0) 2 0 4 255 ∷
    row (swap 1 1 Back 0xF0 1 0) (answer 0 255 0 1 0) 9 9 4 255 ∷
    row (write 1 1 Back 0 0) (answer 0 0 0 0 0) 9 11 4 255 ∷
    row (swap 0 1 Through 0xF0 1 0) (answer 0 255 0 0 1) 1 1 4 255 ∷
    row (read 2 0 Through) (answer 5 0 0 0 0) 0 0 4 255 ∷
    []

-- Two ports, one set, two lines, no ranges, memory 5 and 7, and what fresh leaves of tables full of ones.
unfoldable pub two_ports : Shape
two_ports = unranged 2 1 2

unfoldable pub start : Model
start = fresh two_ports (model (5 ∷ 7 ∷ []) (1 ∷ 1 ∷ []) (1 ∷ 1 ∷ []) (1 ∷ 1 ∷ []))

-- The table that the step gives for the orders of a table.
unfoldable pub played_on : Shape → List Row → Model → List Row
played_on s [] t = []
played_on s (r ∷ rs) t =
    let x = step s r.order t in
    let u = x.after in
    let a = bits r.order.word 16 16 in
    row r.order x.answer (code (seen s u a 0)) (code (seen s u a 1)) (memory_at u 0) (memory_at u 1) ∷ played_on s rs u

abbrev pub played : List Row → Model → List Row
played rs t = played_on two_ports rs t

abbrev pub FourteenHold : Type 0
FourteenHold = played table start ≡ table
