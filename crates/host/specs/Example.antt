-- The orders of README's example as calls on bytes: a run from fresh, of `moesi_step` and of `moesi_step_totals` on records of zeros, and the numbers
-- that it answers. The proof, by computation, is in proofs/Example.antt.
use Rattle.std.specs.Prelude.{ℕ, ◌≡◌, List, [], ◌∷◌, replicate}
use Rattle.answers.specs.Answers.{answer_in}
use Rattle.ports.specs.Bytes.{Bytes, bytes}
use Rattle.shape.specs.declared.Shape.{Shape}
use Rattle.shape.specs.Shape.{unranged}
use Rattle.model.specs.declared.answer.Answer.{Answer}
use Rattle.model.specs.Order.{Order}
use Rattle.model.specs.Step.{accepted}
use Rattle.host.specs.Host.{host_fresh}
use Rattle.host.specs.Totals.{zero_record}
use Rattle.host.specs.Calls.{StepCall, plain, counted, call_on}
use Rattle.host.specs.Runs.{FreshRun}

-- Two ports, one set, two lines; 5 in the first byte of main memory, and tables full of bytes 255.
abbrev pub two_ports : Shape
two_ports = unranged 2 1 2

unfoldable pub lent_bytes : Bytes
lent_bytes = bytes (5 ∷ replicate 15 0) (replicate 8 255) (replicate 2 255) (replicate 16 255)

-- An order by its word and operand; and a slice for an answer, with something else in it.
abbrev pub asked : ℕ → ℕ → Order
asked word operand = record { word = word; operand = operand }

abbrev pub answer_slice : List ℕ
answer_slice = replicate 40 7

-- Port 1 writes 9 to line 0 in write back, a device reads the line, port 0 reads it in write through, a device reads it again.
unfoldable pub example_calls : List StepCall
example_calls =
    plain (asked 0xFF19 9) answer_slice
    ∷ counted (asked 4 0) answer_slice zero_record
    ∷ counted (asked 0 0) answer_slice zero_record
    ∷ plain (asked 4 0) answer_slice
    ∷ []

-- The numbers that a list of calls answers, each on the bytes that the call before left.
unfoldable pub answers_over : Shape → List StepCall → Bytes → List Answer
answers_over s [] b = []
answers_over s (c ∷ cs) b = answer_in (call_on s c b).out ∷ answers_over s cs (call_on s c b).lent

abbrev pub ExampleHolds : Type 0
ExampleHolds =
    FreshRun two_ports lent_bytes example_calls
    × (answers_over two_ports example_calls (host_fresh two_ports lent_bytes).lent
    ≡ accepted 0 0 1 0 ∷ accepted 5 0 1 0 ∷ accepted 9 0 0 1 ∷ accepted 9 0 1 0 ∷ [])
