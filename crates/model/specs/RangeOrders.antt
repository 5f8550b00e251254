-- Orders on lines in ranges, as tables in the form of the fourteen orders, and refusal 12. (Document 02's sixth request has no example.)
-- The proof is `range_orders_hold` in proofs/Examples.antt.
use Rattle.std.specs.Prelude.{ℕ, ◌^◌, Bool, true, false, ◌≡◌, List, [], ◌∷◌, map}
use Rattle.protocol.specs.declared.state.Mode.TheVariants.{Through, Back}
use Rattle.shape.specs.declared.range.Range.{Range}
use Rattle.shape.specs.declared.Shape.{Shape}
use Rattle.shape.specs.Range.{range}
use Rattle.shape.specs.Shape.{shape_of}
use Rattle.model.specs.Order.{Order}
use Rattle.model.specs.Tables.{Model, model, lent_refusal}
use Rattle.model.specs.Step.{step}
use Rattle.model.specs.Find.{Refused}
use Rattle.model.specs.Find.{find}
use Rattle.model.specs.Flat.{mark_in, flat_start}
use Rattle.model.specs.Marks.{flat_run}
use Rattle.model.specs.Fourteen.{order, read, write, swap, flush, device_read, answer, Row, row, start, played_on}

-- Two ports, one set, two lines, with a scratch and a device range.
abbrev pub ranged : Range → Range → Shape
ranged scratch device = record { ports = 2; sets = 1; lines = 2; scratch = scratch; device = device }

-- Line 0 lies in both ranges, and runs as scratch; line 1 lies in the device range alone.
unfoldable pub both : Shape
both = ranged (range 0 1) (range 0 2)

-- From fresh, memory 5 and 7. On line 0 write-through orders run write back: a device misses the word until port 0's miss on line 1 evicts it. On
-- line 1 write-back orders run write through: a write, a swap that succeeds, a read by the other port, which evicts nothing, a swap that fails. A
-- flush has no mode.
unfoldable pub crossing : List Row
crossing =
    row (write 0 0 Through 0xFF 9) (answer 0 0 0 1 0) 12 0 5 7 ∷
    row (device_read 0) (answer 0 5 0 1 0) 12 0 5 7 ∷
    row (read 1 0 Through) (answer 0 9 0 0 0) 11 9 5 7 ∷
    row (write 0 1 Back 0xFF 8) (answer 0 0 0 1 2) 2 0 9 8 ∷
    row (device_read 1) (answer 0 8 0 1 0) 2 0 9 8 ∷
    row (swap 0 1 Back 0x0F 8 3) (answer 0 8 1 0 1) 2 0 9 3 ∷
    row (read 1 1 Back) (answer 0 3 0 1 0) 1 1 9 3 ∷
    row (swap 1 1 Back 0x0F 8 4) (answer 0 3 0 0 0) 1 1 9 3 ∷
    row (flush 0 1) (answer 0 0 0 0 0) 0 1 9 3 ∷
    row (device_read 1) (answer 0 3 0 1 0) 0 1 9 3 ∷
    []

-- Line 1 in scratch, and line 0 in neither range, where the order's mode stands. The empty device range starts beyond lines.
unfoldable pub upper : Shape
upper = ranged (range 1 1) (range 9 0)

unfoldable pub standing : List Row
standing =
    row (write 0 0 Through 0xFF 9) (answer 0 0 0 1 1) 2 0 9 7 ∷
    row (write 0 0 Back 0xFF 8) (answer 0 0 0 0 0) 12 0 9 7 ∷
    row (write 1 1 Through 0xFF 6) (answer 0 0 0 1 0) 0 12 9 7 ∷
    row (read 1 1 Through) (answer 0 6 0 0 0) 0 12 9 7 ∷
    []

-- The marks go by the mode in force: after a write through of line 0 and a write back of line 1.
unfoldable pub two_writes : List Order
two_writes = write 0 0 Through 0xFF 9 ∷ write 0 1 Back 0xFF 8 ∷ []

abbrev pub marks_of : Shape → ℕ → Bool
marks_of s a = mark_in (flat_run s two_writes (flat_start (5 ∷ 7 ∷ []))) a

-- The refusal of a range as scratch, and as device: a range may end with lines, and not beyond; an empty one may start anywhere; and nothing wraps.
unfoldable pub tried : List Range
tried = range 0 2 ∷ range 1 1 ∷ range 0 3 ∷ range 2 1 ∷ range 2 0 ∷ range 0xFFFFFFFFFFFFFFFF 0 ∷ range 0xFFFFFFFFFFFFFFFF 1 ∷ range (2 ^ 63) (2 ^ 63) ∷ []

unfoldable pub told : List ℕ
told = 0 ∷ 0 ∷ 12 ∷ 12 ∷ 0 ∷ 0 ∷ 12 ∷ 12 ∷ []

-- A range that ends beyond lines, and what comes before it and after: too many ports; a memory of one word; a kind that there is not; a line that
-- there is not, of which finding tells nothing else.
unfoldable pub beyond : Range
beyond = range 1 2

unfoldable pub short : Model
short = model (5 ∷ []) (0 ∷ 0 ∷ []) (0 ∷ 0 ∷ []) (0 ∷ 0 ∷ [])

abbrev pub RangeOrdersHold : Type 0
RangeOrdersHold =
    (played_on both crossing start ≡ crossing)
    × (played_on upper standing start ≡ standing)
    × (marks_of both 0 ≡ true)
    × (marks_of both 1 ≡ false)
    × (map (λ r. lent_refusal (ranged r (range 0 0)) start) tried ≡ told)
    × (map (λ r. lent_refusal (ranged (range 0 0) r) start) tried ≡ told)
    × (lent_refusal (shape_of 9 1 2 1 2 0 0) start ≡ 2)
    × (lent_refusal (ranged beyond (range 0 0)) short ≡ 3)
    × ((step (ranged beyond (range 0 0)) (order 7 Back 15 0 9 0 0) start).answer.refusal ≡ 12)
    × (find (ranged (range 0 0) beyond) start 2 ≡ Refused 12)
