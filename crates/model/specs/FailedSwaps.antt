-- Swap misses that fail, as tables in the form of the fourteen orders. (Of the fourteen, order 11 is one, of a line that another port holds in E.)
-- That a swap which fails does what a read does, on every input, is `FailedSwapReads` in Claims.antt.
-- The proof is `failed_swaps_hold` in proofs/Examples.antt.
use Rattle.std.specs.Prelude.{◌≡◌, List, [], ◌∷◌}
use Rattle.protocol.specs.declared.state.Mode.TheVariants.{Through, Back}
use Rattle.model.specs.Tables.{Model, model}
use Rattle.model.specs.Fourteen.{write, swap, flush, device_read, answer, Row, row, start, played}

-- From fresh, two ports, one set, two lines, memory 5 and 7. In write back: of a line that nobody holds, one that the other port holds in E, in O
-- and in M, where the compare value is memory's old word; then one that nobody holds, and the port's own O is evicted.
unfoldable pub failed_back : List Row
failed_back =
    row (swap 0 0 Back 0xF0 1 9) (answer 0 5 0 1 0) 10 0 5 7 ∷
    row (swap 1 0 Back 0xF0 1 9) (answer 0 5 0 1 0) 9 9 5 7 ∷
    row (write 0 0 Back 0xFF 6) (answer 0 0 0 0 0) 11 9 5 7 ∷
    row (flush 1 0) (answer 0 0 0 0 0) 11 0 5 7 ∷
    row (swap 1 0 Back 0x0F 5 9) (answer 0 6 0 0 0) 11 9 5 7 ∷
    row (write 0 1 Back 0xFF 8) (answer 0 0 0 1 1) 12 0 6 7 ∷
    row (swap 1 1 Back 0x0F 7 9) (answer 0 8 0 0 0) 11 9 6 7 ∷
    row (swap 0 0 Back 0x0F 5 9) (answer 0 6 0 1 1) 10 0 6 8 ∷
    []

-- The same in write through: an owner's word is stored, and a device reads it. At the end the port's own M is evicted too, and there are two stores.
unfoldable pub failed_through : List Row
failed_through =
    row (swap 0 0 Through 0xF0 1 9) (answer 0 5 0 1 0) 2 0 5 7 ∷
    row (swap 1 0 Through 0x0F 4 9) (answer 0 5 0 1 0) 1 1 5 7 ∷
    row (write 0 0 Back 0xFF 6) (answer 0 0 0 0 0) 11 9 5 7 ∷
    row (flush 1 0) (answer 0 0 0 0 0) 11 0 5 7 ∷
    row (swap 1 0 Through 0x0F 5 9) (answer 0 6 0 0 1) 1 1 6 7 ∷
    row (device_read 0) (answer 0 6 0 1 0) 1 1 6 7 ∷
    row (write 0 1 Back 0xFF 8) (answer 0 0 0 1 0) 12 0 6 7 ∷
    row (write 1 0 Back 0xFF 3) (answer 0 0 0 0 0) 0 12 6 7 ∷
    row (swap 1 1 Through 0x0F 7 9) (answer 0 8 0 0 2) 1 1 3 8 ∷
    []

-- Tables that fail the audit: port 0 holds line 1 in E with another word than memory's. It does not own the line, so memory's word is compared.
unfoldable pub other_word : Model
other_word = model (5 ∷ 7 ∷ []) (1 ∷ 0 ∷ []) (10 ∷ 0 ∷ []) (0x11 ∷ 0 ∷ [])

unfoldable pub memory_compared : List Row
memory_compared = row (swap 1 1 Back 0x0F 0x11 9) (answer 0 7 0 1 0) 9 9 5 7 ∷ []

abbrev pub FailedSwapsHold : Type 0
FailedSwapsHold =
    (played failed_back start ≡ failed_back)
    × (played failed_through start ≡ failed_through)
    × (played memory_compared other_word ≡ memory_compared)
