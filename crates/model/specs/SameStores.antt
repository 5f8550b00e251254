-- Stores that leave the word as it was, as tables in the form of the fourteen orders. (Of the fourteen, order 12 is one, on S.)
-- The proof is `same_stores_hold` in proofs/Examples.antt.
use Rattle.std.specs.Prelude.{true, false, ◌≡◌, List, [], ◌∷◌}
use Rattle.protocol.specs.declared.state.Mode.TheVariants.{Through, Back}
use Rattle.model.specs.Order.{Order}
use Rattle.model.specs.Tables.{Model, model, dirty}
use Rattle.model.specs.Flat.{mark_in, flat_start}
use Rattle.model.specs.Marks.{flat_run, model_run}
use Rattle.model.specs.Fourteen.{read, write, swap, flush, device_read, answer, Row, row, two_ports, start, played}

-- From fresh, two ports, one set, two lines, memory 5 and 7. On write-back E the word itself, a byte of it with other bytes beside the mask, and a
-- swap that puts back what it found; on write-through E a write in write through, which stores, then a write and a swap in write back. A
-- device reads the word. A byte that changes makes M, and M stays.
unfoldable pub exclusives : List Row
exclusives =
    row (read 0 0 Back) (answer 0 5 0 1 0) 10 0 5 7 ∷
    row (write 0 0 Back 0xFF 5) (answer 0 0 0 0 0) 10 0 5 7 ∷
    row (write 0 0 Back 0x01 0x1105) (answer 0 0 0 0 0) 10 0 5 7 ∷
    row (swap 0 0 Back 0x0F 5 5) (answer 0 5 1 0 0) 10 0 5 7 ∷
    row (read 0 0 Through) (answer 0 5 0 0 0) 2 0 5 7 ∷
    row (write 0 0 Through 0xFF 5) (answer 0 0 0 0 1) 2 0 5 7 ∷
    row (write 0 0 Back 0 6) (answer 0 0 0 0 0) 10 0 5 7 ∷
    row (read 0 0 Through) (answer 0 5 0 0 0) 2 0 5 7 ∷
    row (swap 0 0 Back 0xF0 0 9) (answer 0 5 1 0 0) 10 0 5 7 ∷
    row (device_read 0) (answer 0 5 0 1 0) 10 0 5 7 ∷
    row (write 0 0 Back 0x80 0x0100000000000005) (answer 0 0 0 0 0) 12 0 5 7 ∷
    row (write 0 0 Back 0xFF 0x0100000000000005) (answer 0 0 0 0 0) 12 0 5 7 ∷
    []

-- Everything else in write back as at a write that changes the word: on S and O, shared and alone, and at a miss of a line that another port
-- owns, that another port holds clean, and that nobody holds.
unfoldable pub others : List Row
others =
    row (read 0 1 Back) (answer 0 7 0 1 0) 10 0 5 7 ∷
    row (read 1 1 Back) (answer 0 7 0 1 0) 9 9 5 7 ∷
    row (write 1 1 Back 0xFF 7) (answer 0 0 0 0 0) 9 11 5 7 ∷
    row (write 1 1 Back 0xFF 7) (answer 0 0 0 0 0) 9 11 5 7 ∷
    row (flush 0 1) (answer 0 0 0 0 0) 0 11 5 7 ∷
    row (write 1 1 Back 0xFF 7) (answer 0 0 0 0 0) 0 12 5 7 ∷
    row (write 0 1 Back 0xFF 7) (answer 0 0 0 0 0) 12 0 5 7 ∷
    row (read 1 1 Through) (answer 0 7 0 0 1) 1 1 5 7 ∷
    row (flush 0 1) (answer 0 0 0 0 0) 0 1 5 7 ∷
    row (swap 1 1 Back 0x0F 7 7) (answer 0 7 1 0 0) 0 12 5 7 ∷
    row (flush 1 1) (answer 0 0 0 0 1) 0 0 5 7 ∷
    row (write 0 1 Back 0 0) (answer 0 0 0 1 0) 12 0 5 7 ∷
    row (flush 0 1) (answer 0 0 0 0 1) 0 0 5 7 ∷
    row (read 1 1 Back) (answer 0 7 0 1 0) 0 10 5 7 ∷
    row (swap 0 1 Back 0x0F 7 7) (answer 0 7 1 1 0) 12 0 5 7 ∷
    []

-- In write through the word is stored always: on a shared S, on O, shared and alone, on M, and at a miss of a line that another port holds clean
-- or owns.
-- At the end a swap that fails takes an owner's word, which is stored, and both ports share the line.
unfoldable pub stored : List Row
stored =
    row (read 0 1 Back) (answer 0 7 0 1 0) 10 0 5 7 ∷
    row (read 1 1 Back) (answer 0 7 0 1 0) 9 9 5 7 ∷
    row (write 0 1 Through 0xFF 7) (answer 0 0 0 0 1) 1 1 5 7 ∷
    row (write 1 1 Back 0 0) (answer 0 0 0 0 0) 9 11 5 7 ∷
    row (write 1 1 Through 0xFF 7) (answer 0 0 0 0 1) 1 1 5 7 ∷
    row (write 1 1 Back 0 0) (answer 0 0 0 0 0) 9 11 5 7 ∷
    row (flush 0 1) (answer 0 0 0 0 0) 0 11 5 7 ∷
    row (swap 1 1 Through 0x0F 7 7) (answer 0 7 1 0 1) 0 2 5 7 ∷
    row (write 0 1 Back 0 0) (answer 0 0 0 1 0) 12 0 5 7 ∷
    row (write 0 1 Through 0 0) (answer 0 0 0 0 1) 2 0 5 7 ∷
    row (write 1 1 Through 0xFF 7) (answer 0 0 0 1 1) 0 2 5 7 ∷
    row (write 0 1 Back 0xFF 7) (answer 0 0 0 1 0) 12 0 5 7 ∷
    row (write 1 1 Through 0xFF 7) (answer 0 0 0 0 1) 0 2 5 7 ∷
    row (write 0 1 Back 0xFF 7) (answer 0 0 0 1 0) 12 0 5 7 ∷
    row (swap 1 1 Through 0xF0 1 0) (answer 0 7 0 0 1) 1 1 5 7 ∷
    []

-- Tables that fail the audit: line 1 in E at both ports, with different words. A hit is by the port's own entry, and leaves the other's alone.
unfoldable pub two_exclusives : Model
two_exclusives = model (5 ∷ 7 ∷ []) (1 ∷ 1 ∷ []) (2 ∷ 10 ∷ []) (0x11 ∷ 0x22 ∷ [])

unfoldable pub beside : List Row
beside =
    row (write 0 1 Back 0xFF 0x11) (answer 0 0 0 0 0) 10 10 5 7 ∷
    row (write 0 1 Back 0xFF 0x22) (answer 0 0 0 0 0) 12 10 5 7 ∷
    []

-- The first two orders of `exclusives`. The flat mark is set by the store all the same; and yet no port owns the line: mark 1 says that there
-- may be an owner, not that there is one.
unfoldable pub marking : List Order
marking = read 0 0 Back ∷ write 0 0 Back 0xFF 5 ∷ []

abbrev pub SameStoresHold : Type 0
SameStoresHold =
    (played exclusives start ≡ exclusives)
    × (played others start ≡ others)
    × (played stored start ≡ stored)
    × (played beside two_exclusives ≡ beside)
    × (mark_in (flat_run two_ports marking (flat_start (5 ∷ 7 ∷ []))) 0 ≡ true)
    × (dirty two_ports (model_run two_ports marking start) 0 ≡ false)
