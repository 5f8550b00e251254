-- Device writes, as tables in the form of the fourteen orders. (Document 02's first request has no example.)
-- The proof is `device_writes_hold` in proofs/Examples.antt.
use Rattle.std.specs.Prelude.{ℕ, ◌≡◌, List, [], ◌∷◌}
use Rattle.protocol.specs.declared.state.Mode.TheVariants.{Through, Back}
use Rattle.model.specs.Order.{Order}
use Rattle.model.specs.Tables.{Model, model}
use Rattle.model.specs.Step.{step}
use Rattle.model.specs.Fourteen.{order, read, write, answer, Row, row, two_ports, start, played}

-- A device write. The word's other fields are ignored: here they are all ones.
abbrev device_write : ℕ → ℕ → ℕ → Order
device_write line mask x = order 5 Back 15 mask line 0xFFFFFFFF x

-- From fresh, two ports, one set, two lines, memory 5 and 7: a line held clean; one held in O and S, whose owner's word is merged; one held
-- clean, under mask 0; one that nobody holds; one at whose index a port has M of the other line, which stays; that other line, in the upper
-- half; a line that is not there; kind 6.
unfoldable pub written : List Row
written =
    row (read 0 0 Back) (answer 0 5 0 1 0) 10 0 5 7 ∷
    row (device_write 0 0x01 0x1FF) (answer 0 0 0 1 1) 0 0 255 7 ∷
    row (write 1 0 Back 0xFF 9) (answer 0 0 0 1 0) 0 12 255 7 ∷
    row (read 0 0 Back) (answer 0 9 0 0 0) 9 11 255 7 ∷
    row (device_write 0 0x02 0xAB00) (answer 0 0 0 0 1) 0 0 0xAB09 7 ∷
    row (read 1 0 Back) (answer 0 0xAB09 0 1 0) 0 10 0xAB09 7 ∷
    row (device_write 0 0 0xFF) (answer 0 0 0 1 1) 0 0 0xAB09 7 ∷
    row (device_write 1 0xFF 3) (answer 0 0 0 1 1) 0 0 0xAB09 3 ∷
    row (write 1 1 Back 0xFF 8) (answer 0 0 0 1 0) 0 12 0xAB09 3 ∷
    row (device_write 0 0xFF 6) (answer 0 0 0 1 1) 0 0 6 3 ∷
    row (read 0 1 Back) (answer 0 8 0 0 0) 9 11 6 3 ∷
    row (device_write 1 0xF0 0x1FFFFFFFF) (answer 0 0 0 0 1) 0 0 6 0x100000008 ∷
    row (device_write 2 0xFF 1) (answer 6 0 0 0 0) 0 0 6 0x100000008 ∷
    row (order 6 Through 0 0xFF 0 0 1) (answer 4 0 0 0 0) 0 0 6 0x100000008 ∷
    []

-- Tables that fail the audit: line 1 in M at both ports, with different words. The lowest owner's word is merged, and both become I; tags
-- and data stay.
unfoldable pub two_owners : Model
two_owners = model (5 ∷ 7 ∷ []) (1 ∷ 1 ∷ []) (12 ∷ 12 ∷ []) (0x11 ∷ 0x22 ∷ [])

unfoldable pub owners_written : List Row
owners_written = row (device_write 1 0x02 0xAB00) (answer 0 0 0 0 1) 0 0 5 0xAB11 ∷ []

unfoldable pub owners_left : Model
owners_left = model (5 ∷ 0xAB11 ∷ []) (1 ∷ 1 ∷ []) (0 ∷ 0 ∷ []) (0x11 ∷ 0x22 ∷ [])

-- Tables that refuse it: a byte that is no state, at port 1; and a home line that is not there, line 2 at port 0.
unfoldable pub no_state : Model
no_state = model (5 ∷ 7 ∷ []) (0 ∷ 0 ∷ []) (12 ∷ 3 ∷ []) (0x11 ∷ 0x22 ∷ [])

unfoldable pub no_state_refused : List Row
no_state_refused = row (device_write 0 0xFF 1) (answer 8 0 0 0 0) 12 0 5 7 ∷ []

unfoldable pub no_home : Model
no_home = model (5 ∷ 7 ∷ []) (2 ∷ 0 ∷ []) (9 ∷ 10 ∷ []) (0x11 ∷ 0x22 ∷ [])

unfoldable pub no_home_refused : List Row
no_home_refused = row (device_write 0 0xFF 1) (answer 8 0 0 0 0) 0 10 5 7 ∷ []

abbrev pub DeviceWritesHold : Type 0
DeviceWritesHold =
    (played written start ≡ written)
    × (played owners_written two_owners ≡ owners_written)
    × ((step two_ports (device_write 1 0x02 0xAB00) two_owners).after ≡ owners_left)
    × (played no_state_refused no_state ≡ no_state_refused)
    × (played no_home_refused no_home ≡ no_home_refused)
