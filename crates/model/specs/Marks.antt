-- What the flat memory's mark of a line says of the orders so far, what a device then reads, and what is read after it wrote. The proofs are
-- `mark_says` in proofs/Marks.antt, and `device_guarantee` and `device_write_seen` in proofs/Device.antt.
use Rattle.std.specs.Prelude.{ℕ, ◌<◌, ◌≡◌, ◌≢◌, ◌↔◌, Bool, true, false, cond, ◌&&◌, ◌||◌, not, List, [], ◌∷◌, get_or, length, eqb}
use Rattle.protocol.specs.declared.state.Mode.TheVariants.{Through, Back}
use Rattle.words.specs.declared.access.Access.TheVariants.{Read, Write, Swap}
use Rattle.words.specs.Word.{merge}
use Rattle.words.specs.Access.{is_write}
use Rattle.shape.specs.declared.Shape.{Shape}
use Rattle.model.specs.declared.order.Call.TheVariants.{ByPort, Flush, DeviceRead, DeviceWrite}
use Rattle.model.specs.Order.{Decoded, Asked, Refused}
use Rattle.model.specs.Order.{Order, decode}
use Rattle.model.specs.Tables.{Model, lent_refusal}
use Rattle.model.specs.Step.{accepted, step}
use Rattle.model.specs.Fresh.{fresh}
use Rattle.model.specs.Flat.{Flat, word_in, mark_in, flat_step, flat_start}

-- What an order is to the mark of a line: `sets`, an accepted write-back write or successful write-back swap of it; `clears`, an accepted
-- write-through read, write or compare-and-swap of it, or an accepted device write of it; or neither, as a flush or a device read. The mode is
-- the one in force on the line.
pub data Event : Type 0 where
  sets clears neither : Event

-- Of an order that was taken apart, and whose swapped number is n.
unfoldable pub event_of : ℕ → Decoded → ℕ → Event
event_of a (Refused k) n = neither
event_of a (Asked (ByPort acc Through i) b) n = cond (eqb b a) clears neither
event_of a (Asked (ByPort acc Back i) b) n = cond (eqb b a && (is_write acc || eqb n 1)) sets neither
event_of a (Asked (Flush i) b) n = neither
event_of a (Asked DeviceRead b) n = neither
event_of a (Asked (DeviceWrite mask x) b) n = cond (eqb b a) clears neither

-- The events of a list of orders, from a flat memory on, and that memory after them.
unfoldable pub events_of : Shape → ℕ → List Order → Flat → List Event
events_of s a [] f = []
events_of s a (o ∷ os) f = event_of a (decode s o) (flat_step s o f).answer.swapped ∷ events_of s a os (flat_step s o f).after

unfoldable pub flat_run : Shape → List Order → Flat → Flat
flat_run s [] f = f
flat_run s (o ∷ os) f = flat_run s os (flat_step s o f).after

-- Some event sets the mark, and none after it clears it. (Events are counted from 0; in `MarkSays` number 0 stands for the start.)
abbrev pub SetSince : List Event → Type 0
SetSince es = (n : ℕ) × (get_or es n neither ≡ sets) × ((k : ℕ) → n < k → get_or es k neither ≢ clears)

-- A mark of 1 at the start counts as an event that sets it before all orders.
abbrev pub start_event : Bool → Event
start_event true = sets
start_event false = neither

-- The mark of a line is 0 exactly when no event set it since the last that cleared it, or, if there was none, since the start.
abbrev pub MarkSays : Type 0
MarkSays =
    (s : Shape) (a : ℕ) (os : List Order) (f : Flat) → a < length f.marks
    → (mark_in (flat_run s os f) a ≡ false) ↔ (SetSince (start_event (mark_in f a) ∷ events_of s a os f) → ⊥)

-- The model after a list of orders.
unfoldable pub model_run : Shape → List Order → Model → Model
model_run s [] t = t
model_run s (o ∷ os) t = model_run s os (step s o t).after

-- A read of line a, by a port or by a device.
unfoldable pub is_read_of : ℕ → Decoded → Bool
is_read_of a (Refused k) = false
is_read_of a (Asked (ByPort Read m i) b) = eqb b a
is_read_of a (Asked (ByPort (Write mask x) m i) b) = false
is_read_of a (Asked (ByPort (Swap mask x compare) m i) b) = false
is_read_of a (Asked (Flush i) b) = false
is_read_of a (Asked DeviceRead b) = eqb b a
is_read_of a (Asked (DeviceWrite mask x) b) = false

-- An order whose swapped number is n writes line a: an accepted write or successful swap of it by a port, or an accepted device write of it.
unfoldable pub is_write_of : ℕ → Decoded → ℕ → Bool
is_write_of a (Refused k) n = false
is_write_of a (Asked (ByPort acc m i) b) n = eqb b a && (is_write acc || eqb n 1)
is_write_of a (Asked (Flush i) b) n = false
is_write_of a (Asked DeviceRead b) n = false
is_write_of a (Asked (DeviceWrite mask x) b) n = eqb b a

-- No order of a list writes line a, from a flat memory on.
unfoldable pub left_alone : Shape → ℕ → List Order → Flat → Bool
left_alone s a [] f = true
left_alone s a (o ∷ os) f = not (is_write_of a (decode s o) (flat_step s o f).answer.swapped) && left_alone s a os (flat_step s o f).after

-- What a device wrote is seen, without a flush: after any list of orders from a fresh model, whatever the caches then hold, a device write of
-- a line, and any orders that do not write that line, a read of it by any port, in either mode, and a device read of it are accepted and answer
-- the flat word that the line had before the device write, with the operand merged under the mask.
abbrev pub DeviceWriteSeen : Type 0
DeviceWriteSeen =
    (s : Shape) (t : Model) → lent_refusal s t ≡ 0 → (os : List Order) (mask x a : ℕ) (o : Order) → decode s o ≡ Asked (DeviceWrite mask x) a
    → (later : List Order) → left_alone s a later (flat_step s o (flat_run s os (flat_start t.memory))).after ≡ true
    → (n : Order) → is_read_of a (decode s n) ≡ true
    → let read = (step s n (model_run s later (step s o (model_run s os (fresh s t))).after)).answer in
    (read.refusal ≡ 0) × (read.value ≡ merge mask (word_in (flat_run s os (flat_start t.memory)) a) x)

-- The device guarantee in one sentence: after any list of orders from a fresh model, a device read of a line answers its flat word, if
-- no order set the line's mark since the last that cleared it, or, if none cleared it, since the start. Of other lines nothing is said;
-- a flush neither sets nor clears.
abbrev pub DeviceGuarantee : Type 0
DeviceGuarantee =
    (s : Shape) (t : Model) → lent_refusal s t ≡ 0 → (os : List Order) (a : ℕ)
    → (SetSince (events_of s a os (flat_start t.memory)) → ⊥)
    → (o : Order) → decode s o ≡ Asked DeviceRead a
    → (step s o (model_run s os (fresh s t))).answer ≡ accepted (word_in (flat_run s os (flat_start t.memory)) a) 0 1 0
