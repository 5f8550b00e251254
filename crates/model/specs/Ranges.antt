-- What the two ranges of a shape do, as plain facts, and what is proved of them. The proofs are in proofs/InRanges.antt.
use Rattle.std.specs.Prelude.{ℕ, ◌≡◌, false, List}
use Rattle.protocol.specs.declared.state.Mode.{Mode}
use Rattle.protocol.specs.declared.state.Mode.TheVariants.{Through, Back}
use Rattle.shape.specs.declared.Shape.{Shape}
use Rattle.model.specs.declared.order.Call.{Call}
use Rattle.model.specs.declared.order.Call.TheVariants.{ByPort, Flush, DeviceRead, DeviceWrite}
use Rattle.model.specs.Order.{Decoded, Asked, Refused}
use Rattle.shape.specs.Range.{IsIn}
use Rattle.shape.specs.Shape.{without_ranges}
use Rattle.model.specs.Order.{Order, bits, decode}
use Rattle.model.specs.Tables.{Model, lent_refusal}
use Rattle.model.specs.Step.{accepted, step}
use Rattle.model.specs.Fresh.{fresh}
use Rattle.model.specs.Audit.{audit}
use Rattle.model.specs.Flat.{word_in, mark_in, flat_start}
use Rattle.model.specs.Marks.{flat_run, model_run}

-- What is asked, with an access in mode m. A flush, a device read and a device write have no mode, and nor has a refusal.
abbrev pub call_in : Mode → Call → Call
call_in m (ByPort acc n i) = ByPort acc m i
call_in m (Flush i) = Flush i
call_in m DeviceRead = DeviceRead
call_in m (DeviceWrite mask x) = DeviceWrite mask x

abbrev pub asked_in : Mode → Decoded → Decoded
asked_in m (Asked c a) = Asked (call_in m c) a
asked_in m (Refused n) = Refused n

-- An order asks what it asks without ranges: in write back, where its line is in scratch; in write through, where it is in the device range and
-- not in scratch; and in its own mode elsewhere.
pub record AsksInRanges (s : Shape) (o : Order) (a : ℕ) : Type 0 where
  pub in_scratch : IsIn s.scratch a → decode s o ≡ asked_in Back (decode (without_ranges s) o)
  pub in_device : (IsIn s.scratch a → ⊥) → IsIn s.device a → decode s o ≡ asked_in Through (decode (without_ranges s) o)
  pub elsewhere : (IsIn s.scratch a → ⊥) → (IsIn s.device a → ⊥) → decode s o ≡ decode (without_ranges s) o

abbrev pub InRanges : Type 0
InRanges = (s : Shape) (o : Order) → AsksInRanges s o (bits o.word 16 16)

-- Where refusal 12 is not given, a fresh model and the audit's yes or no are those without ranges. So a model may be made first and its ranges set then.
abbrev pub RangesApart : Type 0
RangesApart = (s : Shape) (t : Model) → lent_refusal s t ≡ 0 → (fresh s t ≡ fresh (without_ranges s) t) × (audit s t ≡ audit (without_ranges s) t)

-- What a device range buys: after any list of orders from a fresh model, the mark of a line in the device range and outside scratch is 0, and so a
-- device read of it answers its flat word, with no flush.
abbrev pub DeviceRangeClean : Type 0
DeviceRangeClean =
    (s : Shape) (t : Model) → lent_refusal s t ≡ 0 → (a : ℕ) → IsIn s.device a → (IsIn s.scratch a → ⊥) → (os : List Order)
    → (mark_in (flat_run s os (flat_start t.memory)) a ≡ false)
    × ((o : Order) → decode s o ≡ Asked DeviceRead a
    → (step s o (model_run s os (fresh s t))).answer ≡ accepted (word_in (flat_run s os (flat_start t.memory)) a) 0 1 0)
