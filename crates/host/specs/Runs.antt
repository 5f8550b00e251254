-- Runs of calls from C: the agreement with the flat memory, and what a device reads, said of what a host lends and is answered. The proofs are in
-- proofs/Runs.antt.
use Rattle.std.specs.Prelude.{ℕ, ◌<◌, ◌≡◌, ◌↔◌, true, false, List, [], ◌∷◌, length}
use Rattle.words.specs.Word.{merge}
use Rattle.endian.specs.Little.{numbers}
use Rattle.answers.specs.Answers.{answer_in}
use Rattle.ports.specs.Bytes.{Bytes, model_in}
use Rattle.shape.specs.declared.Shape.{Shape}
use Rattle.shape.specs.Range.{IsIn}
use Rattle.model.specs.declared.order.Call.TheVariants.{DeviceRead, DeviceWrite}
use Rattle.model.specs.Order.{Asked}
use Rattle.model.specs.Order.{decode}
use Rattle.model.specs.Step.{accepted}
use Rattle.model.specs.Flat.{Flat, FlatAnswer, word_in, mark_in, flat_step, flat_start}
use Rattle.model.specs.Agreement.{Agrees, Fits}
use Rattle.model.specs.Marks.{SetSince, events_of, flat_run, is_read_of, left_alone}
use Rattle.host.specs.Host.{Hosted, hosted, host_fresh, host_audit}
use Rattle.host.specs.ReadBack.{OfBytes}
use Rattle.host.specs.Calls.{StepCall, order_of, orders_of, call_on, HasRoom, AllRoom, bytes_after}

-- The audit returns 0 and writes 1.
abbrev pub AuditsYes : Shape → Bytes → Type 0
AuditsYes s b = (verdict : List ℕ) → length verdict ≡ 1 → host_audit s b verdict ≡ hosted 0 b (1 ∷ [])

-- A call agrees with the flat memory's answer: it returns the refusal, and of the numbers in its 40 bytes refusal, value (where it is compared) and
-- swapped are the flat memory's, and the refusal is below 8. Of the two counts nothing is said: the flat memory has none.
pub record CallAgrees (h : Hosted) (y : FlatAnswer) : Type 0 where
  pub returned : h.refusal ≡ y.refusal
  pub forty : length h.out ≡ 40
  pub written : Agrees (answer_in h.out) y

-- A list of calls on bytes b, and a flat memory f that is fed their orders. The audit says yes before the first call and after each, and each call
-- agrees.
unfoldable pub HostAgreesOver : Shape → List StepCall → Bytes → Flat → Type 0
HostAgreesOver s [] b f = AuditsYes s b
HostAgreesOver s (c ∷ cs) b f =
    let flat = flat_step s (order_of c) f in
    AuditsYes s b × CallAgrees (call_on s c b) flat.answer × HostAgreesOver s cs (call_on s c b).lent flat.after

-- The flat memory at the start: the words in main memory's bytes, and marks of 0.
abbrev pub flat_of : Shape → Bytes → Flat
flat_of s b = flat_start (numbers 8 s.lines b.memory)

-- A run as a host makes it: it lends any bytes on which `moesi_fresh` returns 0, and then it makes calls.
pub record FreshRun (s : Shape) (b : Bytes) (cs : List StepCall) : Type 0 where
  pub bytes : OfBytes b
  pub accepted : (host_fresh s b).refusal ≡ 0
  pub room : AllRoom cs

-- The agreement at the C calls: over every such run each call agrees with the flat memory, and the audit says yes.
abbrev pub HostAgreement : Type 0
HostAgreement = (s : Shape) (b : Bytes) (cs : List StepCall) → FreshRun s b cs → HostAgreesOver s cs (host_fresh s b).lent (flat_of s b)

-- The same from any bytes on which the audit says yes, with any flat memory that fits the tables in them.
abbrev pub HostAuditedAgreement : Type 0
HostAuditedAgreement =
    (s : Shape) (b : Bytes) (f : Flat) (cs : List StepCall) → OfBytes b → AuditsYes s b → Fits s (model_in s b) f → AllRoom cs
    → HostAgreesOver s cs b f

-- The bytes after such a run, and the flat memory after it.
abbrev pub bytes_now : Shape → Bytes → List StepCall → Bytes
bytes_now s b cs = bytes_after s cs (host_fresh s b).lent

abbrev pub flat_now : Shape → Bytes → List StepCall → Flat
flat_now s b cs = flat_run s (orders_of cs) (flat_of s b)

-- No call set the mark of line a since the last that cleared it, or, if none did, since the start.
abbrev pub NotSetSince : Shape → Bytes → List StepCall → ℕ → Type 0
NotSetSince s b cs a = SetSince (events_of s a (orders_of cs) (flat_of s b)) → ⊥

-- A device read that answers w: it returns 0, changes no lent byte, and writes the five numbers 0, w, 0, 1 read, 0 writes.
pub record ReadsWord (b : Bytes) (w : ℕ) (h : Hosted) : Type 0 where
  pub returned : h.refusal ≡ 0
  pub still : h.lent ≡ b
  pub forty : length h.out ≡ 40
  pub answer : answer_in h.out ≡ accepted w 0 1 0

-- Every device read of line a on bytes b does.
abbrev pub DeviceReads : Shape → ℕ → Bytes → ℕ → Type 0
DeviceReads s a b w = (c : StepCall) → HasRoom c → decode s (order_of c) ≡ Asked DeviceRead a → ReadsWord b w (call_on s c b)

-- After such a run the mark of a line is 0 exactly where no call set it since the last that cleared it.
abbrev pub HostMarkSays : Type 0
HostMarkSays =
    (s : Shape) (b : Bytes) (cs : List StepCall) → FreshRun s b cs → (a : ℕ) → a < s.lines
    → (mark_in (flat_now s b cs) a ≡ false) ↔ NotSetSince s b cs a

-- The device guarantee: then a device reads the line's flat word, without a flush.
abbrev pub HostDeviceGuarantee : Type 0
HostDeviceGuarantee =
    (s : Shape) (b : Bytes) (cs : List StepCall) → FreshRun s b cs → (a : ℕ) → NotSetSince s b cs a
    → DeviceReads s a (bytes_now s b cs) (word_in (flat_now s b cs) a)

-- What a device range buys: the mark of a line in it and outside scratch is 0, and a device reads the line's flat word.
abbrev pub HostDeviceRangeClean : Type 0
HostDeviceRangeClean =
    (s : Shape) (b : Bytes) (cs : List StepCall) → FreshRun s b cs → (a : ℕ) → IsIn s.device a → (IsIn s.scratch a → ⊥)
    → (mark_in (flat_now s b cs) a ≡ false) × DeviceReads s a (bytes_now s b cs) (word_in (flat_now s b cs) a)

-- What a device wrote is seen: after such a run, a device write of a line, and any calls that do not write the line, every read of it, by a port in
-- either mode or by a device, returns 0 and answers the flat word that the line had before, with the operand merged under the mask.
abbrev pub HostDeviceWriteSeen : Type 0
HostDeviceWriteSeen =
    (s : Shape) (b : Bytes) (cs : List StepCall) → FreshRun s b cs
    → (c : StepCall) → HasRoom c → (mask x a : ℕ) → decode s (order_of c) ≡ Asked (DeviceWrite mask x) a
    → (later : List StepCall) → AllRoom later → left_alone s a (orders_of later) (flat_step s (order_of c) (flat_now s b cs)).after ≡ true
    → (n : StepCall) → HasRoom n → is_read_of a (decode s (order_of n)) ≡ true
    → let read = call_on s n (bytes_after s later (call_on s c (bytes_now s b cs)).lent) in
    (read.refusal ≡ 0) × ((answer_in read.out).value ≡ merge mask (word_in (flat_now s b cs) a) x)
