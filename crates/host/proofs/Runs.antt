-- The agreement and the device's guarantees at the C calls: those of the model, read through what each call leaves. Assumes nothing.
use Prim.Native.Nat.{ℕ, zero, suc, ◌<◌}
use mathlib.Core.Path.{◌≡◌, refl, sym, ap, ◌∙◌}
use mathlib.Core.Bool.{Bool, true, false}
use mathlib.Core.List.{List, [], ◌∷◌}
use native.Mathlib.Omega.{arith}
use lib.Dec.{eqb}
use lib.ListN.{get_or, length}
use mathlib.Core.Logic.{◌≢◌}
use Rattle.words.specs.Bools.{bit}
use Rattle.words.specs.Word.{merge}
use Rattle.words.proofs.Bools.{Is, by_cond}
use Rattle.ports.specs.Bytes.{Bytes, model_in}
use Rattle.ports.proofs.Bytes.{lent}
use Rattle.shape.specs.declared.Shape.{Shape}
use Rattle.shape.specs.Range.{IsIn}
use Rattle.model.specs.declared.answer.Answer.{Answer}
use Rattle.model.specs.declared.order.Call.TheVariants.{DeviceRead, DeviceWrite}
use Rattle.model.specs.Order.{Asked}
use Rattle.model.specs.Order.{Order, decode}
use Rattle.model.specs.Tables.{Model, lent_refusal}
use Rattle.model.specs.Step.{Result, accepted, called, perform, step}
use Rattle.model.specs.Fresh.{fresh}
use Rattle.model.specs.Audit.{audit}
use Rattle.model.specs.Flat.{Flat, word_in, mark_in, flat_step}
use Rattle.model.specs.Agreement.{AgreesOver}
use Rattle.model.specs.Marks.{Event, clears, neither, SetSince, events_of, model_run, is_read_of, left_alone}
use Rattle.model.proofs.Theorem.{agreement, audited_agreement, fresh_sim}
use Rattle.model.proofs.Marks.{mark_says}
use Rattle.model.proofs.Device.{mark_clear, device_guarantee, device_write_seen}
use Rattle.model.proofs.InRanges.{device_range_clean}
use Rattle.host.specs.Host.{in_bytes, Hosted, host_fresh, host_audit}
use Rattle.host.specs.ReadBack.{OfBytes}
use Rattle.host.specs.Calls.{StepCall, order_of, orders_of, call_on, AllRoom, bytes_after, Lendable}
use Rattle.host.specs.Runs.{AuditsYes, HostAgreesOver, flat_of, FreshRun, HostAgreement, HostAuditedAgreement, bytes_now, flat_now, DeviceReads}
use Rattle.host.specs.Runs.{HostMarkSays, HostDeviceGuarantee, HostDeviceRangeClean, HostDeviceWriteSeen}
use Rattle.host.proofs.Host.{fitting}
use Rattle.host.proofs.ReadBack.{lent_holds}
use Rattle.host.proofs.Calls.{call_stepped, is_step, calls_are_run, fresh_is_fresh, audit_is_audit}

model_lent : (s : Shape) (b : Bytes) → Lendable s b → lent_refusal s (model_in s b) ≡ 0
model_lent s b lend = lent (fitting s b true lend.accepted)

says_yes : (s : Shape) (b : Bytes) → Lendable s b → Is (audit s (model_in s b)) → AuditsYes s b
says_yes s b lend y verdict h = audit_is_audit s b lend verdict h ∙ rw y

-- What agrees over the orders agrees over the calls.
over_calls : (s : Shape) (cs : List StepCall) (b : Bytes) (f : Flat) → Lendable s b → AllRoom cs → AgreesOver s (orders_of cs) (model_in s b) f
    → HostAgreesOver s cs b f
unfolding AgreesOver HostAgreesOver AllRoom
over_calls s [] b f lend room g = says_yes s b lend g
over_calls s (c ∷ cs) b f lend room g =
    let k = is_step s b lend c room.0 in (
      says_yes s b lend g.0,
      record { returned = k.returned ∙ g.1.refusal; forty = k.forty; written = rw k.answer g.1 },
      over_calls s cs (call_on s c b).lent (flat_step s (order_of c) f).after k.lendable room.1 (rw k.after g.2),
    )

from_fresh : (s : Shape) (b : Bytes) → lent_refusal s (model_in s b) ≡ 0 → (os : List Order) → AgreesOver s os (fresh s (model_in s b)) (flat_of s b)
unfolding model_in
from_fresh s b z os = agreement s (model_in s b) z os

pub host_agreement : HostAgreement
host_agreement s b cs run =
    let k = fresh_is_fresh s b run.bytes run.accepted in
    over_calls s cs (host_fresh s b).lent (flat_of s b) k.1 run.room (rw k.2 (from_fresh s b (model_lent s b k.0) (orders_of cs)))

-- A yes of the audit, read from its byte.
audit_lends : (s : Shape) (b : Bytes) → OfBytes b → AuditsYes s b → Lendable s b
unfolding host_audit
audit_lends s b of says = record { bytes = of; accepted = ap (λ (h : Hosted). h.refusal) (says (0 ∷ []) refl) }

bit_one : (b : Bool) → bit b ≡ 1 → Is b
bit_one true e = refl
bit_one false e = absurd (omega (arith, e))

audit-read : (s : Shape) (b : Bytes) → Lendable s b → AuditsYes s b → Is (audit s (model_in s b))
audit-read s b lend says =
    bit_one (audit s (model_in s b)) (ap (λ (h : Hosted). get_or h.out 0 0) (sym (audit_is_audit s b lend (0 ∷ []) refl) ∙ says (0 ∷ []) refl))

pub host_audited_agreement : HostAuditedAgreement
host_audited_agreement s b f cs of says fits room =
    let lend = audit_lends s b of says in
    over_calls s cs b f lend room (audited_agreement s (model_in s b) f (audit-read s b lend says) fits (orders_of cs))

-- A device read changes nothing.
device_still : (s : Shape) (t : Model) (o : Order) (a : ℕ) → decode s o ≡ Asked DeviceRead a → (step s o t).after ≡ t
unfolding step perform called
device_still s t o a asks = by_cond (λ (r : Result). r.after ≡ t) (eqb (lent_refusal s t) 0) _ _ (λ _. rw asks) (λ _. refl)

device_reads : (s : Shape) (b : Bytes) → Lendable s b → (a w : ℕ)
    → ((o : Order) → decode s o ≡ Asked DeviceRead a → (step s o (model_in s b)).answer ≡ accepted w 0 1 0) → DeviceReads s a b w
device_reads s b lend a w answers c room asks =
    let k = is_step s b lend c room in
    let is = answers (order_of c) asks in
    record {
      returned = k.returned ∙ ap (λ (y : Answer). y.refusal) is;
      still =
          ap (λ (h : Hosted). h.lent) (call_stepped s b lend c room) ∙ ap in_bytes (device_still s (model_in s b) (order_of c) a asks)
          ∙ (lent_holds s b lend.bytes lend.accepted).1;
      forty = k.forty;
      answer = k.answer ∙ is;
    }

-- Of a run from fresh on: what the bytes hold after it, and the laws of the model with the flat memory that starts from memory's bytes.
module _ (s : Shape) (b : Bytes) (cs : List StepCall) (run : FreshRun s b cs) where
  abbrev model_now : Model
  model_now = model_run s (orders_of cs) (fresh s (model_in s b))

  accepted_lent : lent_refusal s (model_in s b) ≡ 0
  accepted_lent = model_lent s b (fresh_is_fresh s b run.bytes run.accepted).0

  lend_now : Lendable s (bytes_now s b cs)
  lend_now = (calls_are_run s (host_fresh s b).lent (fresh_is_fresh s b run.bytes run.accepted).1 cs run.room).0

  holds_now : model_in s (bytes_now s b cs) ≡ model_now
  holds_now =
      let k = fresh_is_fresh s b run.bytes run.accepted in
      (calls_are_run s (host_fresh s b).lent k.1 cs run.room).1 ∙ ap (model_run s (orders_of cs)) k.2

  guarantee : (a : ℕ) → (SetSince (events_of s a (orders_of cs) (flat_of s b)) → ⊥) → (o : Order) → decode s o ≡ Asked DeviceRead a
      → (step s o model_now).answer ≡ accepted (word_in (flat_now s b cs) a) 0 1 0
  unfolding model_in
  guarantee a = device_guarantee s (model_in s b) accepted_lent (orders_of cs) a

  range_clean : (a : ℕ) → IsIn s.device a → (IsIn s.scratch a → ⊥)
      → (mark_in (flat_now s b cs) a ≡ false)
      × ((o : Order) → decode s o ≡ Asked DeviceRead a → (step s o model_now).answer ≡ accepted (word_in (flat_now s b cs) a) 0 1 0)
  unfolding model_in
  range_clean a inside apart = device_range_clean s (model_in s b) accepted_lent a inside apart (orders_of cs)

  write-seen : (mask x a : ℕ) (o : Order) → decode s o ≡ Asked (DeviceWrite mask x) a
      → (later : List Order) → left_alone s a later (flat_step s o (flat_now s b cs)).after ≡ true
      → (n : Order) → is_read_of a (decode s n) ≡ true
      → let read = (step s n (model_run s later (step s o model_now).after)).answer in
      (read.refusal ≡ 0) × (read.value ≡ merge mask (word_in (flat_now s b cs) a) x)
  unfolding model_in
  write-seen = device_write_seen s (model_in s b) accepted_lent (orders_of cs)

  flat_marks : length (flat_of s b).marks ≡ s.lines
  unfolding model_in
  flat_marks = (fresh_sim s (model_in s b) accepted_lent).flat_marks

  clear : (a : ℕ) → a < s.lines → (SetSince (events_of s a (orders_of cs) (flat_of s b)) → ⊥) → mark_in (flat_now s b cs) a ≡ false
  unfolding model_in
  clear = mark_clear s (model_in s b) accepted_lent (orders_of cs)

-- A start that sets nothing may be put in front.
with_start : (e : Event) (es : List Event) → SetSince es → SetSince (e ∷ es)
with_start e es (n, h, f) = (suc n, h, later)
  where
    later : (k : ℕ) → suc n < k → get_or (e ∷ es) k neither ≢ clears
    later zero l = absurd (omega arith)
    later (suc k) l = f k (omega arith)

pub host_mark_says : HostMarkSays
host_mark_says s b cs run a l = (
  λ u d. (mark_says s a (orders_of cs) (flat_of s b) (rw (flat_marks s b cs run) l)).0 u
      (with_start _ (events_of s a (orders_of cs) (flat_of s b)) d),
  clear s b cs run a l,
)

pub host_device_guarantee : HostDeviceGuarantee
host_device_guarantee s b cs run a unset =
    device_reads s (bytes_now s b cs) (lend_now s b cs run) a _ (λ o asks. rw (holds_now s b cs run) (guarantee s b cs run a unset o asks))

pub host_device_range_clean : HostDeviceRangeClean
host_device_range_clean s b cs run a inside apart =
    let clean = range_clean s b cs run a inside apart in
    (clean.0, device_reads s (bytes_now s b cs) (lend_now s b cs run) a _ (λ o asks. rw (holds_now s b cs run) (clean.1 o asks)))

pub host_device_write_seen : HostDeviceWriteSeen
host_device_write_seen s b cs run c room mask x a asks later rooms alone n here reads =
    let wrote = is_step s (bytes_now s b cs) (lend_now s b cs run) c room in
    let gone = calls_are_run s (call_on s c (bytes_now s b cs)).lent wrote.lendable later rooms in
    let read = is_step s (bytes_after s later (call_on s c (bytes_now s b cs)).lent) gone.0 n here in
    let holds = gone.1 ∙ ap (model_run s (orders_of later)) (wrote.after ∙ ap (λ (t : Model). (step s (order_of c) t).after) (holds_now s b cs run)) in
    let seen = write-seen s b cs run mask x a (order_of c) asks (orders_of later) alone (order_of n) reads in
    let answers = read.answer ∙ ap (λ (t : Model). (step s (order_of n) t).answer) holds in
    (read.returned ∙ ap (λ (t : Model). (step s (order_of n) t).answer.refusal) holds ∙ seen.0, ap (λ (y : Answer). y.value) answers ∙ seen.1)
