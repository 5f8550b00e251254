-- Calls of a C host, each on the bytes that the call before left: they are steps of the model, one after another. The proofs are in
-- proofs/Calls.antt; what follows for a run of calls is in specs/Runs.antt.
use Rattle.std.specs.Prelude.{ℕ, ◌≡◌, true, false, List, [], ◌∷◌, map, length}
use Rattle.words.specs.Bools.{bit}
use Rattle.answers.specs.Answers.{answer_in}
use Rattle.ports.specs.Bytes.{Bytes, model_in}
use Rattle.shape.specs.declared.Shape.{Shape}
use Rattle.shape.specs.Shape.{without_ranges, ranges_end}
use Rattle.model.specs.Order.{Order}
use Rattle.model.specs.Step.{step}
use Rattle.model.specs.Fresh.{fresh}
use Rattle.model.specs.Audit.{audit}
use Rattle.model.specs.Marks.{model_run}
use Rattle.counters.specs.Totals.{full, record_length, totals_in}
use Rattle.host.specs.Host.{host_refusal, Hosted, hosted, host_step, host_fresh, host_audit}
use Rattle.host.specs.ReadBack.{OfBytes}
use Rattle.host.specs.Totals.{host_step_totals}

-- A call: `moesi_step` with an order and the slice for its answer; or `moesi_step_totals`, with a record of totals besides.
pub data StepCall : Type 0 where
  plain : Order → List ℕ → StepCall
  counted : Order → List ℕ → List ℕ → StepCall

abbrev pub order_of : StepCall → Order
order_of (plain o out) = o
order_of (counted o out totals) = o

abbrev pub orders_of : List StepCall → List Order
orders_of cs = map order_of cs

-- What it returns, leaves and writes, on lent bytes.
abbrev pub call_on : Shape → StepCall → Bytes → Hosted
call_on s (plain o out) b = host_step s o b out
call_on s (counted o out totals) b = (host_step_totals s o b out totals).hosted

-- The slice for its answer has 40 bytes, and its record has its length and room for an order more.
abbrev pub HasRoom : StepCall → Type 0
HasRoom (plain o out) = length out ≡ 40
HasRoom (counted o out totals) = (length out ≡ 40) × (length totals ≡ record_length) × (full (totals_in totals) ≡ false)

unfoldable pub AllRoom : List StepCall → Type 0
AllRoom [] = Unit {0}
AllRoom (c ∷ cs) = HasRoom c × AllRoom cs

-- The bytes after a list of calls, each on those that the call before left.
unfoldable pub bytes_after : Shape → List StepCall → Bytes → Bytes
bytes_after s [] b = b
bytes_after s (c ∷ cs) b = bytes_after s cs (call_on s c b).lent

-- Lent bytes to which none of refusals 2, 3 and 12 is given.
pub record Lendable (s : Shape) (b : Bytes) : Type 0 where
  pub bytes : OfBytes b
  pub accepted : host_refusal s b true ≡ 0

-- A call is a step of the model that the bytes hold: it leaves bytes that hold the model after the step, writes the step's five numbers and
-- returns their refusal.
pub record IsStep (s : Shape) (o : Order) (b : Bytes) (h : Hosted) : Type 0 where
  pub lendable : Lendable s h.lent
  pub after : model_in s h.lent ≡ (step s o (model_in s b)).after
  pub returned : h.refusal ≡ (step s o (model_in s b)).answer.refusal
  pub forty : length h.out ≡ 40
  pub answer : answer_in h.out ≡ (step s o (model_in s b)).answer

abbrev pub CallIsStep : Type 0
CallIsStep = (s : Shape) (b : Bytes) → Lendable s b → (c : StepCall) → HasRoom c → IsStep s (order_of c) b (call_on s c b)

-- And so a list of calls is a run of the model.
abbrev pub CallsAreRun : Type 0
CallsAreRun =
    (s : Shape) (b : Bytes) → Lendable s b → (cs : List StepCall) → AllRoom cs
    → Lendable s (bytes_after s cs b) × (model_in s (bytes_after s cs b) ≡ model_run s (orders_of cs) (model_in s b))

-- Fresh and the audit in the same way.
abbrev pub FreshIsFresh : Type 0
FreshIsFresh =
    (s : Shape) (b : Bytes) → OfBytes b → (host_fresh s b).refusal ≡ 0
    → Lendable s b × Lendable s (host_fresh s b).lent × (model_in s (host_fresh s b).lent ≡ fresh s (model_in s b))

abbrev pub AuditIsAudit : Type 0
AuditIsAudit =
    (s : Shape) (b : Bytes) → Lendable s b → (verdict : List ℕ) → length verdict ≡ 1
    → host_audit s b verdict ≡ hosted 0 b (bit (audit s (model_in s b)) ∷ [])

-- Where the ranges end within lines, fresh and the audit are the same calls as without ranges. So a host may make a model first and set its ranges
-- then, as `struct moesi_model` does.
abbrev pub HostRangesApart : Type 0
HostRangesApart =
    (s : Shape) (b : Bytes) → ranges_end s ≡ true
    → (host_fresh s b ≡ host_fresh (without_ranges s) b) × ((verdict : List ℕ) → host_audit s b verdict ≡ host_audit (without_ranges s) b verdict)
