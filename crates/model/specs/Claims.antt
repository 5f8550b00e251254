-- What is proved of a step and of the audit on every input, beside the agreement. The proofs are in proofs/Claims.antt.
use Rattle.std.specs.Prelude.{ℕ, ◌<◌, ◌≤◌, ◌≡◌, ◌≢◌, ◌↔◌, true}
use Rattle.protocol.specs.declared.state.Mode.{Mode}
use Rattle.words.specs.declared.access.Access.TheVariants.{Read, Swap}
use Rattle.shape.specs.declared.Shape.{Shape}
use Rattle.model.specs.declared.order.Call.TheVariants.{ByPort}
use Rattle.model.specs.Order.{Asked}
use Rattle.model.specs.Order.{Order, kinds, kind_of, decode}
use Rattle.model.specs.Tables.{Model}
use Rattle.model.specs.Step.{step, refuse}
use Rattle.model.specs.Audit.{audit, Coherent}
use Rattle.model.specs.Find.{find, find_refusal, found_refusal}

-- Each order makes at most one memory read and two memory writes.
abbrev pub FewAccesses : Type 0
FewAccesses = (s : Shape) (o : Order) (t : Model) → ((step s o t).answer.reads ≤ 1) × ((step s o t).answer.writes ≤ 2)

-- The swapped number is 0 or 1.
abbrev pub SwappedOnce : Type 0
SwappedOnce = (s : Shape) (o : Order) (t : Model) → (step s o t).answer.swapped ≤ 1

-- A swap that fails does exactly what a read does, on a hit and on a miss: where a swap answers 'not swapped', the step, answer, memory and tables, is
-- that of a read by the same port of the same line in the same mode. (Under refusal 2, 3, 12 or 8 it answers so too, and that read is refused
-- likewise. Of a swap with refusal 7, which no read has, nothing is said.)
abbrev pub FailedSwapReads : Type 0
FailedSwapReads =
    (s : Shape) (t : Model) (i a mask x compare : ℕ) (m : Mode) (swap read : Order)
    → decode s swap ≡ Asked (ByPort (Swap mask x compare) m i) a → decode s read ≡ Asked (ByPort Read m i) a
    → (step s swap t).answer.swapped ≡ 0 → step s swap t ≡ step s read t

-- An accepted order is of one of the kinds.
abbrev pub AcceptedKind : Type 0
AcceptedKind = (s : Shape) (o : Order) (t : Model) → (step s o t).answer.refusal ≡ 0 → kind_of o < kinds

-- The step never gives refusal 9: it belongs to the step with a record of totals alone.
abbrev pub NeverNine : Type 0
NeverNine = (s : Shape) (o : Order) (t : Model) → (step s o t).answer.refusal ≢ 9

-- A refused order answers its number and four zeros, and changes nothing.
abbrev pub RefusedChangesNothing : Type 0
RefusedChangesNothing = (s : Shape) (o : Order) (t : Model) → (step s o t).answer.refusal ≢ 0 → step s o t ≡ refuse (step s o t).answer.refusal t

-- Finding's answer has its refusal's number.
abbrev pub FindSays : Type 0
FindSays = (s : Shape) (t : Model) (a : ℕ) → found_refusal (find s t a) ≡ find_refusal s t a

-- The audit says yes exactly where its plain facts hold.
abbrev pub AuditSays : Type 0
AuditSays = (s : Shape) (t : Model) → (audit s t ≡ true) ↔ Coherent s t
