-- A call is a step, and a list of calls a run; fresh and the audit likewise. Assumes nothing.
use Prim.Native.Nat.{ℕ, ◌*◌}
use mathlib.Core.Path.{◌≡◌, refl, sym, ap, ◌∙◌}
use mathlib.Core.Bool.{Bool, true}
use mathlib.Core.List.{List, [], ◌∷◌}
use lib.Dec.{eqb}
use lib.ListN.{length}
use borrow.Author.Tests.{eq-eqb, eqb-true, not-true}
use Rattle.words.proofs.Bools.{by_bool}
use Rattle.endian.proofs.Little.{length-encoded}
use Rattle.lengths.specs.Lengths.{refusal_by}
use Rattle.lengths.proofs.Lengths.{refused_apart}
use Rattle.answers.specs.Answers.{answer_bytes}
use Rattle.ports.specs.Bytes.{Bytes, model_in}
use Rattle.ports.proofs.Bytes.{lent}
use Rattle.shape.specs.declared.Shape.{Shape}
use Rattle.shape.specs.Shape.{without_ranges, ranges_end}
use Rattle.model.specs.declared.answer.Answer.{Answer}
use Rattle.model.specs.Order.{Order}
use Rattle.model.specs.Tables.{Model}
use Rattle.model.specs.Step.{step}
use Rattle.model.specs.Fresh.{fresh}
use Rattle.model.specs.Audit.{audit}
use Rattle.model.specs.Marks.{model_run}
use Rattle.model.proofs.InRanges.{ranges_apart}
use Rattle.host.specs.Host.{in_bytes, host_refusal, Hosted, hosted, verdict_put, host_step, host_fresh, host_audit}
use Rattle.host.specs.ReadBack.{Held}
use Rattle.host.specs.Calls.{StepCall, plain, counted, order_of, orders_of, call_on, HasRoom, AllRoom, bytes_after, Lendable, IsStep, CallIsStep, CallsAreRun}
use Rattle.host.specs.Calls.{FreshIsFresh, AuditIsAudit, HostRangesApart}
use Rattle.host.proofs.Host.{fitting}
use Rattle.host.proofs.ReadBack.{read_back, lent_holds, step_holds, fresh_holds}
use Rattle.host.proofs.Records.{record_beside}

-- Bytes of the same lengths are refused alike.
same_refusal : (s : Shape) {m m' g g' h h' d d' : ℕ} → m ≡ m' → g ≡ g' → h ≡ h' → d ≡ d' → refusal_by s m g h d true ≡ refusal_by s m' g' h' d' true
same_refusal s em eg eh ed = rw (em, eg, eh, ed)

forty_bytes : (a : Answer) → length (answer_bytes a) ≡ 40
unfolding answer_bytes
forty_bytes a = length-encoded 8 (a.refusal ∷ a.value ∷ a.swapped ∷ a.reads ∷ a.writes ∷ [])

module _ (s : Shape) (b : Bytes) (lend : Lendable s b) where
  held : Held s (model_in s b)
  held = (lent_holds s b lend.bytes lend.accepted).0

  -- A model of this shape may be lent in bytes.
  lendable_in : (t : Model) → Held s t → Lendable s (in_bytes t)
  unfolding in_bytes
  lendable_in t h =
      let f = fitting s b true lend.accepted in
      record {
        bytes = (read_back s t h).1;
        accepted = same_refusal s
            (length-encoded 8 t.memory ∙ ap (λ (k : ℕ). 8 * k) h.memory.count ∙ sym f.memory_fits)
            (length-encoded 4 t.tags ∙ ap (λ (k : ℕ). 4 * k) h.tags.count ∙ sym f.filled.tags_fit)
            (h.states.count ∙ sym f.filled.states_fit)
            (length-encoded 8 t.words ∙ ap (λ (k : ℕ). 8 * k) h.words.count ∙ sym f.filled.words_fit)
            ∙ lend.accepted;
      }

  -- What a call returns, leaves and writes, by the step.
  abbrev stepped : Order → Hosted
  stepped o =
      let r = step s o (model_in s b) in
      hosted r.answer.refusal (in_bytes r.after) (answer_bytes r.answer)

  step_is : (o : Order) (out : List ℕ) → length out ≡ 40 → host_step s o b out ≡ stepped o
  unfolding host_step
  step_is o out h = rw (eq-eqb (length out) 40 h, lend.accepted)

  pub call_stepped : (c : StepCall) → HasRoom c → call_on s c b ≡ stepped (order_of c)
  call_stepped (plain o out) h = step_is o out h
  call_stepped (counted o out totals) h =
      (record_beside (record { shape = s; order = o; lent = b; out = out }) totals).0 h.1 h.2 ∙ step_is o out h.0

  stepped_is : (o : Order) → IsStep s o b (stepped o)
  stepped_is o =
      let k = step_holds s o (model_in s b) held in
      let t = (step s o (model_in s b)).after in
      record {
        lendable = lendable_in t k.0;
        after = (read_back s t k.0).0;
        returned = refl;
        forty = forty_bytes (step s o (model_in s b)).answer;
        answer = k.1;
      }

  pub is_step : (c : StepCall) → HasRoom c → IsStep s (order_of c) b (call_on s c b)
  is_step c h = rw (call_stepped c h) (stepped_is (order_of c))

pub call_is_step : CallIsStep
call_is_step = is_step

pub calls_are_run : CallsAreRun
unfolding AllRoom bytes_after model_run
calls_are_run s b lend [] room = (lend, refl)
calls_are_run s b lend (c ∷ cs) room =
    let first = is_step s b lend c room.0 in
    let rest = calls_are_run s (call_on s c b).lent first.lendable cs room.1 in
    (rest.0, rest.1 ∙ ap (model_run s (orders_of cs)) first.after)

-- Fresh returns the refusal of what is lent.
fresh_returns : (s : Shape) (b : Bytes) → (host_fresh s b).refusal ≡ host_refusal s b true
unfolding host_fresh
fresh_returns s b = by_bool (eqb (host_refusal s b true) 0) (λ z. rw z) (λ z. rw (not-true (eqb (host_refusal s b true) 0) z))

fresh-leaves : (s : Shape) (b : Bytes) → host_refusal s b true ≡ 0 → (host_fresh s b).lent ≡ in_bytes (fresh s (model_in s b))
unfolding host_fresh
fresh-leaves s b z = rw (eq-eqb (host_refusal s b true) 0 z)

pub fresh_is_fresh : FreshIsFresh
fresh_is_fresh s b of e =
    let z : host_refusal s b true ≡ 0 = sym (fresh_returns s b) ∙ e in
    let lend : Lendable s b = record { bytes = of; accepted = z } in
    let k = fresh_holds s (model_in s b) (held s b lend) in
    (lend, rw (fresh-leaves s b z) (lendable_in s b lend (fresh s (model_in s b)) k), rw (fresh-leaves s b z) (read_back s (fresh s (model_in s b)) k).0)

pub audit_is_audit : AuditIsAudit
unfolding host_audit verdict_put
audit_is_audit s b lend verdict h = rw (eq-eqb (length verdict) 1 h, lend.accepted)

-- With ranges and without.
module _ (s : Shape) (b : Bytes) (ends : ranges_end s ≡ true) where
  apart : (out : Bool) → host_refusal s b out ≡ host_refusal (without_ranges s) b out
  apart out = refused_apart s _ _ _ _ out ends

  same_model : model_in s b ≡ model_in (without_ranges s) b
  unfolding model_in
  same_model = refl

  same_tables : (out : Bool) → host_refusal s b out ≡ 0
      → (fresh s (model_in s b) ≡ fresh (without_ranges s) (model_in (without_ranges s) b)) × (audit s (model_in s b) ≡ audit (without_ranges s) (model_in (without_ranges s) b))
  same_tables out z = rw (← same_model) (ranges_apart s (model_in s b) (lent (fitting s b out z)))

  fresh_apart : host_fresh s b ≡ host_fresh (without_ranges s) b
  unfolding host_fresh
  fresh_apart =
      by_bool (eqb (host_refusal s b true) 0)
      (λ z. rw (← apart true, z, (same_tables true (eqb-true _ 0 z)).0))
      (λ z. rw (← apart true, not-true (eqb (host_refusal s b true) 0) z))

  audit_apart : (verdict : List ℕ) → host_audit s b verdict ≡ host_audit (without_ranges s) b verdict
  unfolding host_audit
  audit_apart verdict =
      let wide = eqb (length verdict) 1 in
      by_bool (eqb (host_refusal s b wide) 0)
      (λ z. rw (← apart wide, z, (same_tables wide (eqb-true _ 0 z)).1))
      (λ z. rw (← apart wide, not-true (eqb (host_refusal s b wide) 0) z))

pub host_ranges_apart : HostRangesApart
host_ranges_apart s b ends = (fresh_apart s b ends, audit_apart s b ends)
