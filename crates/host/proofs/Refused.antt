-- A refused call changes nothing. Assumes nothing.
use Prim.Native.Nat.{ℕ}
use mathlib.Core.Path.{◌≡◌, refl, ap, ◌∙◌}
use mathlib.Core.Logic.{◌≢◌}
use mathlib.Core.Bool.{Bool, true, false, ◌&&◌}
use mathlib.Core.List.{List, []}
use native.Mathlib.Omega.{arith}
use lib.Dec.{eqb}
use lib.ListN.{length}
use borrow.Author.Tests.{eqb-true, ne_eqb, not-true}
use Rattle.words.proofs.Bools.{Is, and_l, and_r, by_bool}
use Rattle.lengths.proofs.Lengths.{out_fits}
use Rattle.answers.specs.Answers.{answer_bytes}
use Rattle.ports.specs.Bytes.{Bytes, model_in}
use Rattle.shape.specs.declared.Shape.{Shape}
use Rattle.model.specs.Order.{Order, kind_of}
use Rattle.model.specs.Step.{Result, refused, step}
use Rattle.model.proofs.Claims.{refused_changes_nothing, never_nine}
use Rattle.counters.specs.Totals.{full, step_totals, totals_in}
use Rattle.host.specs.Host.{in_bytes, host_refusal, Hosted, hosted, refusal_put, verdict_put, host_step, host_fresh, host_audit}
use Rattle.host.specs.ReadBack.{OfBytes}
use Rattle.host.specs.Totals.{is_record, record_refusal, record_refused, HostedTotals, with_record, host_step_totals}
use Rattle.host.specs.Refused.{HostRefusedChangesNothing}
use Rattle.host.proofs.ReadBack.{lent_holds}

-- A call that returns a refusal leaves the bytes b, and the slice that it writes to as `out`.
abbrev Still : Bytes → (ℕ → List ℕ) → Hosted → Type 0
Still b out h = h.refusal ≢ 0 → h ≡ hosted h.refusal b (out h.refusal)

-- The same with a record, which it leaves as `totals`.
abbrev StillTotals : Bytes → (ℕ → List ℕ) → (ℕ → List ℕ) → HostedTotals → Type 0
StillTotals b out totals h =
    let n = h.hosted.refusal in
    n ≢ 0 → h ≡ with_record (hosted n b (out n)) (totals n)

module _ (s : Shape) (b : Bytes) (of : OfBytes b) where
  -- A step that is refused, in bytes: where the lengths fit, reading them and putting them again changes nothing.
  abbrev shown : Result → Hosted
  shown r = hosted r.answer.refusal (in_bytes r.after) (answer_bytes r.answer)

  shown_still : (o : Order) (fit : Bool) → host_refusal s b fit ≡ 0 → let r = step s o (model_in s b) in r.answer.refusal ≢ 0
      → shown r ≡ hosted r.answer.refusal b (answer_bytes (refused r.answer.refusal))
  shown_still o fit z h =
      ap shown (refused_changes_nothing s o (model_in s b) h)
      ∙ rw (lent_holds s b of (rw (out_fits s _ _ _ _ fit refl z) at z)).1

  module _ (o : Order) (out : List ℕ) where
    abbrev wide : Bool
    wide = eqb (length out) 40

    step_still : Still b (λ n. refusal_put n out) (host_step s o b out)
    unfolding host_step refusal_put
    step_still =
        by_bool (eqb (host_refusal s b wide) 0)
        (λ z. let e = eqb-true _ 0 z in let w = out_fits s _ _ _ _ wide refl e in
        rw (z, w) (shown_still o wide e))
        (λ z. rw (not-true (eqb (host_refusal s b wide) 0) z) (λ h. refl))

    -- With a record: refused for what is lent, or by the step.
    module _ (totals : List ℕ) where
      abbrev lent_refusal_lem : ℕ
      lent_refusal_lem = record_refusal s b out totals

      -- No refusal of what is lent: the slices fit, and the record has room.
      lent_fits : lent_refusal_lem ≡ 0 → Is (wide && is_record totals) × (full (totals_in totals) ≡ false) × (host_refusal s b (wide && is_record totals) ≡ 0)
      unfolding record_refusal
      lent_fits z =
          by_bool (is_record totals && full (totals_in totals))
          (λ f. absurd (let e = rw f at z in omega (arith, e)))
          (λ f. let e = rw (not-true (is_record totals && full (totals_in totals)) f) at z in
          let w = out_fits s _ _ _ _ (wide && is_record totals) refl e in
          (w, not-true (full (totals_in totals)) (rw (and_r wide (is_record totals) w) at f), e))

      totals_still : StillTotals b (λ n. refusal_put n out) (λ n. record_refused n (kind_of o) totals) (host_step_totals s o b out totals)
      unfolding host_step_totals step_totals refusal_put record_refused
      totals_still =
          by_bool (eqb lent_refusal_lem 0)
          (λ z. let f = lent_fits (eqb-true _ 0 z) in
          rw (z, f.1, and_l wide (is_record totals) f.0, and_r wide (is_record totals) f.0, ne_eqb _ 9 (never_nine s o (model_in s b)))
          (λ h. rw (shown_still o (wide && is_record totals) f.2 h, ap (λ (r : Result). r.answer) (refused_changes_nothing s o (model_in s b) h))))
          (λ z. rw (not-true (eqb lent_refusal_lem 0) z) (λ h. refl))

  fresh_still : Still b (λ n. []) (host_fresh s b)
  unfolding host_fresh
  fresh_still =
      by_bool (eqb (host_refusal s b true) 0)
      (λ z. rw z (λ h. absurd (h (eqb-true _ 0 z))))
      (λ z. rw (not-true (eqb (host_refusal s b true) 0) z) (λ h. refl))

  audit_still : (verdict : List ℕ) → let h = host_audit s b verdict in (h.lent ≡ b) × (h.refusal ≢ 0 → h.out ≡ verdict_put false verdict)
  unfolding host_audit
  audit_still verdict = (refl, λ h. rw (ne_eqb _ 0 h))

pub host_refused_changes_nothing : HostRefusedChangesNothing
host_refused_changes_nothing s b of = record {
  step = λ o out h. let e = step_still s b of o out h in (ap (λ (x : Hosted). x.lent) e, ap (λ (x : Hosted). x.out) e);
  step-totals = λ o out totals h.
      let e = totals_still s b of o out totals h in (
        ap (λ (x : HostedTotals). x.hosted.lent) e,
        ap (λ (x : HostedTotals). x.hosted.out) e,
        ap (λ (x : HostedTotals). x.totals) e,
      );
  fresh = λ h. ap (λ (x : Hosted). x.lent) (fresh_still s b of h);
  audit = audit_still s b of;
}
