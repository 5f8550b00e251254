-- A call of step with a record, by its three ways. Assumes nothing.
use Prim.Native.Nat.{ℕ}
use mathlib.Core.Path.{◌≡◌, refl, sym, ap, ◌∙◌}
use mathlib.Core.Logic.{◌≢◌}
use mathlib.Core.Bool.{Bool, true, false, cond}
use mathlib.Core.List.{List, [], ◌∷◌}
use native.Mathlib.Omega.{arith}
use lib.Dec.{eqb}
use lib.ListN.{length, drop}
use borrow.Author.Tests.{eq-eqb, ne_eqb, eqb-true, eqb-false, not-true}
use Rattle.words.proofs.Bools.{and_none, and_all, by_bool, by_cond}
use Rattle.endian.specs.Little.{number, encoded}
use Rattle.endian.proofs.Little.{number_at, same_bytes}
use Rattle.ports.specs.Bytes.{Bytes, model_in}
use Rattle.shape.specs.declared.Shape.{Shape}
use Rattle.model.specs.declared.answer.Answer.{Answer}
use Rattle.model.specs.Order.{Order, kind_of}
use Rattle.model.specs.Step.{Result, accepted, refused, step}
use Rattle.model.proofs.Claims.{refused_changes_nothing, never_nine}
use Rattle.counters.specs.Totals.{Totals, places, full, totals_after, Few, step_totals, record_length, totals_in, record_of}
use Rattle.counters.proofs.Answers.{step_few, refused_few}
use Rattle.lengths.proofs.Lengths.{out_fits, some_refusal}
use Rattle.lengths.proofs.Lengths as lengths
use Rattle.answers.specs.Answers.{answer_bytes, answer_in}
use Rattle.host.specs.Host.{host_refusal, Hosted, hosted, refusal_put, host_step}
use Rattle.host.specs.Totals.{is_record, record_refusal, record_refused, with_record, counts_in, host_step_totals}
use Rattle.host.specs.ReadBack.{AreBytes}

-- A refusal, put where the slice has its length, or not.
pub put_fits : (n : ℕ) (out : List ℕ) → length out ≡ 40 → {out' : List ℕ} → out' ≡ answer_bytes (refused n) → out' ≡ refusal_put n out
unfolding refusal_put
put_fits n out h e = e ∙ rw (eq-eqb (length out) 40 h)

pub put_other : (n : ℕ) (out : List ℕ) → length out ≢ 40 → out ≡ refusal_put n out
unfolding refusal_put
put_other n out h = rw (ne_eqb (length out) 40 h)

-- What is counted of a call.
pub counts_refused : (n : ℕ) (out : List ℕ) → n ≢ 0 → {a : Answer} → a ≡ refused n → a ≡ counts_in n out
unfolding counts_in
counts_refused n out h e = e ∙ rw (ne_eqb n 0 h)

pub counts_accepted : (n : ℕ) (out : List ℕ) → n ≡ 0 → {x y z : ℕ} → x ≡ number 8 (drop 16 out) → y ≡ number 8 (drop 24 out)
    → z ≡ number 8 (drop 32 out) → accepted 0 x y z ≡ counts_in n out
unfolding counts_in answer_in
counts_accepted n out h ex ey ez = rw (eq-eqb n 0 h, ex, ey, ez)

-- What is counted of an answer: all but its value.
abbrev counted : Answer → Answer
counted a = record { refusal = a.refusal; value = 0; swapped = a.swapped; reads = a.reads; writes = a.writes }

same_counted : (t : Totals) (k : ℕ) (a : Answer) → totals_after t k (counted a) ≡ totals_after t k a
unfolding totals_after
same_counted t k a = refl

module _ (s : Shape) (o : Order) (b : Bytes) (out : List ℕ) where
  abbrev pub wide : Bool
  wide = eqb (length out) 40

  abbrev pub refusal : ℕ
  refusal = host_refusal s b wide

  not_nine : refusal ≢ 9
  not_nine = lengths.never_nine s _ _ _ _ wide

  -- The answer of a call without a record, also where it is not written.
  abbrev pub step_answer : Answer
  step_answer = cond (eqb refusal 0) (step s o (model_in s b)).answer (refused refusal)

  pub step_counts : Few (kind_of o) step_answer
  step_counts =
      by_cond (Few (kind_of o)) (eqb refusal 0) _ _ (λ _. step_few s o (model_in s b)) (λ h. refused_few (kind_of o) refusal (eqb-false refusal 0 (not-true _ h)))

  pub answer_not_nine : step_answer.refusal ≢ 9
  answer_not_nine = by_cond (λ (a : Answer). a.refusal ≢ 9) (eqb refusal 0) _ _ (λ _. never_nine s o (model_in s b)) (λ _. not_nine)

  -- What is read of an answer that was written is that answer, but for the value.
  answer-read : (a : Answer) → a ≡ (step s o (model_in s b)).answer → (n : ℕ) → n ≡ a.refusal → counts_in n (answer_bytes a) ≡ counted a
  unfolding counts_in answer_in answer_bytes
  answer-read a e n en =
      let few : Few (kind_of o) a = rw e (step_few s o (model_in s b)) in
      let at = number_at 8 (a.refusal ∷ a.value ∷ a.swapped ∷ a.reads ∷ a.writes ∷ []) in
      by_bool (eqb n 0)
      (λ z. rw (z, at 2 (omega (arith, few.swapped)), at 3 (omega (arith, few.reads)), at 4 (omega (arith, few.writes)), ← en, eqb-true n 0 z))
      (λ z. rw (not-true (eqb n 0) z) (zeros (λ f. eqb-false n 0 (not-true _ z) (en ∙ f))))
    where
      zeros : a.refusal ≢ 0 → refused n ≡ counted a
      zeros d =
          let g : a ≡ refused a.refusal =
          e ∙ ap (λ (r : Result). r.answer) (refused_changes_nothing s o (model_in s b) (rw e at d)) ∙ ap refused (sym (ap (λ (y : Answer). y.refusal) e)) in
          ap refused en ∙ sym (ap counted g)

  module _ {n : ℕ} {b' : Bytes} {out' : List ℕ} (e : hosted n b' out' ≡ host_step s o b out) where
    -- An accepted call wrote its answer.
    pub accepted_wide : n ≡ 0 → length out ≡ 40
    unfolding host_step
    accepted_wide z =
        let f = ap (λ (h : Hosted). h.refusal) e in
        by_bool (eqb refusal 0)
        (λ y. eqb-true _ _ (out_fits s _ _ _ _ wide refl (eqb-true refusal 0 y)))
        (λ y. absurd (eqb-false refusal 0 (not-true _ y) (sym (rw (not-true (eqb refusal 0) y) at f) ∙ z)))

    call_read : counts_in n out' ≡ counted step_answer
    unfolding host_step
    call_read =
        by_bool (eqb refusal 0)
        (λ y. let f = rw y at e in
        rw y (ap (counts_in n) (ap (λ (h : Hosted). h.out) f) ∙ answer-read (step s o (model_in s b)).answer refl n (ap (λ (h : Hosted). h.refusal) f)))
        (λ y. let f = ap (λ (h : Hosted). h.refusal) (rw (not-true (eqb refusal 0) y) at e) in
        rw (not-true (eqb refusal 0) y) (sym (counts_refused n out' (λ z. eqb-false refusal 0 (not-true _ y) (sym f ∙ z)) refl) ∙ ap refused f))

    -- What is read may be counted.
    pub read_few : {k : ℕ} → k ≡ kind_of o → {a : Answer} → a ≡ counts_in n out' → Few k a
    read_few ek ea =
        rw (ek, ea, call_read) (record {
          reads = step_counts.reads;
          writes = step_counts.writes;
          swapped = step_counts.swapped;
          kind_counted = step_counts.kind_counted;
        })

  module _ (bs : List ℕ) where
    -- The record has another length: refusal 2 or 3, and it is left alone.
    pub record_misfit : length bs ≢ record_length → {n : ℕ} → n ≡ host_refusal s b false → {out' : List ℕ} → out' ≡ refusal_put n out
        → with_record (hosted n b out') bs ≡ host_step_totals s o b out bs
    unfolding host_step_totals record_refusal record_refused
    record_misfit h {n} en eo =
        let z : n ≢ 0 = rw en (some_refusal s _ _ _ _) in
        rw (eo, ne_eqb (length bs) record_length h, and_none wide, ← en, ne_eqb n 0 z)

    -- A total has no room: refusal 9, and nothing else is looked at.
    pub record_full : length bs ≡ record_length → full (totals_in bs) ≡ true → {out' : List ℕ} → out' ≡ refusal_put 9 out
        → with_record (hosted 9 b out') bs ≡ host_step_totals s o b out bs
    unfolding host_step_totals record_refusal record_refused
    record_full h f eo = rw (eo, eq-eqb (length bs) record_length h, f)

    -- Else the call is that without a record, and it is counted.
    pub call_counted : is_record bs ≡ true → full (totals_in bs) ≡ false
        → with_record (host_step s o b out) (record_of (totals_after (totals_in bs) (kind_of o) step_answer)) ≡ host_step_totals s o b out bs
    unfolding host_step host_step_totals record_refusal record_refused refusal_put step_totals
    call_counted h f =
        by_bool (eqb refusal 0)
        (λ z. rw (h, f, and_all wide, z))
        (λ z. rw (h, f, and_all wide, not-true (eqb refusal 0) z, ne_eqb refusal 9 not_nine))

    pub record_counted : length bs ≡ record_length → full (totals_in bs) ≡ false → {k : ℕ} → k ≡ kind_of o
        → {n : ℕ} {b' : Bytes} {out' : List ℕ} → hosted n b' out' ≡ host_step s o b out → {a : Answer} → a ≡ counts_in n out'
        → {bs' : List ℕ} → totals_in bs' ≡ totals_after (totals_in bs) k a → length bs' ≡ length bs → AreBytes bs'
        → with_record (hosted n b' out') bs' ≡ host_step_totals s o b out bs
    record_counted h f ek e ea {bs'} em el eb =
        let after : totals_in bs' ≡ totals_after (totals_in bs) (kind_of o) step_answer
        = em ∙ rw (ek, ea, call_read e, same_counted (totals_in bs) (kind_of o) step_answer) in
        ap (with_record _) (sym (same_bytes 8 places bs' eb (el ∙ h)) ∙ ap (encoded 8) after)
        ∙ ap (λ (x : Hosted). with_record x (record_of (totals_after (totals_in bs) (kind_of o) step_answer))) e
        ∙ call_counted (eq-eqb (length bs) record_length h) f
