-- Over every run each total is its sum over the answers other than 9; and a run in which 9 is not given is the run without a record, so that it
-- agrees with the flat memory. Assumes nothing.
use Prim.Native.Nat.{ℕ, zero, suc, ◌+◌, ◌*◌, ◌<◌, ◌≤◌}
use mathlib.Core.Path.{◌≡◌, refl, sym, ap, ◌∙◌}
use mathlib.Core.Logic.{◌≢◌, ◌↔◌}
use mathlib.Core.Bool.{Bool, true, false, cond, ◌&&◌, not}
use mathlib.Core.List.{List, [], ◌∷◌}
use native.Mathlib.Omega.{arith}
use native.Mathlib.Decide.{ℕ_discrete}
use lib.ListN.{length, length-set, get_or-replicate}
use lib.Seq.{get_or-set_same, get_or-set_other}
use lib.Dec.{eqb, ltb}
use borrow.Author.Tests.{eq-eqb, ne_eqb, ltb-true, ltb-false, not-true}
use Rattle.words.specs.Bools.{bit}
use Rattle.words.proofs.Bools.{not_both, by_bool, by_cond}
use Rattle.shape.specs.declared.Shape.{Shape}
use Rattle.model.specs.declared.answer.Answer.{Answer}
use Rattle.model.specs.Order.{Order, kinds, kind_of}
use Rattle.model.specs.Tables.{Model}
use Rattle.model.specs.Step.{refused, step}
use Rattle.model.specs.Flat.{Flat, flat_step}
use Rattle.model.specs.Agreement.{AgreesOver}
use Rattle.model.specs.Marks.{model_run}
use Rattle.model.proofs.Claims.{never_nine}
use Rattle.model.proofs.Theorem.{agreement}
use Rattle.counters.specs.Totals.{Totals, refused_place, reads_place, writes_place, swaps_place, places, total_at, zeros, full, order_place}
use Rattle.counters.specs.Totals.{plus, totals_after, Few, Counting, counting, step_totals}
use Rattle.counters.specs.Run.{Answered, answered, answers_with, model_with, totals_with, is_nine, others, sum_of, accepted_in, refused_in, reads_in}
use Rattle.counters.specs.Run.{writes_in, swapped_in, AreSums, TotalsAreSums, Without9, answers_without, SameWithout9, AgreesWith}
use Rattle.counters.specs.Run.{NineSays, AgreementWithTotals, TwoToAnOrder}
use Rattle.counters.proofs.Answers.{step_few}
use Rattle.counters.proofs.Counting.{place_low}

-- One answer, and then others: its number counts unless it is 9.
others_more : (f : Answered → ℕ) (x : Answered) (xs : List Answered) → sum_of f (others (x ∷ xs)) ≡ sum_of f (others (x ∷ [])) + sum_of f (others xs)
unfolding others sum_of
others_more f x xs = skipped (is_nine x)
  where
    skipped : (b : Bool) → sum_of f (cond b (others xs) (x ∷ others xs)) ≡ sum_of f (cond b [] (x ∷ [])) + sum_of f (others xs)
    skipped true = omega arith
    skipped false = omega arith

-- No answer and an answer 9 count for nothing, another for its number.
none_counts : (f : Answered → ℕ) → sum_of f (others []) ≡ 0
unfolding others sum_of
none_counts f = refl

nine_counts : (f : Answered → ℕ) (k : ℕ) → sum_of f (others (answered k (refused 9) ∷ [])) ≡ 0
unfolding others sum_of
nine_counts f k = refl

other_counts : (f : Answered → ℕ) (x : Answered) → x.answer.refusal ≢ 9 → sum_of f (others (x ∷ [])) ≡ f x
unfolding others sum_of
other_counts f x d = rw (ne_eqb x.answer.refusal 9 d) (omega arith)

-- Totals n grow to m by the sums over a list of answers; by what one answer adds.
pub record Grows (n m : Totals) (xs : List Answered) : Type 0 where
  pub accepted : (k : ℕ) → k < kinds → total_at m k ≡ total_at n k + sum_of (accepted_in k) (others xs)
  pub refused : total_at m refused_place ≡ total_at n refused_place + sum_of refused_in (others xs)
  pub reads : total_at m reads_place ≡ total_at n reads_place + sum_of reads_in (others xs)
  pub writes : total_at m writes_place ≡ total_at n writes_place + sum_of writes_in (others xs)
  pub swaps : total_at m swaps_place ≡ total_at n swaps_place + sum_of swapped_in (others xs)
  pub same : length m ≡ length n

abbrev pub Adds : Totals → Totals → Answered → Type 0
Adds n m x = Grows n m (x ∷ [])

-- Refusal 9 adds nothing.
pub adds_none : (n : Totals) (k : ℕ) → Adds n n (answered k (refused 9))
adds_none n k = record {
  accepted = λ j _. omega (arith, nine_counts (accepted_in j) k);
  refused = omega (arith, nine_counts refused_in k);
  reads = omega (arith, nine_counts reads_in k);
  writes = omega (arith, nine_counts writes_in k);
  swaps = omega (arith, nine_counts swapped_in k);
  same = refl;
}

-- One place with something more, seen from a place.
plus_at : (n : Totals) (k v j : ℕ) → k < length n → total_at (plus k v n) j ≡ total_at n j + cond (eqb k j) v 0
plus_at n k v j h =
    elim (ℕ_discrete k j) [
      | yes e ↦ rw (eq-eqb k j e, ← e) (get_or-set_same n k (total_at n k + v) 0 h)
      | no d ↦ rw (ne_eqb k j d) (get_or-set_other n k j (total_at n k + v) 0 (λ e. d (sym e)) ∙ omega arith)
    ]

plus-length : (n : Totals) (k v : ℕ) → length (plus k v n) ≡ length n
plus-length n k v = length-set n k (total_at n k + v)

-- The swapped number of an answer is one where it is 1.
swapped_one : (v : ℕ) → v ≤ 1 → v ≡ bit (eqb v 1)
swapped_one zero h = refl
swapped_one (suc zero) h = refl
swapped_one (suc (suc v)) h = absurd (omega arith)

one_if : (b : Bool) → cond b 1 0 ≡ bit b
one_if true = refl
one_if false = refl

module _ (n : Totals) (kind : ℕ) (a : Answer) (l : length n ≡ places) (few : Few kind a) where
  abbrev own : ℕ
  own = order_place kind a.refusal

  own_low : own ≤ kinds
  own_low = place_low few refl

  -- The totals with an answer counted, seen from a place.
  after_at : (j : ℕ) → total_at (totals_after n kind a) j
      ≡ total_at n j + cond (eqb own j) 1 0 + cond (eqb reads_place j) a.reads 0 + cond (eqb writes_place j) a.writes 0 + cond (eqb swaps_place j) a.swapped 0
  unfolding totals_after
  after_at j =
      let n₁ = plus own 1 n in
      let n₂ = plus reads_place a.reads n₁ in
      let n₃ = plus writes_place a.writes n₂ in
      let l₁ : length n₁ ≡ places = plus-length n own 1 ∙ l in
      let l₂ : length n₂ ≡ places = plus-length n₁ reads_place a.reads ∙ l₁ in
      let l₃ : length n₃ ≡ places = plus-length n₂ writes_place a.writes ∙ l₂ in
      let e₁ = plus_at n own 1 j (omega (arith, l, own_low)) in
      let e₂ = plus_at n₁ reads_place a.reads j (omega (arith, l₁)) in
      let e₃ = plus_at n₂ writes_place a.writes j (omega (arith, l₂)) in
      let e₄ = plus_at n₃ swaps_place a.swapped j (omega (arith, l₃)) in
      rw (e₄, e₃, e₂, e₁)

  pub after_length : length (totals_after n kind a) ≡ length n
  unfolding totals_after
  after_length =
      let n₁ = plus own 1 n in
      let n₂ = plus reads_place a.reads n₁ in
      plus-length (plus writes_place a.writes n₂) swaps_place a.swapped ∙ plus-length n₂ writes_place a.writes
      ∙ plus-length n₁ reads_place a.reads ∙ plus-length n own 1

  -- The order itself, at a kind's place and at that of refused orders.
  own_kind : (k : ℕ) → k < kinds → cond (eqb own k) 1 0 ≡ accepted_in k (answered kind a)
  own_kind k h =
      elim (ℕ_discrete a.refusal 0) [
        | yes e ↦ rw (eq-eqb a.refusal 0 e) (one_if (eqb kind k))
        | no d ↦ rw (ne_eqb a.refusal 0 d, ne_eqb refused_place k (λ e. omega (arith, e, h))) refl
      ]

  own_refused : cond (eqb own refused_place) 1 0 ≡ refused_in (answered kind a)
  own_refused =
      elim (ℕ_discrete a.refusal 0) [
        | yes e ↦ rw (eq-eqb a.refusal 0 e, ne_eqb kind refused_place (λ f. omega (arith, f, few.kind_counted e))) refl
        | no d ↦ rw (ne_eqb a.refusal 0 d) refl
      ]

  own_elsewhere : (j : ℕ) → kinds < j → ◌≡◌ {A = ℕ} (cond (eqb own j) 1 0) 0
  own_elsewhere j h = rw (ne_eqb own j (λ e. omega (arith, e, h, own_low))) refl

  -- No total grows by more than two.
  pub after_most : (k : ℕ) → total_at (totals_after n kind a) k ≤ total_at n k + 2
  after_most k =
      elim (ℕ_discrete k reads_place) [
        | yes e ↦ rw e (omega (arith, after_at reads_place, own_elsewhere reads_place (omega arith), few.reads))
        | no d₁ ↦ elim (ℕ_discrete k writes_place) [
          | yes e ↦ rw e (omega (arith, after_at writes_place, own_elsewhere writes_place (omega arith), few.writes))
          | no d₂ ↦ elim (ℕ_discrete k swaps_place) [
            | yes e ↦ rw e (omega (arith, after_at swaps_place, own_elsewhere swaps_place (omega arith), few.swapped))
            | no d₃ ↦ rw (
              after_at k,
              ne_eqb reads_place k (λ e. d₁ (sym e)),
              ne_eqb writes_place k (λ e. d₂ (sym e)),
              ne_eqb swaps_place k (λ e. d₃ (sym e)),
            ) (omega (arith, one_most (eqb own k)))
          ]
        ]
      ]
    where
      one_most : (b : Bool) → cond b 1 0 ≤ 1
      one_most true = omega arith
      one_most false = omega arith

  -- An answer other than 9 is counted.
  pub adds_answer : a.refusal ≢ 9 → Adds n (totals_after n kind a) (answered kind a)
  adds_answer d =
      let x = answered kind a in
      record {
        accepted = λ k h. at_kind k h ∙ more _ (accepted_in k) x d;
        refused = after_at refused_place ∙ ap (λ (v : ℕ). total_at n refused_place + v + 0 + 0 + 0) own_refused ∙ omega arith ∙ more _ refused_in x d;
        reads = after_at reads_place ∙ omega (arith, own_elsewhere reads_place (omega arith)) ∙ more _ reads_in x d;
        writes = after_at writes_place ∙ omega (arith, own_elsewhere writes_place (omega arith)) ∙ more _ writes_in x d;
        swaps = after_at swaps_place ∙ omega (arith, own_elsewhere swaps_place (omega arith), swapped_one a.swapped few.swapped) ∙ more _ swapped_in x d;
        same = after_length;
      }
    where
      more : (m : ℕ) (f : Answered → ℕ) (x : Answered) → x.answer.refusal ≢ 9 → m + f x ≡ m + sum_of f (others (x ∷ []))
      more m f x d = ap (λ (v : ℕ). m + v) (sym (other_counts f x d))

      at_kind : (k : ℕ) → k < kinds → total_at (totals_after n kind a) k ≡ total_at n k + accepted_in k (answered kind a)
      at_kind k h =
          after_at k
          ∙ rw (ne_eqb reads_place k (λ e. omega (arith, e, h)), ne_eqb writes_place k (λ e. omega (arith, e, h)), ne_eqb swaps_place k (λ e. omega (arith, e, h)))
          (omega (arith, own_kind k h))

adds_step : (s : Shape) (o : Order) (t : Model) (n : Totals) → length n ≡ places
    → Adds n (step_totals s o t n).totals (answered (kind_of o) (step_totals s o t n).answer)
unfolding step_totals
adds_step s o t n l =
    by_cond (λ (c : Counting). Adds n c.totals (answered (kind_of o) c.answer)) (full n) _ _ (λ _. adds_none n (kind_of o))
    (λ _. adds_answer n (kind_of o) (step s o t).answer l (step_few s o t) (never_nine s o t))

-- From any totals, each grows by its sum over the answers.
pub grows_none : (n : Totals) → Grows n n []
unfolding others sum_of
grows_none n = record {
  accepted = λ k _. omega arith;
  refused = omega arith;
  reads = omega arith;
  writes = omega arith;
  swaps = omega arith;
  same = refl;
}

pub grows_more : {n m p : Totals} {x : Answered} {xs : List Answered} → Adds n m x → Grows m p xs → Grows n p (x ∷ xs)
grows_more {x = x} {xs = xs} u v = record {
  accepted = λ k h. chain _ (accepted_in k) (u.accepted k h) (v.accepted k h);
  refused = chain _ refused_in u.refused v.refused;
  reads = chain _ reads_in u.reads v.reads;
  writes = chain _ writes_in u.writes v.writes;
  swaps = chain _ swapped_in u.swaps v.swaps;
  same = v.same ∙ u.same;
}
  where
    chain : (a : ℕ) {b c : ℕ} (f : Answered → ℕ) → b ≡ a + sum_of f (others (x ∷ [])) → c ≡ b + sum_of f (others xs) → c ≡ a + sum_of f (others (x ∷ xs))
    chain a f e g = let h = others_more f x xs in omega (arith, e, g, h)

grows : (s : Shape) (os : List Order) (t : Model) (n : Totals) → length n ≡ places → Grows n (totals_with s os t n) (answers_with s os t n)
unfolding totals_with answers_with
grows s [] t n l = grows_none n
grows s (o ∷ os) t n l =
    let r = step_totals s o t n in
    let u = adds_step s o t n l in
    grows_more u (grows s os r.after r.totals (u.same ∙ l))

-- What grows from zeros is the sums.
pub from_zeros : {m : Totals} {xs : List Answered} → Grows zeros m xs → AreSums m (others xs)
from_zeros {m} {xs} g = record {
  accepted = λ k h. g.accepted k h ∙ ap (λ (z : ℕ). z + sum_of (accepted_in k) (others xs)) (get_or-replicate places k 0 0 (omega (arith, h))) ∙ omega arith;
  refused = g.refused ∙ omega arith;
  reads = g.reads ∙ omega arith;
  writes = g.writes ∙ omega arith;
  swaps = g.swaps ∙ omega arith;
}

pub totals_are_sums : TotalsAreSums
totals_are_sums s os t = from_zeros (grows s os t zeros refl)

pub nine_says : NineSays
unfolding step_totals
nine_says s o t n =
    by_cond (λ (c : Counting). ((c.answer.refusal ≡ 9) ↔ (full n ≡ true)) × (full n ≡ true → c ≡ counting (refused 9) t n)) (full n) _ _
    (λ h. ((λ _. h, λ _. refl), λ _. refl))
    (λ h. ((λ e. absurd (never_nine s o t e), λ e. absurd (not_both e h)), λ e. absurd (not_both e h)))

-- Where 9 is not given, the step with totals is the step.
not_nine : (s : Shape) (o : Order) (t : Model) (n : Totals) → (step_totals s o t n).answer.refusal ≢ 9
    → ((step_totals s o t n).answer ≡ (step s o t).answer) × ((step_totals s o t n).after ≡ (step s o t).after)
unfolding step_totals
not_nine s o t n =
    by_cond (λ (c : Counting). c.answer.refusal ≢ 9 → (c.answer ≡ (step s o t).answer) × (c.after ≡ (step s o t).after)) (full n) _ _
    (λ _ d. absurd (d refl)) (λ _ d. (refl, refl))

pub same_without_9 : SameWithout9
unfolding Without9 answers_with model_with answers_without model_run
same_without_9 s [] t n h = (refl, refl)
same_without_9 s (o ∷ os) t n h =
    let e = not_nine s o t n h.0 in
    let r = step_totals s o t n in
    let i = same_without_9 s os r.after r.totals h.1 in (
      (λ j. answered (kind_of o) (e.0 j) ∷ i.0 j) ∙ ap (λ (u : Model). answered (kind_of o) (step s o t).answer ∷ answers_without s os u) e.1,
      i.1 ∙ ap (λ (u : Model). model_run s os u) e.1,
    )

agrees_with : (s : Shape) (os : List Order) (t : Model) (n : Totals) (f : Flat) → Without9 (answers_with s os t n) → AgreesOver s os t f
    → AgreesWith s os t n f
unfolding Without9 answers_with AgreesOver AgreesWith
agrees_with s [] t n f h a = a
agrees_with s (o ∷ os) t n f h a =
    let e = not_nine s o t n h.0 in
    let r = step_totals s o t n in
    let rest : AgreesOver s os r.after (flat_step s o f).after = rw e.1 a.2 in
    (a.0, rw e.0 a.1, agrees_with s os r.after r.totals (flat_step s o f).after h.1 rest)

pub agreement_with_totals : AgreementWithTotals
agreement_with_totals s t z os n h = agrees_with s os _ n _ h (agreement s t z os)

-- What an answer counts for is at most two, so a sum over answers is at most twice as many.
bit-most : (b : Bool) → bit b ≤ 2
bit-most true = omega arith
bit-most false = omega arith

module _ (f : Answered → ℕ) (most-two : (kind : ℕ) (a : Answer) → Few kind a → f (answered kind a) ≤ 2) where
  one_most : (s : Shape) (o : Order) (t : Model) (n : Totals) → sum_of f (others (answered (kind_of o) (step_totals s o t n).answer ∷ [])) ≤ 2
  unfolding step_totals
  one_most s o t n =
      let x = answered (kind_of o) (step s o t).answer in
      by_cond (λ (c : Counting). sum_of f (others (answered (kind_of o) c.answer ∷ [])) ≤ 2) (full n) _ _
      (λ _. omega (arith, nine_counts f (kind_of o)))
      (λ _. omega (arith, other_counts f x (never_nine s o t), most-two (kind_of o) (step s o t).answer (step_few s o t)))

  sum_most : (s : Shape) (os : List Order) (t : Model) (n : Totals) → sum_of f (others (answers_with s os t n)) ≤ 2 * length os
  unfolding answers_with
  sum_most s [] t n = omega (arith, none_counts f)
  sum_most s (o ∷ os) t n =
      let r = step_totals s o t n in
      let x = answered (kind_of o) r.answer in
      let xs = answers_with s os r.after r.totals in
      omega (arith, others_more f x xs, one_most s o t n, sum_most s os r.after r.totals)

pub beyond : (n : Totals) (k : ℕ) → length n ≤ k → total_at n k ≡ 0
beyond [] k h = refl
beyond (v ∷ n) zero h = absurd (omega arith)
beyond (v ∷ n) (suc k) h = beyond n k (omega arith)

far : (k : ℕ) → kinds ≤ k → k ≢ refused_place → k ≢ reads_place → k ≢ writes_place → k ≢ swaps_place → places ≤ k
far k h d₁ d₂ d₃ d₄ = omega arith

pub two_to_an_order : TwoToAnOrder
two_to_an_order s os t k =
    let g = grows s os t zeros refl in
    let e = from_zeros g in
    elim (ℕ_discrete k refused_place) [
      | yes h ↦ rw (h, e.refused) (sum_most refused_in (λ kind a _. bit-most (not (eqb a.refusal 0))) s os t zeros)
      | no d₁ ↦ elim (ℕ_discrete k reads_place) [
        | yes h ↦ rw (h, e.reads) (sum_most reads_in (λ kind a f. omega (arith, f.reads)) s os t zeros)
        | no d₂ ↦ elim (ℕ_discrete k writes_place) [
          | yes h ↦ rw (h, e.writes) (sum_most writes_in (λ kind a f. f.writes) s os t zeros)
          | no d₃ ↦ elim (ℕ_discrete k swaps_place) [
            | yes h ↦ rw (h, e.swaps) (sum_most swapped_in (λ kind a _. bit-most (eqb a.swapped 1)) s os t zeros)
            | no d₄ ↦ by_bool (ltb k kinds)
                (λ b. rw (e.accepted k (ltb-true k kinds b))
                (sum_most (accepted_in k) (λ kind a _. bit-most (eqb a.refusal 0 && eqb kind k)) s os t zeros))
                (λ b. let h = ltb-false k kinds (not-true _ b) in
                rw (beyond (totals_with s os t zeros) k (rw g.same (far k h d₁ d₂ d₃ d₄))) (omega arith))
          ]
        ]
      ]
    ]
