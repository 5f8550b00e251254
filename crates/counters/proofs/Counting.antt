-- An answer counted at the four places that it touches. Assumes nothing.
use Prim.Native.Nat.{ℕ, ◌+◌, ◌≤◌}
use mathlib.Core.Path.{◌≡◌, sym, ap, ◌∙◌}
use mathlib.Core.Logic.{◌≢◌}
use mathlib.Core.Bool.{false}
use native.Mathlib.Omega.{arith}
use native.Mathlib.Decide.{ℕ_discrete}
use lib.ListN.{set}
use lib.Seq.{get_or-set_other}
use borrow.Author.Tests.{eq-eqb, ne_eqb}
use Rattle.model.specs.declared.answer.Answer.{Answer}
use Rattle.model.specs.Order.{kinds}
use Rattle.counters.specs.declared.Counters.{Counters}
use Rattle.counters.specs.Totals.{Totals, reads_place, writes_place, swaps_place, total_at, full, order_place, plus, totals_after, Few}
use Rattle.counters.specs.Counters.{counters_at, counters_after, counters_put, Room}
use Rattle.counters.proofs.Places.{room_at}

-- An order's own place is a kind's or that of refused orders.
pub place_low : {kind : ℕ} {a : Answer} → Few kind a → {k : ℕ} → k ≡ order_place kind a.refusal → k ≤ kinds
place_low {kind} {a} few e =
    elim (ℕ_discrete a.refusal 0) [
      | yes z ↦ rw (e, eq-eqb a.refusal 0 z) (omega (arith, few.kind_counted z))
      | no d ↦ rw (e, ne_eqb a.refusal 0 d) (omega arith)
    ]

module _ (n : Totals) {kind : ℕ} {a : Answer} (few : Few kind a) where
  -- Totals that have room have it at these places.
  pub has_room : full n ≡ false → {k : ℕ} → k ≡ order_place kind a.refusal → {c : Counters} → c ≡ counters_at n k → Room c a
  unfolding counters_at
  has_room h {k} ek ec =
      let b = place_low few ek in
      rw ec (record {
        orders = room_at n h k (omega (arith, b));
        reads = room_at n h reads_place (omega arith);
        writes = room_at n h writes_place (omega arith);
        swaps = room_at n h swaps_place (omega arith);
        few_reads = few.reads;
        few_writes = few.writes;
        few_swapped = few.swapped;
      })

  -- The counters read, brought up to date and put back are the totals with the answer counted.
  put_back : (k : ℕ) → k ≤ kinds → counters_put n k (counters_after (counters_at n k) a)
      ≡ plus swaps_place a.swapped (plus writes_place a.writes (plus reads_place a.reads (plus k 1 n)))
  unfolding counters_put counters_after counters_at
  put_back k b =
      let n₁ = plus k 1 n in
      let n₂ = plus reads_place a.reads n₁ in
      let n₃ = plus writes_place a.writes n₂ in
      let r₁ : total_at n₁ reads_place ≡ total_at n reads_place = other n k _ reads_place (λ e. omega (arith, e, b)) in
      let w₁ : total_at n₁ writes_place ≡ total_at n writes_place = other n k _ writes_place (λ e. omega (arith, e, b)) in
      let w₂ : total_at n₂ writes_place ≡ total_at n₁ writes_place = other n₁ reads_place _ writes_place (λ e. omega (arith, e)) in
      let s₁ : total_at n₁ swaps_place ≡ total_at n swaps_place = other n k _ swaps_place (λ e. omega (arith, e, b)) in
      let s₂ : total_at n₂ swaps_place ≡ total_at n₁ swaps_place = other n₁ reads_place _ swaps_place (λ e. omega (arith, e)) in
      let s₃ : total_at n₃ swaps_place ≡ total_at n₂ swaps_place = other n₂ writes_place _ swaps_place (λ e. omega (arith, e)) in
      ap (λ (v : ℕ). set (set (set n₁ reads_place (v + a.reads)) writes_place (total_at n writes_place + a.writes)) swaps_place (total_at n swaps_place + a.swapped)) (sym r₁)
      ∙ ap (λ (v : ℕ). set (set n₂ writes_place (v + a.writes)) swaps_place (total_at n swaps_place + a.swapped)) (sym (w₂ ∙ w₁))
      ∙ ap (λ (v : ℕ). set n₃ swaps_place (v + a.swapped)) (sym (s₃ ∙ s₂ ∙ s₁))
    where
      other : (m : Totals) (i v j : ℕ) → j ≢ i → total_at (set m i v) j ≡ total_at m j
      other m i v j d = get_or-set_other m i j v 0 d

  pub counted_is : {k : ℕ} → k ≡ order_place kind a.refusal → {c d : Counters} → c ≡ counters_at n k → d ≡ counters_after c a → {m : Totals}
      → m ≡ counters_put n k d → m ≡ totals_after n kind a
  unfolding totals_after
  counted_is {k} ek ec ed em = em ∙ rw (ed, ec) (put_back k (place_low few ek) ∙ ap
      (λ (j : ℕ). plus swaps_place a.swapped (plus writes_place a.writes (plus reads_place a.reads (plus j 1 n)))) ek)
