-- Totals by their places: room, the search for a total without it, and the four numbers stored in a record. Assumes nothing.
use Prim.Native.Nat.{ℕ, zero, suc, ◌+◌, ◌*◌, ◌^◌, ◌<◌, ◌≤◌}
use mathlib.Core.Path.{◌≡◌, sym, ap, ◌∙◌}
use mathlib.Core.Bool.{Bool, false, ◌||◌}
use mathlib.Core.List.{List}
use native.Mathlib.Omega.{arith}
use native.Mathlib.Decide.{ℕ_discrete}
use native.Mathlib.Nat.{add-zero}
use native.Mathlib.Numerals.{add-one}
use lib.ListN.{set, length}
use lib.Seq.{sets}
use borrow.Author.Tests.{ltb-false}
use Rattle.std.proofs.Math.Bool.{or-false, or_assoc}
use Rattle.std.specs.List.{list_any, range_with_len}
use Rattle.words.proofs.Bools.{neither}
use Rattle.endian.specs.Little.{bytes_of}
use Rattle.endian.proofs.Little.{number_put}
use Rattle.model.specs.Below.{any_below}
use Rattle.model.specs.Order.{kinds}
use Rattle.counters.specs.declared.Counters.{Counters}
use Rattle.counters.specs.Totals.{Totals, reads_place, writes_place, swaps_place, places, total_at, most, high, full, record_length, totals_in}
use Rattle.counters.specs.Counters.{counters_put}

-- Totals that have room have it at each place.
module _ (n : Totals) where
  abbrev high_at : ℕ → Bool
  high_at k = high (total_at n k)

  room_below : (m k : ℕ) → any_below high_at m ≡ false → k < m → total_at n k ≤ most
  unfolding any_below high
  room_below zero k h b = absurd (omega arith)
  room_below (suc m) k h b =
      elim (ℕ_discrete k m) [
        | yes e ↦ rw e (ltb-false most (total_at n m) (neither (any_below high_at m) (high_at m) h).1)
        | no d ↦ room_below m k (neither (any_below high_at m) (high_at m) h).0 (omega arith)
      ]

  pub room_at : full n ≡ false → (k : ℕ) → k < places → total_at n k ≤ most
  unfolding full
  room_at h k b = room_below places k h b

  -- The places from k on, looked at one after the other.
  any_from : (m k : ℕ) → (any_below high_at k || list_any high_at (range_with_len k m)) ≡ any_below high_at (k + m)
  unfolding any_below
  any_from zero k = rw (add-zero k) (or-false (any_below high_at k))
  any_from (suc m) k =
      let e : k + suc m ≡ suc k + m = omega arith in
      rw (add-one k, e) (sym (or_assoc (any_below high_at k) (high_at k) (list_any high_at (range_with_len (suc k) m))) ∙ any_from m (suc k))

  pub full_is : {b : Bool} → b ≡ list_any high_at (range_with_len 0 places) → b ≡ full n
  unfolding full any_below
  full_is e = e ∙ any_from places 0

-- The four numbers, stored one after the other.
pub four_put : (bs : List ℕ) (k : ℕ) (c : Counters) → length bs ≡ record_length → k ≤ kinds
    → c.orders < 2 ^ 64 → c.reads < 2 ^ 64 → c.writes < 2 ^ 64 → c.swaps < 2 ^ 64
    → {l₁ l₂ l₃ l₄ : List ℕ} → l₁ ≡ sets bs (8 * k) (bytes_of 8 c.orders) → l₂ ≡ sets l₁ (8 * reads_place) (bytes_of 8 c.reads)
    → l₃ ≡ sets l₂ (8 * writes_place) (bytes_of 8 c.writes) → l₄ ≡ sets l₃ (8 * swaps_place) (bytes_of 8 c.swaps)
    → totals_in l₄ ≡ counters_put (totals_in bs) k c
unfolding counters_put
four_put bs k c n h f₁ f₂ f₃ f₄ {l₁} {l₂} {l₃} {l₄} e₁ e₂ e₃ e₄ =
    let s₁ = number_put 8 places k c.orders bs n (omega (arith, h)) (omega (arith, f₁)) e₁ in
    let s₂ = number_put 8 places reads_place c.reads l₁ s₁.0 (omega arith) (omega (arith, f₂)) e₂ in
    let s₃ = number_put 8 places writes_place c.writes l₂ s₂.0 (omega arith) (omega (arith, f₃)) e₃ in
    let s₄ = number_put 8 places swaps_place c.swaps l₃ s₃.0 (omega arith) (omega (arith, f₄)) e₄ in
    s₄.1 ∙ ap (λ (x : List ℕ). set x swaps_place c.swaps) (s₃.1 ∙ ap (λ (x : List ℕ). set x writes_place c.writes)
    (s₂.1 ∙ ap (λ (x : List ℕ). set x reads_place c.reads) s₁.1))
