-- What a trace yields, from what the code's parts yield. Assumes nothing.
use Prim.Native.Nat.{ℕ, zero, suc, ◌*◌, ◌-◌, ◌≤◌}
use mathlib.Core.Path.{◌≡◌, refl, ap, ◌∙◌}
use mathlib.Core.Bool.{Bool, true}
use mathlib.Core.List.{List, ◌∷◌, ◌++◌}
use native.Mathlib.Omega.{arith}
use lib.ListN.{length, take, drop, replicate}
use borrow.Author.Tests.{ne_eqb}
use Rattle.shape.specs.declared.Shape.{Shape}
use Rattle.shape.specs.declared.Sizes.{Sizes}
use Rattle.shape.specs.Shape.{in_range, entries, sizes_of, memory_bytes, tags_bytes, states_bytes, data_bytes}
use Rattle.model.specs.declared.answer.Answer.{Answer}
use Rattle.model.specs.Fresh.{zeroed}
use Rattle.model.specs.Audit.{audit}
use Rattle.endian.specs.Little.{number, numbers}
use Rattle.ports.specs.Bytes.{model_in}
use Rattle.shape.proofs.Bounds.{bounded}
use Rattle.refusals.specs.declared.Refusal.{Refusal}
use Rattle.refusals.specs.Numbers.{number as refusal_number}
use Rattle.refusals.proofs.Numbers.{some_number}
use Rattle.model.specs.Marks.{model_run}
use Rattle.replay.specs.Trace.{shape_in, orders_in, trace_refusal, orders_of, trace_orders, fives, answers_to, placed, start, refused, played, answers_of}
use Rattle.replay.specs.Shaped.{Shaped, shaped, shaped_in}
use Rattle.replay.proofs.Running.{orders_length, answers_length, fives_behind}

-- Prefixes of zeros are the start.
zeros : (k n : ℕ) → k ≤ n → ◌≡◌ {A = List ℕ} (take k (replicate n 0)) (replicate k 0)
zeros zero n h = refl
zeros (suc k) zero h = absurd (omega arith)
zeros (suc k) (suc n) h = ap (λ (l : List ℕ). 0 ∷ l) (zeros k n (omega arith))

-- Numbers in bytes of zeros are zeros.
drop-zeros : (w n : ℕ) → ◌≡◌ {A = List ℕ} (drop w (replicate n 0)) (replicate (n - w) 0)
drop-zeros zero n = let e : n - 0 ≡ n = omega arith in rw e
drop-zeros (suc w) zero = let e : 0 - suc w ≡ 0 = omega arith in rw e
drop-zeros (suc w) (suc n) = let e : suc n - suc w ≡ n - w = omega arith in rw e (drop-zeros w n)

number-zeros : (w n : ℕ) → number w (replicate n 0) ≡ 0
unfolding number
number-zeros zero n = refl
number-zeros (suc w) zero = rw (drop-zeros 1 0) (omega (arith, number-zeros w 0))
number-zeros (suc w) (suc n) = rw (drop-zeros 1 (suc n)) (omega (arith, number-zeros w (suc n - 1)))

numbers-zeros : (w k n : ℕ) → numbers w k (replicate n 0) ≡ replicate k 0
unfolding numbers
numbers-zeros w zero n = refl
numbers-zeros w (suc k) n = rw (number-zeros w n, drop-zeros w n, numbers-zeros w k (n - w))

-- The bytes that are lent.
module _ (s : Shape) (h : in_range s ≡ true) {n : Sizes} (e : n ≡ sizes_of s) where
  pub memory_few : n.memory ≤ 32768
  memory_few = rw e (omega (arith, (bounded s h).lines))

  pub tags_few : n.tags ≤ 2048
  tags_few = rw e (omega (arith, (bounded s h).entries-most))

  pub states_few : n.states ≤ 512
  states_few = rw e (omega (arith, (bounded s h).entries-most))

  pub data_few : n.«data» ≤ 4096
  data_few = rw e (omega (arith, (bounded s h).entries-most))

-- Arrays of zeros hold the start.
pub start_is : (s : Shape) → in_range s ≡ true
    → shaped_in s (replicate 32768 0) (replicate 2048 0) (replicate 512 0) (replicate 4096 0) ≡ shaped s (start s)
unfolding start zeroed model_in
start_is s h =
    rw (
      zeros (memory_bytes s) 32768 (memory_few s h refl),
      zeros (tags_bytes s) 2048 (tags_few s h refl),
      zeros (states_bytes s) 512 (states_few s h refl),
      zeros (data_bytes s) 4096 (data_few s h refl),
      numbers-zeros 8 s.lines (memory_bytes s),
      numbers-zeros 4 (entries s) (tags_bytes s),
      numbers-zeros 8 (entries s) (data_bytes s),
    )

-- The parts that are lent are those of the trace, and the answers go to the front.
pub parts_played : (s : Shape) (n : ℕ) (ys₀ : List Answer) {us vs ws xs : List ℕ} → us ≡ ws → vs ≡ xs → {m : Shaped} → m ≡ shaped s (start s)
    → {j : ℕ} → j ≡ n → (ys : List Answer) → fives ys ≡ answers_to m.shape (orders_of us vs 0 j) m.model
    → fives (ys ++ drop n ys₀) ≡ placed (answers_to s (orders_of ws xs 0 n) (start s)) (fives ys₀)
parts_played s n ys₀ {ws = ws} {xs} ew ex em ej ys h =
    let e : fives ys ≡ answers_to s (orders_of ws xs 0 n) (start s) = rw (ew, ex, em, ej) at h in
    let l : length (answers_to s (orders_of ws xs 0 n) (start s)) ≡ 5 * n =
    answers_length s (orders_of ws xs 0 n) (start s) ∙ ap (λ k. 5 * k) (orders_length ws xs 0 n) in
    rw l (fives_behind ys ys₀ n ∙ ap (λ (v : List ℕ). v ++ drop (5 * n) (fives ys₀)) e)

module _ (bs : List ℕ) (ys₀ : List Answer) where
  -- A refused trace.
  pub trace_refused : (r : Refusal) → refusal_number r ≡ trace_refusal bs
      → (refused (refusal_number r) ≡ played bs) × (fives ys₀ ≡ placed (answers_of bs) (fives ys₀))
  unfolding played answers_of
  trace_refused r e = (rw (← e, ne_eqb (refusal_number r) 0 (some_number r)), rw (← e, ne_eqb (refusal_number r) 0 (some_number r)))

  -- A trace that is played.
  pub trace_played : 0 ≡ trace_refusal bs → {s : Shape} → s ≡ shape_in bs → {k : ℕ} → k ≡ orders_in bs → {b : Bool} (ys : List Answer)
      → b ≡ audit s (model_run s (trace_orders k bs) (start s)) → fives ys ≡ placed (answers_to s (trace_orders k bs) (start s)) (fives ys₀)
      → (record { refusal = 0; shape = s; orders = k; passes = b } ≡ played bs) × (fives ys ≡ placed (answers_of bs) (fives ys₀))
  unfolding played answers_of
  trace_played e es ek ys h g = (rw (← e, h, es, ek), rw (← e) (rw (es, ek) at g))
