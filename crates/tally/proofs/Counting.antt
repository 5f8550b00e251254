-- One order counted, the loop over a trace's orders, and what a trace yields. Assumes nothing.
use Prim.Native.Nat.{ℕ, suc, ◌+◌, ◌*◌, ◌-◌, ◌<◌, ◌≤◌}
use mathlib.Core.Path.{◌≡◌, refl, ap, ◌∙◌}
use mathlib.Core.Bool.{true, false}
use mathlib.Core.Logic.{◌≢◌}
use mathlib.Core.List.{List, []}
use native.Mathlib.Omega.{arith}
use lib.ListN.{length, drop, replicate}
use borrow.Author.Tests.{ne_eqb, lt-ltb, le-ltb}
use Rattle.endian.specs.Little.{number, numbers}
use Rattle.decode.specs.Order.{order}
use Rattle.shape.specs.declared.Shape.{Shape}
use Rattle.shape.specs.Shape.{unranged}
use Rattle.model.specs.declared.answer.Answer.{Answer}
use Rattle.model.specs.Order.{Order, kind_of}
use Rattle.model.specs.Tables.{Model}
use Rattle.model.specs.Step.{Result, result, step}
use Rattle.replay.specs.Trace.{shape_in, orders_in, trace_refusal, order_at, orders_of, trace_orders, start}
use Rattle.replay.specs.Shaped.{Shaped, shaped}
use Rattle.replay.proofs.Running.{orders_length}
use Rattle.counters.specs.Totals.{Totals, total_at, zeros, full, totals_after, step_totals, record_length, totals_in}
use Rattle.counters.specs.Run.{totals_with}
use Rattle.counters.proofs.Sums.{two_to_an_order}
use Rattle.tally.specs.Tally.{tallied, rest_of}

-- One order: no room, or the step counted.
module _ (s : Shape) (o : Order) (t : Model) (n : Totals) where
  pub order-full : full n ≡ true → (t ≡ (step_totals s o t n).after) × (n ≡ (step_totals s o t n).totals)
  unfolding step_totals
  order-full f = (rw f, rw f)

  pub order_counted : full n ≡ false → {r : Answer} {u : Model} → result r u ≡ step s o t → {k : ℕ} → k ≡ kind_of o
      → {m : Totals} → m ≡ totals_after n k r → (u ≡ (step_totals s o t n).after) × (m ≡ (step_totals s o t n).totals)
  unfolding step_totals
  order_counted f e ek em =
      (rw f (ap (λ (z : Result). z.after) e), rw (f, em, ek) (ap (λ (z : Result). totals_after n (kind_of o) z.answer) e))

-- The loop's invariant, after k of n orders, from model t: those left, from what is there now, come to what all come to.
pub record Tallying (s : Shape) (ws xs : List ℕ) (n : ℕ) (t : Model) (p : Totals) (m : Shaped) (r : List ℕ) (k : ℕ) : Type 0 where
  pub below : k ≤ n
  pub shape : m.shape ≡ s
  pub long : length r ≡ record_length
  pub totals : totals_with s (orders_of ws xs k (n - k)) m.model (totals_in r) ≡ totals_with s (orders_of ws xs 0 n) t p

module _ (ws xs : List ℕ) (n : ℕ) where
  pub tallying_none : (m : Shaped) (r : List ℕ) → length r ≡ record_length → Tallying m.shape ws xs n m.model (totals_in r) m r 0
  tallying_none m r l = let e : n - 0 ≡ n = omega arith in record { below = omega arith; shape = refl; long = l; totals = rw e }

  module _ {s : Shape} {t : Model} {p : Totals} {m : Shaped} {r : List ℕ} {k : ℕ} (v : Tallying s ws xs n t p m r k) where
    pub tallying_more : k < n → {w x : ℕ} → order w x ≡ order_at ws xs k
        → {m' : Shaped} (q : List ℕ) → m'.shape ≡ m.shape → m'.model ≡ (step_totals m.shape (order w x) m.model (totals_in r)).after
        → totals_in q ≡ (step_totals m.shape (order w x) m.model (totals_in r)).totals
        → length q ≡ length r → Tallying s ws xs n t p m' q (k + 1)
    unfolding orders_of totals_with
    tallying_more h eo q es em eq el =
        let e : n - k ≡ suc (n - (k + 1)) = omega arith in
        record {
          below = omega arith;
          shape = es ∙ v.shape;
          long = el ∙ v.long;
          totals = rw (em, eq, v.shape, eo) (rw e at v.totals);
        }

    pub tallying_done : n ≤ k → totals_in r ≡ totals_with s (orders_of ws xs 0 n) t p
    unfolding orders_of totals_with
    tallying_done h = let e : n - k ≡ 0 = omega arith in rw e at v.totals

-- The parts that are lent are those of the trace, and the machine is the start.
pub parts_tallied : (s : Shape) (n : ℕ) {us vs ws xs : List ℕ} → us ≡ ws → vs ≡ xs → {m : Shaped} → m ≡ shaped s (start s) → (p : Totals)
    → {r : Totals} → r ≡ totals_with m.shape (orders_of us vs 0 n) m.model p → r ≡ totals_with s (orders_of ws xs 0 n) (start s) p
parts_tallied s n ew ex em p h = rw (ew, ex, em) at h

-- A row of zeros.
pub zero_row : {r : List ℕ} {n : ℕ} → r ≡ replicate n 0 → n ≡ record_length → totals_in r ≡ zeros
unfolding numbers number
zero_row e l = rw (e, l)

-- What `tally_trace` promises of the row's totals.
abbrev Yields : List ℕ → Totals → Type 0
Yields bs m = (m ≡ tallied bs) × ((k : ℕ) → total_at m k ≤ 4096)

zero_small : (k : ℕ) → total_at zeros k ≤ 4096
unfolding totals_with
zero_small k =
    omega (arith, two_to_an_order (unranged 0 0 0) [] (record { memory = []; tags = []; states = []; words = [] }) k)

-- A refused trace has a row of zeros.
pub refused_totals : {row : List ℕ} (bs old : List ℕ) → row ≡ replicate (length old) 0 → length old ≡ record_length → trace_refusal bs ≢ 0
    → totals_in row ≡ tallied bs
unfolding tallied
refused_totals bs old z l d = zero_row {n = length old} z l ∙ rw (ne_eqb (trace_refusal bs) 0 d)

pub refused_bounded : {row : List ℕ} (old : List ℕ) → row ≡ replicate (length old) 0 → length old ≡ record_length
    → (k : ℕ) → total_at (totals_in row) k ≤ 4096
refused_bounded old z l k = rw (zero_row {n = length old} z l) (zero_small k)

module _ (bs : List ℕ) where
  pub tally_counted : 0 ≡ trace_refusal bs → {s : Shape} → s ≡ shape_in bs → {k : ℕ} → k ≡ orders_in bs → k ≤ 2048 → {p : Totals} → p ≡ zeros
      → {m : Totals} → m ≡ totals_with s (trace_orders k bs) (start s) p → Yields bs m
  unfolding tallied
  tally_counted e {s} es {k} ek few ez {m} h =
      let g : m ≡ totals_with s (trace_orders k bs) (start s) zeros = rw ez at h in
      let l = orders_length (drop 16 bs) (drop (16 + 8 * k) bs) 0 k in
      (g ∙ rw (← e, es, ek), λ j. rw g (omega (arith, two_to_an_order s (trace_orders k bs) (start s) j, l, few)))

-- The bytes behind the sizes.
pub rest_none : (bs : List ℕ) {n : ℕ} → n ≡ orders_in bs → 2048 < n → (0 ≡ rest_of bs) × (0 ≤ 32768)
unfolding rest_of
rest_none bs {n} e h = (rw (← e, lt-ltb 2048 n h), omega arith)

pub rest_some : (bs : List ℕ) {n : ℕ} → n ≡ orders_in bs → n ≤ 2048 → (16 * n ≡ rest_of bs) × (16 * n ≤ 32768)
unfolding rest_of
rest_some bs {n} e h = (rw (← e, le-ltb 2048 n h), omega arith)
