-- Refusals 1 and 2 of a trace, in checking order, and what holds of a trace that has none. Assumes nothing.
use Prim.Native.Nat.{ℕ, ◌+◌, ◌*◌, ◌<◌, ◌≤◌}
use mathlib.Core.Path.{◌≡◌, refl, sym}
use mathlib.Core.Logic.{◌≢◌}
use mathlib.Core.Bool.{Bool, true, false, cond, ◌||◌, not}
use mathlib.Core.List.{List}
use native.Mathlib.Omega.{arith}
use lib.ListN.{length}
use lib.Dec.{eqb, ltb}
use borrow.Author.Tests.{lt-ltb, le-ltb, eq-eqb, ne_eqb, eqb-true, ltb-false, not-false}
use Rattle.words.proofs.Bools.{neither}
use Rattle.shape.specs.declared.Shape.{Shape}
use Rattle.shape.specs.Range.{ends_by}
use Rattle.shape.specs.Shape.{in_range, ranges_end}
use Rattle.replay.specs.Trace.{shape_in, orders_in, trace_refusal}

-- A trace that is not refused.
pub record Whole (bs : List ℕ) : Type 0 where
  pub few : orders_in bs ≤ 2048
  pub fits : length bs ≡ 16 + 16 * orders_in bs
  pub range : in_range (shape_in bs) ≡ true

none : (b c : Bool) → ◌≡◌ {A = ℕ} (cond b 1 (cond c 0 2)) 0 → (b ≡ false) × (c ≡ true)
none true c e = absurd (omega (arith, e))
none false true e = (refl, refl)
none false false e = absurd (omega (arith, e))

module _ (bs : List ℕ) where
  pub whole : 0 ≡ trace_refusal bs → Whole bs
  unfolding trace_refusal
  whole e =
      let short = ltb (length bs) 16 in
      let many = ltb 2048 (orders_in bs) in
      let f = none (short || many || not (eqb (length bs) (16 + 16 * orders_in bs))) (in_range (shape_in bs)) (sym e) in
      let g = neither (short || many) _ f.0 in
      record { few = ltb-false _ _ (neither short many g.0).1; fits = eqb-true _ _ (not-false _ g.1); range = f.1 }

  -- The same of the sizes as read.
  pub whole_is : 0 ≡ trace_refusal bs → {s : Shape} → s ≡ shape_in bs → {k : ℕ} → k ≡ orders_in bs
      → (in_range s ≡ true) × ((ranges_end s ≡ true) × ((k ≤ 2048) × (length bs ≡ 16 + 16 * k)))
  unfolding ranges_end ends_by
  whole_is e es ek = let w = whole e in (rw es w.range, (rw es refl, (rw ek w.few, rw ek w.fits)))

  pub refused-short : length bs < 16 → 1 ≡ trace_refusal bs
  unfolding trace_refusal
  refused-short h = rw (lt-ltb (length bs) 16 h)

  module _ (l : 16 ≤ length bs) {n : ℕ} (e : n ≡ orders_in bs) where
    pub refused_many : 2048 < n → 1 ≡ trace_refusal bs
    unfolding trace_refusal
    refused_many h = rw (← e, le-ltb (length bs) 16 l, lt-ltb 2048 n h)

    module _ (m : n ≤ 2048) where
      pub refused_misfit : length bs ≢ 16 + 16 * n → 1 ≡ trace_refusal bs
      unfolding trace_refusal
      refused_misfit d = rw (← e, le-ltb (length bs) 16 l, le-ltb 2048 n m, ne_eqb (length bs) (16 + 16 * n) d)

      -- The length is right: what is left is the shape.
      pub refused-range : length bs ≡ 16 + 16 * n → {s : Shape} → s ≡ shape_in bs → {b : Bool} → b ≡ in_range s → cond b 0 2 ≡ trace_refusal bs
      unfolding trace_refusal
      refused-range f es eb = rw (← e, le-ltb (length bs) 16 l, le-ltb 2048 n m, eq-eqb (length bs) (16 + 16 * n) f, eb, es)
