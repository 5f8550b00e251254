-- The mode in force, by its tests put together. Assumes nothing.
use Prim.Native.Nat.{ℕ}
use mathlib.Core.Path.{◌≡◌, refl}
use mathlib.Core.Bool.{Bool, true, false, cond, ◌&&◌, ◌||◌, not}
use lib.Dec.{eqb}
use Rattle.words.proofs.Bools.{Is, and_l, and_r}
use Rattle.protocol.specs.declared.state.Mode.{Mode}
use Rattle.protocol.specs.declared.state.Mode.TheVariants.{Through, Back}
use Rattle.shape.specs.declared.Shape.{Shape}
use Rattle.shape.specs.Range.{inside}
use Rattle.shape.specs.Shape.{ranges_empty}
use Rattle.shape.proofs.Ranges.{empty_outside}
use Rattle.model.specs.Order.{bits, mode_in_force}

mode_by : (scratch device said : Bool)
    → cond (scratch || (not device && said)) Back Through ≡ cond scratch Back (cond device Through (cond said Back Through))
mode_by true device said = refl
mode_by false true said = refl
mode_by false false said = refl

module _ (s : Shape) (w a : ℕ) where
  -- There are no ranges.
  pub as_said : {e : Bool} → e ≡ ranges_empty s → Is e → {m : Mode} → m ≡ cond (eqb (bits w 3 1) 1) Back Through → m ≡ mode_in_force s w a
  unfolding mode_in_force
  as_said ee h em =
      let b = rw ee at h in
      let x = eqb s.scratch.count 0 in
      let y = eqb s.device.count 0 in
      rw (empty_outside s.scratch a (and_l x y b), empty_outside s.device a (and_r x y b)) em

  pub in_force : {x y : Bool} → x ≡ inside s.scratch a → y ≡ inside s.device a → {m : Mode}
      → m ≡ cond (x || (not y && eqb (bits w 3 1) 1)) Back Through → m ≡ mode_in_force s w a
  unfolding mode_in_force
  in_force {x} {y} ex ey em = rw (em, mode_by x y (eqb (bits w 3 1) 1), ex, ey) refl
