-- The refusals of what is lent: what none of them says, that none is 9, and refusal 12. Assumes nothing.
use Prim.Native.Nat.{ℕ}
use mathlib.Core.Path.{◌≡◌, refl, sym, ◌∙◌}
use mathlib.Core.Logic.{◌≢◌}
use mathlib.Core.Bool.{Bool, true, false, cond}
use native.Mathlib.Omega.{arith}
use Rattle.words.proofs.Bools.{Is, and_none, by_cond}
use Rattle.shape.specs.declared.Shape.{Shape}
use Rattle.shape.specs.Range.{ends_by, EndsBeyond}
use Rattle.shape.specs.Shape.{without_ranges, in_range, fits, ranges_end, fit_refusal, refusal_of}
use Rattle.shape.specs.Claims.{TwelveSays}
use Rattle.shape.proofs.Ranges.{ends_beyond, not_beyond}

-- All that refusal 0 says, whatever lengths `fit` is about.
abbrev Says : Shape → Bool → ℕ → Type 0
Says s fit n = n ≡ 0 → Is (in_range s) × Is fit × Is (ranges_end s)

pub accepted_all : (s : Shape) (fit : Bool) → Says s fit (cond (in_range s) (fit_refusal s fit) 2)
unfolding fit_refusal
accepted_all s fit =
    by_cond (Says s fit) (in_range s) _ _
    (λ r. by_cond (Says s fit) fit _ _
    (λ f. by_cond (Says s fit) (ranges_end s) 0 12 (λ e _. (r, f, e)) (λ _ z. absurd (omega (arith, z))))
    (λ _ z. absurd (omega (arith, z))))
    (λ _ z. absurd (omega (arith, z)))

-- And no such refusal is 9.
pub not_nine : (s : Shape) (fit : Bool) → cond (in_range s) (fit_refusal s fit) 2 ≢ 9
unfolding fit_refusal
not_nine s fit =
    by_cond (λ n. n ≢ 9) (in_range s) _ _
    (λ _. by_cond (λ n. n ≢ 9) fit _ _ (λ _. by_cond (λ n. n ≢ 9) (ranges_end s) 0 12 (λ _ z. omega (arith, z)) (λ _ z. omega (arith, z))) (λ _ z. omega (arith, z)))
    (λ _ z. omega (arith, z))

-- By the three tests.
beyond_12 : (r f : Bool) → ◌≡◌ {A = ℕ} (cond r (cond f 0 3) 2) 0 → ◌≡◌ {A = ℕ} (cond r (cond f 12 3) 2) 12
beyond_12 true true z = refl
beyond_12 true false z = absurd (omega (arith, z))
beyond_12 false f z = absurd (omega (arith, z))

before_12 : (r f e : Bool) → ◌≢◌ {A = ℕ} (cond r (cond f 0 3) 2) 0 → ◌≡◌ {A = ℕ} (cond r (cond f (cond e 0 12) 3) 2) (cond r (cond f 0 3) 2)
before_12 true true e n = absurd (n refl)
before_12 true false e n = refl
before_12 false f e n = refl

none_12 : (r f e : Bool) → ◌≡◌ {A = ℕ} (cond r (cond f (cond e 0 12) 3) 2) 0 → ◌≡◌ {A = ℕ} (cond r (cond f 0 3) 2) 0
none_12 true true e z = refl
none_12 true false e z = z
none_12 false f e z = z

-- Whether both ranges end within lines.
module _ (s : Shape) where
  scratch_fails : EndsBeyond s.scratch s.lines → ranges_end s ≡ false
  unfolding ranges_end
  scratch_fails b = rw (ends_beyond s.scratch s.lines b)

  device_fails : EndsBeyond s.device s.lines → ranges_end s ≡ false
  unfolding ranges_end
  device_fails b = rw (ends_beyond s.device s.lines b, and_none (ends_by s.scratch s.lines))

  neither_fails : (EndsBeyond s.scratch s.lines → ⊥) → (EndsBeyond s.device s.lines → ⊥) → ranges_end s ≡ true
  unfolding ranges_end
  neither_fails b d = rw (not_beyond s.scratch s.lines b, not_beyond s.device s.lines d)

module _ (s : Shape) (memory tags states words : ℕ) where
  abbrev fit : Bool
  fit = fits s memory tags states words

  without_is : refusal_of (without_ranges s) memory tags states words ≡ cond (in_range s) (cond fit 0 3) 2
  unfolding refusal_of fit_refusal ranges_end ends_by in_range fits
  without_is = refl

  -- Refusal 2, then 3, then 12.
  refusal_is : refusal_of s memory tags states words ≡ cond (in_range s) (cond fit (cond (ranges_end s) 0 12) 3) 2
  unfolding refusal_of fit_refusal
  refusal_is = refl

  pub accepted_without : refusal_of s memory tags states words ≡ 0 → refusal_of (without_ranges s) memory tags states words ≡ 0
  accepted_without z = without_is ∙ none_12 (in_range s) fit (ranges_end s) (sym refusal_is ∙ z)

pub twelve_says : TwelveSays
twelve_says s m g h w =
    let is = refusal_is s m g h w in
    let without = without_is s m g h w in
    let f = fit s m g h w in
    record {
      scratch_beyond = λ b z. is ∙ rw (scratch_fails s b) (beyond_12 (in_range s) f (sym without ∙ z));
      device_beyond = λ b z. is ∙ rw (device_fails s b) (beyond_12 (in_range s) f (sym without ∙ z));
      refused_before = λ n. is ∙ before_12 (in_range s) f (ranges_end s) (λ e. n (without ∙ e)) ∙ sym without;
      none_beyond = λ b d. is ∙ rw (neither_fails s b d) (sym without);
    }
