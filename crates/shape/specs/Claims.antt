-- What is proved of refusal 12. The proof is `twelve_says` in proofs/Refusals.antt.
use Rattle.std.specs.Prelude.{ℕ, ◌≡◌, ◌≢◌}
use Rattle.shape.specs.declared.Shape.{Shape}
use Rattle.shape.specs.Range.{EndsBeyond}
use Rattle.shape.specs.Shape.{without_ranges, refusal_of}

-- Refusal 12 is given where a range that is not empty ends beyond lines, and nothing is refused before it; else what is lent, memory and tables
-- of these lengths, is refused as without ranges. The sum in `EndsBeyond` is of natural numbers.
pub record RefusedInRanges (s : Shape) (memory tags states words : ℕ) : Type 0 where
  pub scratch_beyond : EndsBeyond s.scratch s.lines → refusal_of (without_ranges s) memory tags states words ≡ 0
      → refusal_of s memory tags states words ≡ 12
  pub device_beyond : EndsBeyond s.device s.lines → refusal_of (without_ranges s) memory tags states words ≡ 0
      → refusal_of s memory tags states words ≡ 12
  pub refused_before : refusal_of (without_ranges s) memory tags states words ≢ 0
      → refusal_of s memory tags states words ≡ refusal_of (without_ranges s) memory tags states words
  pub none_beyond : (EndsBeyond s.scratch s.lines → ⊥) → (EndsBeyond s.device s.lines → ⊥)
      → refusal_of s memory tags states words ≡ refusal_of (without_ranges s) memory tags states words

abbrev pub TwelveSays : Type 0
TwelveSays = (s : Shape) (memory tags states words : ℕ) → RefusedInRanges s memory tags states words
