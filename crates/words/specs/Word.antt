-- A 64-bit word by its bytes, a merge and whether it changes the word, and the half that a swap compares.
use Rattle.std.specs.Prelude.{ℕ, zero, suc, ◌+◌, ◌*◌, ◌/◌, ◌%◌, ◌^◌, Bool, cond, not, eqb}
use Rattle.words.specs.declared.word.Merge.{Merge}

-- Byte k of a word: its bits 8k to 8k+7.
abbrev pub byte_of : ℕ → ℕ → ℕ
byte_of w k = w / 2 ^ (8 * k) % 256

-- Bit k of a mask.
abbrev pub bit_of : ℕ → ℕ → ℕ
bit_of mask k = mask / 2 ^ k % 2

-- The lower n bytes of w, with byte k of x where bit k of the mask is 1.
unfoldable pub merge_low : ℕ → ℕ → ℕ → ℕ → ℕ
merge_low zero mask w x = 0
merge_low (suc k) mask w x =
    merge_low k mask w x + cond (eqb (bit_of mask k) 1) (byte_of x k) (byte_of w k) * 2 ^ (8 * k)

-- The word w with the operand x merged under the mask.
unfoldable pub merge : ℕ → ℕ → ℕ → ℕ
merge mask w x = merge_low 8 mask w x

-- A write leaves the word as it was: the whole word after it is the whole word before.
abbrev pub same_word : ℕ → ℕ → Bool
same_word before after = eqb after before

-- The merge, and whether the word changed.
abbrev pub merged : ℕ → ℕ → ℕ → Merge
merged mask w x = record { word = merge mask w x; changed = not (same_word w (merge mask w x)) }

-- What a swap compares: bits 0 to 31 under mask 0x0F, else the upper half. A swap with another mask than 0x0F or 0xF0 is refused.
abbrev pub half : ℕ → ℕ → ℕ
half mask w = cond (eqb mask 0x0F) (w % 2 ^ 32) (w / 2 ^ 32)
