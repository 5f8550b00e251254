-- What an access does at the word that it finds.
use Rattle.std.specs.Prelude.{ℕ, Bool, true, false, cond, eqb}
use Rattle.words.specs.declared.access.Access.{Access}
use Rattle.words.specs.declared.access.Access.TheVariants.{Read, Write, Swap}
use Rattle.words.specs.declared.access.Outcome.{Outcome}
use Rattle.words.specs.declared.access.Outcome.TheVariants.{Reads, Writes, Rewrites}
use Rattle.words.specs.declared.access.Effect.{Effect}
use Rattle.words.specs.Word.{merge, same_word, half}

abbrev pub effect : Outcome → ℕ → ℕ → Bool → Effect
effect o w v s = record { outcome = o; word = w; value = v; swapped = s }

-- A read of the word w, or a swap that fails: the word is the answer's value, and stays as it was.
abbrev pub reading : ℕ → Effect
reading w = effect Reads w w false

-- What a write comes to, or a swap that succeeds, by whether it leaves the word as it was.
abbrev pub write_outcome : Bool → Outcome
write_outcome same = cond same Rewrites Writes

-- A write, or a swap that succeeds, of the word `after` over the word `before`, with the answer's value and swapped mark.
abbrev pub writing : ℕ → ℕ → ℕ → Bool → Effect
writing before after v s = effect (write_outcome (same_word before after)) after v s

-- A read's value is the word, and a write's is 0. A swap's is the word before; it succeeds if the half compared is equal, and then merges; if it
-- fails, it is a read.
unfoldable pub effect_at : Access → ℕ → Effect
effect_at Read w = reading w
effect_at (Write mask x) w = writing w (merge mask w x) 0 false
effect_at (Swap mask x compare) w = cond (eqb (half mask w) compare) (writing w (merge mask w x) w true) (reading w)

-- A write, or a swap that succeeds.
abbrev pub writes : Outcome → Bool
writes Reads = false
writes Writes = true
writes Rewrites = true

-- What is asked of an access, one by one. (The mark's sentence asks whether it is a write; the rest is the code's.) A read has the full mask,
-- and 0 for operand and compare value: nothing comes of them.
abbrev pub is_write : Access → Bool
is_write Read = false
is_write (Write mask x) = true
is_write (Swap mask x compare) = false

abbrev pub is_swap : Access → Bool
is_swap Read = false
is_swap (Write mask x) = false
is_swap (Swap mask x compare) = true

abbrev pub mask_of : Access → ℕ
mask_of Read = 0xFF
mask_of (Write mask x) = mask
mask_of (Swap mask x compare) = mask

abbrev pub operand_of : Access → ℕ
operand_of Read = 0
operand_of (Write mask x) = x
operand_of (Swap mask x compare) = x

abbrev pub compare_of : Access → ℕ
compare_of Read = 0
compare_of (Write mask x) = 0
compare_of (Swap mask x compare) = compare

-- The outcome by whether the access writes, and whether the merge leaves the word as it was.
abbrev pub outcome_of : Bool → Bool → Outcome
outcome_of writes same = cond writes (write_outcome same) Reads
