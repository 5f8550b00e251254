-- What an access does at a word, case by case: how the crates above use `effect_at`. Assumes nothing.
use Prim.Native.Nat.{ℕ}
use mathlib.Core.Path.{◌≡◌, refl}
use mathlib.Core.Bool.{Bool, true, false, cond, ◌&&◌, ◌||◌, not, false≢true}
use lib.Dec.{eqb}
use borrow.Author.Tests.{not-true, eqb-true}
use Rattle.words.specs.declared.access.Access.{Access}
use Rattle.words.specs.declared.access.Access.TheVariants.{Read, Write, Swap}
use Rattle.words.specs.declared.access.Outcome.{Outcome}
use Rattle.words.specs.declared.access.Outcome.TheVariants.{Reads, Writes, Rewrites}
use Rattle.words.specs.declared.access.Effect.{Effect}
use Rattle.words.specs.declared.word.Merge.{Merge}
use Rattle.words.specs.Word.{merge, same_word, merged, half}
use Rattle.words.specs.Access.{effect, reading, writing, effect_at, writes, is_write, is_swap, mask_of, operand_of, compare_of, outcome_of}
use Rattle.words.proofs.Bools.{Is, contra, by_bool, by_cond}

pub read-effect : (w : ℕ) → effect_at Read w ≡ reading w
unfolding effect_at
read-effect w = refl

pub write-effect : (mask x w : ℕ) → effect_at (Write mask x) w ≡ writing w (merge mask w x) 0 false
unfolding effect_at
write-effect mask x w = refl

-- A swap succeeds where the half compared is equal. Where it is not, it is a read.
pub swap_succeeds : (mask compare x w : ℕ) → Is (eqb (half mask w) compare) → effect_at (Swap mask x compare) w ≡ writing w (merge mask w x) w true
unfolding effect_at
swap_succeeds mask compare x w h = rw h

pub swap_fails : (mask compare x w : ℕ) → Is (not (eqb (half mask w) compare)) → effect_at (Swap mask x compare) w ≡ reading w
unfolding effect_at
swap_fails mask compare x w h = rw (not-true (eqb (half mask w) compare) h)

-- A write, or a swap that succeeds, that changes the word.
abbrev pub alters : Outcome → Bool
alters Reads = false
alters Writes = true
alters Rewrites = false

-- A write that leaves the word as it was is a write too; and one that does not alter the word leaves it as it was.
pub write-writes : (before after v : ℕ) (s : Bool) → Is (writes (writing before after v s).outcome)
write-writes before after v s = by_cond (λ k. Is (writes k)) (same_word before after) Rewrites Writes (λ _. refl) (λ _. refl)

write_unaltered : (before after v : ℕ) (s : Bool) → Is (not (alters (writing before after v s).outcome)) → after ≡ before
write_unaltered before after v s =
    by_cond (λ k. Is (not (alters k)) → after ≡ before) (same_word before after) Rewrites Writes (λ e _. eqb-true after before e)
    (λ _ h. absurd (false≢true h))

-- An access that does not alter the word leaves it, and so does one that does not write.
pub unaltered : (acc : Access) (w : ℕ) → Is (not (alters (effect_at acc w).outcome)) → (effect_at acc w).word ≡ w
unfolding effect_at
unaltered Read w h = refl
unaltered (Write mask x) w h = write_unaltered w (merge mask w x) 0 false h
unaltered (Swap mask x compare) w h =
    by_cond (λ (e : Effect). Is (not (alters e.outcome)) → e.word ≡ w) (eqb (half mask w) compare)
    (writing w (merge mask w x) w true) (reading w) (λ _. write_unaltered w (merge mask w x) w true) (λ _ _. refl) h

alters_writes : (k : Outcome) → Is (alters k) → Is (writes k)
alters_writes Reads h = h
alters_writes Writes h = h
alters_writes Rewrites h = refl

pub unwritten : (acc : Access) (w : ℕ) → Is (not (writes (effect_at acc w).outcome)) → (effect_at acc w).word ≡ w
unwritten acc w h = unaltered acc w (contra (alters (effect_at acc w).outcome) (alters_writes (effect_at acc w).outcome) h)

not_not : (b : Bool) → not (not b) ≡ b
not_not true = refl
not_not false = refl

-- An effect put together from what is asked of the access, one by one.
together : (a : Access) (w : ℕ)
    → let swapped = is_swap a && eqb (half (mask_of a) w) (compare_of a) in
    effect (outcome_of (is_write a || swapped) (same_word w (merge (mask_of a) w (operand_of a))))
    (cond (is_write a || swapped) (merge (mask_of a) w (operand_of a)) w) (cond (is_write a) 0 w) swapped ≡ effect_at a w
unfolding effect_at
together Read w = refl
together (Write mask x) w = refl
together (Swap mask x compare) w = by_bool (eqb (half mask w) compare) (λ h. rw h) (λ h. rw (not-true (eqb (half mask w) compare) h))

pub effect_is : (a : Access) (w : ℕ) {mask half' compare operand word value : ℕ} {write swap : Bool} {full : Merge} {o : Outcome}
    → mask ≡ mask_of a → write ≡ is_write a → swap ≡ is_swap a → half' ≡ half mask w → compare ≡ compare_of a
    → operand ≡ operand_of a → full ≡ merged mask w operand
    → o ≡ outcome_of (write || (swap && eqb half' compare)) (not full.changed)
    → word ≡ cond (write || (swap && eqb half' compare)) full.word w → value ≡ cond write 0 w
    → effect o word value (swap && eqb half' compare) ≡ effect_at a w
effect_is a w p1 p2 p3 p4 p5 p6 p7 p8 p9 p10 = rw (p10, p9, p8, p7, p6, p5, p4, p3, p2, p1, not_not) (together a w)
