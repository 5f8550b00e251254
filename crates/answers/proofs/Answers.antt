-- An answer, stored number by number. Assumes nothing.
use Prim.Native.Nat.{ℕ, ◌^◌, ◌<◌}
use mathlib.Core.Path.{◌≡◌, refl, sym, ap, ◌∙◌}
use mathlib.Core.List.{List, [], ◌∷◌}
use native.Mathlib.Omega.{arith}
use lib.ListN.{get_or, set, length}
use lib.Seq.{sets}
use Rattle.endian.specs.Little.{numbers, bytes_of, encoded}
use Rattle.endian.proofs.Little.{number_put, same_bytes, number_at}
use Rattle.model.specs.declared.answer.Answer.{Answer}
use Rattle.answers.specs.Answers.{answer_bytes, answer_in}

five-set : (x₀ x₁ x₂ x₃ x₄ : ℕ) (m : List ℕ) → set (set (set (set (set (numbers 8 5 m) 0 x₀) 1 x₁) 2 x₂) 3 x₃) 4 x₄
    ≡ x₀ ∷ x₁ ∷ x₂ ∷ x₃ ∷ x₄ ∷ []
unfolding numbers
five-set x₀ x₁ x₂ x₃ x₄ m = refl

-- The five numbers stored one after the other.
pub answer-stored : (a : Answer) (l : List ℕ) → length l ≡ 40 → a.refusal < 2 ^ 64 → a.value < 2 ^ 64 → a.swapped < 2 ^ 64
    → a.reads < 2 ^ 64 → a.writes < 2 ^ 64
    → {l₁ l₂ l₃ l₄ l₅ : List ℕ} → l₁ ≡ sets l 0 (bytes_of 8 a.refusal) → l₂ ≡ sets l₁ 8 (bytes_of 8 a.value)
    → l₃ ≡ sets l₂ 16 (bytes_of 8 a.swapped)
    → l₄ ≡ sets l₃ 24 (bytes_of 8 a.reads) → l₅ ≡ sets l₄ 32 (bytes_of 8 a.writes) → ((k : ℕ) → get_or l₅ k 0 < 256) → l₅ ≡ answer_bytes a
unfolding answer_bytes
answer-stored a l n f₀ f₁ f₂ f₃ f₄ {l₁} {l₂} {l₃} {l₄} {l₅} e₁ e₂ e₃ e₄ e₅ b =
    let s₀ = number_put 8 5 0 a.refusal l n (omega arith) (omega (arith, f₀)) e₁ in
    let s₁ = number_put 8 5 1 a.value l₁ s₀.0 (omega arith) (omega (arith, f₁)) e₂ in
    let s₂ = number_put 8 5 2 a.swapped l₂ s₁.0 (omega arith) (omega (arith, f₂)) e₃ in
    let s₃ = number_put 8 5 3 a.reads l₃ s₂.0 (omega arith) (omega (arith, f₃)) e₄ in
    let s₄ = number_put 8 5 4 a.writes l₄ s₃.0 (omega arith) (omega (arith, f₄)) e₅ in
    sym (same_bytes 8 5 l₅ b s₄.0)
    ∙ ap (encoded 8) (s₄.1 ∙ ap (λ (x : List ℕ). set x 4 a.writes)
    (s₃.1 ∙ ap (λ (x : List ℕ). set x 3 a.reads) (s₂.1 ∙ ap (λ (x : List ℕ). set x 2 a.swapped) (s₁.1
    ∙ ap (λ (x : List ℕ). set x 1 a.value) s₀.1))) ∙ five-set a.refusal a.value a.swapped a.reads a.writes l)

-- An answer whose five numbers are below 2^64 is read back.
pub answer_back : (a : Answer) → a.refusal < 2 ^ 64 → a.value < 2 ^ 64 → a.swapped < 2 ^ 64 → a.reads < 2 ^ 64 → a.writes < 2 ^ 64
    → answer_in (answer_bytes a) ≡ a
unfolding answer_in answer_bytes
answer_back a f₀ f₁ f₂ f₃ f₄ =
    let at = number_at 8 (a.refusal ∷ a.value ∷ a.swapped ∷ a.reads ∷ a.writes ∷ []) in
    rw (at 0 f₀, at 1 f₁, at 2 f₂, at 3 f₃, at 4 f₄)
