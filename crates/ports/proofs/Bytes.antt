-- Lent bytes against the model that they hold. Assumes nothing.
use Prim.Native.Nat.{ℕ, ◌+◌, ◌*◌, ◌<◌, ◌≤◌}
use mathlib.Core.Path.{◌≡◌, sym, ◌∙◌}
use mathlib.Core.List.{List}
use native.Mathlib.Omega.{arith}
use lib.ListN.{length}
use Rattle.endian.proofs.Little.{get-numbers, length-numbers}
use Rattle.shape.specs.declared.Shape.{Shape}
use Rattle.shape.specs.Shape.{entries}
use Rattle.model.specs.Tables.{model, lent_refusal, memory_at}
use Rattle.model.proofs.Lent.{facts_lent}
use Rattle.ports.specs.Bytes.{Bytes, model_in, Filled, Fitting}
use Rattle.ports.specs.Entry.{word_in}

pub model_eq : {m m' a a' b b' c c' : List ℕ} → m ≡ m' → a ≡ a' → b ≡ b' → c ≡ c' → model m a b c ≡ model m' a' b' c'
model_eq o p q r = rw (o, p, q, r)

-- No call changes the length of a slice.
pub refilled : {s : Shape} {g h d g' h' d' : List ℕ} → Filled s g h d → length g' ≡ length g → length h' ≡ length h
    → length d' ≡ length d → Filled s g' h' d'
refilled f a b c = record { tags_fit = a ∙ f.tags_fit; states_fit = b ∙ f.states_fit; words_fit = c ∙ f.words_fit }

pub refitted : {s : Shape} {b : Bytes} (b' : Bytes) → Fitting s b → length b'.memory ≡ length b.memory
    → length b'.tags ≡ length b.tags → length b'.states ≡ length b.states
    → length b'.words ≡ length b.words → Fitting s b'
refitted b' f em eg eh ed = record { range = f.range; ends = f.ends; memory_fits = em ∙ f.memory_fits; filled = refilled f.filled eg eh ed }

module _ {s : Shape} {b : Bytes} (f : Fitting s b) where
  -- The model that fitting bytes hold is accepted.
  pub lent : lent_refusal s (model_in s b) ≡ 0
  unfolding model_in
  lent = facts_lent s (model_in s b) (record {
    range = f.range;
    ends = f.ends;
    sizes = record {
      memory = length-numbers 8 s.lines b.memory;
      tags = length-numbers 4 (entries s) b.tags;
      states = f.filled.states_fit;
      words =
          length-numbers 8 (entries s) b.words;
    };
  })

  pub in_memory : {a : ℕ} → a < s.lines → 8 * a + 8 ≤ length b.memory
  in_memory h = omega (arith, f.memory_fits)

  pub memory_word : {a : ℕ} → a < s.lines → {w : ℕ} → w ≡ word_in b.memory a → w ≡ memory_at (model_in s b) a
  unfolding model_in
  memory_word {a} h e = e ∙ sym (get-numbers 8 s.lines a b.memory h)
