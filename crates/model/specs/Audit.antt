-- The audit, sentence by sentence, as a test that computes and as plain facts.
use Rattle.std.specs.Prelude.{ℕ, ◌<◌, ◌≡◌, Bool, true, false, cond, ◌&&◌, not, eqb}
use Rattle.words.specs.Bools.{implies}
use Rattle.protocol.specs.State.{is_o, exclusive, mode_of, same_mode}
use Rattle.shape.specs.declared.Shape.{Shape}
use Rattle.shape.specs.Shape.{entries}
use Rattle.model.specs.Below.{all_below}
use Rattle.model.specs.Tables.{Model, lent_refusal, sound, seen, word_at, memory_at, holds, owns, dirty}

-- Every byte is a state and every home line is below lines.
unfoldable pub entries_sound : Shape → Model → Bool
entries_sound s t = all_below (sound s t) (entries s)

-- A test of every two ports, a port with itself among them.
unfoldable pub every_two : ℕ → (ℕ → ℕ → Bool) → Bool
every_two n f = all_below (λ p. all_below (f p) n) n

module _ (s : Shape) (t : Model) (a : ℕ) where
  abbrev pub both_hold : ℕ → ℕ → Bool
  both_hold p q = holds s t a p && holds s t a q

  -- Holders of a line have equal words and equal modes.
  abbrev pub equal_words : ℕ → ℕ → Bool
  equal_words p q = implies (both_hold p q) (eqb (word_at s t a p) (word_at s t a q))

  abbrev pub equal_modes : ℕ → ℕ → Bool
  equal_modes p q = implies (both_hold p q) (same_mode (mode_of (seen s t a p)) (mode_of (seen s t a q)))

  -- A line held in E or M has one holder.
  abbrev pub exclusive_alone : ℕ → ℕ → Bool
  exclusive_alone p q = implies (exclusive (seen s t a p) && holds s t a q) (eqb p q)

  -- A line has at most one O.
  abbrev pub one_o : ℕ → ℕ → Bool
  one_o p q = implies (is_o (seen s t a p) && is_o (seen s t a q)) (eqb p q)

  -- A held line without an owner equals memory.
  abbrev pub clean_equal : ℕ → Bool
  clean_equal p = implies (holds s t a p && not (dirty s t a)) (eqb (word_at s t a p) (memory_at t a))

  -- All that the audit says of line a.
  unfoldable pub line_passes : Bool
  line_passes = every_two s.ports (λ p q. equal_words p q && equal_modes p q && exclusive_alone p q && one_o p q) && all_below clean_equal s.ports

-- The audit of tables that the shape fits.
unfoldable pub tables_pass : Shape → Model → Bool
tables_pass s t = entries_sound s t && all_below (line_passes s t) s.lines

-- The audit's yes or no. Its refusal is `lent_refusal`; a refused audit says no.
unfoldable pub audit : Shape → Model → Bool
audit s t = cond (eqb (lent_refusal s t) 0) (tables_pass s t) false

-- A yes of the audit as plain facts: of each entry k, and of each line a at any ports p and q.
pub record Coherent (s : Shape) (t : Model) : Type 0 where
  pub accepted : lent_refusal s t ≡ 0
  pub entry : (k : ℕ) → k < entries s → sound s t k ≡ true
  pub words : (a p q : ℕ) → a < s.lines → p < s.ports → q < s.ports → holds s t a p ≡ true → holds s t a q ≡ true
      → word_at s t a p ≡ word_at s t a q
  pub modes : (a p q : ℕ) → a < s.lines → p < s.ports → q < s.ports → holds s t a p ≡ true → holds s t a q ≡ true
      → mode_of (seen s t a p) ≡ mode_of (seen s t a q)
  pub alone : (a p q : ℕ) → a < s.lines → p < s.ports → q < s.ports → exclusive (seen s t a p) ≡ true → holds s t a q ≡ true → p ≡ q
  pub one_o : (a p q : ℕ) → a < s.lines → p < s.ports → q < s.ports → is_o (seen s t a p) ≡ true → is_o (seen s t a q) ≡ true → p ≡ q
  pub clean : (a p : ℕ) → a < s.lines → p < s.ports → holds s t a p ≡ true → ((q : ℕ) → q < s.ports → owns s t a q ≡ false)
      → word_at s t a p ≡ memory_at t a
