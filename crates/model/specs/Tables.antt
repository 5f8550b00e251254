-- Main memory and the three tables as lent, and how a port sees a line in them: `seen` and `word_at`, over which step, audit,
-- finding and the theorem are written.
use Rattle.std.specs.Prelude.{ℕ, ◌+◌, ◌*◌, ◌%◌, Bool, cond, ◌&&◌, ◌||◌, not, List, get_or, length, eqb, ltb}
use Rattle.protocol.specs.declared.state.State.{State}
use Rattle.protocol.specs.declared.state.State.TheVariants.{I}
use Rattle.protocol.specs.State.{state_of, or_invalid, is_state, valid, owner}
use Rattle.shape.specs.declared.Shape.{Shape}
use Rattle.shape.specs.Shape.{refusal_of, tag_of, entry_of}
use Rattle.model.specs.Below.{all_below, any_below}

-- Main memory, and the tables of tags, states and data (here: words).
pub record Model : Type 0 where
  pub memory : List ℕ
  pub tags : List ℕ
  pub states : List ℕ
  pub words : List ℕ

abbrev pub model : List ℕ → List ℕ → List ℕ → List ℕ → Model
model memory tags states words = record { memory = memory; tags = tags; states = states; words = words }

-- Refusal 2, 3 or 12 of what is lent, else 0.
unfoldable pub lent_refusal : Shape → Model → ℕ
lent_refusal s t = refusal_of s (length t.memory) (length t.tags) (length t.states) (length t.words)

-- The state of entry k, whatever line it is of, and its home line.
abbrev pub state_at : Model → ℕ → State
state_at t k = or_invalid (state_of (get_or t.states k 0))

abbrev pub home_at : Shape → Model → ℕ → ℕ
home_at s t k = get_or t.tags k 0 * s.sets + k % s.sets

-- Entry k has a byte that is a state, and is I or has a home line below lines.
unfoldable pub sound : Shape → Model → ℕ → Bool
sound s t k = is_state (state_of (get_or t.states k 0)) && (not (valid (state_at t k)) || ltb (home_at s t k) s.lines)

-- The state in which port p sees line a: I where its entry has another tag, or a byte that is no state. Port p holds the line if this
-- isn't I.
unfoldable pub seen : Shape → Model → ℕ → ℕ → State
seen s t a p = cond (eqb (get_or t.tags (entry_of s a p) 0) (tag_of s a)) (state_at t (entry_of s a p)) I

-- The word in port p's entry for line a, and memory's word for the line.
unfoldable pub word_at : Shape → Model → ℕ → ℕ → ℕ
word_at s t a p = get_or t.words (entry_of s a p) 0

abbrev pub memory_at : Model → ℕ → ℕ
memory_at t a = get_or t.memory a 0

abbrev pub holds : Shape → Model → ℕ → ℕ → Bool
holds s t a p = valid (seen s t a p)

abbrev pub owns : Shape → Model → ℕ → ℕ → Bool
owns s t a p = owner (seen s t a p)

-- Some port owns the line: memory may lack its word.
unfoldable pub dirty : Shape → Model → ℕ → Bool
dirty s t a = any_below (owns s t a) s.ports

-- Every port's entry at the line's index is sound. Where this fails, an order that looks at them, and finding, give refusal 8.
unfoldable pub column_sound : Shape → Model → ℕ → Bool
column_sound s t a = all_below (λ p. sound s t (entry_of s a p)) s.ports
