-- Main memory and the three tables as little-endian bytes, eight for a word, four for a tag, one for a state; and the model that they hold.
use Rattle.std.specs.Prelude.{ℕ, ◌≡◌, true, List, [], length}
use Rattle.endian.specs.Little.{numbers}
use Rattle.shape.specs.declared.Shape.{Shape}
use Rattle.shape.specs.Shape.{in_range, entries, memory_bytes, tags_bytes, states_bytes, data_bytes, ranges_end}
use Rattle.model.specs.Tables.{Model, model}

pub record Bytes : Type 0 where
  pub memory : List ℕ
  pub tags : List ℕ
  pub states : List ℕ
  pub words : List ℕ

abbrev pub bytes : List ℕ → List ℕ → List ℕ → List ℕ → Bytes
bytes memory tags states words = record { memory = memory; tags = tags; states = states; words = words }

-- The model that the bytes hold.
unfoldable pub model_in : Shape → Bytes → Model
model_in s b = model (numbers 8 s.lines b.memory) (numbers 4 (entries s) b.tags) b.states (numbers 8 (entries s) b.words)

-- The tables by themselves, as a model without memory: what ports see of a line is in the tables alone.
unfoldable pub tables_in : Shape → List ℕ → List ℕ → List ℕ → Model
tables_in s tags states words = model [] (numbers 4 (entries s) tags) states (numbers 8 (entries s) words)

-- The tables' bytes are as many as the shape's entries have.
pub record Filled (s : Shape) (tags states words : List ℕ) : Type 0 where
  pub tags_fit : length tags ≡ tags_bytes s
  pub states_fit : length states ≡ states_bytes s
  pub words_fit : length words ≡ data_bytes s

-- The shape is within its limits, its ranges end within lines, and memory's bytes and the tables' are as many as it gives.
pub record Fitting (s : Shape) (b : Bytes) : Type 0 where
  pub range : in_range s ≡ true
  pub ends : ranges_end s ≡ true
  pub memory_fits : length b.memory ≡ memory_bytes s
  pub filled : Filled s b.tags b.states b.words
