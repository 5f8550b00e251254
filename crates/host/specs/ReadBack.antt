-- That calls chain: what one call leaves in bytes is read back by the next as the model that it left. A table that is added adds a line to each of
-- the two records. The proofs are in proofs/ReadBack.antt.
use Rattle.std.specs.Prelude.{ℕ, ◌^◌, ◌<◌, ◌≡◌, true, List, get_or, length}
use Rattle.answers.specs.Answers.{answer_bytes, answer_in}
use Rattle.ports.specs.Bytes.{Bytes, model_in}
use Rattle.shape.specs.declared.Shape.{Shape}
use Rattle.shape.specs.Shape.{entries}
use Rattle.model.specs.Order.{Order}
use Rattle.model.specs.Tables.{Model}
use Rattle.model.specs.Step.{step}
use Rattle.model.specs.Fresh.{fresh}
use Rattle.host.specs.Host.{in_bytes, host_refusal}

-- Every byte of a slice is below 256.
abbrev pub AreBytes : List ℕ → Type 0
AreBytes l = (k : ℕ) → get_or l k 0 < 256

-- Main memory and tables as a host lends them are bytes. (It cannot be otherwise: the contracts of the C calls, in crates/moesi, say so.)
pub record OfBytes (b : Bytes) : Type 0 where
  pub memory : AreBytes b.memory
  pub tags : AreBytes b.tags
  pub states : AreBytes b.states
  pub words : AreBytes b.words

-- A list of n numbers, each below m.
pub record Column (n m : ℕ) (l : List ℕ) : Type 0 where
  pub count : length l ≡ n
  pub below : (k : ℕ) → get_or l k 0 < m

-- A model that has room in its bytes: words below 2^64, tags below 2^32, state bytes below 256, as many of each as the shape gives.
pub record Held (s : Shape) (t : Model) : Type 0 where
  pub memory : Column s.lines (2 ^ 64) t.memory
  pub tags : Column (entries s) (2 ^ 32) t.tags
  pub states : Column (entries s) 256 t.states
  pub words : Column (entries s) (2 ^ 64) t.words

-- Such a model, put in bytes, is read back; and what is lent for it are bytes again.
abbrev pub ReadBack : Type 0
ReadBack = (s : Shape) (t : Model) → Held s t → (model_in s (in_bytes t) ≡ t) × OfBytes (in_bytes t)

-- Lent bytes that are not refused hold such a model, and put in bytes again it is those bytes.
abbrev pub LentHolds : Type 0
LentHolds = (s : Shape) (b : Bytes) → OfBytes b → host_refusal s b true ≡ 0 → Held s (model_in s b) × (in_bytes (model_in s b) ≡ b)

-- Every order leaves such a model, one that is refused too, whatever its word and operand; and its answer is read back.
abbrev pub StepHolds : Type 0
StepHolds =
    (s : Shape) (o : Order) (t : Model) → Held s t → Held s (step s o t).after × (answer_in (answer_bytes (step s o t).answer) ≡ (step s o t).answer)

-- And so does making a fresh model.
abbrev pub FreshHolds : Type 0
FreshHolds = (s : Shape) (t : Model) → Held s t → Held s (fresh s t)
