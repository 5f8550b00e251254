-- A model with its shape: what a machine holds, whose arrays have room for every shape.
use Rattle.std.specs.Prelude.{ℕ, ◌≡◌, true, List, take}
use Rattle.shape.specs.declared.Shape.{Shape}
use Rattle.shape.specs.Shape.{in_range, ranges_end, memory_bytes, tags_bytes, states_bytes, data_bytes}
use Rattle.model.specs.Tables.{Model}
use Rattle.ports.specs.Bytes.{bytes, model_in}

pub record Shaped : Type 0 where
  pub shape : Shape
  pub model : Model

abbrev pub shaped : Shape → Model → Shaped
shaped s t = record { shape = s; model = t }

-- The shape is within its limits, and its ranges end within its lines.
pub record InLimits (s : Shape) : Type 0 where
  pub range : in_range s ≡ true
  pub ends : ranges_end s ≡ true

-- The bytes of the shape are in front in each array.
abbrev pub shaped_in : Shape → List ℕ → List ℕ → List ℕ → List ℕ → Shaped
shaped_in s memory tags states words =
    shaped s
    (model_in s (bytes (take (memory_bytes s) memory) (take (tags_bytes s) tags) (take (states_bytes s) states) (take (data_bytes s) words)))
