-- A line of a shape, with its place.
use Rattle.std.specs.Prelude.{ℕ, ◌<◌, ◌≡◌, true}
use Rattle.shape.specs.declared.Shape.{Shape}
use Rattle.shape.specs.Shape.{in_range, place_of}
use Rattle.ports.specs.declared.line.Line.{Line}

unfoldable pub line_of : Shape → ℕ → Line
line_of s a = record { shape = s; number = a; place = place_of s a }

-- The shape is within its limits, the line is there, and the place is its own.
pub record Placed (l : Line) : Type 0 where
  pub range : in_range l.shape ≡ true
  pub below : l.number < l.shape.lines
  pub place : l.place ≡ place_of l.shape l.number
