-- An order of a word and an operand.
use Rattle.std.specs.Prelude.{ℕ}
use Rattle.model.specs.Order.{Order}

abbrev pub order : ℕ → ℕ → Order
order w x = record { word = w; operand = x }
