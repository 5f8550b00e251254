-- Refusals 2, 3 and 12 of what a host lends: the shape, and the lengths of the slices in bytes.
use Rattle.std.specs.Prelude.{ℕ, Bool, cond, ◌&&◌, eqb}
use Rattle.shape.specs.declared.Shape.{Shape}
use Rattle.shape.specs.Shape.{in_range, memory_bytes, tags_bytes, states_bytes, data_bytes, fit_refusal}

-- Tables of these lengths have exactly the bytes that the shape gives.
unfoldable pub tables_fit : Shape → ℕ → ℕ → ℕ → Bool
tables_fit s tags states words = eqb tags (tags_bytes s) && eqb states (states_bytes s) && eqb words (data_bytes s)

-- Main memory too.
unfoldable pub bytes_fit : Shape → ℕ → ℕ → ℕ → ℕ → Bool
bytes_fit s memory tags states words = eqb memory (memory_bytes s) && tables_fit s tags states words

-- Refusal 2, ports, sets or lines outside its limits; 3, another length of a slice; 12, a range that ends beyond lines; else 0. `out` says that
-- the slice written to has its length.
unfoldable pub refusal_by : Shape → ℕ → ℕ → ℕ → ℕ → Bool → ℕ
refusal_by s memory tags states words out = cond (in_range s) (fit_refusal s (bytes_fit s memory tags states words && out)) 2
