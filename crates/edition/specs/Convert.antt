-- The conversion of three tables in bytes into three others: what it refuses, in checking order, and what it leaves.
use Rattle.std.specs.Prelude.{ℕ, Bool, cond, ◌&&◌, List, map, get_or, length, eqb}
use Rattle.shape.specs.declared.Shape.{Shape}
use Rattle.shape.specs.Shape.{in_range}
use Rattle.model.specs.Below.{any_below}
use Rattle.lengths.specs.Lengths.{tables_fit}
use Rattle.letters.specs.declared.Way.{Way}
use Rattle.letters.specs.Letters.{converted, is_no_state, is_in_through, byte_from}

-- Three tables in bytes, of either edition.
pub record Tables : Type 0 where
  pub tags : List ℕ
  pub states : List ℕ
  pub words : List ℕ

abbrev pub tables : List ℕ → List ℕ → List ℕ → Tables
tables tags states words = record { tags = tags; states = states; words = words }

-- The tables have exactly the bytes of the entries that the shape gives.
abbrev pub fit : Shape → Tables → Bool
fit s t = tables_fit s (length t.tags) (length t.states) (length t.words)

-- Some byte of a state table is no state of its edition; some is in write through.
abbrev pub some_no_state : Way → List ℕ → ℕ → Bool
some_no_state way states = any_below (λ k. is_no_state (converted way (get_or states k 0)))

abbrev pub some_in_through : Way → List ℕ → ℕ → Bool
some_in_through way states = any_below (λ k. is_in_through (converted way (get_or states k 0)))

-- Refusal 10, a byte that is no state, anywhere; then 11, one in write through, anywhere; else 0.
unfoldable pub states_refusal : Way → List ℕ → ℕ
states_refusal way states = cond (some_no_state way states (length states)) 10 (cond (some_in_through way states (length states)) 11 0)

-- The refusal in checking order: 2, a number of the shape outside its range; 3, another length of one of the six tables; 10; 11; else 0.
-- No home line is looked at, and no memory.
unfoldable pub conversion_refusal : Way → Shape → Tables → Tables → ℕ
conversion_refusal way s t out = cond (in_range s) (cond (fit s t && fit s out) (states_refusal way t.states) 3) 2

-- The tables in the other edition: tags and data as they are, also of entries that are I; each state byte converted.
unfoldable pub moved : Way → Tables → Tables
moved way t = tables t.tags (map (λ b. byte_from (converted way b)) t.states) t.words

-- What a call returns, and what it leaves in the output tables.
pub record Conversion : Type 0 where
  pub refusal : ℕ
  pub out : Tables

abbrev pub conversion : ℕ → Tables → Conversion
conversion n out = record { refusal = n; out = out }

-- The conversion of tables t, with the output tables as they were. A refusal leaves these as they were.
unfoldable pub convert : Way → Shape → Tables → Tables → Conversion
convert way s t out = let n = conversion_refusal way s t out in conversion n (cond (eqb n 0) (moved way t) out)
