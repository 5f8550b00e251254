-- A range of lines: a first line and a count, both any numbers. The sums below are of natural numbers, so nothing wraps.
use Rattle.std.specs.Prelude.{ℕ, ◌+◌, ◌<◌, ◌≤◌, Bool, ◌&&◌, ◌||◌, eqb, leb, ltb}
use Rattle.shape.specs.declared.range.Range.{Range}

abbrev pub range : ℕ → ℕ → Range
range first count = record { first = first; count = count }

-- Line a is in the range: from the first line on there are `count` of them.
unfoldable pub inside : Range → ℕ → Bool
inside r a = leb r.first a && ltb a (r.first + r.count)

-- The range is empty, wherever it starts, or all its lines are below n.
unfoldable pub ends_by : Range → ℕ → Bool
ends_by r n = eqb r.count 0 || leb (r.first + r.count) n

-- The same as plain facts: line a is in the range; the range is not empty, and its last line is not below n.
abbrev pub IsIn : Range → ℕ → Type 0
IsIn r a = (r.first ≤ a) × (a < r.first + r.count)

abbrev pub EndsBeyond : Range → ℕ → Type 0
EndsBeyond r n = (0 < r.count) × (n < r.first + r.count)
