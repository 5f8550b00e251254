-- The shape: its limits and its refusals, the sizes that follow from it, and where a line's entries lie.
use Rattle.std.specs.Prelude.{ℕ, ◌+◌, ◌*◌, ◌-◌, ◌/◌, ◌%◌, Bool, cond, ◌&&◌, ◌||◌, eqb, leb}
use Rattle.shape.specs.declared.Shape.{Shape}
use Rattle.shape.specs.declared.Sizes.{Sizes}
use Rattle.shape.specs.declared.Place.{Place}
use Rattle.shape.specs.Range.{range, ends_by}

-- A shape by its seven numbers, in the order in which a host gives them.
abbrev pub shape_of : ℕ → ℕ → ℕ → ℕ → ℕ → ℕ → ℕ → Shape
shape_of ports sets lines scratchFirst scratchCount deviceFirst deviceCount = record {
  ports = ports;
  sets = sets;
  lines = lines;
  scratch = range scratchFirst scratchCount;
  device = range deviceFirst deviceCount;
}

-- A shape whose two ranges are empty: traces and tables of the old edition carry none.
abbrev pub unranged : ℕ → ℕ → ℕ → Shape
unranged ports sets lines = shape_of ports sets lines 0 0 0 0

-- The same shape without its ranges.
abbrev pub without_ranges : Shape → Shape
without_ranges s = unranged s.ports s.sets s.lines

abbrev pub within : ℕ → ℕ → ℕ → Bool
within low high n = leb low n && leb n high

-- Ports 1 to 8; sets 1, 2, 4, 8, 16, 32 or 64; lines 1 to 4,096.
abbrev pub is_sets : ℕ → Bool
is_sets n = eqb n 1 || eqb n 2 || eqb n 4 || eqb n 8 || eqb n 16 || eqb n 32 || eqb n 64

unfoldable pub in_range : Shape → Bool
in_range s = within 1 8 s.ports && is_sets s.sets && within 1 4096 s.lines

-- The entries of each of the three tables.
abbrev pub entries : Shape → ℕ
entries s = s.ports * s.sets

-- The number of port p's entry at an index: port × sets + index.
abbrev pub entry_number : Shape → ℕ → ℕ → ℕ
entry_number s p index = p * s.sets + index

-- Main memory and the three tables in bytes: eight for a word, four for a tag, one for a state.
abbrev pub memory_bytes : Shape → ℕ
memory_bytes s = 8 * s.lines

abbrev pub tags_bytes : Shape → ℕ
tags_bytes s = 4 * entries s

abbrev pub states_bytes : Shape → ℕ
states_bytes s = entries s

abbrev pub data_bytes : Shape → ℕ
data_bytes s = 8 * entries s

abbrev pub sizes_of : Shape → Sizes
sizes_of s = record { memory = memory_bytes s; tags = tags_bytes s; states = states_bytes s; «data» = data_bytes s }

-- Main memory and the three tables, of the lengths given, have exactly those that the shape gives.
unfoldable pub fits : Shape → ℕ → ℕ → ℕ → ℕ → Bool
fits s memory tags states words = eqb memory s.lines && eqb tags (entries s) && eqb states (entries s) && eqb words (entries s)

-- Both ranges are empty.
abbrev pub ranges_empty : Shape → Bool
ranges_empty s = eqb s.scratch.count 0 && eqb s.device.count 0

-- Neither range ends beyond lines. (The numbers of a range have no limits of their own.)
unfoldable pub ranges_end : Shape → Bool
ranges_end s = ends_by s.scratch s.lines && ends_by s.device s.lines

-- Refusal 3, a length that is another than the shape gives, where `fit` is false; then refusal 12, a range that is not empty and ends beyond
-- lines; else 0.
unfoldable pub fit_refusal : Shape → Bool → ℕ
fit_refusal s fit = cond fit (cond (ranges_end s) 0 12) 3

-- Refusal 2, ports, sets or lines outside its limits; then 3 or 12, of main memory and tables of the lengths given; else 0.
unfoldable pub refusal_of : Shape → ℕ → ℕ → ℕ → ℕ → ℕ
refusal_of s memory tags states words = cond (in_range s) (fit_refusal s (fits s memory tags states words)) 2

-- Line a has index a mod sets and tag a div sets.
abbrev pub index_of : Shape → ℕ → ℕ
index_of s a = a % s.sets

abbrev pub tag_of : Shape → ℕ → ℕ
tag_of s a = a / s.sets

-- The number of port p's entry for line a: the one at the line's index.
abbrev pub entry_of : Shape → ℕ → ℕ → ℕ
entry_of s a p = entry_number s p (index_of s a)

-- How many lines have the index of line a: an entry there has a home line below lines exactly where its tag is below this.
abbrev pub tag_limit : Shape → ℕ → ℕ
tag_limit s a = (s.lines + (s.sets - 1) - index_of s a) / s.sets

unfoldable pub place_of : Shape → ℕ → Place
place_of s a = record { index = index_of s a; tag = tag_of s a; limit = tag_limit s a }
