-- One entry: in the bytes, and in the tables that they hold.
use Rattle.std.specs.Prelude.{ℕ, ◌+◌, ◌*◌, ◌<◌, ◌≤◌, List, get_or, set, length, drop}
use Rattle.endian.specs.Little.{number}
use Rattle.model.specs.Tables.{Model, model}
use Rattle.ports.specs.declared.entry.Entry.{Entry}

-- Tag k and word k.
abbrev pub tag_in : List ℕ → ℕ → ℕ
tag_in tags k = number 4 (drop (4 * k) tags)

abbrev pub word_in : List ℕ → ℕ → ℕ
word_in words k = number 8 (drop (8 * k) words)

-- The bytes have an entry k.
pub record Room (tags states words : List ℕ) (k : ℕ) : Type 0 where
  pub in_tags : 4 * k + 4 ≤ length tags
  pub in_states : k < length states
  pub in_words : 8 * k + 8 ≤ length words

-- Entry k, and the tables with another one in its place.
unfoldable pub entry_at : Model → ℕ → Entry
entry_at t k = record { tag = get_or t.tags k 0; byte = get_or t.states k 0; word = get_or t.words k 0 }

unfoldable pub put_at : Model → ℕ → Entry → Model
put_at t k e = model t.memory (set t.tags k e.tag) (set t.states k e.byte) (set t.words k e.word)
