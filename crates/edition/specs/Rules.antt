-- The audit's rules read on the five letters, sentence by sentence, as a test that computes on the bytes of an old set. It knows nothing of
-- the conversion and of the new state bytes, and of the new audit only what every two ports are (`every_two`).
use Rattle.std.specs.Prelude.{ℕ, ◌+◌, ◌*◌, ◌%◌, Bool, true, false, cond, ◌&&◌, ◌||◌, not, List, get_or, eqb, ltb, leb, Option, Some, None}
use Rattle.words.specs.Bools.{implies}
use Rattle.shape.specs.declared.Shape.{Shape}
use Rattle.shape.specs.Shape.{entries, tag_of, entry_of}
use Rattle.model.specs.Below.{all_below, any_below}
use Rattle.model.specs.Audit.{every_two}
use Rattle.letters.specs.declared.Letter.{Letter}
use Rattle.letters.specs.declared.Letter.TheVariants.{Invalid, Shared, Exclusive, Owned, Modified}
use Rattle.letters.specs.Letters.{letter_of}

-- A set of the old edition beside its main memory, as lists of numbers.
pub record OldSet : Type 0 where
  pub memory : List ℕ
  pub tags : List ℕ
  pub states : List ℕ
  pub words : List ℕ

-- Not I.
abbrev pub is_held : Letter → Bool
is_held Invalid = false
is_held Shared = true
is_held Exclusive = true
is_held Owned = true
is_held Modified = true

-- O or M.
abbrev pub is_owner : Letter → Bool
is_owner Invalid = false
is_owner Shared = false
is_owner Exclusive = false
is_owner Owned = true
is_owner Modified = true

-- E or M.
abbrev pub is_exclusive : Letter → Bool
is_exclusive Invalid = false
is_exclusive Shared = false
is_exclusive Exclusive = true
is_exclusive Owned = false
is_exclusive Modified = true

abbrev pub is_o : Letter → Bool
is_o Invalid = false
is_o Shared = false
is_o Exclusive = false
is_o Owned = true
is_o Modified = false

-- A byte above 4 is read as I here: a set that has one is not let through, by the first rule.
abbrev pub or_invalid : Option Letter → Letter
or_invalid (Some l) = l
or_invalid None = Invalid

-- A byte of the old edition.
unfoldable pub is_old_byte : ℕ → Bool
is_old_byte b = leb b 4

module _ (s : Shape) (t : OldSet) where
  abbrev pub letter_at : ℕ → Letter
  letter_at k = or_invalid (letter_of (get_or t.states k 0))

  abbrev pub home_at : ℕ → ℕ
  home_at k = get_or t.tags k 0 * s.sets + k % s.sets

  -- Every byte is at most 4, and every home line is below lines.
  unfoldable pub entry_kept : ℕ → Bool
  entry_kept k = is_old_byte (get_or t.states k 0) && (not (is_held (letter_at k)) || ltb (home_at k) s.lines)

  -- The letter with which port p holds line a: I where its entry has another tag.
  unfoldable pub letter_seen : ℕ → ℕ → Letter
  letter_seen a p = cond (eqb (get_or t.tags (entry_of s a p) 0) (tag_of s a)) (letter_at (entry_of s a p)) Invalid

  -- The word in port p's entry for line a.
  abbrev pub word_seen : ℕ → ℕ → ℕ
  word_seen a p = get_or t.words (entry_of s a p) 0

  -- Holders of a line have equal words.
  abbrev pub equal_words : ℕ → ℕ → ℕ → Bool
  equal_words a p q = implies (is_held (letter_seen a p) && is_held (letter_seen a q)) (eqb (word_seen a p) (word_seen a q))

  -- A line held in E or M has one holder.
  abbrev pub exclusive_alone : ℕ → ℕ → ℕ → Bool
  exclusive_alone a p q = implies (is_exclusive (letter_seen a p) && is_held (letter_seen a q)) (eqb p q)

  -- A line has at most one O.
  abbrev pub one_o : ℕ → ℕ → ℕ → Bool
  one_o a p q = implies (is_o (letter_seen a p) && is_o (letter_seen a q)) (eqb p q)

  -- A held line without an owner equals memory.
  abbrev pub has_owner : ℕ → Bool
  has_owner a = any_below (λ p. is_owner (letter_seen a p)) s.ports

  abbrev pub clean_equal : ℕ → ℕ → Bool
  clean_equal a p = implies (is_held (letter_seen a p) && not (has_owner a)) (eqb (word_seen a p) (get_or t.memory a 0))

  -- All that the rules say of line a.
  unfoldable pub line_kept : ℕ → Bool
  line_kept a = every_two s.ports (λ p q. equal_words a p q && exclusive_alone a p q && one_o a p q) && all_below (clean_equal a) s.ports

  -- The set keeps the audit's rules. That memory and tables have the lengths that the shape gives is not asked here.
  unfoldable pub keeps_rules : Bool
  keeps_rules = all_below entry_kept (entries s) && all_below line_kept s.lines
