-- The flat memory (document 01's term): the shape, and a word and a mark for each line. It is fed each order's word and operand, and
-- never a table or an answer of the model.
use Rattle.std.specs.Prelude.{ℕ, Bool, true, false, cond, ◌&&◌, not, List, get_or, set, length, replicate, eqb}
use Rattle.protocol.specs.declared.state.Mode.{Mode}
use Rattle.protocol.specs.declared.state.Mode.TheVariants.{Through}
use Rattle.words.specs.declared.access.Access.{Access}
use Rattle.words.specs.declared.access.Access.TheVariants.{Read, Write, Swap}
use Rattle.protocol.specs.State.{is_back}
use Rattle.words.specs.Word.{merge, half}
use Rattle.shape.specs.declared.Shape.{Shape}
use Rattle.model.specs.declared.order.Call.TheVariants.{ByPort, Flush, DeviceRead, DeviceWrite}
use Rattle.model.specs.Order.{Decoded, Asked, Refused}
use Rattle.model.specs.Order.{Order, decode}

-- The words F, and the marks: true for 1.
pub record Flat : Type 0 where
  pub words : List ℕ
  pub marks : List Bool

abbrev pub word_in : Flat → ℕ → ℕ
word_in f a = get_or f.words a 0

abbrev pub mark_in : Flat → ℕ → Bool
mark_in f a = get_or f.marks a false

-- What it answers. `compared` is false where the value is not compared: at a device read under mark 1.
pub record FlatAnswer : Type 0 where
  pub refusal : ℕ
  pub value : ℕ
  pub swapped : ℕ
  pub compared : Bool

pub record FlatResult : Type 0 where
  pub answer : FlatAnswer
  pub after : Flat

abbrev pub flat_answer : ℕ → ℕ → ℕ → Bool → FlatAnswer
flat_answer n v s c = record { refusal = n; value = v; swapped = s; compared = c }

abbrev pub flat_result : FlatAnswer → Flat → FlatResult
flat_result x f = record { answer = x; after = f }

-- A read of line a in mode m: m = 0 clears the mark.
abbrev pub flat_read : Flat → Mode → ℕ → Flat
flat_read f m a = record { words = f.words; marks = set f.marks a (is_back m && mark_in f a) }

-- A new word for line a in mode m: the mark becomes m.
abbrev pub flat_write : Flat → Mode → ℕ → ℕ → Flat
flat_write f m a w = record { words = set f.words a w; marks = set f.marks a (is_back m) }

-- A swap compares with F[a]; success merges, and failure acts as a read.
unfoldable pub flat_access : Flat → Access → Mode → ℕ → FlatResult
flat_access f Read m a = flat_result (flat_answer 0 (word_in f a) 0 true) (flat_read f m a)
flat_access f (Write mask x) m a = flat_result (flat_answer 0 0 0 true) (flat_write f m a (merge mask (word_in f a) x))
flat_access f (Swap mask x compare) m a =
    cond (eqb (half mask (word_in f a)) compare)
    (flat_result (flat_answer 0 (word_in f a) 1 true) (flat_write f m a (merge mask (word_in f a) x)))
    (flat_result (flat_answer 0 (word_in f a) 0 true) (flat_read f m a))

-- A device write merges into F[a] and clears the mark, as a write-through write does.
unfoldable pub flat_perform : Flat → Decoded → FlatResult
flat_perform f (Refused n) = flat_result (flat_answer n 0 0 true) f
flat_perform f (Asked (ByPort acc m i) a) = flat_access f acc m a
flat_perform f (Asked (Flush i) a) = flat_result (flat_answer 0 0 0 true) f
flat_perform f (Asked DeviceRead a) = flat_result (flat_answer 0 (word_in f a) 0 (not (mark_in f a))) f
flat_perform f (Asked (DeviceWrite mask x) a) = flat_result (flat_answer 0 0 0 true) (flat_write f Through a (merge mask (word_in f a) x))

unfoldable pub flat_step : Shape → Order → Flat → FlatResult
flat_step s o f = flat_perform f (decode s o)

-- F starts as main memory, marks as 0.
unfoldable pub flat_start : List ℕ → Flat
flat_start memory = record { words = memory; marks = replicate (length memory) false }
