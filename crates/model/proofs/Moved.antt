-- An access, or a device write, moves the flat memory at its line alone, by the effect that it has at the line's word. Assumes nothing.
use Prim.Native.Nat.{ℕ, ◌<◌}
use mathlib.Core.Path.{◌≡◌, refl, sym, ◌∙◌}
use mathlib.Core.Logic.{◌≢◌}
use mathlib.Core.Bool.{Bool, true, false, ◌&&◌, ◌||◌, not}
use lib.ListN.{length, length-set}
use lib.Seq.{get_or-set_same, get_or-set_other}
use lib.Dec.{eqb}
use borrow.Author.Tests.{not-true}
use Rattle.protocol.specs.declared.state.Mode.{Mode}
use Rattle.protocol.specs.declared.state.Mode.TheVariants.{Through, Back}
use Rattle.words.specs.declared.access.Access.{Access}
use Rattle.words.specs.declared.access.Access.TheVariants.{Read, Write, Swap}
use Rattle.words.specs.declared.access.Outcome.{Outcome}
use Rattle.words.specs.declared.access.Effect.{Effect}
use Rattle.words.specs.Bools.{bit}
use Rattle.protocol.specs.State.{is_back, is_through}
use Rattle.words.specs.Word.{half}
use Rattle.words.specs.Access.{effect_at, writes}
use Rattle.words.proofs.Bools.{Is, by_bool}
use Rattle.words.proofs.Effects.{read-effect, write-effect, swap_succeeds, swap_fails, write-writes}
use Rattle.model.specs.declared.order.Call.TheVariants.{DeviceWrite}
use Rattle.model.specs.Order.{Asked}
use Rattle.model.specs.Flat.{Flat, FlatAnswer, FlatResult, flat_answer, word_in, mark_in, flat_read, flat_write, flat_access, flat_perform}

-- The mark after an access with an outcome in a mode: set by a write in write back, cleared in write through, else as it was.
abbrev pub mark_after : Outcome → Mode → Bool → Bool
mark_after k m old = is_back m && (writes k || old)

-- The flat memory f, the access's result r, and its effect e in mode m at line a.
pub record Moved (f : Flat) (r : FlatResult) (e : Effect) (m : Mode) (a : ℕ) : Type 0 where
  pub answer : r.answer ≡ flat_answer 0 e.value (bit e.swapped) true
  pub words_length : length r.after.words ≡ length f.words
  pub marks_length : length r.after.marks ≡ length f.marks
  pub word : a < length f.words → word_in r.after a ≡ e.word
  pub mark : a < length f.marks → mark_in r.after a ≡ mark_after e.outcome m (mark_in f a)
  pub word_other : (b : ℕ) → b ≢ a → word_in r.after b ≡ word_in f b
  pub mark_other : (b : ℕ) → b ≢ a → mark_in r.after b ≡ mark_in f b

back_only : (b : Bool) → b ≡ (b && true)
back_only true = refl
back_only false = refl

module _ (f : Flat) (m : Mode) (a : ℕ) where
  -- An access that leaves the word, and one that gives it the word w.
  read_moves : (e : Effect) (x : FlatAnswer) → x ≡ flat_answer 0 e.value (bit e.swapped) true → e.word ≡ word_in f a
      → writes e.outcome ≡ false
      → Moved f (record { answer = x; after = flat_read f m a }) e m a
  read_moves e x ex ew ek = record {
    answer = ex;
    words_length = refl;
    marks_length = length-set f.marks a _;
    word = λ _. sym ew;
    mark = λ h. get_or-set_same f.marks a (is_back m && mark_in f a) false h ∙ rw ek;
    word_other = λ b d. refl;
    mark_other = λ b d. get_or-set_other f.marks a b _ false d;
  }

  write_moves : (e : Effect) (x : FlatAnswer) (w : ℕ) → x ≡ flat_answer 0 e.value (bit e.swapped) true → e.word ≡ w
      → writes e.outcome ≡ true
      → Moved f (record { answer = x; after = flat_write f m a w }) e m a
  write_moves e x w ex ew ek = record {
    answer = ex;
    words_length = length-set f.words a _;
    marks_length = length-set f.marks a _;
    word = λ h. get_or-set_same f.words a w 0 h ∙ sym ew;
    mark = λ h. get_or-set_same f.marks a _ false h ∙ rw ek (back_only (is_back m));
    word_other = λ b d. get_or-set_other f.words a b _ 0 d;
    mark_other = λ b d. get_or-set_other f.marks a b _ false d;
  }

  pub access_moves : (acc : Access) → Moved f (flat_access f acc m a) (effect_at acc (word_in f a)) m a
  unfolding flat_access
  access_moves Read = rw (read-effect (word_in f a)) (read_moves _ _ refl refl refl)
  access_moves (Write mask x) = rw (write-effect mask x (word_in f a)) (write_moves _ _ _ refl refl (search write-writes))
  access_moves (Swap mask x compare) =
      by_bool (eqb (half mask (word_in f a)) compare)
      (λ h. rw (swap_succeeds mask compare x (word_in f a) h, h) (write_moves _ _ _ refl refl (search write-writes)))
      (λ h. rw (swap_fails mask compare x (word_in f a) h, not-true (eqb (half mask (word_in f a)) compare) h) (read_moves _ _ refl refl refl))

-- A device write moves it as a write-through write does.
pub written_moves : (f : Flat) (a mask x : ℕ) → Moved f (flat_perform f (Asked (DeviceWrite mask x) a)) (effect_at (Write mask x) (word_in f a)) Through a
unfolding flat_perform flat_access
written_moves f a mask x = access_moves f Through a (Write mask x)

-- Under mark 0 an access was in write through, or a read of a line that had mark 0.
pub unmarked_access : (k : Outcome) (m : Mode) (old dirty : Bool) → (Is (not old) → Is (not dirty)) → Is (not (mark_after k m old))
    → Is (is_through m || not (writes k) && not dirty)
unmarked_access k Through old dirty f h = refl
unmarked_access k Back old dirty f h = neither (writes k) old dirty f h
  where
    neither : (w o d : Bool) → (Is (not o) → Is (not d)) → Is (not (w || o)) → Is (not w && not d)
    neither true o d f h = h
    neither false o d f h = f h
