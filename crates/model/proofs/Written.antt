-- Memory and tables after a device write: what the line is then, and what is left of the rest. Assumes nothing.
use Prim.Native.Nat.{ℕ, zero, ◌<◌}
use mathlib.Core.Path.{◌≡◌, refl, ◌∙◌}
use mathlib.Core.Logic.{◌≢◌}
use mathlib.Core.Bool.{Bool, false, false≢true}
use lib.ListN.{length-set}
use lib.Seq.{get_or-set_same, get_or-set_other}
use Rattle.words.specs.Word.{merge}
use Rattle.protocol.specs.declared.state.State.TheVariants.{I}
use Rattle.protocol.specs.declared.rules.Bus.TheVariants.{Invalidate}
use Rattle.protocol.specs.Rules.{snooped}
use Rattle.protocol.proofs.States.{not_valid}
use Rattle.protocol.proofs.Kept.{snooped_i}
use Rattle.shape.specs.declared.Shape.{Shape}
use Rattle.shape.specs.Shape.{entry_of}
use Rattle.model.specs.Tables.{Model, seen, memory_at}
use Rattle.model.specs.Step.{word_supplied, byte_answered, device_written}
use Rattle.model.proofs.Line.{Unowned, free_good}
use Rattle.model.proofs.Entries.{Sized, put_below-length, put_at_lem, put_apart}
use Rattle.model.proofs.Touched.{LineGood, Ready, Touched, Leaves, seen_other, other_good, other_unowned, tidy_after}

module _ (s : Shape) (t : Model) (a : ℕ) (ready : Ready s t a) (mask x : ℕ) where
  pos : zero < s.sets
  pos = ready.pos

  sized : Sized s t
  sized = ready.sized

  abbrev now : Model
  now = (device_written s t a mask x).after

  abbrev written : ℕ
  written = merge mask (word_supplied s t a) x

  -- No port takes the line.
  abbrev nobody : ℕ → Bool
  nobody p = false

  touched : Touched s t now nobody a I (snooped Invalidate)
  unfolding device_written byte_answered
  touched = record {
    tags_apart = λ k d. refl;
    bytes_apart = put_apart s pos a _ t.states;
    words_apart = λ k d. refl;
    tag_own = λ p h k. absurd (false≢true k);
    tag_other = λ p d. refl;
    byte_own = λ p h k. absurd (false≢true k);
    byte_holder = λ p h d v. put_at_lem s pos a _ t.states sized.states p h ∙ rw v;
    byte_passed = λ p h d v. put_at_lem s pos a _ t.states sized.states p h ∙ rw (not_valid (seen s t a p) v);
    word_passed = λ p h d v. refl;
  }

  -- Nobody holds the line, and memory has its word.
  gone : (p : ℕ) → p < s.ports → seen s now a p ≡ I
  unfolding snooped
  gone p h = seen_other s pos t now nobody a I (snooped Invalidate) touched (snooped_i Invalidate) p h refl

  memory_here : memory_at now a ≡ written
  unfolding device_written
  memory_here = get_or-set_same t.memory a written 0 (rw sized.memory ready.line)

  memory_other : (b : ℕ) → b ≢ a → memory_at now b ≡ memory_at t b
  unfolding device_written
  memory_other b d = get_or-set_other t.memory a b _ 0 d

  pub line_written : LineGood s now a written
  line_written = free_good s.ports _ _ _ written gone memory_here

  pub unowned_written : Unowned s.ports (seen s now a)
  unowned_written p h = rw (gone p h) refl

  sized_after : Sized s now
  unfolding device_written
  sized_after = record {
    memory = length-set t.memory a _ ∙ sized.memory;
    tags = sized.tags;
    states = put_below-length (entry_of s a) _ s.ports t.states ∙ sized.states;
    words = sized.words;
  }

  pub leaves-written : Leaves s t now a
  leaves-written = record {
    sized = sized_after;
    tidy = tidy_after s pos t now nobody a I (snooped Invalidate) touched ready.line ready.tidy;
    good = λ b other _. other_good s pos t now nobody a I (snooped Invalidate) touched b other (λ p h k. absurd (false≢true k))
        (λ _. memory_other b other) (λ _. memory_other b other);
    unowned = λ b other. other_unowned s pos t now nobody a I (snooped Invalidate) touched b other;
  }
