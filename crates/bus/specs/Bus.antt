-- A holder's answer to a bus command in bytes, and the tables after the ports of a set have answered.
use Rattle.std.specs.Prelude.{ℕ, ◌*◌, Bool, cond, List, get_or, set}
use Rattle.std.proofs.lemmas.List.Edits.{sets}
use Rattle.endian.specs.Little.{bytes_of}
use Rattle.protocol.specs.declared.rules.Bus.{Bus}
use Rattle.protocol.specs.State.{code, state_of, or_invalid}
use Rattle.protocol.specs.Rules.{snooped, updates}
use Rattle.shape.specs.declared.Shape.{Shape}
use Rattle.shape.specs.Shape.{entry_of}
use Rattle.model.specs.Tables.{Model, model}
use Rattle.model.specs.Step.{put_below, byte_answered, word_answered}

-- A holder's answer to a command, in bytes: entry k's.
unfoldable pub states_answered : Bus → ℕ → List ℕ → List ℕ
states_answered b k states = set states k (code (snooped b (or_invalid (state_of (get_or states k 0)))))

unfoldable pub words_answered : Bus → ℕ → ℕ → List ℕ → List ℕ
words_answered b w k words = cond (updates b) (sets words (8 * k) (bytes_of 8 w)) words

-- The tables after the first n ports, those of them that `asked` names, have answered command b, where the line's new word is w.
unfoldable pub answered : Shape → Model → ℕ → (ℕ → Bool) → Bus → ℕ → ℕ → Model
answered s t a asked b w n =
    model t.memory t.tags (put_below (entry_of s a) (byte_answered s t a asked b) n t.states)
    (put_below (entry_of s a) (word_answered s t a asked b w) n t.words)
