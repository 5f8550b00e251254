-- A device write as the code makes it is the model's. Assumes nothing.
use Prim.Native.Nat.{ℕ, ◌+◌}
use mathlib.Core.Path.{◌≡◌, refl, ◌∙◌}
use mathlib.Core.Bool.{true, false, not}
use lib.Dec.{eqb}
use Rattle.endian.specs.Little.{numbers}
use Rattle.words.specs.Bools.{bit}
use Rattle.words.specs.Word.{merge}
use Rattle.protocol.specs.declared.rules.Bus.TheVariants.{Invalidate}
use Rattle.protocol.specs.Rules.{updates}
use Rattle.shape.specs.declared.Shape.{Shape}
use Rattle.model.specs.declared.answer.Answer.{Answer}
use Rattle.shape.specs.Shape.{entry_of}
use Rattle.model.specs.Tables.{Model, model, seen, holds, dirty}
use Rattle.model.specs.Step.{result, accepted, store, put_below, word_supplied, byte_answered, device_written}
use Rattle.model.proofs.Entries.{entry_inj}
use Rattle.ports.specs.declared.line.Line.{Line}
use Rattle.ports.specs.declared.survey.Masks.{Masks}
use Rattle.ports.specs.Bytes.{Bytes, model_in, tables_in}
use Rattle.ports.specs.Line.{Placed}
use Rattle.ports.specs.Masks.{in_mask, OfHolders, masks_of}
use Rattle.bus.specs.Bus.{answered}
use Rattle.bus.proofs.Answers.{words_kept}
use Rattle.ports.proofs.Bytes.{model_eq}
use Rattle.ports.proofs.Masks.{in_mask_lem, of_holders}
use Rattle.ports.proofs.Places.{some}
use Rattle.model.proofs.Puts.{put_ext}
use Rattle.ports.proofs.Surveys.{masks_holders, masks_dirty}
use Rattle.caches.proofs.Applied.{held_together}

module _ {l : Line} (v : Placed l) (b : Bytes) {said : Masks}
    (es : said ≡ masks_of l.shape (tables_in l.shape b.tags b.states b.words) l.number) where
  abbrev s : Shape
  s = l.shape

  abbrev a : ℕ
  a = l.number

  abbrev t' : Model
  t' = tables_in l.shape b.tags b.states b.words

  pub all_hold : OfHolders s t' a said.holders
  all_hold = of_holders s t' a (holds s t' a) (λ p h. h) (masks_holders s t' a es)

  -- Every holder of the mask became I, and the words stay.
  holders_gone : (w : ℕ) → answered s t' a (in_mask said.holders) Invalidate w s.ports
      ≡ model t'.memory t'.tags (put_below (entry_of s a) (byte_answered s t' a (holds s t' a) Invalidate) s.ports t'.states) t'.words
  unfolding answered byte_answered updates
  holders_gone w =
      model_eq refl refl
      (put_ext (entry_of s a) (entry_inj s (some v) a) _ _ s.ports t'.states (λ p h. rw (in_mask_lem (holds s t' a) s.ports (masks_holders s t' a es) p h)))
      (words_kept s (some v) t' a (in_mask said.holders) Invalidate w refl)

  pub written_done : (b' : Bytes) (mask x : ℕ) {u w : ℕ} → u ≡ word_supplied s (model_in s b) a → w ≡ merge mask u x
      → tables_in s b'.tags b'.states b'.words ≡ answered s t' a (in_mask said.holders) Invalidate w s.ports
      → numbers 8 s.lines b'.memory ≡ store true a w (numbers 8 s.lines b.memory) → {n : Answer}
      → n ≡ accepted 0 (bit false) (bit (not (not (eqb said.owners 0)))) (bit false + bit true)
      → result n (model_in s b') ≡ device_written s (model_in s b) a mask x
  unfolding device_written byte_answered dirty seen tables_in model_in
  written_done b' mask x {u} {w} eu ew et em en =
      let now = et ∙ holders_gone w in
      rw (en, masks_dirty s t' a es, held_together s b' em now, ew, eu)
