-- A flush as the code makes it is the model's. Assumes nothing.
use Prim.Native.Nat.{ℕ, zero, ◌+◌, ◌<◌}
use mathlib.Core.Path.{◌≡◌, refl, ap, sym, ◌∙◌}
use mathlib.Core.Bool.{Bool, false, cond, not}
use mathlib.Core.List.{List}
use lib.ListN.{set}
use lib.Seq.{set-get_or}
use native.Mathlib.Nat.{zero-add}
use borrow.Author.Tests.{not-true}
use Rattle.endian.specs.Little.{numbers}
use Rattle.words.specs.Bools.{bit}
use Rattle.words.proofs.Bools.{Is, by_bool, contra}
use Rattle.protocol.specs.declared.rules.Rule.{Rule}
use Rattle.protocol.specs.declared.state.State.TheVariants.{I}
use Rattle.protocol.specs.State.{code}
use Rattle.protocol.specs.Rules.{flush_rule}
use Rattle.protocol.proofs.States.{owner-valid}
use Rattle.protocol.proofs.Kept.{flush_own, flush_bus}
use Rattle.shape.specs.declared.Shape.{Shape}
use Rattle.model.specs.declared.answer.Answer.{Answer}
use Rattle.shape.specs.Shape.{entry_number, entry_of}
use Rattle.model.specs.Tables.{Model, model, seen, word_at, holds, owns}
use Rattle.model.specs.Step.{result, accepted, store, byte_answered, word_answered, evicts_owner, byte_after, word_after, applied, flushed}
use Rattle.model.proofs.Entries.{seen_tag}
use Rattle.ports.specs.declared.line.Line.{Line}
use Rattle.ports.specs.Bytes.{Bytes, bytes, model_in, tables_in}
use Rattle.ports.specs.Entry.{put_at}
use Rattle.ports.specs.Line.{Placed}
use Rattle.ports.specs.Masks.{AllStates}
use Rattle.ports.proofs.Bytes.{model_eq}
use Rattle.ports.proofs.Places.{some, number_is}
use Rattle.bus.proofs.Answers.{quiet_answered}
use Rattle.caches.proofs.Applied.{held_together, ruled, put_ruled}

-- A held line: the entry becomes I, and all else in the tables stays.
module _ (s : Shape) (pos : zero < s.sets) (t : Model) (i a : ℕ) (port : i < s.ports) (fine : AllStates s a t.states) where
  abbrev pub flushing : Rule
  flushing = flush_rule (seen s t a i)

  pub emptied : Is (holds s t a i) → model t.memory t.tags (set t.states (entry_of s a i) (code I)) t.words ≡ ruled s pos t i a port flushing
      (word_at s t a i)
  unfolding put_at code word_at
  emptied held =
      model_eq refl (sym (ap (set t.tags (entry_of s a i)) (sym (seen_tag s t a i held)) ∙ set-get_or t.tags (entry_of s a i) 0))
      (ap (λ x. set t.states (entry_of s a i) (code x)) (sym (flush_own (seen s t a i))))
      (sym (set-get_or t.words (entry_of s a i) 0))
      ∙ put_ruled s pos t i a port flushing (word_at s t a i) (holds s t a) (λ p h d. refl)
      (quiet_answered s pos t a (holds s t a) (λ p h v. v) (word_at s t a i) fine (flush_bus (seen s t a i)))

-- The flush in the model, from the tables alone.
module _ (s : Shape) (b : Bytes) (i a : ℕ) where
  abbrev t : Model
  t = tables_in s b.tags b.states b.words

  flush-held : (pos : zero < s.sets) (port : i < s.ports) → Is (holds s t a i)
      → flushed s (model_in s b) i a ≡ result (accepted 0 0 0 (bit (owns s t a i)))
      (let u = ruled s pos t i a port (flush_rule (seen s t a i)) (word_at s t a i) in model
      (store (owns s t a i) a (word_at s t a i) (numbers 8 s.lines b.memory)) u.tags u.states u.words)
  unfolding flushed applied evicts_owner flush_rule byte_answered word_answered byte_after word_after word_at seen tables_in model_in
  flush-held pos port h = rw h

  flush_away : Is (not (holds s t a i)) → flushed s (model_in s b) i a ≡ result (accepted 0 0 0 0) (model_in s b)
  unfolding flushed seen tables_in model_in
  flush_away h = rw (not-true (holds s t a i) h)

same_model : (s : Shape) (m g h d m' h' : List ℕ) → numbers 8 s.lines m' ≡ numbers 8 s.lines m → h' ≡ h
    → model_in s (bytes m' g h' d) ≡ model_in s (bytes m g h d)
unfolding model_in
same_model s m g h d m' h' e f = rw (e, f)

module _ {l : Line} (v : Placed l) (m g h d : List ℕ) (i : ℕ) (port : i < l.shape.ports) (fine : AllStates l.shape l.number h) where
  abbrev s : Shape
  s = l.shape

  abbrev a : ℕ
  a = l.number

  abbrev t' : Model
  t' = tables_in l.shape g h d

  unpacked : AllStates s a t'.states
  unfolding tables_in
  unpacked = fine

  emptied_bytes : (h' : List ℕ) → Is (holds s t' a i) → h' ≡ set h (entry_number s i l.place.index) (code I)
      → tables_in s g h' d ≡ ruled s (some v) t' i a port (flush_rule (seen s t' a i)) (word_at s t' a i)
  unfolding tables_in
  emptied_bytes h' held e = rw (e, number_is v i) (emptied s (some v) t' i a port unpacked held)

  pub flush_done : (m' h' : List ℕ) {held stores : Bool} → held ≡ holds s t' a i → stores ≡ owns s t' a i → {w : ℕ}
      → w ≡ word_at s t' a i → {k : ℕ} → k ≡ entry_number s i l.place.index
      → h' ≡ cond held (set h k (code I)) h
      → numbers 8 s.lines m' ≡ store stores a w (numbers 8 s.lines m) → {n : Answer}
      → n ≡ accepted 0 0 0 (0 + bit stores) → result n (model_in s (bytes m' g h' d)) ≡ flushed s (model_in s (bytes m g h d)) i a
  flush_done m' h' {held} {stores} eh es {w} ew ek ehs em en =
      by_bool (holds s t' a i)
      (λ y. let eh' : h' ≡ set h (entry_number s i l.place.index) (code I) = ehs ∙ rw (eh, y, ek) in
      let em' : numbers 8 s.lines m' ≡ store (owns s t' a i) a (word_at s t' a i) (numbers 8 s.lines m) = em ∙ rw (es, ew) in
      rw (en, zero-add, es, held_together s (bytes m' g h' d) em' (emptied_bytes h' y eh')) (sym (flush-held s (bytes m g h d) i a (some v) port y)))
      (λ y. let o : owns s t' a i ≡ false = not-true _ (contra (owns s t' a i) (owner-valid (seen s t' a i)) y) in
      let eh' : h' ≡ h = ehs ∙ rw (eh, not-true (holds s t' a i) y) in
      let em' : numbers 8 s.lines m' ≡ numbers 8 s.lines m = em ∙ rw (es, o) in
      rw (en, zero-add, es, o, same_model s m g h d m' h' em' eh') (sym (flush_away s (bytes m g h d) i a y)))
