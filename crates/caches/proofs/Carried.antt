-- A decision carried out is the access of the model. Assumes nothing.
use Prim.Native.Nat.{ℕ, zero, ◌<◌}
use mathlib.Core.Path.{◌≡◌, refl, sym, ◌∙◌}
use mathlib.Core.Bool.{true, not}
use mathlib.Core.List.{List}
use lib.Dec.{eqb}
use borrow.Author.Tests.{ne_eqb}
use Rattle.endian.specs.Little.{numbers}
use Rattle.words.specs.declared.access.Access.{Access}
use Rattle.words.specs.declared.access.Effect.{Effect}
use Rattle.words.specs.Access.{effect_at}
use Rattle.words.proofs.Bools.{and_r}
use Rattle.protocol.specs.declared.state.Mode.{Mode}
use Rattle.protocol.specs.declared.rules.Rule.{Rule}
use Rattle.shape.specs.declared.Shape.{Shape}
use Rattle.shape.specs.Shape.{entry_number, entry_of}
use Rattle.model.specs.Tables.{Model, seen, word_at, holds, column_sound}
use Rattle.model.specs.Step.{result, byte_answered, word_answered, word_found, victim, evicts_owner, applied, access_rule}
use Rattle.model.specs.Step.{accessed}
use Rattle.ports.specs.declared.line.Line.{Line}
use Rattle.ports.specs.Bytes.{Bytes, model_in, tables_in}
use Rattle.ports.specs.Entry.{put_at}
use Rattle.ports.specs.Line.{Placed}
use Rattle.ports.specs.Masks.{ports_from, in_mask}
use Rattle.bus.specs.Bus.{answered}
use Rattle.ports.proofs.Masks.{in_mask_lem, of_holders}
use Rattle.ports.proofs.Places.{some, number_is}
use Rattle.ports.proofs.Surveys.{sound_column}
use Rattle.decision.specs.declared.Decision.{Decision}
use Rattle.decision.specs.Decision.{other, decided}
use Rattle.caches.specs.Carried.{Founded, carried}
use Rattle.decision.specs.Decision.{store_of}
use Rattle.caches.proofs.Applied.{store_then, line_then, held_together, home_there, put_ruled}

-- A decision carried out is the access.
carried_accessed : (s : Shape) (pos : zero < s.sets) (t : Model) (i a : ℕ) → i < s.ports → (acc : Access) (m : Mode)
    → result (decided s t i a acc m).answer (carried s t i a (decided s t i a acc m)) ≡ accessed s t i a acc m
unfolding decided carried accessed applied
carried_accessed s pos t i a port acc m =
    let e : Effect = effect_at acc (word_found s t i a) in
    let r : Rule = access_rule s t i a m e in
    rw (
      store_then r.stores (record { line = a; word = e.word }) refl _,
      store_then (evicts_owner s t i a) (record { line = victim s t i a; word = word_at s t a i }) refl _,
      put_ruled s pos t i a port r e.word (in_mask (ports_from (other s t i a) 0 s.ports))
          (λ p h d. in_mask_lem (other s t i a) s.ports refl p h ∙ rw (ne_eqb p i d)) refl,
    )

-- The calls that carry a decision out, together.
pub carry_done : {l : Line} → Placed l → (b b' : Bytes) (i : ℕ) (d : Decision) {u : Model}
    → u ≡ answered l.shape (tables_in l.shape b.tags b.states b.words) l.number (in_mask d.others) d.bus d.entry.word
    l.shape.ports
    → {k : ℕ} → k ≡ entry_number l.shape i l.place.index
    → tables_in l.shape b'.tags b'.states b'.words ≡ put_at u k d.entry
    → {m₁ : List ℕ} → m₁ ≡ store_of d.evicted (numbers 8 l.shape.lines b.memory)
    → numbers 8 l.shape.lines b'.memory ≡ store_of d.stored m₁
    → model_in l.shape b' ≡ carried l.shape (model_in l.shape b) i l.number d
unfolding carried answered byte_answered word_answered put_at word_at seen tables_in model_in
carry_done {l} v b b' i d ea ek ep e₁ e₂ =
    let s = l.shape in
    let a = l.number in
    let now : Model = answered s (tables_in s b.tags b.states b.words) a (in_mask d.others) d.bus d.entry.word s.ports in
    let tables : tables_in s b'.tags b'.states b'.words ≡ put_at now (entry_of s a i) d.entry = ep ∙ rw (ea, ek, number_is v i) in
    let memory : numbers 8 s.lines b'.memory
    ≡ store_of d.stored (store_of d.evicted (numbers 8 s.lines b.memory)) = e₂ ∙ rw e₁ in
    held_together s b' memory tables

module _ {l : Line} (v : Placed l) (b : Bytes) (i : ℕ) (port : i < l.shape.ports) (acc : Access) (m : Mode) {d : Decision}
    (e : d ≡ decided l.shape (model_in l.shape b) i l.number acc m) where
  -- What a decision rests on, where every entry is sound.
  pub founded : column_sound l.shape (tables_in l.shape b.tags b.states b.words) l.number ≡ true
      → Founded l.shape (tables_in l.shape b.tags b.states b.words) l.number d
  unfolding decided evicts_owner seen tables_in model_in
  founded u =
      let t = model_in l.shape b in
      rw e (record {
        mask = of_holders l.shape _ l.number (other l.shape t i l.number) (λ p. and_r (not (eqb p i)) _) refl;
        home = line_then _ _ _ (λ h. home_there l.shape t i l.number port (sym (sound_column l.shape b l.number) ∙ u)
            (and_r (not (holds l.shape t l.number i)) _ h));
        line = line_then _ _ _ (λ h. v.below);
      })

  -- Carried out, it is the access.
  pub access_done : (b' : Bytes) → model_in l.shape b' ≡ carried l.shape (model_in l.shape b) i l.number d
      → result d.answer (model_in l.shape b') ≡ accessed l.shape (model_in l.shape b) i l.number acc m
  access_done b' f = rw (f, e) (carried_accessed l.shape (some v) (model_in l.shape b) i l.number port acc m)
