-- The answers on the bus, and then the own entry: the tables after a rule, as the model has them. Assumes nothing.
use Prim.Native.Nat.{ℕ, zero, ◌*◌, ◌^◌, ◌<◌}
use mathlib.Core.Path.{◌≡◌, refl, ap}
use mathlib.Core.Logic.{◌≢◌}
use mathlib.Core.Bool.{Bool, true, false}
use mathlib.Core.List.{List}
use native.Mathlib.Omega.{arith}
use lib.ListN.{get_or, set, length}
use lib.Seq.{sets}
use borrow.Author.Tests.{eq-eqb, ne_eqb, ltb-true}
use Rattle.std.specs.Prelude.{Option, Some, IfSome}
use Rattle.std.specs.Bool.{then_some}
use Rattle.decision.specs.declared.Store.{Store}
use Rattle.decision.specs.Decision.{store_of}
use Rattle.endian.specs.Little.{numbers, bytes_of}
use Rattle.endian.proofs.Little.{set-numbers}
use Rattle.words.proofs.Bools.{Is, and_r}
use Rattle.protocol.specs.declared.rules.Rule.{Rule}
use Rattle.protocol.specs.State.{code, state_of, is_state, valid, owner}
use Rattle.protocol.proofs.States.{owner-valid}
use Rattle.shape.specs.declared.Shape.{Shape}
use Rattle.shape.specs.Shape.{tag_of, entry_of}
use Rattle.model.specs.Tables.{Model, model, state_at, home_at, sound, holds, column_sound}
use Rattle.model.specs.Step.{put_below, store, byte_answered, word_answered, byte_after, word_after}
use Rattle.model.proofs.Below.{below_all}
use Rattle.model.proofs.Entries.{entry_inj}
use Rattle.ports.specs.Bytes.{Bytes, model_in, tables_in}
use Rattle.ports.specs.Entry.{put_at}
use Rattle.bus.specs.Bus.{answered}
use Rattle.ports.proofs.Bytes.{model_eq}
use Rattle.model.proofs.Puts.{own_last}

-- A store in memory's bytes is a store in its words.
pub stored : (n : ℕ) (m : List ℕ) {m' : List ℕ} {o : Option Store} {x : Store} → o ≡ Some x → length m ≡ 8 * n → IfSome o (λ x. x.line < n)
    → x.word < 2 ^ 64 → m' ≡ sets m (8 * x.line) (bytes_of 8 x.word) → numbers 8 n m' ≡ store_of o (numbers 8 n m)
stored n m {x = x} o l q f e =
    let below : x.line < n = rw o at q in rw (o, e) (set-numbers 8 n x.line x.word m below (omega arith) (omega (arith, l)))

-- A store by a test.
pub store_then : (b : Bool) (x : Store) {o : Option Store} → o ≡ then_some b x → (l : List ℕ) → store_of o l ≡ store b x.line x.word l
store_then true x e l = rw e refl
store_then false x e l = rw e refl

-- What is stored, where it is known.
pub stored_word : (m : List ℕ) (a w : ℕ) {m' : List ℕ} {o : Option Store} → m' ≡ store_of o m → o ≡ Some (record { line = a; word = w })
    → m' ≡ store true a w m
stored_word m a w e q = rw (e, q) refl

-- The line of a store by a test is there, where it is there if the test says yes.
pub line_then : (b : Bool) (x : Store) (n : ℕ) → (b ≡ true → x.line < n) → IfSome (then_some b x) (λ x. x.line < n)
line_then true x n h = h refl
line_then false x n h = tt

-- Memory and the tables, held together.
pub held_together : (s : Shape) (b : Bytes) {x : List ℕ} {t : Model} → numbers 8 s.lines b.memory ≡ x
    → tables_in s b.tags b.states b.words ≡ t
    → model_in s b ≡ model x t.tags t.states t.words
unfolding model_in tables_in
held_together s b em et = model_eq em (ap (λ (t : Model). t.tags) et) (ap (λ (t : Model). t.states) et) (ap (λ (t : Model). t.words) et)

-- In a sound column, an owner's entry has a home line that is there.
pub home_there : (s : Shape) (t : Model) (i a : ℕ) → i < s.ports → Is (column_sound s t a) → Is (owner (state_at t (entry_of s a i)))
    → home_at s t (entry_of s a i) < s.lines
unfolding column_sound sound
home_there s t i a h c o =
    let v : Is (valid (state_at t (entry_of s a i))) = owner-valid (state_at t (entry_of s a i)) o in
    ltb-true _ _ (rw v at (and_r (is_state (state_of (get_or t.states (entry_of s a i) 0))) _ (below_all (λ p. sound s t (entry_of s a p)) s.ports c i h)))

module _ (s : Shape) (pos : zero < s.sets) (t : Model) (i a : ℕ) (port : i < s.ports) (r : Rule) (w : ℕ) where
  own_byte : code r.own ≡ byte_after s t i a r i
  unfolding byte_after
  own_byte = rw (eq-eqb i i refl)

  own_word : w ≡ word_after s t i a r w i
  unfolding word_after
  own_word = rw (eq-eqb i i refl)

  -- The tables after the rule.
  abbrev pub ruled : Model
  ruled = model t.memory (set t.tags (entry_of s a i) (tag_of s a)) (put_below (entry_of s a) (byte_after s t i a r) s.ports t.states)
      (put_below (entry_of s a) (word_after s t i a r w) s.ports t.words)

  -- The ports asked are the other holders: whether the port itself is asked makes no difference, for its entry is put at the end.
  module _ (asked : ℕ → Bool) (others : (p : ℕ) → p < s.ports → p ≢ i → asked p ≡ holds s t a p) where
    byte_sent : (p : ℕ) → p < s.ports → p ≢ i → byte_answered s t a asked r.bus p ≡ byte_after s t i a r p
    unfolding byte_answered byte_after
    byte_sent p q d = rw (ne_eqb p i d, others p q d)

    word_sent : (p : ℕ) → p < s.ports → p ≢ i → word_answered s t a asked r.bus w p ≡ word_after s t i a r w p
    unfolding word_answered word_after
    word_sent p q d = rw (ne_eqb p i d, others p q d)

    pub put_ruled : {y : Model} → y ≡ answered s t a asked r.bus w s.ports
        → put_at y (entry_of s a i) (record { tag = tag_of s a; byte = code r.own; word = w }) ≡ ruled
    unfolding put_at answered
    put_ruled e =
        rw e (model_eq refl refl
        (own_last (entry_of s a) (entry_inj s pos a) (byte_after s t i a r) s.ports t.states i (code r.own) port own_byte
        (byte_answered s t a asked r.bus) byte_sent)
        (own_last (entry_of s a) (entry_inj s pos a) (word_after s t i a r w) s.ports t.words i w port own_word
        (word_answered s t a asked r.bus w) word_sent))
