-- One order: the model answers as the flat memory does, and still goes with it. Assumes nothing.
use Prim.Native.Nat.{ℕ, ◌<◌}
use mathlib.Core.Path.{◌≡◌, refl, ◌∙◌, ap}
use mathlib.Core.Logic.{◌≢◌}
use mathlib.Core.Bool.{not}
use native.Mathlib.Omega.{arith}
use native.Mathlib.Decide.{ℕ_discrete}
use lib.ListN.{length}
use lib.Dec.{eqb}
use borrow.Author.Tests.{eq-eqb, eqb-true, eqb-false, not-true}
use Rattle.protocol.specs.declared.state.Mode.{Mode}
use Rattle.protocol.specs.declared.state.Mode.TheVariants.{Through}
use Rattle.words.specs.declared.access.Access.{Access}
use Rattle.words.specs.declared.access.Access.TheVariants.{Write}
use Rattle.words.specs.declared.access.Effect.{Effect}
use Rattle.protocol.specs.declared.rules.Rule.{Rule}
use Rattle.words.specs.Word.{merge}
use Rattle.words.specs.Access.{effect_at}
use Rattle.protocol.specs.Rules.{flush_rule}
use Rattle.words.proofs.Bools.{Is, and_none, by_bool}
use Rattle.words.proofs.Effects.{write-effect, unaltered}
use Rattle.protocol.proofs.Kept.{flush_own, flush_bus, flush_stores, quiet_same, quiet_keeps}
use Rattle.shape.specs.declared.Shape.{Shape}
use Rattle.model.specs.declared.order.Call.{Call}
use Rattle.model.specs.declared.order.Call.TheVariants.{ByPort, Flush, DeviceRead, DeviceWrite}
use Rattle.model.specs.Order.{Decoded, Asked, Refused}
use Rattle.shape.specs.Shape.{entry_of}
use Rattle.model.specs.Order.{Order, decode, looks, There}
use Rattle.model.specs.Tables.{Model, sound, seen, word_at, memory_at, holds, owns, dirty, column_sound}
use Rattle.model.specs.Step.{Result, word_supplied, shared, word_found, applied, access_rule, accessed, flushed, device_written, called, perform, step}
use Rattle.model.specs.Flat.{Flat, FlatResult, word_in, mark_in, flat_access, flat_perform, flat_step}
use Rattle.model.specs.Agreement.{Agrees}
use Rattle.model.proofs.Below.{all_below_lem, none_below}
use Rattle.model.proofs.Line.{Unowned, After, word_supplied_lem, word_found_lem, access_good, access_ownerless, gone_good}
use Rattle.model.proofs.Entries.{entry_lt}
use Rattle.model.proofs.Touched.{LineGood, Tidy, Ready, Leaves}
use Rattle.model.proofs.Applied.{line_after, leaves}
use Rattle.model.proofs.Written.{line_written, unowned_written, leaves-written}
use Rattle.model.proofs.Lent.{Lent, facts_lent, relent}
use Rattle.shape.proofs.Bounds.{some_sets}
use Rattle.model.proofs.Moved.{Moved, access_moves, written_moves, unmarked_access}
use Rattle.model.proofs.Decoded.{Sound, decode-sound}

-- Tables that go with a flat memory: what every order keeps.
pub record Sim (s : Shape) (t : Model) (f : Flat) : Type 0 where
  pub lent : Lent s t
  pub tidy : Tidy s t
  pub flat_words : length f.words ≡ s.lines
  pub flat_marks : length f.marks ≡ s.lines
  pub good : (a : ℕ) → a < s.lines → LineGood s t a (word_in f a)
  pub unmarked : (a : ℕ) → a < s.lines → Is (not (mark_in f a)) → Unowned s.ports (seen s t a)

-- An order goes well: the answers agree, and what is left goes together.
pub record Goes (s : Shape) (r : Result) (g : FlatResult) : Type 0 where
  pub agrees : Agrees r.answer g.answer
  pub sim : Sim s r.after g.after

module _ (s : Shape) (t : Model) (f : Flat) (sim : Sim s t f) (a : ℕ) (line : a < s.lines) where
  ready : Ready s t a
  ready = record { pos = some_sets s sim.lent.range; sized = sim.lent.sizes; tidy = sim.tidy; line = line }

  -- What an order on line a leaves goes with a flat memory that moved at line a alone.
  sim_after : (t' : Model) → Leaves s t t' a → (g : Flat) → length g.words ≡ s.lines → length g.marks ≡ s.lines
      → ((b : ℕ) → b ≢ a → word_in g b ≡ word_in f b)
      → ((b : ℕ) → b ≢ a → mark_in g b ≡ mark_in f b)
      → LineGood s t' a (word_in g a)
      → (Is (not (mark_in g a)) → Unowned s.ports (seen s t' a))
      → Sim s t' g
  sim_after t' left g lw lm ew em here unowned = record {
    lent = relent sim.lent left.sized;
    tidy = left.tidy;
    flat_words = lw;
    flat_marks = lm;
    good = λ b there. elim (ℕ_discrete b a) [ yes e ↦ rw e here | no d ↦ rw (ew b d) (left.good b d there (word_in f b) (sim.good b there)) ];
    unmarked = λ b there u. elim (ℕ_discrete b a) [
      | yes e ↦ rw e (unowned (rw e at u))
      | no d ↦ left.unowned b d (sim.unmarked b there (rw (em b d) at u))
    ];
  }

  -- Refusal 8 is not given.
  column : Is (column_sound s t a)
  unfolding column_sound
  column = all_below_lem (λ p. sound s t (entry_of s a p)) s.ports (λ p h. sim.tidy.entry (entry_of s a p) (entry_lt s (some_sets s sim.lent.range) a p h))

  module _ (i : ℕ) (port : i < s.ports) where
    -- A read, a write or a swap.
    module _ (acc : Access) (m : Mode) where
      abbrev eff : Effect
      eff = effect_at acc (word_in f a)

      abbrev the_rule : Rule
      the_rule = access_rule s t i a m eff

      found_is : word_found s t i a ≡ word_in f a
      unfolding word_supplied word_found
      found_is = word_found_lem s.ports i (seen s t a) (word_at s t a) (memory_at t a) (word_in f a) port (sim.good a line)

      access_line : LineGood s (applied s t i a the_rule eff.word) a eff.word
      unfolding access_rule shared dirty
      access_line =
          access_good s.ports i (seen s t a) (word_at s t a) (memory_at t a) (word_in f a) port (sim.good a line) eff.outcome m
          eff.word _ _ _ (line_after s t i a ready port the_rule eff.word) (unaltered acc (word_in f a))

      moves : Moved f (flat_access f acc m a) eff m a
      moves = access_moves f m a acc

      access_marks : Is (not (mark_in (flat_access f acc m a).after a)) → Unowned s.ports (seen s (applied s t i a the_rule eff.word) a)
      unfolding access_rule shared dirty
      access_marks u =
          access_ownerless s.ports i (seen s t a) (word_at s t a) (memory_at t a) (word_in f a) port (sim.good a line) eff.outcome m
          eff.word _ _ _ (line_after s t i a ready port the_rule eff.word)
          (unmarked_access eff.outcome m (mark_in f a) (dirty s t a) (λ o. none_below (owns s t a) s.ports (sim.unmarked a line o))
          (rw (moves.mark (rw sim.flat_marks line)) at u))

      access_sim : Sim s (applied s t i a the_rule eff.word) (flat_access f acc m a).after
      access_sim =
          sim_after _ (leaves s t i a ready port the_rule eff.word) (flat_access f acc m a).after
          (moves.words_length ∙ sim.flat_words) (moves.marks_length ∙ sim.flat_marks) moves.word_other moves.mark_other
          (rw (moves.word (rw sim.flat_words line)) access_line) access_marks

      pub access_goes : Goes s (accessed s t i a acc m) (flat_access f acc m a)
      unfolding accessed
      access_goes = rw found_is (record {
        agrees = rw moves.answer (record { refusal = refl; value = λ _. refl; swapped = refl; below_8 = omega arith });
        sim = access_sim;
      })

    -- A flush.
    abbrev flushes : Rule
    flushes = flush_rule (seen s t a i)

    abbrev flushed_tables : Model
    flushed_tables = applied s t i a flushes (word_at s t a i)

    flush_after : After s.ports i flushes (word_at s t a i) (seen s t a) (word_at s t a) (memory_at t a) (seen s flushed_tables a)
        (word_at s flushed_tables a) (memory_at flushed_tables a)
    flush_after = line_after s t i a ready port flushes (word_at s t a i)

    flush-others : (q : ℕ) → q < s.ports → q ≢ i → seen s flushed_tables a q ≡ seen s t a q
    flush-others q h d = flush_after.others q h d ∙ rw (flush_bus (seen s t a i)) (quiet_same (seen s t a q))

    not_itself : (q : ℕ) → Is (not (eqb q i)) → q ≢ i
    not_itself q k = eqb-false q i (not-true (eqb q i) k)

    flush_line : Is (holds s t a i) → LineGood s flushed_tables a (word_in f a)
    flush_line v =
        gone_good s.ports (λ q. eqb q i) (seen s t a) (word_at s t a) (memory_at t a) (word_in f a) (sim.good a line) _ _ _
        (λ p _ k. rw (eqb-true p i k) (flush_after.own ∙ flush_own (seen s t a i))) (λ q h k. flush-others q h (not_itself q k))
        (λ q h k x. let d = not_itself q k in
        flush_after.words q h d (rw (flush-others q h d) x) ∙ rw (flush_bus (seen s t a i), quiet_keeps))
        (λ p _ k o. flush_after.stored (flush_stores (seen s t a i) ∙ rw (eqb-true p i k) at o) ∙ (sim.good a line).words i port v)
        (λ u. flush_after.unstored (ap not (flush_stores (seen s t a i)) ∙ u i port (eq-eqb i i refl)))

    flush_marks : Unowned s.ports (seen s t a) → Unowned s.ports (seen s flushed_tables a)
    flush_marks u p h =
        elim (ℕ_discrete p i) [ yes e ↦ rw (e, flush_after.own, flush_own (seen s t a i)) refl | no d ↦ rw (flush-others p h d) (u p h) ]

    flush-held : Is (holds s t a i) → Goes s (flushed s t i a) (flat_perform f (Asked (Flush i) a))
    unfolding flushed flat_perform
    flush-held v = rw v (record {
      agrees = record { refusal = refl; value = λ _. refl; swapped = refl; below_8 = omega arith };
      sim = sim_after _ (leaves s t i a ready port flushes (word_at s t a i)) f sim.flat_words sim.flat_marks (λ b d. refl) (λ b d. refl)
          (flush_line v) (λ u. flush_marks (sim.unmarked a line u));
    })

    flush_missed : Is (not (holds s t a i)) → Goes s (flushed s t i a) (flat_perform f (Asked (Flush i) a))
    unfolding flushed flat_perform
    flush_missed v = rw (not-true (holds s t a i) v) (record {
      agrees = record
          { refusal = refl; value = λ _. refl; swapped = refl; below_8 = omega arith };
      sim = sim;
    })

    pub flush_goes : Goes s (flushed s t i a) (flat_perform f (Asked (Flush i) a))
    flush_goes = by_bool (holds s t a i) flush-held flush_missed

  -- A device read.
  pub device_read_goes : Goes s (called s t DeviceRead a) (flat_perform f (Asked DeviceRead a))
  unfolding called flat_perform
  device_read_goes = record {
    agrees = record { refusal = refl; value = λ e. (sim.good a line).clean (sim.unmarked a line e); swapped = refl; below_8 = omega arith };
    sim = sim;
  }

  -- A device write.
  module _ (mask x : ℕ) where
    supplied_is : word_supplied s t a ≡ word_in f a
    unfolding word_supplied
    supplied_is = word_supplied_lem s.ports (seen s t a) (word_at s t a) (memory_at t a) (word_in f a) (sim.good a line)

    written : Moved f (flat_perform f (Asked (DeviceWrite mask x) a)) (effect_at (Write mask x) (word_in f a)) Through a
    written = written_moves f a mask x

    written_is : word_in (flat_perform f (Asked (DeviceWrite mask x) a)).after a ≡ merge mask (word_supplied s t a) x
    written_is = written.word (rw sim.flat_words line) ∙ rw (write-effect mask x (word_in f a), supplied_is)

    written_agrees : Agrees (device_written s t a mask x).answer (flat_perform f (Asked (DeviceWrite mask x) a)).answer
    unfolding device_written flat_perform
    written_agrees = record { refusal = refl; value = λ _. refl; swapped = refl; below_8 = omega arith }

    pub device_write_goes : Goes s (device_written s t a mask x) (flat_perform f (Asked (DeviceWrite mask x) a))
    device_write_goes = record {
      agrees = written_agrees;
      sim = sim_after _ (leaves-written s t a ready mask x) (flat_perform f (Asked (DeviceWrite mask x) a)).after
          (written.words_length ∙ sim.flat_words) (written.marks_length ∙ sim.flat_marks) written.word_other written.mark_other
          (rw written_is (line_written s t a ready mask x)) (λ _. unowned_written s t a ready mask x);
    }

module _ (s : Shape) (t : Model) (f : Flat) (sim : Sim s t f) where
  -- A call, whatever it asks.
  called_goes : (c : Call) (a : ℕ) → There s c a → Goes s (called s t c a) (flat_perform f (Asked c a))
  unfolding called flat_perform
  called_goes (ByPort acc m i) a h = access_goes s t f sim a h.1 i h.0 acc m
  called_goes (Flush i) a h = flush_goes s t f sim a h.1 i h.0
  called_goes DeviceRead a h = device_read_goes s t f sim a h.1
  called_goes (DeviceWrite mask x) a h = device_write_goes s t f sim a h.1 mask x

  -- An order, whatever it is taken apart into.
  perform_goes : (d : Decoded) → Sound s d → Goes s (perform s t d) (flat_perform f d)
  unfolding perform flat_perform
  perform_goes (Refused n) h = record { agrees = record { refusal = refl; value = λ _. refl; swapped = refl; below_8 = h }; sim = sim }
  perform_goes (Asked c a) h = rw (column s t f sim a h.1, and_none (looks c)) (called_goes c a h)

pub step_goes : (s : Shape) (t : Model) (f : Flat) → Sim s t f → (o : Order) → Goes s (step s o t) (flat_step s o f)
unfolding step flat_step
step_goes s t f sim o = rw (facts_lent s t sim.lent) (perform_goes s t f sim (decode s o) (decode-sound s o))
