-- Every list of orders: the agreement from audited tables, and from a fresh model as its instance. Assumes nothing.
use Prim.Native.Nat.{ℕ, zero, suc}
use mathlib.Core.Path.{◌≡◌, refl, ◌∙◌}
use mathlib.Core.Bool.{Bool, true, false, cond, false≢true}
use mathlib.Core.List.{List, [], ◌∷◌}
use lib.ListN.{get_or, length, replicate, length-replicate}
use lib.Dec.{eqb}
use Rattle.protocol.specs.declared.state.State.{State}
use Rattle.protocol.specs.declared.state.State.TheVariants.{I}
use Rattle.protocol.specs.State.{state_of}
use Rattle.words.proofs.Bools.{Is, contra}
use Rattle.shape.specs.declared.Shape.{Shape}
use Rattle.shape.specs.Shape.{entries, tag_of, entry_of}
use Rattle.model.specs.Order.{Order}
use Rattle.model.specs.Tables.{Model, lent_refusal, sound, seen, owns, dirty}
use Rattle.model.specs.Step.{step}
use Rattle.model.specs.Fresh.{zeroed, fresh}
use Rattle.model.specs.Audit.{audit}
use Rattle.model.specs.Flat.{Flat, word_in, flat_step, flat_start}
use Rattle.model.specs.Agreement.{AgreesOver, Agreement, Fits, AuditedAgreement}
use Rattle.model.proofs.Below.{any_below_lem}
use Rattle.model.proofs.Lent.{Lent, lent_facts, facts_lent, relent}
use Rattle.model.proofs.Audited.{audit_facts, facts_audit, facts_tidy, facts_good, good_facts}
use Rattle.model.proofs.Agree.{Sim, step_goes}

-- Tables that go with a flat memory pass the audit.
sim_audit : (s : Shape) (t : Model) (f : Flat) → Sim s t f → Is (audit s t)
sim_audit s t f sim = facts_audit s t (good_facts s t (word_in f) (facts_lent s t sim.lent) sim.tidy sim.good)

-- And they agree over every list of orders.
sim_agrees : (s : Shape) (os : List Order) (t : Model) (f : Flat) → Sim s t f → AgreesOver s os t f
unfolding AgreesOver
sim_agrees s [] t f sim = sim_audit s t f sim
sim_agrees s (o ∷ os) t f sim =
    let goes = step_goes s t f sim o in
    (sim_audit s t f sim, goes.agrees, sim_agrees s os (step s o t).after (flat_step s o f).after goes.sim)

-- Audited tables go with a flat memory that fits them.
audited_sim : (s : Shape) (t : Model) (f : Flat) → Is (audit s t) → Fits s t f → Sim s t f
unfolding dirty
audited_sim s t f passes fits =
    let facts = audit_facts s t passes in
    record {
      lent = lent_facts s t facts.accepted;
      tidy = facts_tidy s t facts;
      flat_words = fits.words_length;
      flat_marks = fits.marks_length;
      good = λ a l. rw (fits.word a l) (facts_good s t facts a l);
      unmarked = λ a l u p h. contra (owns s t a p) (λ o. fits.mark a l (any_below_lem (owns s t a) s.ports p h o)) u;
    }

pub audited_agreement : AuditedAgreement
audited_agreement s t f passes fits os = sim_agrees s os t f (audited_sim s t f passes fits)

-- A fresh model: no port holds a line.
zeros : (n k : ℕ) → ◌≡◌ {A = ℕ} (get_or (replicate n 0) k 0) 0
zeros zero k = refl
zeros (suc n) zero = refl
zeros (suc n) (suc k) = zeros n k

either_same : (b : Bool) (x : State) → cond b x x ≡ x
either_same true x = refl
either_same false x = refl

zeroed-seen : (s : Shape) (t : Model) (a p : ℕ) → seen s (zeroed s t) a p ≡ I
unfolding zeroed seen state_of
zeroed-seen s t a p = rw (zeros (entries s) (entry_of s a p)) (either_same (eqb 0 (tag_of s a)) I)

zeroed_sim : (s : Shape) (t : Model) → Lent s t → Sim s (zeroed s t) (flat_start t.memory)
unfolding zeroed flat_start sound state_of
zeroed_sim s t lent = record {
  lent = relent lent (record {
    memory = lent.sizes.memory;
    tags = length-replicate (entries s) 0;
    states = length-replicate (entries s) 0;
    words = length-replicate (entries s) 0;
  });
  tidy = record { entry = λ k h. rw (zeros (entries s) k) refl };
  flat_words = lent.sizes.memory;
  flat_marks = length-replicate (length t.memory) false ∙ lent.sizes.memory;
  good = λ a h. record {
    words = λ p k v. absurd (false≢true (rw (zeroed-seen s t a p) at v));
    pairs = λ p q hp hq d. rw (zeroed-seen s t a p) refl;
    clean = λ u. refl;
  };
  unmarked = λ a h u p k. rw (zeroed-seen s t a p) refl;
}

pub fresh_sim : (s : Shape) (t : Model) → lent_refusal s t ≡ 0 → Sim s (fresh s t) (flat_start t.memory)
unfolding fresh
fresh_sim s t accepted = rw accepted (zeroed_sim s t (lent_facts s t accepted))

pub agreement : Agreement
agreement s t accepted os = sim_agrees s os (fresh s t) (flat_start t.memory) (fresh_sim s t accepted)
