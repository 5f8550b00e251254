-- The audit says yes exactly where its plain facts hold, and those are: the tables are lent rightly and tidy, and each line is good.
-- Assumes nothing.
use Prim.Native.Nat.{ℕ, ◌<◌}
use mathlib.Core.Path.{◌≡◌, refl, sym, ◌∙◌, ap}
use mathlib.Core.Logic.{◌≢◌}
use mathlib.Core.Bool.{Bool, false, ◌&&◌, not, false≢true}
use native.Mathlib.Decide.{ℕ_discrete}
use lib.Dec.{eqb}
use borrow.Author.Tests.{eq-eqb, eqb-true, not-true}
use Rattle.protocol.specs.declared.state.State.{State}
use Rattle.protocol.specs.State.{valid, exclusive, is_o, mode_of, same_mode}
use Rattle.words.proofs.Bools.{Is, and_l, and_r, both, mp, imp, not_both, not_is, by_cond}
use Rattle.protocol.proofs.States.{exclusive-valid, o_valid, same_mode_lem, mode_itself}
use Rattle.shape.specs.declared.Shape.{Shape}
use Rattle.shape.specs.Shape.{entries}
use Rattle.model.specs.Below.{all_below}
use Rattle.model.specs.Tables.{Model, lent_refusal, sound, seen, word_at, memory_at, holds, owns, dirty}
use Rattle.model.specs.Audit.{entries_sound, every_two, both_hold, equal_words, equal_modes, exclusive_alone, one_o, clean_equal, line_passes}
use Rattle.model.specs.Audit.{tables_pass, audit, Coherent}
use Rattle.model.specs.Agreement.{line_word}
use Rattle.model.proofs.Below.{all_below_lem, below_all, none_below, below_none, lowest_gives}
use Rattle.protocol.proofs.Kept.{compatible}
use Rattle.model.proofs.Touched.{LineGood, Tidy}

-- A test of every two ports.
all_two : (n : ℕ) (f : ℕ → ℕ → Bool) → ((p q : ℕ) → p < n → q < n → Is (f p q)) → Is (every_two n f)
unfolding every_two
all_two n f h = all_below_lem (λ p. all_below (f p) n) n (λ p hp. all_below_lem (f p) n (λ q hq. h p q hp hq))

two_all : (n : ℕ) (f : ℕ → ℕ → Bool) → Is (every_two n f) → (p q : ℕ) → p < n → q < n → Is (f p q)
unfolding every_two
two_all n f h p q hp hq = below_all (f p) n (below_all (λ p. all_below (f p) n) n h p hp) q hq

-- From the test to the facts.
module _ (s : Shape) (t : Model) (a : ℕ) where
  abbrev pair_test : ℕ → ℕ → Bool
  pair_test p q = equal_words s t a p q && equal_modes s t a p q && exclusive_alone s t a p q && one_o s t a p q

  module _ (passes : Is (line_passes s t a)) where
    pair_passes_lem : (p q : ℕ) → p < s.ports → q < s.ports → Is (pair_test p q)
    unfolding line_passes
    pair_passes_lem = two_all s.ports pair_test (and_l _ (all_below (clean_equal s t a) s.ports) passes)

    clean_passes : (p : ℕ) → p < s.ports → Is (clean_equal s t a p)
    unfolding line_passes
    clean_passes = below_all (clean_equal s t a) s.ports (and_r (every_two s.ports pair_test) _ passes)

    words_passes : (p q : ℕ) → p < s.ports → q < s.ports → Is (equal_words s t a p q)
    words_passes p q hp hq =
        and_l _ (equal_modes s t a p q)
        (and_l (equal_words s t a p q && equal_modes s t a p q) (exclusive_alone s t a p q)
        (and_l (equal_words s t a p q && equal_modes s t a p q && exclusive_alone s t a p q) (one_o s t a p q) (pair_passes_lem p q hp hq)))

    modes_passes : (p q : ℕ) → p < s.ports → q < s.ports → Is (equal_modes s t a p q)
    modes_passes p q hp hq =
        and_r (equal_words s t a p q) _
        (and_l (equal_words s t a p q && equal_modes s t a p q) (exclusive_alone s t a p q)
        (and_l (equal_words s t a p q && equal_modes s t a p q && exclusive_alone s t a p q) (one_o s t a p q) (pair_passes_lem p q hp hq)))

    alone_passes : (p q : ℕ) → p < s.ports → q < s.ports → Is (exclusive_alone s t a p q)
    alone_passes p q hp hq =
        and_r (equal_words s t a p q && equal_modes s t a p q) _
        (and_l (equal_words s t a p q && equal_modes s t a p q && exclusive_alone s t a p q) (one_o s t a p q) (pair_passes_lem p q hp hq))

    one_o_passes : (p q : ℕ) → p < s.ports → q < s.ports → Is (one_o s t a p q)
    one_o_passes p q hp hq = and_r (equal_words s t a p q && equal_modes s t a p q && exclusive_alone s t a p q) _ (pair_passes_lem p q hp hq)

audit_accepts : (s : Shape) (t : Model) → Is (audit s t) → (lent_refusal s t ≡ 0) × Is (tables_pass s t)
unfolding audit
audit_accepts s t =
    by_cond (λ b. Is b → (lent_refusal s t ≡ 0) × Is (tables_pass s t)) (eqb (lent_refusal s t) 0) (tables_pass s t) false
    (λ e h. (eqb-true _ _ e, h)) (λ _ h. absurd (false≢true h))

pub audit_facts : (s : Shape) (t : Model) → Is (audit s t) → Coherent s t
unfolding tables_pass entries_sound dirty
audit_facts s t h =
    let ok = audit_accepts s t h in
    let line : (a : ℕ) → a < s.lines → Is (line_passes s t a) = below_all (line_passes s t) s.lines
    (and_r (all_below (sound s t) (entries s)) (all_below (line_passes s t) s.lines) ok.1) in
    record {
      accepted = ok.0;
      entry = below_all (sound s t) (entries s) (and_l _ (all_below (line_passes s t) s.lines) ok.1);
      words = λ a p q l hp hq vp vq. eqb-true _ _ (mp (words_passes s t a (line a l) p q hp hq) (both vp vq));
      modes = λ a p q l hp hq vp vq. same_mode_lem _ _ (mp (modes_passes s t a (line a l) p q hp hq) (both vp vq));
      alone = λ a p q l hp hq x vq. eqb-true _ _ (mp (alone_passes s t a (line a l) p q hp hq) (both x vq));
      one_o = λ a p q l hp hq x y. eqb-true _ _ (mp (one_o_passes s t a (line a l) p q hp hq) (both x y));
      clean = λ a p l hp v u. eqb-true _ _ (mp (clean_passes s t a (line a l) p hp) (both v (none_below (owns s t a) s.ports (λ q hq. ap not (u q hq)))));
    }

-- From the facts to the test.
module _ (s : Shape) (t : Model) (facts : Coherent s t) where
  pair_holds : (a : ℕ) → a < s.lines → (p q : ℕ) → p < s.ports → q < s.ports → Is (pair_test s t a p q)
  pair_holds a l p q hp hq =
      both (both (both
      (imp {a = both_hold s t a p q} (λ v. eq-eqb _ _ (facts.words a p q l hp hq (and_l (holds s t a p) (holds s t a q) v)
      (and_r (holds s t a p) (holds s t a q) v))))
      (imp {a = both_hold s t a p q} (λ v. rw (facts.modes a p q l hp hq (and_l (holds s t a p) (holds s t a q) v)
      (and_r (holds s t a p) (holds s t a q) v)) (mode_itself (mode_of (seen s t a q))))))
      (imp {a = exclusive (seen s t a p) && holds s t a q} (λ v. eq-eqb _ _
      (facts.alone a p q l hp hq (and_l (exclusive (seen s t a p)) (holds s t a q) v) (and_r (exclusive (seen s t a p)) (holds s t a q) v)))))
      (imp {a = is_o (seen s t a p) && is_o (seen s t a q)} (λ v. eq-eqb _ _
      (facts.one_o a p q l hp hq (and_l (is_o (seen s t a p)) (is_o (seen s t a q)) v) (and_r (is_o (seen s t a p)) (is_o (seen s t a q)) v))))

  clean_holds : (a : ℕ) → a < s.lines → (p : ℕ) → p < s.ports → Is (clean_equal s t a p)
  unfolding dirty
  clean_holds a l p hp =
      imp {a = holds s t a p && not (dirty s t a)} (λ v.
      eq-eqb _ _ (facts.clean a p l hp (and_l (holds s t a p) (not (dirty s t a)) v)
      (λ q hq. not-true _ (below_none (owns s t a) s.ports (and_r (holds s t a p) (not (dirty s t a)) v) q hq))))

  pub facts_audit : Is (audit s t)
  unfolding audit tables_pass entries_sound line_passes
  facts_audit =
      rw facts.accepted
      (both (all_below_lem (sound s t) (entries s) facts.entry)
      (all_below_lem (line_passes s t) s.lines (λ a l.
      both (all_two s.ports (pair_test s t a) (pair_holds a l)) (all_below_lem (clean_equal s t a) s.ports (clean_holds a l)))))

-- The facts say that each line is good at its word.
module _ (s : Shape) (t : Model) (facts : Coherent s t) where
  pub facts_tidy : Tidy s t
  facts_tidy = record { entry = facts.entry }

  module _ (a : ℕ) (l : a < s.lines) where
    abbrev st : ℕ → State
    st p = seen s t a p

    facts_pair : (p q : ℕ) → p < s.ports → q < s.ports → p ≢ q → Is (compatible (st p) (st q))
    facts_pair p q hp hq d =
        imp {a = valid (st p) && valid (st q)} (λ v.
        let vp = and_l (valid (st p)) (valid (st q)) v in
        let vq = and_r (valid (st p)) (valid (st q)) v in
        let same : Is (same_mode (mode_of (st p)) (mode_of (st q))) = rw (facts.modes a p q l hp hq vp vq) (mode_itself (mode_of (st q))) in
        both (both (both
        same
        (not_is (exclusive (st p)) (λ x. d (facts.alone a p q l hp hq x vq))))
        (not_is (exclusive (st q)) (λ x. d (sym (facts.alone a q p l hq hp x vp)))))
        (not_is (is_o (st p) && is_o (st q)) (λ x. d (facts.one_o a p q l hp hq (and_l (is_o (st p)) (is_o (st q)) x) (and_r (is_o (st p)) (is_o (st q)) x)))))

    pub facts_good : LineGood s t a (line_word s t a)
    unfolding line_word
    facts_good = record {
      words = λ p h v. sym (lowest_gives (holds s t a) (word_at s t a) (memory_at t a) (word_at s t a p) s.ports
          (λ q hq vq. facts.words a q p l hq h vq v) (λ u. absurd (not_both v (below_none (holds s t a) s.ports u p h))));
      pairs = facts_pair;
      clean = λ u. sym (lowest_gives (holds s t a) (word_at s t a) (memory_at t a) (memory_at t a) s.ports
          (λ q hq vq. facts.clean a q l hq vq (λ p hp. not-true _ (u p hp))) (λ _. refl));
    }

-- And back, whatever the lines' words F are.
module _ (s : Shape) (t : Model) (F : ℕ → ℕ) (lent : lent_refusal s t ≡ 0) (tidy : Tidy s t)
    (good : (a : ℕ) → a < s.lines → LineGood s t a (F a)) where
  -- Two holders that differ are in S or O, in one mode, and not both in O.
  apart : (a p q : ℕ) → a < s.lines → p < s.ports → q < s.ports → Is (holds s t a p) → Is (holds s t a q) → p ≢ q
      → Is (same_mode (mode_of (seen s t a p)) (mode_of (seen s t a q)) && not (exclusive (seen s t a p)) && not (exclusive (seen s t a q)) && not
      (is_o (seen s t a p) && is_o (seen s t a q)))
  apart a p q l hp hq vp vq d = mp ((good a l).pairs p q hp hq d) (both vp vq)

  -- What would be false of two ports holds of one.
  one_port : (p q : ℕ) → (p ≢ q → ⊥) → p ≡ q
  one_port p q f = elim (ℕ_discrete p q) [ yes e ↦ e | no d ↦ absurd (f d) ]

  pub good_facts : Coherent s t
  good_facts = record {
    accepted = lent;
    entry = tidy.entry;
    words = λ a p q l hp hq vp vq. (good a l).words p hp vp ∙ sym ((good a l).words q hq vq);
    modes = λ a p q l hp hq vp vq. elim (ℕ_discrete p q) [
      | yes e ↦ ap (λ p. mode_of (seen s t a p)) e
      | no d ↦ same_mode_lem _ _ (and_l _ (not (exclusive (seen s t a p)))
          (and_l _ (not (exclusive (seen s t a q))) (and_l _ (not (is_o (seen s t a p) && is_o (seen s t a q))) (apart a p q l hp hq vp vq d))))
    ];
    alone = λ a p q l hp hq x vq. one_port p q (λ d. not_both x
        (and_r (same_mode (mode_of (seen s t a p)) (mode_of (seen s t a q))) _
        (and_l _ (not (exclusive (seen s t a q))) (and_l _ (not (is_o (seen s t a p) && is_o (seen s t a q)))
        (apart a p q l hp hq (exclusive-valid (seen s t a p) x) vq d)))));
    one_o = λ a p q l hp hq x y. one_port p q (λ d. not_both (both x y)
        (and_r (same_mode (mode_of (seen s t a p)) (mode_of (seen s t a q)) && not (exclusive (seen s t a p)) && not (exclusive (seen s t a q))) _
        (apart a p q l hp hq (o_valid (seen s t a p) x) (o_valid (seen s t a q) y) d)));
    clean = λ a p l hp v u. (good a l).words p hp v ∙ sym ((good a l).clean (λ q hq. ap not (u q hq)));
  }
