-- Every entry passes exactly where the model's audit says yes. Assumes nothing.
use Prim.Native.Nat.{ℕ, zero, ◌+◌, ◌*◌, ◌/◌, ◌%◌, ◌<◌}
use mathlib.Core.Path.{◌≡◌, refl, sym, ap, subst, ◌∙◌}
use mathlib.Core.Logic.{◌≢◌}
use mathlib.Core.Bool.{Bool, true, false, ◌&&◌, ◌||◌, not, false≢true}
use lib.ListN.{get_or}
use lib.Arith.{digits_lt, digits_div, digits_mod}
use lib.Dec.{ltb}
use native.Mathlib.Nat.{mod-lt, div-add-mod', div-lt_iff_lt-mul}
use native.Mathlib.Decide.{ℕ_discrete}
use native.Mathlib.Omega.{arith}
use borrow.Author.Tests.{lt-ltb, ltb-true, not-true}
use Rattle.std.specs.Prelude.{Option, Some, None}
use Rattle.protocol.specs.declared.state.State.{State}
use Rattle.protocol.specs.State.{is_state, or_invalid, valid, owner, exclusive, is_o, mode_of, same_mode}
use Rattle.words.proofs.Bools.{Is, and_l, and_r, both, not_both, not_is, by_bool}
use Rattle.protocol.proofs.States.{owner-valid, exclusive-valid, o_valid, mode_itself}
use Rattle.shape.specs.declared.Shape.{Shape}
use Rattle.shape.specs.Shape.{entries, entry_number, index_of, tag_of, entry_of}
use Rattle.model.specs.Tables.{Model, lent_refusal, state_at, home_at, sound, seen, word_at, memory_at, holds, owns}
use Rattle.model.specs.Audit.{audit, Coherent}
use Rattle.model.proofs.Below.{all_below_lem, below_all}
use Rattle.model.proofs.Entries.{seen_tag, seen_here}
use Rattle.model.proofs.Lent.{lent_facts}
use Rattle.shape.proofs.Bounds.{some_sets}
use Rattle.model.proofs.Audited.{audit_facts, facts_audit}
use Rattle.audit.specs.Entries.{entry_passes, index_passes, columns_pass}
use Rattle.audit.proofs.Fine.{or_mp, or_imp, number_by, tag_by, byte_by, state_by, word_by, home_by, Fits, fits_flip, Fine, passes_fine}
use Rattle.audit.proofs.Fine.{passes_state, fine_passes, state_passes}
use Rattle.audit.proofs.Classes.{together, together_modes, together_shared, together_one_o}
use Rattle.audit.proofs.Pairs.{by_pairs}

-- A byte that holds a line is a state.
valid_state : (b : Option State) → Is (valid (or_invalid b)) → Is (is_state b)
valid_state (Some s) h = refl
valid_state None h = h

same_bool : (a b : Bool) → (Is a → Is b) → (Is b → Is a) → a ≡ b
same_bool true b f g = sym (f refl)
same_bool false true f g = g refl
same_bool false false f g = refl

-- From the tests to the facts.
module _ (s : Shape) (t : Model) (pos : zero < s.sets) (test : (x p : ℕ) → x < s.sets → p < s.ports → Is (entry_passes s t x p)) where
  module _ (a : ℕ) where
    -- Port p holds line a: the entry's tag is the line's, it is not I, and it is fine.
    sees : (p : ℕ) → Is (holds s t a p) → seen s t a p ≡ state_by s t (index_of s a) p
    sees p v = seen_here s t a p (seen_tag s t a p v)

    valid_here : (p : ℕ) → Is (holds s t a p) → Is (valid (state_by s t (index_of s a) p))
    valid_here p v = subst (λ (z : State). Is (valid z)) (sees p v) v

    fine_here : (p : ℕ) → p < s.ports → Is (holds s t a p) → Fine s t (index_of s a) p
    fine_here p hp v = passes_fine s t (index_of s a) p (valid_here p v) hp (test (index_of s a) p (mod-lt a pos) hp)

    home_here : (p : ℕ) → Is (holds s t a p) → home_by s t (index_of s a) p ≡ a
    home_here p v = ap (λ (g : ℕ). g * s.sets + index_of s a) (seen_tag s t a p v) ∙ div-add-mod' a s.sets

    -- The entries of two ports that hold it go together.
    abbrev Both : ℕ → ℕ → Type 0
    Both p q = Is (holds s t a p) → Is (holds s t a q) → Fits s t (index_of s a) p q

    two_here : (p q : ℕ) → p < s.ports → q < s.ports → q ≢ p → Both p q
    two_here =
        by_pairs Both (λ p q f vq vp. fits_flip (f vp vq)) s.ports (λ p q hp l vp vq.
        (fine_here p hp vp).pairs q l (seen_tag s t a q vq ∙ sym (seen_tag s t a p vp)) (valid_here q vq))

  module _ (a p q : ℕ) (hp : p < s.ports) (hq : q < s.ports) (vp : Is (holds s t a p)) (vq : Is (holds s t a q)) where
    same_or : (P : ℕ → Type 0) → P p → (Fits s t (index_of s a) p q → P q) → P q
    same_or P z f = elim (ℕ_discrete q p) [ yes e ↦ subst P (sym e) z | no d ↦ f (two_here a p q hp hq d vp vq) ]

    abbrev mine : State
    mine = state_by s t (index_of s a) p

    abbrev theirs : State
    theirs = state_by s t (index_of s a) q

    words_here : word_at s t a p ≡ word_at s t a q
    unfolding word_at
    words_here = same_or (λ r. word_at s t a p ≡ word_at s t a r) refl (λ f. sym f.words)

    modes_here : mode_of (seen s t a p) ≡ mode_of (seen s t a q)
    modes_here = same_or (λ r. mode_of (seen s t a p) ≡ mode_of (seen s t a r)) refl
        (λ f. rw (sees a p vp, sees a q vq) (together_modes mine theirs f.states))

    alone_here : Is (exclusive (seen s t a p)) → p ≡ q
    alone_here e = same_or (λ r. p ≡ r) refl (λ f. absurd (together_shared mine theirs f.states (rw (sees a p vp) at e)))

    one_o_here : Is (is_o (seen s t a p)) → Is (is_o (seen s t a q)) → p ≡ q
    one_o_here y z = same_or (λ r. p ≡ r) refl (λ f. absurd (together_one_o mine theirs f.states (rw (sees a p vp) at y) (rw (sees a q vq) at z)))

  clean_here : (a p : ℕ) → p < s.ports → Is (holds s t a p) → ((q : ℕ) → q < s.ports → owns s t a q ≡ false)
      → word_at s t a p ≡ memory_at t a
  unfolding word_at
  clean_here a p hp v u =
      (fine_here a p hp v).clean (λ q hq g o.
      let here : seen s t a q ≡ state_at t (entry_of s a q) = seen_here s t a q (g ∙ seen_tag s t a p v) in
      false≢true (sym (u q hq) ∙ subst (λ (z : State). Is (owner z)) (sym here) o))
      ∙ ap (memory_at t) (home_here a p v)

  -- Entry k, by its port and index.
  sound_by_lem : (x p : ℕ) → x < s.sets → p < s.ports → Is (sound s t (number_by s t x p))
  unfolding sound
  sound_by_lem x p hx hp =
      by_bool (valid (state_by s t x p))
      (λ v. both (valid_state (byte_by s t x p) v) (or_imp (valid (state_by s t x p)) (ltb (home_at s t (number_by s t x p)) s.lines) (λ w.
      lt-ltb (home_at s t (number_by s t x p)) s.lines
      (subst (λ (z : ℕ). tag_by s t x p * s.sets + z < s.lines) (sym (digits_mod p hx)) (passes_fine s t x p v hp (test x p hx hp)).home))))
      (λ v. both (passes_state s t x p (test x p hx hp) v) (or_imp (valid (state_by s t x p)) (ltb (home_at s t (number_by s t x p)) s.lines)
      (λ w. absurd (not_both w v))))

  sound_at : (k : ℕ) → k < entries s → Is (sound s t k)
  sound_at k h = subst (λ (z : ℕ). Is (sound s t z)) (div-add-mod' k s.sets)
      (sound_by_lem (k % s.sets) (k / s.sets) (mod-lt k pos) ((div-lt_iff_lt-mul pos).1 h))

  tests_facts : lent_refusal s t ≡ 0 → Coherent s t
  tests_facts lent = record {
    accepted = lent;
    entry = sound_at;
    words = λ a p q l hp hq vp vq. words_here a p q hp hq vp vq;
    modes = λ a p q l hp hq vp vq. modes_here a p q hp hq vp vq;
    alone = λ a p q l hp hq x vq. alone_here a p q hp hq (exclusive-valid (seen s t a p) x) vq x;
    one_o = λ a p q l hp hq x y. one_o_here a p q hp hq (o_valid (seen s t a p) x) (o_valid (seen s t a q) y) x y;
    clean = λ a p l hp v u. clean_here a p hp v u;
  }

-- From the facts to the tests: an entry that is not I is its port's entry for its home line.
module _ (s : Shape) (t : Model) (facts : Coherent s t) (x p : ℕ) (hx : x < s.sets) (hp : p < s.ports) where
  abbrev line : ℕ
  line = home_by s t x p

  index_is : index_of s line ≡ x
  index_is = digits_mod (tag_by s t x p) hx

  tag_is : tag_of s line ≡ tag_by s t x p
  tag_is = digits_div (tag_by s t x p) hx

  entry_is : (q : ℕ) → entry_of s line q ≡ number_by s t x q
  entry_is q = ap (entry_number s q) index_is

  seen_is : (q : ℕ) → tag_by s t x q ≡ tag_by s t x p → seen s t line q ≡ state_by s t x q
  seen_is q g = seen_here s t line q (ap (λ (k : ℕ). get_or t.tags k 0) (entry_is q) ∙ g ∙ sym tag_is) ∙ ap (state_at t) (entry_is q)

  word_is : (q : ℕ) → word_at s t line q ≡ word_by s t x q
  unfolding word_at
  word_is q = ap (λ (k : ℕ). get_or t.words k 0) (entry_is q)

  tag_of_lem : (q : ℕ) → Is (holds s t line q) → tag_by s t x q ≡ tag_by s t x p
  tag_of_lem q v = ap (λ (k : ℕ). get_or t.tags k 0) (sym (entry_is q)) ∙ seen_tag s t line q v ∙ tag_is

  sound_here : Is (sound s t (number_by s t x p))
  sound_here = facts.entry (number_by s t x p) (digits_lt hp hx)

  state_here : Is (is_state (byte_by s t x p))
  unfolding sound
  state_here = and_l (is_state (byte_by s t x p)) (not (valid (state_by s t x p)) || ltb (home_at s t (number_by s t x p)) s.lines) sound_here

  module _ (v : Is (valid (state_by s t x p))) where
    below : line < s.lines
    unfolding sound
    below =
        subst (λ (z : ℕ). tag_by s t x p * s.sets + z < s.lines) (digits_mod p hx)
        (ltb-true (home_at s t (number_by s t x p)) s.lines
        (or_mp (valid (state_by s t x p)) (ltb (home_at s t (number_by s t x p)) s.lines)
        (and_r (is_state (byte_by s t x p)) (not (valid (state_by s t x p)) || ltb (home_at s t (number_by s t x p)) s.lines) sound_here) v))

    holds_is : (q : ℕ) → tag_by s t x q ≡ tag_by s t x p → Is (valid (state_by s t x q)) → Is (holds s t line q)
    holds_is q g w = subst (λ (z : State). Is (valid z)) (sym (seen_is q g)) w

    own : Is (holds s t line p)
    own = holds_is p refl v

    module _ (q : ℕ) (hq : q < s.ports) (g : tag_by s t x q ≡ tag_by s t x p) (w : Is (valid (state_by s t x q))) where
      other : Is (holds s t line q)
      other = holds_is q g w

      -- Two ports' states, as they see the line: in one mode, neither alone, and not both O.
      states_seen : q ≢ p → Is (together (seen s t line p) (seen s t line q))
      states_seen d =
          let one : Is (same_mode (mode_of (seen s t line p)) (mode_of (seen s t line q))) = rw (facts.modes line p q below hp hq own other)
          (mode_itself (mode_of (seen s t line q))) in
          both (both (both one
          (not_is (exclusive (seen s t line p)) (λ e. d (sym (facts.alone line p q below hp hq e other)))))
          (not_is (exclusive (seen s t line q)) (λ e. d (facts.alone line q p below hq hp e own))))
          (not_is (is_o (seen s t line p) && is_o (seen s t line q)) (λ e.
          d (sym (facts.one_o line p q below hp hq (and_l (is_o (seen s t line p)) (is_o (seen s t line q)) e)
          (and_r (is_o (seen s t line p)) (is_o (seen s t line q)) e)))))

      fits_fine : q ≢ p → Fits s t x p q
      fits_fine d = record {
        words = sym (word_is q) ∙ facts.words line q p below hq hp other own ∙ word_is p;
        states = rw (← seen_is p refl, ← seen_is q g) (states_seen d);
      }

    clean_fine : ((q : ℕ) → q < s.ports → tag_by s t x q ≡ tag_by s t x p → Is (owner (state_by s t x q)) → ⊥)
        → word_by s t x p ≡ memory_at t line
    clean_fine u =
        sym (word_is p) ∙ facts.clean line p below hp own (λ q hq. not-true (owns s t line q) (not_is (owns s t line q) (λ o.
        let g = tag_of_lem q (owner-valid (seen s t line q) o) in
        u q hq g (subst (λ (z : State). Is (owner z)) (seen_is q g) o))))

    fine : Fine s t x p
    fine = record {
      home = below;
      pairs = λ q l g w. fits_fine q (omega arith) g w (λ e. omega arith);
      clean = clean_fine;
    }

  facts_test : Is (entry_passes s t x p)
  facts_test = by_bool (valid (state_by s t x p)) (λ v. fine_passes s t x p v (fine v)) (λ v. state_passes s t x p v state_here)

pub columns_audit : (s : Shape) (t : Model) → lent_refusal s t ≡ 0 → columns_pass s t ≡ audit s t
unfolding columns_pass index_passes
columns_audit s t lent =
    same_bool (columns_pass s t) (audit s t)
    (λ c. facts_audit s t (tests_facts s t (some_sets s (lent_facts s t lent).range)
    (λ x p hx hp. below_all (entry_passes s t x) s.ports (below_all (index_passes s t) s.sets c x hx) p hp) lent))
    (λ a. all_below_lem (index_passes s t) s.sets (λ x hx. all_below_lem (entry_passes s t x) s.ports (λ p hp. facts_test s t (audit_facts s t a) x p hx hp)))
