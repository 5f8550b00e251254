-- Tables that an order touches at one line, and what that leaves of every line. Assumes nothing.
use Prim.Native.Nat.{ℕ, zero, ◌/◌, ◌%◌, ◌<◌}
use mathlib.Core.Path.{◌≡◌, refl, sym, ◌∙◌, ap, subst}
use mathlib.Core.Logic.{◌≢◌}
use mathlib.Core.Bool.{Bool, false, not, false≢true}
use native.Mathlib.Nat.{div-add-mod', div-lt_iff_lt-mul}
use native.Mathlib.Decide.{ℕ_discrete}
use lib.ListN.{get_or}
use borrow.Author.Tests.{lt-ltb}
use Rattle.protocol.specs.declared.state.State.{State}
use Rattle.protocol.specs.declared.state.State.TheVariants.{I}
use Rattle.protocol.specs.State.{code, state_of, is_state, valid}
use Rattle.words.proofs.Bools.{Is, or_r, both, by_bool}
use Rattle.protocol.proofs.States.{owner-valid, not_valid, state_of-code}
use Rattle.shape.specs.declared.Shape.{Shape}
use Rattle.shape.specs.Shape.{entries, entry_number, index_of, tag_of, entry_of}
use Rattle.model.specs.Tables.{Model, state_at, home_at, sound, seen, word_at, memory_at, holds, owns}
use Rattle.model.proofs.Line.{Good, Unowned, gone_good}
use Rattle.model.proofs.Entries.{Sized, entry_index, seen_tag, seen_here, seen_away, seen_cong, tags_differ, same_entry, same_at, holds_one}

abbrev pub LineGood : Shape → Model → ℕ → ℕ → Type 0
LineGood s t a w = Good s.ports (seen s t a) (word_at s t a) (memory_at t a) w

-- What the audit says of the tables apart from lines.
pub record Tidy (s : Shape) (t : Model) : Type 0 where
  pub entry : (k : ℕ) → k < entries s → Is (sound s t k)

-- What an order on line a stands on.
pub record Ready (s : Shape) (t : Model) (a : ℕ) : Type 0 where
  pub pos : zero < s.sets
  pub sized : Sized s t
  pub tidy : Tidy s t
  pub line : a < s.lines

-- The ports that `takes` names have their entry for line a, in the state own; each other holder of the line went to f of its state; all
-- else stays.
pub record Touched (s : Shape) (t t' : Model) (takes : ℕ → Bool) (a : ℕ) (own : State) (f : State → State) : Type 0 where
  pub tags_apart : (k : ℕ) → k % s.sets ≢ index_of s a → get_or t'.tags k 0 ≡ get_or t.tags k 0
  pub bytes_apart : (k : ℕ) → k % s.sets ≢ index_of s a → get_or t'.states k 0 ≡ get_or t.states k 0
  pub words_apart : (k : ℕ) → k % s.sets ≢ index_of s a → get_or t'.words k 0 ≡ get_or t.words k 0
  pub tag_own : (p : ℕ) → p < s.ports → Is (takes p) → get_or t'.tags (entry_of s a p) 0 ≡ tag_of s a
  pub tag_other : (p : ℕ) → Is (not (takes p)) → get_or t'.tags (entry_of s a p) 0 ≡ get_or t.tags (entry_of s a p) 0
  pub byte_own : (p : ℕ) → p < s.ports → Is (takes p) → get_or t'.states (entry_of s a p) 0 ≡ code own
  pub byte_holder : (p : ℕ) → p < s.ports → Is (not (takes p)) → Is (holds s t a p)
      → get_or t'.states (entry_of s a p) 0 ≡ code (f (seen s t a p))
  pub byte_passed : (p : ℕ) → p < s.ports → Is (not (takes p)) → Is (not (holds s t a p))
      → get_or t'.states (entry_of s a p) 0 ≡ get_or t.states (entry_of s a p) 0
  pub word_passed : (p : ℕ) → p < s.ports → Is (not (takes p)) → Is (not (holds s t a p))
      → get_or t'.words (entry_of s a p) 0 ≡ get_or t.words (entry_of s a p) 0

-- What an order on line a leaves of the rest.
pub record Leaves (s : Shape) (t t' : Model) (a : ℕ) : Type 0 where
  pub sized : Sized s t'
  pub tidy : Tidy s t'
  pub good : (b : ℕ) → b ≢ a → b < s.lines → (w : ℕ) → LineGood s t b w → LineGood s t' b w
  pub unowned : (b : ℕ) → b ≢ a → Unowned s.ports (seen s t b) → Unowned s.ports (seen s t' b)

module _ (s : Shape) (pos : zero < s.sets) (t t' : Model) (takes : ℕ → Bool) (a : ℕ) (own : State) (f : State → State)
    (touched : Touched s t t' takes a own f) where
  -- The line itself.
  pub seen_own : (p : ℕ) → p < s.ports → Is (takes p) → seen s t' a p ≡ own
  seen_own p h k = seen_here s t' a p (touched.tag_own p h k) ∙ rw (touched.byte_own p h k, state_of-code own)

  pub seen_other : f I ≡ I → (p : ℕ) → p < s.ports → Is (not (takes p)) → seen s t' a p ≡ f (seen s t a p)
  seen_other none p h d =
      by_bool (holds s t a p)
      (λ v. seen_here s t' a p (touched.tag_other p d ∙ seen_tag s t a p v) ∙ rw (touched.byte_holder p h d v, state_of-code (f (seen s t a p))))
      (λ v. seen_cong s t t' a p (touched.tag_other p d) (touched.byte_passed p h d v) ∙ rw (not_valid (seen s t a p) v) (sym none))

  -- Another line b, of the same index or not: its entry at a port that took line a is gone, and every other port sees it as before.
  module _ (b : ℕ) (other : b ≢ a) where
    module _ (near : index_of s b ≡ index_of s a) where
      seen_gone : (p : ℕ) → p < s.ports → Is (takes p) → seen s t' b p ≡ I
      seen_gone p h k =
          seen_away s t' b p (λ e. tags_differ s pos a b other near (sym (same_at s pos a b other near p t'.tags ∙ touched.tag_own p h k) ∙ e))

      -- A port that holds line a holds no line b, before and after.
      seen_near : (p : ℕ) → p < s.ports → Is (not (takes p)) → seen s t' b p ≡ seen s t b p
      seen_near p h d =
          by_bool (holds s t a p)
          (λ v. seen_away s t' b p (λ e. tags_differ s pos a b other near
          (sym (seen_tag s t a p v) ∙ sym (touched.tag_other p d) ∙ sym (same_at s pos a b other near p t'.tags) ∙ e))
          ∙ sym (seen_away s t b p (λ e. tags_differ s pos a b other near
          (sym (seen_tag s t a p v) ∙ sym (same_at s pos a b other near p t.tags) ∙ e))))
          (λ v. seen_cong s t t' b p (rw (same_entry s pos a b other near p) (touched.tag_other p d))
          (rw (same_entry s pos a b other near p) (touched.byte_passed p h d v)))

      word_near : (p : ℕ) → p < s.ports → Is (not (takes p)) → Is (holds s t b p) → word_at s t' b p ≡ word_at s t b p
      unfolding word_at
      word_near p h d v = rw (same_entry s pos a b other near p) (touched.word_passed p h d (holds_one s pos a b other near t p v))

    module _ (apart : index_of s b ≢ index_of s a) where
      far_entry : (p : ℕ) → entry_of s b p % s.sets ≢ index_of s a
      far_entry p e = apart (sym (entry_index s pos b p) ∙ e)

      seen_far : (p : ℕ) → seen s t' b p ≡ seen s t b p
      seen_far p = seen_cong s t t' b p (touched.tags_apart (entry_of s b p) (far_entry p)) (touched.bytes_apart (entry_of s b p) (far_entry p))

      word_far : (p : ℕ) → word_at s t' b p ≡ word_at s t b p
      unfolding word_at
      word_far p = touched.words_apart (entry_of s b p) (far_entry p)

    -- Memory has the word of a line that a port owned and gave up for line a, and keeps that of any other line.
    pub other_good : ((p : ℕ) → p < s.ports → Is (takes p) → Is (owns s t b p) → index_of s b ≡ index_of s a → memory_at t' b ≡ word_at s t b p)
        → (((p : ℕ) → p < s.ports → Is (takes p) → Is (not (owns s t b p))) → memory_at t' b ≡ memory_at t b)
        → (index_of s b ≢ index_of s a → memory_at t' b ≡ memory_at t b)
        → (w : ℕ) → LineGood s t b w → LineGood s t' b w
    other_good written left far w good =
        elim (ℕ_discrete (index_of s b) (index_of s a)) [
          | yes near ↦ gone_good s.ports takes (seen s t b) (word_at s t b) (memory_at t b) w good (seen s t' b) (word_at s t' b) (memory_at t' b)
              (seen_gone near) (seen_near near) (word_near near)
              (λ p h k o. written p h k o near ∙ good.words p h (owner-valid (seen s t b p) o))
              left
          | no apart ↦ gone_good s.ports (λ _. false) (seen s t b) (word_at s t b) (memory_at t b) w good (seen s t' b) (word_at s t' b) (memory_at t' b)
              (λ _ _ k. absurd (false≢true k)) (λ q _ _. seen_far apart q) (λ q _ _ _. word_far apart q)
              (λ _ _ k. absurd (false≢true k)) (λ _. far apart)
        ]

    pub other_unowned : Unowned s.ports (seen s t b) → Unowned s.ports (seen s t' b)
    other_unowned u p h =
        elim (ℕ_discrete (index_of s b) (index_of s a)) [
          | no apart ↦ rw (seen_far apart p) (u p h)
          | yes near ↦ by_bool (takes p) (λ k. rw (seen_gone near p h k) refl) (λ k. rw (seen_near near p h k) (u p h))
        ]

  -- Every entry is sound: one of the line has its tag, and any other stays.
  sound_line : (k : ℕ) (x : State) → a < s.lines → get_or t'.states k 0 ≡ code x → get_or t'.tags k 0 ≡ tag_of s a
      → k % s.sets ≡ index_of s a → Is (sound s t' k)
  unfolding sound
  sound_line k x line e g m =
      both {a = is_state (state_of (get_or t'.states k 0))} (rw (e, state_of-code x) refl)
      (or_r (not (valid (state_at t' k))) (lt-ltb (home_at s t' k) s.lines (rw (g, m, div-add-mod' a s.sets) line)))

  sound_cong : (k : ℕ) → get_or t'.states k 0 ≡ get_or t.states k 0 → get_or t'.tags k 0 ≡ get_or t.tags k 0 → Is (sound s t k)
      → Is (sound s t' k)
  unfolding sound
  sound_cong k e g h = rw (e, g) h

  sound_at : a < s.lines → (q : ℕ) → q < s.ports → Is (sound s t (entry_of s a q)) → Is (sound s t' (entry_of s a q))
  sound_at line q h was =
      by_bool (takes q) (λ k. sound_line (entry_of s a q) own line (touched.byte_own q h k) (touched.tag_own q h k) (entry_index s pos a q))
      (λ d. by_bool (holds s t a q)
      (λ v. sound_line (entry_of s a q) (f (seen s t a q)) line (touched.byte_holder q h d v) (touched.tag_other q d ∙ seen_tag s t a q v)
      (entry_index s pos a q))
      (λ v. sound_cong (entry_of s a q) (touched.byte_passed q h d v) (touched.tag_other q d) was))

  pub tidy_after : a < s.lines → Tidy s t → Tidy s t'
  tidy_after line was = record {
    entry = λ k h.
        elim (ℕ_discrete (k % s.sets) (index_of s a)) [
          | yes e ↦ (let there : k ≡ entry_of s a (k / s.sets) = sym (div-add-mod' k s.sets) ∙ ap (entry_number s (k / s.sets)) e in
              subst (λ x. Is (sound s t' x)) (sym there) (sound_at line (k / s.sets) ((div-lt_iff_lt-mul pos).1 h)
              (subst (λ x. Is (sound s t x)) there (was.entry k h))))
          | no d ↦ sound_cong k (touched.bytes_apart k d) (touched.tags_apart k d) (was.entry k h)
        ];
  }
