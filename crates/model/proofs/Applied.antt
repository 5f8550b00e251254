-- Memory and tables after a rule was applied: what the line is then, and what is left of the rest. Assumes nothing.
use Prim.Native.Nat.{ℕ, zero, ◌%◌, ◌/◌, ◌<◌}
use mathlib.Core.Path.{◌≡◌, refl, sym, ◌∙◌, ap, subst}
use mathlib.Core.Logic.{◌≢◌}
use mathlib.Core.Bool.{Bool, true, false, cond, not, false≢true}
use mathlib.Core.List.{List}
use lib.ListN.{get_or, length, length-set}
use lib.Seq.{get_or-set_same, get_or-set_other}
use lib.Dec.{eqb}
use borrow.Author.Tests.{eq-eqb, ne_eqb, eqb-true, not-true}
use Rattle.protocol.specs.declared.rules.Rule.{Rule}
use Rattle.protocol.specs.State.{valid, owner}
use Rattle.protocol.specs.Rules.{snooped, updates}
use Rattle.words.proofs.Bools.{Is, and_l, and_r, both, mp, not_both}
use Rattle.protocol.proofs.States.{owner-valid, not_valid}
use Rattle.shape.specs.declared.Shape.{Shape}
use Rattle.shape.specs.Shape.{index_of, tag_of, entry_of}
use Rattle.model.specs.Tables.{Model, state_at, seen, word_at, memory_at, holds, owns}
use Rattle.model.specs.Step.{store, byte_answered, word_answered, victim, evicts_owner, byte_after, word_after, applied}
use Rattle.protocol.proofs.Kept.{snooped_i, snooped-valid}
use Rattle.model.proofs.Line.{After}
use Rattle.model.proofs.Entries.{Sized, put_below-length, put_at_lem, put_apart, not_entry, entry_lt, entry_inj, same_line}
use Rattle.model.proofs.Entries.{home_index, home_tag, seen_tag, seen_here, same_entry, same_at, holds_one}
use Rattle.model.proofs.Touched.{Ready, Touched, Leaves, seen_own, seen_other, other_good, other_unowned, tidy_after}

-- A store that may not happen.
store-miss : (c : Bool) (h x : ℕ) (l : List ℕ) (b : ℕ) → (Is c → b ≢ h) → get_or (store c h x l) b 0 ≡ get_or l b 0
store-miss true h x l b d = get_or-set_other l h b _ 0 (d refl)
store-miss false h x l b d = refl

store-hit : (c : Bool) (h x : ℕ) (l : List ℕ) (b : ℕ) → Is c → b ≡ h → b < length l → get_or (store c h x l) b 0 ≡ x
store-hit true h x l b c e k = rw e (get_or-set_same l h x 0 (rw e at k))
store-hit false h x l b c e k = absurd (false≢true c)

store_length : (c : Bool) (h x : ℕ) (l : List ℕ) → length (store c h x l) ≡ length l
store_length true h x l = length-set l h _
store_length false h x l = refl

module _ (s : Shape) (t : Model) (i a : ℕ) (ready : Ready s t a) (port : i < s.ports) (r : Rule) (w : ℕ) where
  pos : zero < s.sets
  pos = ready.pos

  sized : Sized s t
  sized = ready.sized

  abbrev now : Model
  now = applied s t i a r w

  -- The port itself takes the line, and no other.
  abbrev itself : ℕ → Bool
  itself p = eqb p i

  byte_at : (p : ℕ) → p < s.ports → get_or now.states (entry_of s a p) 0 ≡ byte_after s t i a r p
  unfolding applied
  byte_at = put_at_lem s pos a (byte_after s t i a r) t.states sized.states

  word_at_lem : (p : ℕ) → p < s.ports → get_or now.words (entry_of s a p) 0 ≡ word_after s t i a r w p
  unfolding applied
  word_at_lem = put_at_lem s pos a (word_after s t i a r w) t.words sized.words

  touched : Touched s t now itself a r.own (snooped r.bus)
  unfolding applied byte_answered word_answered byte_after word_after word_at
  touched = record {
    tags_apart = λ k d. get_or-set_other t.tags (entry_of s a i) k _ 0 (not_entry s pos a k d i);
    bytes_apart = put_apart s pos a (byte_after s t i a r) t.states;
    words_apart = put_apart s pos a (word_after s t i a r w) t.words;
    tag_own = λ p h k. rw (eqb-true p i k) (get_or-set_same t.tags (entry_of s a i) (tag_of s a) 0 (rw sized.tags (entry_lt s pos a i port)));
    tag_other = λ p d. get_or-set_other t.tags (entry_of s a i) (entry_of s a p) _ 0 (λ e. not_both (eq-eqb p i (entry_inj s pos a p i e)) d);
    byte_own = λ p h k. byte_at p h ∙ rw k;
    byte_holder = λ p h d v. byte_at p h ∙ rw (not-true (eqb p i) d, v);
    byte_passed = λ p h d v. byte_at p h ∙ rw (not-true (eqb p i) d, not_valid (seen s t a p) v);
    word_passed = λ p h d v. word_at_lem p h ∙ rw (not-true (eqb p i) d, not_valid (seen s t a p) v);
  }

  own_after : seen s now a i ≡ r.own
  own_after = seen_own s pos t now itself a r.own (snooped r.bus) touched i port (eq-eqb i i refl)

  others_after : (p : ℕ) → p < s.ports → p ≢ i → seen s now a p ≡ snooped r.bus (seen s t a p)
  others_after p h d = seen_other s pos t now itself a r.own (snooped r.bus) touched (snooped_i r.bus) p h (ap not (ne_eqb p i d))

  word_own : word_at s now a i ≡ w
  unfolding word_after word_at
  word_own = word_at_lem i port ∙ rw (eq-eqb i i refl)

  word_other : (p : ℕ) → p < s.ports → p ≢ i → Is (valid (seen s now a p)) → word_at s now a p ≡ cond (updates r.bus) w (word_at s t a p)
  unfolding word_answered word_after word_at
  word_other p h d v =
      let was : Is (holds s t a p) = mp (snooped-valid r.bus (seen s t a p)) (rw (others_after p h d) at v) in
      word_at_lem p h ∙ rw (ne_eqb p i d, was)

  -- An entry that is taken is evicted exactly if it is an owner's.
  evicts_miss : Is (evicts_owner s t i a) → Is (not (holds s t a i))
  unfolding evicts_owner
  evicts_miss ev = search and_l

  evicts_owner_lem : Is (evicts_owner s t i a) → Is (owner (state_at t (entry_of s a i)))
  unfolding evicts_owner
  evicts_owner_lem ev = search (and_l, and_r)

  owner_evicts : Is (not (holds s t a i)) → Is (owner (state_at t (entry_of s a i))) → Is (evicts_owner s t i a)
  unfolding evicts_owner
  owner_evicts n o = both n o

  -- What is evicted is another line's word.
  victim_other : Is (evicts_owner s t i a) → a ≢ victim s t i a
  victim_other ev e =
      not_both {a = holds s t a i}
      (rw (seen_here s t a i (sym (home_tag s pos t a i) ∙ sym (ap (λ x. x / s.sets) e))) (owner-valid (state_at t (entry_of s a i)) (evicts_owner_lem ev)))
      (evicts_miss ev)

  -- Memory after the evicted word was stored, and before the line's word is.
  abbrev written : List ℕ
  written = store (evicts_owner s t i a) (victim s t i a) (word_at s t a i) t.memory

  memory_stored : Is r.stores → memory_at now a ≡ w
  unfolding applied
  memory_stored h = store-hit r.stores a w written a h refl
      (rw (store_length (evicts_owner s t i a) (victim s t i a) (word_at s t a i) t.memory, sized.memory) ready.line)

  memory_unstored : Is (not r.stores) → memory_at now a ≡ memory_at t a
  unfolding applied
  memory_unstored h =
      store-miss r.stores a w written a (λ x. absurd (not_both x h)) ∙ store-miss (evicts_owner s t i a) (victim s t i a) (word_at s t a i)
      t.memory a victim_other

  -- Another line: its word is stored if it is the victim, and memory keeps it otherwise.
  module _ (b : ℕ) (other : b ≢ a) where
    memory_other : memory_at now b ≡ get_or written b 0
    unfolding applied
    memory_other = store-miss r.stores a w written b (λ _. other)

    memory_far : index_of s b ≢ index_of s a → memory_at now b ≡ memory_at t b
    memory_far d =
        memory_other ∙ store-miss (evicts_owner s t i a) (victim s t i a) (word_at s t a i) t.memory b
        (λ _ e. d (ap (λ x. x % s.sets) e ∙ home_index s pos t a i))

    -- The port's entry at the index is of line b.
    state_there : index_of s b ≡ index_of s a → get_or t.tags (entry_of s a i) 0 ≡ tag_of s b → seen s t b i ≡ state_at t (entry_of s a i)
    state_there near e = seen_here s t b i (same_at s pos a b other near i t.tags ∙ e) ∙ ap (λ k. state_at t k) (same_entry s pos a b other near i)

    memory_written : b < s.lines → Is (owns s t b i) → index_of s b ≡ index_of s a → memory_at now b ≡ word_at s t b i
    unfolding word_at
    memory_written line o near =
        let v : Is (holds s t b i) = owner-valid (seen s t b i) o in
        let tag : get_or t.tags (entry_of s a i) 0 ≡ tag_of s b = sym (same_at s pos a b other near i t.tags) ∙ seen_tag s t b i v in
        memory_other ∙
        store-hit (evicts_owner s t i a) (victim s t i a) (word_at s t a i) t.memory b
        (owner_evicts (holds_one s pos a b other near t i v) (rw (state_there near tag) at o))
        (same_line s pos b (victim s t i a) (sym tag ∙ sym (home_tag s pos t a i)) (near ∙ sym (home_index s pos t a i)))
        (rw sized.memory line)
        ∙ sym (same_at s pos a b other near i t.words)

    memory_left : Is (not (owns s t b i)) → memory_at now b ≡ memory_at t b
    memory_left o =
        memory_other ∙
        store-miss (evicts_owner s t i a) (victim s t i a) (word_at s t a i) t.memory b
        (λ ev e.
        let near : index_of s b ≡ index_of s a = ap (λ x. x % s.sets) e ∙ home_index s pos t a i in
        let tag : get_or t.tags (entry_of s a i) 0 ≡ tag_of s b = sym (home_tag s pos t a i) ∙ sym (ap (λ x. x / s.sets) e) in
        not_both {a = owns s t b i} (rw (state_there near tag) (evicts_owner_lem ev)) o)

  sized_after : Sized s now
  unfolding applied
  sized_after = record {
    memory = store_length r.stores a w written ∙ store_length (evicts_owner s t i a) (victim s t i a) (word_at s t a i) t.memory ∙ sized.memory;
    tags = length-set t.tags (entry_of s a i) _ ∙ sized.tags;
    states = put_below-length (entry_of s a) (byte_after s t i a r) s.ports t.states ∙ sized.states;
    words = put_below-length (entry_of s a) (word_after s t i a r w) s.ports t.words ∙ sized.words;
  }

  pub line_after : After s.ports i r w (seen s t a) (word_at s t a) (memory_at t a) (seen s now a) (word_at s now a) (memory_at now a)
  line_after = record {
    own = own_after;
    others = others_after;
    word = word_own;
    words = word_other;
    stored = memory_stored;
    unstored = memory_unstored;
  }

  pub leaves : Leaves s t now a
  leaves = record {
    sized = sized_after;
    tidy = tidy_after s pos t now itself a r.own (snooped r.bus) touched ready.line ready.tidy;
    good = λ b other there. other_good s pos t now itself a r.own (snooped r.bus) touched b other
        (λ p h k. subst (λ q. Is (owns s t b q) → index_of s b ≡ index_of s a → memory_at now b ≡ word_at s t b q) (sym (eqb-true p i k))
        (memory_written b other there))
        (λ none. memory_left b other (none i port (eq-eqb i i refl))) (memory_far b other);
    unowned = λ b other. other_unowned s pos t now itself a r.own (snooped r.bus) touched b other;
  }
