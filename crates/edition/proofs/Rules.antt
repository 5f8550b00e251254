-- The audit of a converted set is the rules read on the letters. Assumes nothing.
use Prim.Native.Nat.{ℕ, zero, suc, ◌<◌}
use mathlib.Core.Path.{◌≡◌, refl, sym, ap, ◌∙◌, fun_ext}
use mathlib.Core.Bool.{Bool, true, false, cond, ◌&&◌, false≢true}
use mathlib.Core.List.{map}
use native.Mathlib.Omega.{arith}
use lib.Dec.{eqb}
use lib.ListN.{get_or, get_or-map}
use borrow.Author.Tests.{leb-true}
use Rattle.std.specs.Prelude.{Option, Some, None}
use Rattle.words.specs.Bools.{implies}
use Rattle.words.proofs.Bools.{Is, and_l, and_r, and_all, imp}
use Rattle.protocol.specs.declared.state.State.TheVariants.{I}
use Rattle.protocol.specs.declared.state.Mode.TheVariants.{Back}
use Rattle.protocol.specs.State.{code, state_of, valid, owner, exclusive, is_o, mode_of, same_mode}
use Rattle.protocol.proofs.States.{state_of-code}
use Rattle.shape.specs.declared.Shape.{Shape}
use Rattle.shape.specs.Shape.{entries, tag_of, entry_of}
use Rattle.model.specs.Below.{all_below, any_below}
use Rattle.model.proofs.Below.{below_all}
use Rattle.model.specs.Tables.{Model, model, sound, seen, word_at, dirty}
use Rattle.model.specs.Audit.{entries_sound, every_two, line_passes, tables_pass}
use Rattle.model.specs.Audit as new
use Rattle.letters.specs.declared.Letter.{Letter}
use Rattle.letters.specs.declared.Letter.TheVariants.{Invalid, Shared, Exclusive, Owned, Modified}
use Rattle.letters.specs.declared.Way.TheVariants.{ToNew}
use Rattle.letters.specs.Letters.{letter_of, in_back, to_new, converted, is_no_state, byte_from}
use Rattle.edition.specs.Rules.{OldSet, is_held, is_owner, is_exclusive, is_old_byte, or_invalid, letter_at, entry_kept, letter_seen, line_kept, keeps_rules}
use Rattle.edition.specs.Rules as old
use Rattle.letters.proofs.Letters.{old_cases, no_letter}

-- A letter and its state are held, owners, exclusive and O together.
pub record SameTests (x : Letter) : Type 0 where
  pub held : valid (in_back x) ≡ is_held x
  pub owns : owner (in_back x) ≡ is_owner x
  pub alone : exclusive (in_back x) ≡ is_exclusive x
  pub owned : is_o (in_back x) ≡ old.is_o x

tests_same : (x : Letter) → SameTests x
tests_same Invalid = record { held = refl; owns = refl; alone = refl; owned = refl }
tests_same Shared = record { held = refl; owns = refl; alone = refl; owned = refl }
tests_same Exclusive = record { held = refl; owns = refl; alone = refl; owned = refl }
tests_same Owned = record { held = refl; owns = refl; alone = refl; owned = refl }
tests_same Modified = record { held = refl; owns = refl; alone = refl; owned = refl }

-- What is held is in write back, so two holders have one mode.
held_back : (x : Letter) → Is (is_held x) → mode_of (in_back x) ≡ Back
held_back Invalid h = absurd (false≢true h)
held_back Shared h = refl
held_back Exclusive h = refl
held_back Owned h = refl
held_back Modified h = refl

one_mode : (x y : Letter) → Is (implies (is_held x && is_held y) (same_mode (mode_of (in_back x)) (mode_of (in_back y))))
one_mode x y =
    imp {a = is_held x && is_held y} (λ h. rw (held_back x (and_l (is_held x) (is_held y) h), held_back y (and_r (is_held x) (is_held y) h)) refl)

-- The state of the byte that an old byte becomes.
state_of_new : (x : Option Letter) → state_of (byte_from (to_new x)) ≡ Some (in_back (or_invalid x))
unfolding state_of
state_of_new (Some l) = state_of-code (in_back l)
state_of_new None = refl

-- Bytes that are at most 4 are those that become a byte.
small_becomes : (b : ℕ) → Is (is_old_byte b) → is_no_state (converted ToNew b) ≡ false
unfolding converted letter_of is_old_byte
small_becomes =
    old_cases (λ b. Is (is_old_byte b) → is_no_state (converted ToNew b) ≡ false) (λ _. refl) (λ _. refl) (λ _. refl) (λ _. refl) (λ _. refl)
    (λ b h k. absurd (omega (arith, leb-true b 4 k)))

becomes_small : (b : ℕ) → is_no_state (converted ToNew b) ≡ false → Is (is_old_byte b)
unfolding converted letter_of is_old_byte
becomes_small =
    old_cases (λ b. is_no_state (converted ToNew b) ≡ false → Is (is_old_byte b)) (λ _. refl) (λ _. refl) (λ _. refl) (λ _. refl) (λ _. refl)
    (λ b h k. absurd (false≢true (sym k ∙ rw (no_letter b h) refl)))

all_within : (f g : ℕ → Bool) (n : ℕ) → ((k : ℕ) → k < n → f k ≡ g k) → all_below f n ≡ all_below g n
unfolding all_below
all_within f g zero h = refl
all_within f g (suc n) h = rw (all_within f g n (λ k l. h k (omega arith)), h n (omega arith)) refl

back_cond : (b : Bool) (x : Letter) → cond b (in_back x) I ≡ in_back (cond b x Invalid)
back_cond true x = refl
back_cond false x = refl

-- What two holders of a line ask of each other, on states and on letters.
pair_same : (x y : Letter) (w e : Bool) →
    (implies (valid (in_back x) && valid (in_back y)) w && implies (valid (in_back x) && valid (in_back y)) (same_mode (mode_of (in_back x)) (mode_of (in_back y)))
    && implies (exclusive (in_back x) && valid (in_back y)) e && implies (is_o (in_back x) && is_o (in_back y)) e)
    ≡ (implies (is_held x && is_held y) w && implies (is_exclusive x && is_held y) e && implies (old.is_o x && old.is_o y) e)
pair_same x y w e =
    rw ((tests_same x).held, (tests_same y).held, (tests_same x).alone, (tests_same x).owned, (tests_same y).owned, one_mode x y, and_all (implies (is_held x && is_held y) w)) refl

module _ (s : Shape) (t : OldSet) where
  -- The set in the new edition.
  abbrev pub renewed : Model
  renewed = model t.memory t.tags (map (λ b. byte_from (converted ToNew b)) t.states) t.words

  byte_at : (k : ℕ) → state_of (get_or renewed.states k 0) ≡ Some (in_back (letter_at s t k))
  unfolding converted letter_of code
  byte_at k =
      ap state_of (get_or-map (λ b. byte_from (converted ToNew b)) t.states k 0) ∙ state_of_new (letter_of (get_or t.states k 0))

  seen_new : (a p : ℕ) → seen s renewed a p ≡ in_back (letter_seen s t a p)
  unfolding seen letter_seen
  seen_new a p =
      rw (byte_at (entry_of s a p)) (back_cond (eqb (get_or t.tags (entry_of s a p) 0) (tag_of s a)) (letter_at s t (entry_of s a p)))

  dirty_new : (a : ℕ) → dirty s renewed a ≡ old.has_owner s t a
  unfolding dirty
  dirty_new a =
      ap (λ (f : ℕ → Bool). any_below f s.ports) (fun_ext (λ p. ap owner (seen_new a p) ∙ (tests_same (letter_seen s t a p)).owns))

  pair_new : (a p q : ℕ) →
      (new.equal_words s renewed a p q && new.equal_modes s renewed a p q && new.exclusive_alone s renewed a p q && new.one_o s renewed a p q)
      ≡ (old.equal_words s t a p q && old.exclusive_alone s t a p q && old.one_o s t a p q)
  unfolding word_at
  pair_new a p q =
      rw (seen_new a p, seen_new a q)
      (pair_same (letter_seen s t a p) (letter_seen s t a q) (eqb (old.word_seen s t a p) (old.word_seen s t a q)) (eqb p q))

  clean_new : (a p : ℕ) → new.clean_equal s renewed a p ≡ old.clean_equal s t a p
  unfolding word_at
  clean_new a p = rw (seen_new a p, (tests_same (letter_seen s t a p)).held, dirty_new a) refl

  line_new : (a : ℕ) → line_passes s renewed a ≡ line_kept s t a
  unfolding line_passes line_kept every_two
  line_new a =
      rw (
        all_within _ _ s.ports (λ p _. all_within _ _ s.ports (λ q _. pair_new a p q)),
        all_within (new.clean_equal s renewed a) (old.clean_equal s t a) s.ports (λ p _. clean_new a p),
      ) refl

  entry_new : (k : ℕ) → Is (is_old_byte (get_or t.states k 0)) → sound s renewed k ≡ entry_kept s t k
  unfolding sound entry_kept
  entry_new k h = rw (byte_at k, h, (tests_same (letter_at s t k)).held) refl

  -- Where every byte is at most 4, the new audit's rules are those on the letters.
  pub audit_new : ((k : ℕ) → k < entries s → is_no_state (converted ToNew (get_or t.states k 0)) ≡ false) → tables_pass s renewed ≡ keeps_rules s t
  unfolding tables_pass entries_sound keeps_rules
  audit_new h =
      rw (
        all_within (sound s renewed) (entry_kept s t) (entries s) (λ k l. entry_new k (becomes_small _ (h k l))),
        all_within (line_passes s renewed) (line_kept s t) s.lines (λ a _. line_new a),
      ) refl

  -- A set that keeps the rules has no byte above 4.
  pub kept_small : Is (keeps_rules s t) → (k : ℕ) → k < entries s → is_no_state (converted ToNew (get_or t.states k 0)) ≡ false
  unfolding keeps_rules entry_kept
  kept_small h k l =
      let e = below_all (entry_kept s t) (entries s) (and_l (all_below (entry_kept s t) (entries s)) (all_below (line_kept s t) s.lines) h) k l in
      small_becomes _ (and_l (is_old_byte (get_or t.states k 0)) _ e)
