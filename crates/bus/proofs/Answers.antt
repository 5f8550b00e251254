-- The holders' answers on the bus, in bytes: one entry from its port's own part of the tables, and the ports of a mask one after the other.
-- Assumes nothing.
use Prim.Native.Nat.{ℕ, zero, suc, ◌+◌, ◌*◌, ◌-◌, ◌/◌, ◌^◌, ◌<◌, ◌≤◌}
use mathlib.Core.Path.{◌≡◌, refl, sym, ap, ◌∙◌}
use mathlib.Core.Bool.{Bool, true, false, cond, ◌&&◌, not, false≢true}
use mathlib.Core.List.{List, [], ◌∷◌, ◌++◌, append-nil}
use native.Mathlib.Omega.{arith}
use native.Mathlib.Nat.{add-zero, add-suc}
use native.Mathlib.Numerals.{add-one}
use lib.Dec.{eqb}
use lib.ListN.{get_or, set, length, take, drop, take-append-drop, length-drop}
use lib.Seq.{get_or-drop, drop-length, drop-set-add, take-set-le, sets, set-get_or}
use lib.Count.{count_trailing_zeros}
use borrow.Author.Tests.{not-true, eqb-true, not-false}
use borrow.Rule.Slice.PartMut.{mid_of, post_of, put_mid, put_same, Post-is, set_mid_at}
use borrow.Author.Rules.{part_to_end}
use Rattle.words.proofs.Bools.{Is, by_bool, not_is}
use Rattle.protocol.specs.declared.rules.Bus.{Bus}
use Rattle.protocol.specs.declared.rules.Bus.TheVariants.{Quiet, Share, Update, Invalidate, ShareOwned}
use Rattle.protocol.specs.State.{code, state_of, or_invalid}
use Rattle.protocol.specs.Rules.{snooped, updates, is_quiet}
use Rattle.protocol.proofs.States.{code-state_of}
use Rattle.protocol.proofs.Kept.{quiet_same, quiet_keeps}
use Rattle.endian.specs.Little.{numbers, bytes_of}
use Rattle.endian.proofs.Little.{set-numbers}
use Rattle.shape.specs.declared.Shape.{Shape}
use Rattle.shape.specs.Shape.{entries, entry_of}
use Rattle.model.specs.Tables.{Model, seen, word_at, holds}
use Rattle.model.specs.Step.{put_below, byte_answered, word_answered}
use Rattle.model.proofs.Entries.{put_below-other, entry_lt, entry_inj, seen_tag, seen_here}
use Rattle.ports.specs.declared.line.Line.{Line}
use Rattle.ports.specs.Bytes.{tables_in, Filled}
use Rattle.ports.specs.Entry.{Room}
use Rattle.ports.specs.Line.{Placed}
use Rattle.ports.specs.Masks.{ports_from, in_mask, OfHolders, AllStates}
use Rattle.bus.specs.Bus.{states_answered, words_answered, answered}
use Rattle.ports.proofs.Bytes.{model_eq, refilled}
use Rattle.ports.proofs.Places.{some, few, number_is, index_is, room, Running, running_first, running_on, running_next, running_fits}
use Rattle.model.proofs.Puts.{put_id}
use Rattle.ports.proofs.Masks.{First, mask_half, mask_drop, mask_some, first_of}

in_part : (a j : ℕ) (xs : List ℕ) → a + j < length xs → j < length (mid_of a (length xs - a) xs)
in_part a j xs h = rw (part_to_end, length-drop) (omega arith)

part_get : (a j : ℕ) (xs : List ℕ) → get_or (mid_of a (length xs - a) xs) j 0 ≡ get_or xs (a + j) 0
part_get a j xs = rw (part_to_end, get_or-drop)

part_set : (a j : ℕ) (xs : List ℕ) {v v' : ℕ} → v ≡ v' → a + j < length xs
    → put_mid a (length xs - a) xs (set (mid_of a (length xs - a) xs) j v) ≡ set xs (a + j) v'
part_set a j xs {v} e h = set_mid_at a (length xs - a) j xs v (in_part a j xs h) ∙ ap (set xs (a + j)) e

-- Bytes stored in a part are stored in the whole.
behind : (a j : ℕ) (xs vs : List ℕ) → take a xs ++ sets (drop a xs) j vs ≡ sets xs (a + j) vs
behind a j xs [] = take-append-drop a xs
behind a j xs (v ∷ vs) =
    let xs' : List ℕ = set xs (a + j) v in
    ap (λ (l : List ℕ). l ++ sets (set (drop a xs) j v) (suc j) vs) (sym (take-set-le a xs (a + j) v (omega arith)))
    ∙ ap (λ (l : List ℕ). take a xs' ++ sets l (suc j) vs) (sym (drop-set-add a xs j v))
    ∙ behind a (suc j) xs' vs ∙ ap (λ (n : ℕ). sets xs' n vs) (add-suc a j)

part_sets : (a j : ℕ) (xs vs : List ℕ) → a ≤ length xs → put_mid a (length xs - a) xs (sets (mid_of a (length xs - a) xs) j vs) ≡ sets xs (a + j) vs
part_sets a j xs vs h =
    ap (λ (l : List ℕ). take a xs ++ (sets l j vs ++ post_of a (length xs - a) xs)) (part_to_end xs a)
    ∙ ap (λ (l : List ℕ). take a xs ++ (sets (drop a xs) j vs ++ l)) (Post-is a (length xs) xs h ∙ drop-length xs)
    ∙ ap (λ (l : List ℕ). take a xs ++ l) (append-nil (sets (drop a xs) j vs))
    ∙ behind a j xs vs

-- A holder's answer from its own part is its answer in the whole.
module _ {g h d : List ℕ} (b : Bus) (w from index : ℕ) (room : Room g h d (from + index)) where
  pub tags_part : {g' : List ℕ} → g' ≡ mid_of (4 * from) (length g - 4 * from) g → put_mid (4 * from) (length g - 4 * from) g g' ≡ g
  tags_part e = rw e (put_same (4 * from) (length g - 4 * from) g)

  pub states_part : {h' : List ℕ} → h' ≡ states_answered b index (mid_of from (length h - from) h)
      → put_mid from (length h - from) h h' ≡ states_answered b (from + index) h
  unfolding states_answered
  states_part e = rw e (part_set from index h (rw (part_get from index h)) room.in_states)

  pub words_part_lem : {d' : List ℕ} → d' ≡ words_answered b w index (mid_of (8 * from) (length d - 8 * from) d)
      → put_mid (8 * from) (length d - 8 * from) d d' ≡ words_answered b w (from + index) d
  unfolding words_answered
  words_part_lem e =
      let at_k : 8 * from + 8 * index ≡ 8 * (from + index) = omega arith in
      rw e (by_bool (updates b)
      (λ y. rw y (part_sets (8 * from) (8 * index) d (bytes_of 8 w) (omega (arith, room.in_words)) ∙ ap (λ (n : ℕ). sets d n (bytes_of 8 w)) at_k))
      (λ y. rw (not-true (updates b) y) (put_same (8 * from) (length d - 8 * from) d)))

-- The tables after the first p ports have answered.
module _ (s : Shape) (pos : zero < s.sets) (t : Model) (a : ℕ) (asked : ℕ → Bool) (b : Bus) (w : ℕ) where
  -- The entry of port p is as it was before the first p ports answered.
  still : (p : ℕ) (f : ℕ → ℕ) (xs : List ℕ) → get_or (put_below (entry_of s a) f p xs) (entry_of s a p) 0 ≡ get_or xs (entry_of s a p) 0
  still p f xs = put_below-other (entry_of s a) f p xs (entry_of s a p) (λ q h e. apart q h (entry_inj s pos a p q e))
    where
      apart : (q : ℕ) → q < p → p ≡ q → ⊥
      apart q h e = omega arith

  -- A port that is not asked has what it had.
  byte_kept : (p : ℕ) → Is (not (asked p)) → byte_answered s t a asked b p ≡ get_or t.states (entry_of s a p) 0
  unfolding byte_answered
  byte_kept p h = rw (not-true (asked p) h)

  word_kept : (p : ℕ) → Is (not (asked p)) → word_answered s t a asked b w p ≡ get_or t.words (entry_of s a p) 0
  unfolding word_answered word_at
  word_kept p h = rw (not-true (asked p) h)

  skip_one : (p : ℕ) → Is (not (asked p)) → answered s t a asked b w (suc p) ≡ answered s t a asked b w p
  unfolding answered put_below
  skip_one p h =
      model_eq refl refl
      (ap (set (put_below (entry_of s a) (byte_answered s t a asked b) p t.states) (entry_of s a p))
      (byte_kept p h ∙ sym (still p (byte_answered s t a asked b) t.states)) ∙ set-get_or _ (entry_of s a p) 0)
      (ap (set (put_below (entry_of s a) (word_answered s t a asked b w) p t.words) (entry_of s a p))
      (word_kept p h ∙ sym (still p (word_answered s t a asked b w) t.words)) ∙ set-get_or _ (entry_of s a p) 0)

  skip : (p z : ℕ) → ((r : ℕ) → r < z → Is (not (asked (p + r)))) → answered s t a asked b w (p + z) ≡ answered s t a asked b w p
  skip p zero u = ap (answered s t a asked b w) (add-zero p)
  skip p (suc z) u = ap (answered s t a asked b w) (add-suc p z) ∙ skip_one (p + z) (u z (omega arith)) ∙ skip p z (λ r k. u r (omega arith))

  -- A command that hands no word on leaves the words.
  pub words_kept : updates b ≡ false → put_below (entry_of s a) (word_answered s t a asked b w) s.ports t.words ≡ t.words
  unfolding word_answered word_at
  words_kept e =
      put_id (entry_of s a) (entry_inj s pos a) (word_answered s t a asked b w) s.ports t.words
      (λ p _. rw e (never (asked p) (get_or t.words (entry_of s a p) 0)))
    where
      never : (c : Bool) (x : ℕ) → cond (c && false) w x ≡ x
      never true x = refl
      never false x = refl

-- A quiet bus changes nothing, if those that are asked hold the line.
module _ (s : Shape) (pos : zero < s.sets) (t : Model) (a : ℕ) (asked : ℕ → Bool) (hold : (p : ℕ) → p < s.ports → Is (asked p) → Is (holds s t a p)) (w : ℕ)
    (fine : AllStates s a t.states) where
  quiet_byte : (p : ℕ) → p < s.ports → byte_answered s t a asked Quiet p ≡ get_or t.states (entry_of s a p) 0
  unfolding byte_answered
  quiet_byte p q =
      by_bool (asked p)
      (λ h. rw (h, quiet_same (seen s t a p), seen_here s t a p (seen_tag s t a p (hold p q h)))
      (code-state_of (get_or t.states (entry_of s a p) 0) (fine p q)))
      (λ h. rw (not-true (asked p) h))

  pub quiet_answered : {b : Bus} → b ≡ Quiet → t ≡ answered s t a asked b w s.ports
  unfolding answered
  quiet_answered e =
      rw e (model_eq refl refl (sym (put_id (entry_of s a) (entry_inj s pos a) (byte_answered s t a asked Quiet) s.ports t.states quiet_byte))
      (sym (words_kept s pos t a asked Quiet w quiet_keeps)))

-- The ports of the mask, one after the other: the ports below `port` are passed, rest has those from it on, and k is the number of its entry.
pub record Telling (l : Line) (bus : Bus) (w asked : ℕ) (g₀ h₀ d₀ g h d : List ℕ) (rest k : ℕ) : Type 0 where
  pub port : ℕ
  pub at : Running l port k
  pub filled : Filled l.shape g h d
  pub now : tables_in l.shape g h d ≡ answered l.shape (tables_in l.shape g₀ h₀ d₀) l.number (in_mask asked) bus w port
  pub count : ℕ
  pub all : port + count ≡ l.shape.ports
  pub mask : rest ≡ ports_from (in_mask asked) port count

module _ {l : Line} (v : Placed l) {g₀ h₀ d₀ : List ℕ} (bus : Bus) (w asked : ℕ) (f₀ : Filled l.shape g₀ h₀ d₀)
    (fine : AllStates l.shape l.number h₀) (holders : OfHolders l.shape (tables_in l.shape g₀ h₀ d₀) l.number asked) where
  abbrev s : Shape
  s = l.shape

  abbrev a : ℕ
  a = l.number

  abbrev t₀ : Model
  t₀ = tables_in l.shape g₀ h₀ d₀

  abbrev test : ℕ → Bool
  test p = in_mask asked p

  abbrev after : ℕ → Model
  after p = answered s t₀ a (in_mask asked) bus w p

  pub telling_none : Telling l bus w asked g₀ h₀ d₀ g₀ h₀ d₀ asked l.place.index
  unfolding answered put_below
  telling_none = record {
    port = 0;
    at = running_first v;
    filled = f₀;
    now = refl;
    count = s.ports;
    all = omega arith;
    mask = holders.ports;
  }

  module _ {g h d : List ℕ} {rest j : ℕ} (u : Telling l bus w asked g₀ h₀ d₀ g h d rest j) where
    abbrev p : ℕ
    p = u.port

    pub telling_done : rest ≡ 0 → tables_in s g h d ≡ after s.ports
    telling_done z =
        u.now ∙ sym (skip s (some v) t₀ a (in_mask asked) bus w p u.count
        (λ r k. not_is (test (p + r)) (λ y. absurd (omega (arith, z, u.mask, mask_some test p u.count r k y)))))
        ∙ ap after u.all

    module _ (left : rest ≡ 0 → ⊥) {z : ℕ} (ez : z ≡ count_trailing_zeros 64 rest) where
      first : First test p u.count z
      first = first_of test p u.count u.mask (omega (arith, u.all, few v)) left ez

      -- The next port of the mask.
      next_below : p + z < s.ports
      next_below = omega (arith, first.below, u.all)

      pub passed_few : z < 8
      passed_few = omega (arith, next_below, few v)

      pub passed_fits : z * s.sets + j < 1024
      passed_fits = omega (arith, running_fits v (running_on v z u.at refl) next_below)

      in_k : entry_of s a (p + z) < entries s
      in_k = entry_lt s (some v) a (p + z) next_below

      reached : tables_in s g h d ≡ after (p + z)
      reached = u.now ∙ sym (skip s (some v) t₀ a (in_mask asked) bus w p z first.lower)

      held : Is (holds s t₀ a (p + z))
      held = holders.hold (p + z) next_below first.passes

      byte_there : get_or h (entry_of s a (p + z)) 0 ≡ get_or h₀ (entry_of s a (p + z)) 0
      unfolding answered tables_in
      byte_there =
          ap (λ (t : Model). get_or t.states (entry_of s a (p + z)) 0) reached
          ∙ still s (some v) t₀ a (in_mask asked) bus w (p + z) (byte_answered s t₀ a (in_mask asked) bus) h₀

      word_there : get_or (numbers 8 (entries s) d) (entry_of s a (p + z)) 0 ≡ get_or (numbers 8 (entries s) d₀) (entry_of s a (p + z)) 0
      unfolding answered tables_in
      word_there =
          ap (λ (t : Model). get_or t.words (entry_of s a (p + z)) 0) reached
          ∙ still s (some v) t₀ a (in_mask asked) bus w (p + z) (word_answered s t₀ a (in_mask asked) bus w) (numbers 8 (entries s) d₀)

      state_there : seen s t₀ a (p + z) ≡ or_invalid (state_of (get_or h₀ (entry_of s a (p + z)) 0))
      unfolding tables_in
      state_there = seen_here s t₀ a (p + z) (seen_tag s t₀ a (p + z) held)

      -- It answers.
      byte_is : code (snooped bus (or_invalid (state_of (get_or h (entry_of s a (p + z)) 0)))) ≡ byte_answered s t₀ a (in_mask asked) bus (p + z)
      unfolding byte_answered
      byte_is = rw (byte_there, first.passes, state_there)

      word_is : cond (updates bus) w (get_or (numbers 8 (entries s) d) (entry_of s a (p + z)) 0)
          ≡ word_answered s t₀ a (in_mask asked) bus w (p + z)
      unfolding word_answered word_at tables_in
      word_is = rw (word_there, first.passes)

      words_put : w < 2 ^ 64 → (b : Bool) → numbers 8 (entries s) (cond b (sets d (8 * entry_of s a (p + z)) (bytes_of 8 w)) d)
          ≡ set (numbers 8 (entries s) d) (entry_of s a (p + z)) (cond b w (get_or (numbers 8 (entries s) d) (entry_of s a (p + z)) 0))
      words_put fits true = set-numbers 8 (entries s) (entry_of s a (p + z)) w d in_k (omega arith) (omega (arith, u.filled.words_fit))
      words_put fits false = sym (set-get_or (numbers 8 (entries s) d) (entry_of s a (p + z)) 0)

      -- Its number, and where its part of the tables starts.
      module _ {x : ℕ} (ex : x ≡ z * s.sets + j) where
        abbrev k : ℕ
        k = x - l.place.index + l.place.index

        here : Running l (p + z) x
        here = running_on v z u.at ex

        pub part_starts : l.place.index ≤ x
        part_starts = omega (arith, here.number, index_is v)

        pub next_fits : x + s.sets < 1024
        next_fits = running_fits v here next_below

        at_k : k ≡ entry_of s a (p + z)
        at_k = ap (λ (n : ℕ). n + l.place.index) here.part ∙ number_is v (p + z)

        pub next_room : Room g h d k
        next_room = rw at_k (room u.filled in_k)

        now_answered : w < 2 ^ 64 → {g' h' d' : List ℕ} → g' ≡ g → h' ≡ states_answered bus k h → d' ≡ words_answered bus w k d
            → tables_in s g' h' d' ≡ after (suc (p + z))
        unfolding tables_in answered put_below states_answered words_answered
        now_answered fits eg eh ed =
            rw (eg, eh, ed, at_k)
            (model_eq refl (ap (λ (t : Model). t.tags) reached)
            (ap (set h (entry_of s a (p + z))) byte_is ∙ ap (λ (t : Model). set t.states (entry_of s a (p + z))
            (byte_answered s t₀ a (in_mask asked) bus (p + z))) reached)
            (words_put fits (updates bus) ∙ ap (set (numbers 8 (entries s) d) (entry_of s a (p + z))) word_is
            ∙ ap (λ (t : Model). set t.words (entry_of s a (p + z)) (word_answered s t₀ a (in_mask asked) bus w (p + z))) reached))

        pub telling_more : w < 2 ^ 64 → {g' h' d' : List ℕ} → length g' ≡ length g → length h' ≡ length h → length d' ≡ length d
            → (g' ≡ g) × ((h' ≡ states_answered bus k h) × (d' ≡ words_answered bus w k d))
            → Telling l bus w asked g₀ h₀ d₀ g' h' d' (rest / 2 ^ z / 2) (x + s.sets)
        telling_more fits {g'} {h'} {d'} eg eh ed e =
            let n : ℕ = u.count - z - 1 in
            let m : rest / 2 ^ z ≡ ports_from test (p + z) (suc n) = ap (λ (x : ℕ). x / 2 ^ z) u.mask ∙ mask_drop test p z (suc n)
            (omega (arith, first.below)) refl in
            record {
              port = p + z + 1;
              at = running_next v here;
              filled = refilled u.filled eg eh ed;
              now = now_answered fits e.0 e.1.0 e.1.1 ∙ ap after (sym (add-one (p + z)));
              count = n;
              all = omega (arith, u.all, first.below);
              mask = ap (λ (x : ℕ). x / 2) m ∙ mask_half test (p + z) n ∙ ap (λ (x : ℕ). ports_from test x n) (sym (add-one (p + z)));
            }

  -- Nobody is asked: the mask is empty, or the bus is quiet.
  unpacked : AllStates s a t₀.states
  unfolding tables_in
  unpacked = fine

  pub unasked : {q : Bool} → q ≡ is_quiet bus → (not (eqb asked 0) && not q) ≡ false → t₀ ≡ after s.ports
  unasked {q} e h =
      by_bool (eqb asked 0) (λ y. telling_done telling_none (eqb-true asked 0 y))
      (λ y. quiet_answered s (some v) t₀ a (in_mask asked) holders.hold w unpacked (quiet bus (sym e ∙ not-false q (rw y at h))))
    where
      quiet : (b : Bus) → is_quiet b ≡ true → b ≡ Quiet
      quiet Quiet y = refl
      quiet (Share m) y = absurd (false≢true y)
      quiet (Update m) y = absurd (false≢true y)
      quiet Invalidate y = absurd (false≢true y)
      quiet ShareOwned y = absurd (false≢true y)
