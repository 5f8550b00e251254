-- The survey in lanes: what an entry says, from a row by its tag and a bit by its byte; and one port more at a time. Assumes nothing.
use Prim.Native.Nat.{ℕ, zero, suc, ◌+◌, ◌*◌, ◌-◌, ◌/◌, ◌%◌, ◌^◌, ◌<◌, ◌≤◌}
use mathlib.Core.Path.{◌≡◌, refl, sym, ap, ◌∙◌}
use mathlib.Core.Bool.{Bool, true, false, cond, ◌&&◌, ◌||◌, not, false≢true}
use mathlib.Core.List.{List}
use native.Mathlib.Omega.{arith}
use native.Mathlib.Nat.{mod-lt, zero-add, add-mul, div-add-mod'}
use native.Mathlib.Numerals.{add-one}
use lib.ListN.{get_or}
use lib.Dec.{eqb, ltb}
use lib.Arith.{digits_div, digits_mod}
use lib.Bits.{bit_and}
use lib.Pow.{pow_mono}
use borrow.Author.Tests.{eqb-true, eqb-false, eq-eqb, lt-ltb, ltb-true, ltb-false, ne_eqb, not-true, not-false}
use Rattle.std.specs.Prelude.{Option, Some, None, Ok, Err}
use Rattle.std.specs.Result.{result_ok, result_err}
use Rattle.std.proofs.lemmas.Option.{none-some, same_Some}
use Rattle.ports.specs.declared.survey.Look.{Look}
use Rattle.ports.specs.Line.{line_of}
use Rattle.protocol.specs.declared.state.State.{State}
use Rattle.protocol.specs.State.{state_of, state_row, or_invalid, is_state, valid}
use Rattle.protocol.proofs.States.{state_row_is, owner-valid}
use Rattle.words.specs.Bools.{bit}
use Rattle.words.proofs.Bools.{Is, and_l, both, or_r, by_bool, not_is, not_both}
use Rattle.model.specs.Below.{all_below, any_below}
use Rattle.model.proofs.Below.{below_all}
use Rattle.endian.specs.Little.{numbers}
use Rattle.shape.specs.declared.Shape.{Shape}
use Rattle.shape.specs.declared.Place.{Place}
use Rattle.shape.specs.Shape.{entries, index_of, entry_of}
use Rattle.model.specs.Tables.{Model, home_at, sound, seen, holds, owns, dirty, column_sound}
use Rattle.shape.proofs.Bounds.{limit_is}
use Rattle.model.proofs.Entries.{entry_index, seen_tag, seen_here}
use Rattle.ports.specs.declared.line.Line.{Line}
use Rattle.ports.specs.declared.survey.Masks.{Masks}
use Rattle.ports.specs.Bytes.{Bytes, model_in, tables_in}
use Rattle.ports.specs.Line.{Placed}
use Rattle.ports.specs.Masks.{ports_from, AllStates, lanes, says_of, look_lanes, masks_of, sound_masks, look_of}
use Rattle.ports.proofs.Places.{some, few, tag_is, limit_at, Running, running_first, running_next}
use Rattle.ports.proofs.Masks.{bit_le, bit_is, mask_lt, mask_next, mask_bit, mask_any, mask_within}
use Rattle.ports.proofs.Rotations.{rotated_by, rotated_room, rotated_once, rotated_back}

-- What an entry says in two lanes: the third is laid over the second.
abbrev folded : ℕ → ℕ
folded n = n % 4294967296 + n / 4294967296 * 65536

-- The three rows, and what bit b of their lanes is.
abbrev row_of : Bool → Bool → ℕ
row_of here near = cond here 0xF9F81E06 (cond near 0xE1F80000 0xFFFE0000)

abbrev lanes_of : ℕ → ℕ
lanes_of x = x % 2 + x / 65536 % 2 * 65536

abbrev right_row : Bool → Bool → ℕ → Bool
right_row here near b = eqb (lanes_of (row_of here near / 2 ^ b)) (folded (says_of here near b))

row_here : Is (all_below (right_row true true) 16)
unfolding all_below state_of
row_here = refl

row_near : Is (all_below (right_row false true) 16)
unfolding all_below state_of
row_near = refl

row_far : Is (all_below (right_row false false) 16)
unfolding all_below state_of
row_far = refl

-- A byte from 16 on is no state, as 15 is none.
clamped : (b : ℕ) → state_of (cond (ltb b 16) b 15) ≡ state_of b
unfolding state_of
clamped b =
    by_bool (ltb b 16) (λ h. rw h)
    (λ h. let k : 16 ≤ b = ltb-false b 16 (not-true (ltb b 16) h) in
    rw (
      not-true (ltb b 16) h,
      apart k 0 (omega arith),
      apart k 1 (omega arith),
      apart k 2 (omega arith),
      apart k 9 (omega arith),
      apart k 10
          (omega arith),
      apart k 11 (omega arith),
      apart k 12 (omega arith),
    ))
  where
    apart : {b : ℕ} → 16 ≤ b → (n : ℕ) → n < 16 → eqb b n ≡ false
    apart {b} h n l = ne_eqb b n (λ e. absurd (omega arith))

in_row : (b : ℕ) → cond (ltb b 16) b 15 < 16
in_row b = by_bool (ltb b 16) (λ h. rw h (ltb-true b 16 h)) (λ h. rw (not-true (ltb b 16) h) (omega arith))

right_row_lem : (here near : Bool) → Is (all_below (right_row here near) 16) → (b : ℕ) → b < 16 → lanes_of (row_of here near / 2 ^ b) ≡ folded (says_of here near b)
right_row_lem here near h b l = eqb-true _ _ (below_all (right_row here near) 16 h b l)

-- What an entry says, as the code finds it.
pub lanes_are : (x : Place) (t b : ℕ) → x.tag < x.limit → {own away row n : ℕ} → own ≡ state_row
    → away ≡ cond (ltb t x.limit) (own / 4294967296 * 65536) (own / 4294967296 * 65536 + own % 65536 * 65536)
    → row ≡ cond (eqb t x.tag) (own / 4294967296 * 65536 + own % 4294967296) away → n ≡ cond (ltb b 16) b 15
    → lanes_of (row / 2 ^ n) ≡ folded (look_lanes x t b)
unfolding look_lanes
lanes_are x t b there eh ea er en =
    let k : ℕ = cond (ltb b 16) b 15 in
    rw (en, er, ea, eh, state_row_is, ← clamped b)
    (by_bool (eqb t x.tag)
    (λ h. let near : ltb t x.limit ≡ true = rw (eqb-true t x.tag h) (lt-ltb x.tag x.limit there) in rw (near, h)
    (right_row_lem true true row_here k (in_row b)))
    (λ h. rw (not-true (eqb t x.tag) h)
    (by_bool (ltb t x.limit) (λ n. rw n (right_row_lem false true row_near k (in_row b)))
    (λ n. rw (not-true (ltb t x.limit) n) (right_row_lem false false row_far k (in_row b))))))

-- The shift is by less than a lane.
pub shift_below : (b : ℕ) {n : ℕ} → n ≡ cond (ltb b 16) b 15 → n < 16
shift_below b e = rw e (in_row b)

-- Three lanes laid in two.
folded_is : (x y z : ℕ) → x < 65536 → y < 65536 → folded (lanes x y z) ≡ x + (y + z) * 65536
folded_is x y z h k =
    let split : lanes x y z ≡ z * 4294967296 + (y * 65536 + x) = omega arith in
    let fits : y * 65536 + x < 4294967296 = omega arith in
    rw split (ap (λ (n : ℕ). n + (z * 4294967296 + (y * 65536 + x)) / 4294967296 * 65536) (digits_mod z fits)
    ∙ ap (λ (n : ℕ). y * 65536 + x + n * 65536) (digits_div z fits) ∙ summed x y z)
  where
    summed : (x y z : ℕ) → y * 65536 + x + z * 65536 ≡ x + (y + z) * 65536
    summed x y z = omega arith

-- The loop, from port 0 on: what the first p ports say, rotated right by p bits, and the number of port p's entry.
abbrev sound_by : Shape → Model → ℕ → ℕ → Bool
sound_by s t a p = sound s t (entry_of s a p)

abbrev unsound : Shape → Model → ℕ → ℕ → Bool
unsound s t a p = not (sound s t (entry_of s a p))

-- The ports that own the line, and those whose entry is unsound: no port is both.
abbrev marked : Shape → Model → ℕ → ℕ → ℕ
marked s t a p = ports_from (owns s t a) 0 p + ports_from (unsound s t a) 0 p

pub record Surveyed (l : Line) (t : Model) (rotated p k : ℕ) : Type 0 where
  pub at : Running l p k
  pub most : p ≤ l.shape.ports
  pub now : rotated ≡ rotated_by p (ports_from (holds l.shape t l.number) 0 p) (marked l.shape t l.number p)

module _ (l : Line) (v : Placed l) (g h d : List ℕ) where
  abbrev s : Shape
  s = l.shape

  abbrev a : ℕ
  a = l.number

  abbrev t : Model
  t = tables_in l.shape g h d

  abbrev holders : ℕ → ℕ
  holders p = ports_from (holds s t a) 0 p

  pub surveyed_none : Surveyed l t 0 0 l.place.index
  unfolding ports_from
  surveyed_none = record { at = running_first v; most = omega arith; now = omega arith }

  -- What the port of entry k says.
  look_lanes_lem : (p : ℕ) {k : ℕ} → k ≡ entry_of s a p
      → look_lanes l.place (get_or (numbers 4 (entries s) g) k 0) (get_or h k 0) ≡ lanes (bit (holds s t a p)) (bit (owns s t a p)) (bit (unsound s t a p))
  unfolding look_lanes seen sound tables_in
  look_lanes_lem p e =
      rw (
        e,
        tag_is v,
        limit_at v,
        entry_index s (some v) a p,
        limit_is (get_or (numbers 4 (entries s) g) (entry_of s a p) 0) s.sets
            (index_of s a) s.lines (mod-lt a (some v)),
      )

  module _ {rotated p k x : ℕ} (u : Surveyed l t rotated p k) (q : p < s.ports)
      (ex : x ≡ folded (look_lanes l.place (get_or (numbers 4 (entries s) g) k 0) (get_or h k 0))) where
    says : x ≡ bit (holds s t a p) + (bit (owns s t a p) + bit (unsound s t a p)) * 65536
    says =
        ex ∙ ap folded (look_lanes_lem p u.at.number)
        ∙ folded_is _ _ (bit (unsound s t a p)) (omega (arith, bit_le (holds s t a p))) (omega (arith, bit_le (owns s t a p)))

    -- It fits beside what was said before.
    pub surveyed_fits : rotated + x < 2 ^ 64
    surveyed_fits =
        omega (
          arith,
          u.now,
          rotated_room p (holders p) (marked s t a p) (omega (arith, few v)) (mask_lt (holds s t a) 0 p)
              (omega (arith, mask_lt (owns s t a) 0 p, mask_lt (unsound s t a) 0 p)),
          says,
          bit_le (holds s t a p),
          bit_le (owns s t a p),
          bit_le (unsound s t a p),
        )

    one_more : (f : ℕ → Bool) → ports_from f 0 (p + 1) ≡ ports_from f 0 p + bit (f p) * 2 ^ p
    one_more f = ap (ports_from f 0) (add-one p) ∙ mask_next f 0 p (sym (zero-add p))

    pub surveyed_more : {y : ℕ} → y ≡ (rotated + x) / 2 + (rotated + x) % 2 * 2 ^ 63 → Surveyed l t y (p + 1) (k + s.sets)
    surveyed_more ey =
        let c : ℕ = bit (owns s t a p) + bit (unsound s t a p) in
        let summed : marked s t a (p + 1) ≡ marked s t a p + c * 2 ^ p = omega (
          arith,
          one_more (owns s t a),
          one_more (unsound s t a),
          add-mul (bit (owns s t a p)) (bit (unsound s t a p)) (2 ^ p),
        ) in
        record {
          at = running_next v u.at;
          most = omega arith;
          now = ey ∙ rotated_once p (holders p) (marked s t a p) (bit (holds s t a p)) c (omega (arith, few v)) (bit_le (holds s t a p))
              (omega (arith, u.now, says))
              ∙ ap (λ (m : ℕ). rotated_by (p + 1) m (marked s t a p + c * 2 ^ p)) (sym (one_more (holds s t a)))
              ∙ ap (rotated_by (p + 1) (holders (p + 1))) (sym summed);
        }

  -- Owners hold the line, and unsound entries do not.
  owner-holds : (p : ℕ) → Is (owns s t a p) → Is (holds s t a p)
  owner-holds p = owner-valid (seen s t a p)

  holder_sound : (p : ℕ) → Is (holds s t a p) → Is (sound_by s t a p)
  unfolding sound
  holder_sound p y =
      let tag = seen_tag s t a p y in
      let byte : Option State = state_of (get_or t.states (entry_of s a p) 0) in
      let home : home_at s t (entry_of s a p) ≡ a = rw (entry_index s (some v) a p, tag) (div-add-mod' a s.sets) in
      both (valid_state byte (ap valid (sym (seen_here s t a p tag)) ∙ y)) (or_r (not (valid (or_invalid byte))) (rw home (lt-ltb a s.lines v.below)))
    where
      valid_state : (b : Option State) → Is (valid (or_invalid b)) → Is (is_state b)
      valid_state (Some x) y = refl
      valid_state None y = absurd (false≢true y)

  unsound_holds_not : (p : ℕ) → Is (unsound s t a p) → Is (not (holds s t a p))
  unsound_holds_not p y = not_is (holds s t a p) (λ x. not_both (holder_sound p x) y)

  -- All ports are passed, and all is rotated back: the lanes are the masks.
  not_all : (f : ℕ → Bool) (n : ℕ) → any_below (λ p. not (f p)) n ≡ not (all_below f n)
  unfolding any_below all_below
  not_all f zero = refl
  not_all f (suc n) = rw (not_all f n) (nand (all_below f n) (f n))
    where
      nand : (a b : Bool) → (not a || not b) ≡ not (a && b)
      nand true b = refl
      nand false b = refl

  module _ {rotated p k sum : ℕ} (u : Surveyed l t rotated p k) (z : s.ports ≤ p)
      (es : sum ≡ rotated % 2 ^ (64 - s.ports) * 2 ^ s.ports + rotated / 2 ^ (64 - s.ports)) where
    abbrev n : ℕ
    n = s.ports

    lane_lt : (f : ℕ → Bool) → ports_from f 0 n < 256
    lane_lt f = omega (arith, mask_lt f 0 n, pow_mono {i = n} {j = 8} (few v))

    laid : sum ≡ marked s t a n * 65536 + holders n
    laid =
        es ∙ rotated_back n (holders n) (marked s t a n) (few v) (omega (arith, lane_lt (owns s t a), lane_lt (unsound s t a)))
        (u.now ∙ ap (λ (m : ℕ). rotated_by m (holders m) (marked s t a m)) {x = p} {y = n} (omega (arith, u.most)))

    holders_are : sum % 65536 ≡ holders n
    holders_are = ap (λ (x : ℕ). x % 65536) laid ∙ digits_mod (marked s t a n) (omega (arith, lane_lt (holds s t a)))

    marked_are : sum / 65536 ≡ marked s t a n
    marked_are = ap (λ (x : ℕ). x / 65536) laid ∙ digits_div (marked s t a n) (omega (arith, lane_lt (holds s t a)))

    owners_are : bit_and (sum / 65536) (sum % 65536) ≡ ports_from (owns s t a) 0 n
    owners_are = rw (holders_are, marked_are) (mask_within (owns s t a) (unsound s t a) (holds s t a) owner-holds unsound_holds_not 0 n)

    all_sound : eqb (bit_and (sum / 65536) (sum % 65536)) (sum / 65536) ≡ all_below (sound_by s t a) n
    all_sound =
        rw (owners_are, marked_are) (by_bool (all_below (sound_by s t a) n)
        (λ y. rw y (eq-eqb (ports_from (owns s t a) 0 n) (marked s t a n) (omega (arith, empty y))))
        (λ y. rw (not-true (all_below (sound_by s t a) n) y) (ne_eqb (ports_from (owns s t a) 0 n) (marked s t a n) (λ e. absurd (omega (arith, filled y))))))
      where
        any : not (eqb (ports_from (unsound s t a) 0 n) 0) ≡ not (all_below (sound_by s t a) n)
        any = mask_any (unsound s t a) n ∙ not_all (sound_by s t a) n

        empty : Is (all_below (sound_by s t a) n) → ports_from (unsound s t a) 0 n ≡ 0
        empty y = eqb-true _ _ (not-false _ (any ∙ ap not y))

        filled : Is (not (all_below (sound_by s t a) n)) → 0 < ports_from (unsound s t a) 0 n
        filled y = positive _ (eqb-false _ _ (not-true _ (any ∙ y)))
          where
            positive : (m : ℕ) → (m ≡ 0 → ⊥) → 0 < m
            positive m h = omega (arith, h)

    abbrev marked_owners : ℕ
    marked_owners = bit_and (sum / 65536) (sum % 65536)

    pub surveyed_unsound : (marked_owners ≡ sum / 65536 → ⊥)
        → Err (record { holders = sum % 65536; owners = marked_owners }) ≡ sound_masks s t a
    unfolding sound_masks masks_of column_sound
    surveyed_unsound n = rw (sym all_sound ∙ ne_eqb _ _ n, owners_are, holders_are)

    pub surveyed_sound : marked_owners ≡ sum / 65536
        → Ok (record { holders = sum % 65536; owners = marked_owners }) ≡ sound_masks s t a
    unfolding sound_masks masks_of column_sound
    surveyed_sound e = rw (sym all_sound ∙ eq-eqb _ _ e, owners_are, holders_are)

-- What a test lets through, and what it holds back.
pub let_through : {X Y : Type 0} (b : Bool) {r x : X} (y : Y) → Ok r ≡ cond b (Ok x) (Err y) → (b ≡ true) × (r ≡ x)
let_through true y e = (refl, same_Some _ _ (ap result_ok e))
let_through false y e = absurd (none-some _ (sym (ap result_ok e)))

pub held_back : {X Y : Type 0} (b : Bool) {r y : Y} (x : X) → Err r ≡ cond b (Ok x) (Err y) → (b ≡ false) × (r ≡ y)
held_back true x e = absurd (none-some _ (ap result_ok e))
held_back false x e = (refl, same_Some _ _ (ap result_err e))

-- A look has what a survey said, by the same test.
abbrev with_line : Shape → ℕ → Masks → Look
with_line s a m = record { line = line_of s a; said = m }

module _ (s : Shape) (t : Model) (a : ℕ) {m : Masks} where
  pub looked_sound : Ok m ≡ sound_masks s t a → Ok (with_line s a m) ≡ look_of s t a
  unfolding sound_masks look_of
  looked_sound e = let p = let_through (column_sound s t a) _ e in rw (p.0, p.1)

  pub looked_unsound : Err m ≡ sound_masks s t a → Err (record { look = with_line s a m }) ≡ look_of s t a
  unfolding sound_masks look_of
  looked_unsound e = let p = held_back (column_sound s t a) _ e in rw (p.0, p.1)

-- What the masks say is what the definitions ask, in the tables with any memory beside them.
module _ (s : Shape) (t : Model) (a : ℕ) {x : Masks} (e : x ≡ masks_of s t a) where
  pub masks_holders : x.holders ≡ ports_from (holds s t a) 0 s.ports
  unfolding masks_of
  masks_holders = ap (λ (x : Masks). x.holders) e

  pub masks_owners : x.owners ≡ ports_from (owns s t a) 0 s.ports
  unfolding masks_of
  masks_owners = ap (λ (x : Masks). x.owners) e

  pub masks_hit : (i : ℕ) → i < s.ports → eqb (x.holders / 2 ^ i % 2) 1 ≡ holds s t a i
  masks_hit i port = rw (masks_holders, mask_bit (holds s t a) s.ports i port) (bit_is (holds s t a i))

  pub masks_own : (i : ℕ) → i < s.ports → eqb (x.owners / 2 ^ i % 2) 1 ≡ owns s t a i
  masks_own i port = rw (masks_owners, mask_bit (owns s t a) s.ports i port) (bit_is (owns s t a i))

  pub masks_dirty : not (eqb x.owners 0) ≡ dirty s t a
  unfolding dirty
  masks_dirty = rw masks_owners (mask_any (owns s t a) s.ports)

-- Memory has no part in it.
pub sound_column : (s : Shape) (b : Bytes) (a : ℕ) → column_sound s (tables_in s b.tags b.states b.words) a ≡ column_sound s (model_in s b) a
unfolding column_sound sound tables_in model_in
sound_column s b a = refl

-- Where every entry is sound, every byte is a state.
pub sound_states : (s : Shape) (t : Model) (a : ℕ) → column_sound s t a ≡ true → AllStates s a t.states
unfolding column_sound sound
sound_states s t a u p q = and_l (is_state (state_of (get_or t.states (entry_of s a p) 0))) _ (below_all (sound_by s t a) s.ports u p q)
