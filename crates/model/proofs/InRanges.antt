-- What the two ranges of a shape do: the proofs of the statements in specs/Ranges.antt. Assumes nothing.
use Prim.Native.Nat.{ℕ, zero, suc, ◌<◌}
use mathlib.Core.Path.{◌≡◌, refl, sym}
use mathlib.Core.Logic.{◌≢◌}
use mathlib.Core.Bool.{Bool, true, false, cond, ◌&&◌, ◌||◌, not}
use mathlib.Core.List.{List, [], ◌∷◌}
use native.Mathlib.Omega.{arith}
use native.Mathlib.Decide.{ℕ_discrete}
use lib.ListN.{get_or}
use lib.Dec.{eqb, leb}
use borrow.Author.Tests.{eq-eqb, ne_eqb}
use Rattle.protocol.specs.declared.state.Mode.{Mode}
use Rattle.protocol.specs.declared.state.Mode.TheVariants.{Through, Back}
use Rattle.words.specs.declared.access.Access.{Access}
use Rattle.words.specs.declared.access.Access.TheVariants.{Read, Write, Swap}
use Rattle.words.proofs.Bools.{and_r, by_cond}
use Rattle.shape.specs.declared.Shape.{Shape}
use Rattle.model.specs.declared.order.Call.{Call}
use Rattle.model.specs.declared.order.Call.TheVariants.{ByPort}
use Rattle.model.specs.Order.{Decoded, Asked, Refused}
use Rattle.shape.specs.Range.{range, ends_by, IsIn}
use Rattle.shape.specs.Shape.{without_ranges, ranges_end}
use Rattle.model.specs.Order.{Order, bits, kinds, has_port, mode_in_force, checked, call_of, decode}
use Rattle.model.specs.Tables.{Model, lent_refusal, sound, seen, word_at, dirty}
use Rattle.model.specs.Fresh.{zeroed, fresh}
use Rattle.model.specs.Audit.{entries_sound, every_two, line_passes, tables_pass, audit}
use Rattle.model.specs.Flat.{Flat, flat_step, flat_start}
use Rattle.model.specs.Marks.{sets, clears, neither, event_of, events_of}
use Rattle.model.specs.Ranges.{call_in, asked_in, InRanges, RangesApart, DeviceRangeClean}
use Rattle.shape.proofs.Ranges.{is_inside, not_inside, inside_lines}
use Rattle.shape.proofs.Refusals.{accepted_without}
use Rattle.model.proofs.Lent.{lent_facts}
use Rattle.model.proofs.Marks.{neither≢sets, sets≢clears, other_event}
use Rattle.model.proofs.Device.{mark_clear, device_guarantee}

-- A mode put into what is asked, by the kind, and through the refusals on the way there.
call_in_lem : (m n : Mode) (kind port mask compare x : ℕ) → call_in m (call_of kind n port mask compare x) ≡ call_of kind m port mask compare x
unfolding call_of
call_in_lem m n zero port mask compare x = refl
call_in_lem m n (suc zero) port mask compare x = refl
call_in_lem m n (suc (suc zero)) port mask compare x = refl
call_in_lem m n (suc (suc (suc zero))) port mask compare x = refl
call_in_lem m n (suc (suc (suc (suc zero)))) port mask compare x = refl
call_in_lem m n (suc (suc (suc (suc (suc k))))) port mask compare x = rw (apart 0 (omega arith), apart 1 (omega arith), apart 2 (omega arith), apart 3 (omega arith), apart 4 (omega arith))
  where
    apart : (kind : ℕ) → kind < 5 → eqb (suc (suc (suc (suc (suc k))))) kind ≡ false
    apart kind l = ne_eqb _ kind (λ e. omega (arith, e, l))

abbrev refused_by : Bool → Bool → Bool → Bool → Decoded → Decoded
refused_by four five six seven d = cond four (Refused 4) (cond five (Refused 5) (cond six (Refused 6) (cond seven (Refused 7) d)))

refused_in_lem : (m : Mode) (four five six seven : Bool) (d : Decoded)
    → asked_in m (refused_by four five six seven d) ≡ refused_by four five six seven (asked_in m d)
refused_in_lem m true five six seven d = refl
refused_in_lem m false true six seven d = refl
refused_in_lem m false false true seven d = refl
refused_in_lem m false false false true d = refl
refused_in_lem m false false false false d = refl

checked_in : (m : Mode) (s : Shape) (kind port mask line : ℕ) (c : Call)
    → asked_in m (checked s kind port mask line c) ≡ checked s kind port mask line (call_in m c)
unfolding checked
checked_in m s kind port mask line c =
    refused_in_lem m (leb kinds kind) (has_port kind && leb s.ports port) (leb s.lines line) (eqb kind 2 && not (eqb mask 0x0F || eqb mask 0xF0)) (Asked c line)

-- The mode in force on a line, by the range that it is in.
module _ (s : Shape) (w a : ℕ) where
  mode_scratch : IsIn s.scratch a → mode_in_force s w a ≡ Back
  unfolding mode_in_force
  mode_scratch h = rw (is_inside s.scratch a h)

  mode_device : (IsIn s.scratch a → ⊥) → IsIn s.device a → mode_in_force s w a ≡ Through
  unfolding mode_in_force
  mode_device n h = rw (not_inside s.scratch a n, is_inside s.device a h)

  mode_elsewhere : (IsIn s.scratch a → ⊥) → (IsIn s.device a → ⊥) → mode_in_force s w a ≡ mode_in_force (without_ranges s) w a
  unfolding mode_in_force
  mode_elsewhere n d = rw (not_inside s.scratch a n, not_inside s.device a d, not_inside (range 0 0) a (λ h. omega (arith, h.1)))

module _ (s : Shape) (o : Order) where
  abbrev line : ℕ
  line = bits o.word 16 16

  asks_in : (m : Mode) → mode_in_force s o.word line ≡ m → decode s o ≡ asked_in m (decode (without_ranges s) o)
  unfolding decode checked
  asks_in m e = rw (e, checked_in m (without_ranges s) _ _ _ line _, call_in_lem m _ _ _ _ _ _)

  asks_alike : mode_in_force s o.word line ≡ mode_in_force (without_ranges s) o.word line → decode s o ≡ decode (without_ranges s) o
  unfolding decode checked
  asks_alike e = rw e

pub in_ranges : InRanges
in_ranges s o = record {
  in_scratch = λ h. asks_in s o Back (mode_scratch s _ _ h);
  in_device = λ n h. asks_in s o Through (mode_device s _ _ n h);
  elsewhere = λ n d. asks_alike s o (mode_elsewhere s _ _ n d);
}

lent_without : (s : Shape) (t : Model) → lent_refusal s t ≡ 0 → lent_refusal (without_ranges s) t ≡ 0
unfolding lent_refusal
lent_without s t z = accepted_without s _ _ _ _ z

pub ranges_apart : RangesApart
unfolding fresh zeroed audit tables_pass entries_sound every_two line_passes sound seen word_at dirty
ranges_apart s t z =
    let w = eq-eqb (lent_refusal (without_ranges s) t) 0 (lent_without s t z) in
    let l = eq-eqb (lent_refusal s t) 0 z in
    (rw (l, w) refl, rw (l, w) refl)

-- No order sets the mark of a line on which every access runs write through.
through_clears : (acc : Access) (i a b n : ℕ) → event_of a (Asked (ByPort acc Through i) b) n ≢ sets
unfolding event_of
through_clears acc i a b n = by_cond (λ e. e ≢ sets) (eqb b a) clears neither (λ _ e. sets≢clears (sym e)) (λ _. neither≢sets)

access_sets_none : (acc : Access) (m : Mode) (i a b n : ℕ) → (b ≡ a → m ≡ Through) → event_of a (Asked (ByPort acc m i) b) n ≢ sets
access_sets_none acc m i a b n h =
    elim (ℕ_discrete b a) [ yes e ↦ rw (h e) (through_clears acc i a b n) | no d ↦ rw (other_event acc m i a b n d) neither≢sets ]

module _ (m : Mode) (a b n : ℕ) (through : b ≡ a → m ≡ Through) where
  abbrev SetsNone : Decoded → Type 0
  SetsNone d = event_of a d n ≢ sets

  abbrev Asks : Call → Type 0
  Asks c = SetsNone (Asked c b)

  call_sets_none : (kind port mask compare x : ℕ) → SetsNone (Asked (call_of kind m port mask compare x) b)
  unfolding call_of event_of
  call_sets_none kind port mask compare x =
      by_cond Asks (eqb kind 0) _ _ (λ _. access_sets_none Read m port a b n through)
      (λ _. by_cond Asks (eqb kind 1) _ _ (λ _. access_sets_none (Write mask x) m port a b n through)
      (λ _. by_cond Asks (eqb kind 2) _ _ (λ _. access_sets_none (Swap mask x compare) m port a b n through)
      (λ _. by_cond Asks (eqb kind 3) _ _ (λ _. neither≢sets)
      (λ _. by_cond Asks (eqb kind 4) _ _ (λ _. neither≢sets)
      (λ _. by_cond (λ e. e ≢ sets) (eqb b a) clears neither (λ _ e. sets≢clears (sym e)) (λ _. neither≢sets))))))

  checked_sets_none : (s : Shape) (kind port mask : ℕ) (c : Call) → SetsNone (Asked c b) → SetsNone (checked s kind port mask b c)
  unfolding checked event_of
  checked_sets_none s kind port mask c h =
      by_cond SetsNone (leb kinds kind) _ _ (λ _. neither≢sets)
      (λ _. by_cond SetsNone (has_port kind && leb s.ports port) _ _ (λ _. neither≢sets)
      (λ _. by_cond SetsNone (leb s.lines b) _ _ (λ _. neither≢sets)
      (λ _. by_cond SetsNone (eqb kind 2 && not (eqb mask 0x0F || eqb mask 0xF0)) _ _ (λ _. neither≢sets) (λ _. h))))

module _ (s : Shape) (a : ℕ) (device : IsIn s.device a) (outside : IsIn s.scratch a → ⊥) where
  order_sets_none : (o : Order) (n : ℕ) → event_of a (decode s o) n ≢ sets
  unfolding decode
  order_sets_none o n =
      checked_sets_none (mode_in_force s o.word (line s o)) a (line s o) n through s _ _ _ _
      (call_sets_none (mode_in_force s o.word (line s o)) a (line s o) n through _ _ _ _ _)
    where
      through : line s o ≡ a → mode_in_force s o.word (line s o) ≡ Through
      through e = rw e (mode_device s o.word a outside device)

  never_sets : (os : List Order) (f : Flat) (k : ℕ) → get_or (events_of s a os f) k neither ≢ sets
  unfolding events_of
  never_sets [] f k = neither≢sets
  never_sets (o ∷ os) f zero = order_sets_none o (flat_step s o f).answer.swapped
  never_sets (o ∷ os) f (suc k) = never_sets os (flat_step s o f).after k

pub device_range_clean : DeviceRangeClean
unfolding ranges_end
device_range_clean s t accepted a device outside os =
    let ends = and_r (ends_by s.scratch s.lines) (ends_by s.device s.lines) (lent_facts s t accepted).ends in
    let there = inside_lines s.device a s.lines device ends in (
      mark_clear s t accepted os a there (λ d. never_sets s a device outside os (flat_start t.memory) d.0 d.1),
      λ o asks. device_guarantee s t accepted os a (λ d. never_sets s a device outside os (flat_start t.memory) d.0 d.1) o asks,
    )
