-- Models that have room in their bytes: they are read back, and every order and making a fresh model keep them so. Assumes nothing.
use Prim.Native.Nat.{ℕ, zero, suc, ◌^◌, ◌<◌}
use mathlib.Core.Path.{◌≡◌, sym, ap, ◌∙◌}
use mathlib.Core.Bool.{Bool, true, false, ◌&&◌, not}
use mathlib.Core.List.{List, [], ◌∷◌}
use native.Mathlib.Omega.{arith}
use lib.Dec.{eqb}
use lib.ListN.{get_or, set, replicate, length-set, length-replicate}
use borrow.Author.Tests.{eqb-true}
use Rattle.words.specs.Word.{merge, half}
use Rattle.words.specs.declared.access.Access.{Access}
use Rattle.words.specs.declared.access.Access.TheVariants.{Read, Write, Swap}
use Rattle.words.specs.declared.access.Effect.{Effect}
use Rattle.words.specs.Access.{effect_at, reading, writing}
use Rattle.words.proofs.Bools.{Is, by_cond}
use Rattle.words.proofs.Merge.{merge-fits}
use Rattle.protocol.specs.declared.state.Mode.{Mode}
use Rattle.protocol.specs.declared.rules.Bus.{Bus}
use Rattle.protocol.specs.declared.rules.Bus.TheVariants.{Invalidate}
use Rattle.protocol.specs.declared.rules.Rule.{Rule}
use Rattle.protocol.specs.Rules.{flush_rule, snooped, updates}
use Rattle.protocol.proofs.States.{code_small}
use Rattle.shape.specs.declared.Shape.{Shape}
use Rattle.shape.specs.Shape.{in_range, entries, fits, ranges_end, fit_refusal, refusal_of, tag_of, entry_of}
use Rattle.shape.proofs.Bounds.{tag_small}
use Rattle.endian.specs.Little.{numbers, encoded}
use Rattle.endian.proofs.Little.{length-numbers, numbers_back, numbers_fit, encoded-bytes}
use Rattle.answers.proofs.Answers.{answer_back}
use Rattle.ports.specs.Bytes.{model_in}
use Rattle.model.specs.declared.order.Call.{Call}
use Rattle.model.specs.declared.order.Call.TheVariants.{ByPort, Flush, DeviceRead, DeviceWrite}
use Rattle.model.specs.Order.{Decoded, Asked, Refused}
use Rattle.model.specs.Below.{Lowest, none, number as the_number, lowest, at_or}
use Rattle.model.specs.Order.{Order, decode, looks}
use Rattle.model.specs.Tables.{Model, lent_refusal, seen, word_at, memory_at, holds, owns, column_sound}
use Rattle.model.specs.Step.{Result, store, put_below, word_supplied, byte_answered, word_answered, word_found, evicts_owner, victim, byte_after, word_after, applied}
use Rattle.model.specs.Step.{access_rule, accessed, flushed, device_written, called, perform, step}
use Rattle.model.specs.Fresh.{fresh, zeroed}
use Rattle.model.proofs.Decoded.{Sound, decode-sound}
use Rattle.model.proofs.Lent.{lent_facts}
use Rattle.counters.proofs.Answers.{step_few}
use Rattle.host.specs.Host.{in_bytes}
use Rattle.host.specs.ReadBack.{AreBytes, Column, Held, ReadBack, LentHolds, StepHolds, FreshHolds}
use Rattle.host.proofs.Host.{fitting, same_lent}

-- A list with a number put stays below a bound that the number is below.
set_below : (m : ℕ) (l : List ℕ) (i v : ℕ) → v < m → ((k : ℕ) → get_or l k 0 < m) → (k : ℕ) → get_or (set l i v) k 0 < m
set_below m [] i v h b k = b k
set_below m (x ∷ l) zero v h b zero = h
set_below m (x ∷ l) zero v h b (suc k) = b (suc k)
set_below m (x ∷ l) (suc i) v h b zero = b zero
set_below m (x ∷ l) (suc i) v h b (suc k) = set_below m l i v h (λ j. b (suc j)) k

column_set : {n m : ℕ} {l : List ℕ} (i v : ℕ) → v < m → Column n m l → Column n m (set l i v)
column_set {m = m} {l = l} i v h c = record { count = length-set l i v ∙ c.count; below = set_below m l i v h c.below }

column_store : {n m : ℕ} {l : List ℕ} (b : Bool) (i v : ℕ) → v < m → Column n m l → Column n m (store b i v l)
column_store true i v h c = column_set i v h c
column_store false i v h c = c

column_put : {n m : ℕ} {l : List ℕ} (at f : ℕ → ℕ) → ((p : ℕ) → f p < m) → (p : ℕ) → Column n m l → Column n m (put_below at f p l)
unfolding put_below
column_put at f h zero c = c
column_put at f h (suc p) c = column_set (at p) (f p) (h p) (column_put at f h p c)

pub same_below : (m n v : ℕ) → v < m → (k : ℕ) → get_or (replicate n v) k 0 < m
same_below m zero v h k = omega (arith, h)
same_below m (suc n) v h zero = h
same_below m (suc n) v h (suc k) = same_below m n v h k

column_zeros : (n m : ℕ) → 0 < m → Column n m (replicate n 0)
column_zeros n m h = record { count = length-replicate n 0; below = same_below m n 0 h }

-- Numbers in bytes and out again.
column_back : (w n : ℕ) {l : List ℕ} → Column n (256 ^ w) l → numbers w n (encoded w l) ≡ l
column_back w n {l} c = ap (λ (k : ℕ). numbers w k (encoded w l)) (sym c.count) ∙ numbers_back w l c.below

column_numbers : (w n : ℕ) (bs : List ℕ) → AreBytes bs → Column n (256 ^ w) (numbers w n bs)
column_numbers w n bs h = record { count = length-numbers w n bs; below = numbers_fit w n bs h }

pub read_back : ReadBack
unfolding model_in in_bytes
read_back s t held = (
  rw (column_back 8 s.lines held.memory, column_back 4 (entries s) held.tags, column_back 8 (entries s) held.words),
  record {
    memory = encoded-bytes 8 t.memory;
    tags = encoded-bytes 4 t.tags;
    states = held.states.below;
    words = encoded-bytes 8 t.words;
  },
)

pub lent_holds : LentHolds
unfolding model_in
lent_holds s b of e =
    let f = fitting s b true e in (
      record {
        memory = column_numbers 8 s.lines b.memory of.memory;
        tags = column_numbers 4 (entries s) b.tags of.tags;
        states = record { count = f.filled.states_fit; below = of.states };
        words = column_numbers 8 (entries s) b.words of.words;
      },
      same_lent f of.memory of.tags of.words,
    )

pub fresh_holds : FreshHolds
unfolding fresh zeroed
fresh_holds s t held =
    by_cond (Held s) (eqb (lent_refusal s t) 0) _ _
    (λ _. record {
      memory = held.memory;
      tags = column_zeros (entries s) (2 ^ 32) (omega arith);
      states = column_zeros (entries s) 256 (omega arith);
      words = column_zeros (entries s) (2 ^ 64) (omega arith);
    })
    (λ _. held)

-- What an access leaves and answers at a word is a word.
abbrev EffectFits : Effect → Type 0
EffectFits e = (e.word < 2 ^ 64) × (e.value < 2 ^ 64)

effect_fits : (acc : Access) (w : ℕ) → w < 2 ^ 64 → EffectFits (effect_at acc w)
unfolding effect_at
effect_fits Read w h = (h, h)
effect_fits (Write mask x) w h = (merge-fits mask w x, omega arith)
effect_fits (Swap mask x compare) w h =
    by_cond EffectFits (eqb (half mask w) compare) (writing w (merge mask w x) w true) (reading w) (λ _. (merge-fits mask w x, h)) (λ _. (h, h))

at_or-fits : (f : ℕ → ℕ) (x : ℕ) (l : Lowest) → ((k : ℕ) → f k < 2 ^ 64) → x < 2 ^ 64 → at_or f x l < 2 ^ 64
unfolding at_or
at_or-fits f x none h g = g
at_or-fits f x (the_number k) h g = h k

-- What an order leaves and answers.
abbrev Keeps : Shape → Result → Type 0
Keeps s r = Held s r.after × (r.answer.value < 2 ^ 64) × (r.answer.refusal < 13)

module _ (s : Shape) (t : Model) (held : Held s t) where
  word_fits : (a p : ℕ) → word_at s t a p < 2 ^ 64
  unfolding word_at
  word_fits a p = held.words.below (entry_of s a p)

  supplied_fits : (a : ℕ) → word_supplied s t a < 2 ^ 64
  unfolding word_supplied
  supplied_fits a = at_or-fits (word_at s t a) (memory_at t a) (lowest (owns s t a) s.ports) (word_fits a) (held.memory.below a)

  found_fits : (i a : ℕ) → word_found s t i a < 2 ^ 64
  unfolding word_found
  found_fits i a = by_cond (λ w. w < 2 ^ 64) (holds s t a i) _ _ (λ _. word_fits a i) (λ _. supplied_fits a)

  byte_answers : (a : ℕ) (asked : ℕ → Bool) (b : Bus) (p : ℕ) → byte_answered s t a asked b p < 256
  unfolding byte_answered
  byte_answers a asked b p =
      by_cond (λ x. x < 256) (asked p) _ _ (λ _. omega (arith, code_small (snooped b (seen s t a p)))) (λ _. held.states.below (entry_of s a p))

  word_answers : (a : ℕ) (asked : ℕ → Bool) (b : Bus) (w : ℕ) → w < 2 ^ 64 → (p : ℕ) → word_answered s t a asked b w p < 2 ^ 64
  unfolding word_answered
  word_answers a asked b w h p = by_cond (λ x. x < 2 ^ 64) (asked p && updates b) _ _ (λ _. h) (λ _. word_fits a p)

  byte_after_lem : (i a : ℕ) (r : Rule) (p : ℕ) → byte_after s t i a r p < 256
  unfolding byte_after
  byte_after_lem i a r p = by_cond (λ x. x < 256) (eqb p i) _ _ (λ _. omega (arith, code_small r.own)) (λ _. byte_answers a (holds s t a) r.bus p)

  word_after_lem : (i a : ℕ) (r : Rule) (w : ℕ) → w < 2 ^ 64 → (p : ℕ) → word_after s t i a r w p < 2 ^ 64
  unfolding word_after
  word_after_lem i a r w h p = by_cond (λ x. x < 2 ^ 64) (eqb p i) _ _ (λ _. h) (λ _. word_answers a (holds s t a) r.bus w h p)

  applied_held : (i a : ℕ) (r : Rule) (w : ℕ) → tag_of s a < 2 ^ 32 → w < 2 ^ 64 → Held s (applied s t i a r w)
  unfolding applied
  applied_held i a r w g h = record {
    memory = column_store r.stores a w h (column_store (evicts_owner s t i a) (victim s t i a) (word_at s t a i) (word_fits a i) held.memory);
    tags = column_set (entry_of s a i) (tag_of s a) g held.tags;
    states = column_put (entry_of s a) (byte_after s t i a r) (byte_after_lem i a r) s.ports held.states;
    words = column_put (entry_of s a) (word_after s t i a r w) (word_after_lem i a r w h) s.ports held.words;
  }

  accessed_keeps : (i a : ℕ) (acc : Access) (m : Mode) → tag_of s a < 2 ^ 32 → Keeps s (accessed s t i a acc m)
  unfolding accessed
  accessed_keeps i a acc m g =
      let e = effect_fits acc (word_found s t i a) (found_fits i a) in
      (applied_held i a (access_rule s t i a m (effect_at acc (word_found s t i a))) _ g e.0, e.1, omega arith)

  flushed_keeps : (i a : ℕ) → tag_of s a < 2 ^ 32 → Keeps s (flushed s t i a)
  unfolding flushed
  flushed_keeps i a g =
      by_cond (Keeps s) (holds s t a i) _ _ (λ _. (applied_held i a (flush_rule (seen s t a i)) (word_at s t a i) g (word_fits a i), omega arith, omega arith))
      (λ _. (held, omega arith, omega arith))

  written_keeps : (a mask x : ℕ) → Keeps s (device_written s t a mask x)
  unfolding device_written
  written_keeps a mask x = (
    record {
      memory = column_set a (merge mask (word_supplied s t a) x) (merge-fits mask (word_supplied s t a) x) held.memory;
      tags = held.tags;
      states =
          column_put (entry_of s a) (byte_answered s t a (holds s t a) Invalidate) (byte_answers a (holds s t a) Invalidate) s.ports held.states;
      words = held.words;
    },
    omega arith,
    omega arith,
  )

  called_keeps : (c : Call) (a : ℕ) → tag_of s a < 2 ^ 32 → Keeps s (called s t c a)
  unfolding called
  called_keeps (ByPort acc m i) a g = accessed_keeps i a acc m g
  called_keeps (Flush i) a g = flushed_keeps i a g
  called_keeps DeviceRead a g = (held, held.memory.below a, omega arith)
  called_keeps (DeviceWrite mask x) a g = written_keeps a mask x

  perform_keeps : Is (in_range s) → (d : Decoded) → Sound s d → Keeps s (perform s t d)
  unfolding perform
  perform_keeps l (Refused n) h = (held, omega arith, omega (arith, h))
  perform_keeps l (Asked c a) h =
      by_cond (Keeps s) (looks c && not (column_sound s t a)) _ _ (λ _. (held, omega arith, omega arith)) (λ _. called_keeps c a (omega (arith, tag_small s a l h.1)))

-- Refusals 2, 3 and 12.
lent_small : (s : Shape) (t : Model) → lent_refusal s t < 13
unfolding lent_refusal refusal_of fit_refusal
lent_small s t =
    by_cond (λ n. n < 13) (in_range s) _ _
    (λ _. by_cond (λ n. n < 13) (fits s _ _ _ _) _ _ (λ _. by_cond (λ n. n < 13) (ranges_end s) 0 12 (λ _. omega arith) (λ _. omega arith)) (λ _. omega arith))
    (λ _. omega arith)

step_keeps : (s : Shape) (o : Order) (t : Model) → Held s t → Keeps s (step s o t)
unfolding step
step_keeps s o t held =
    by_cond (Keeps s) (eqb (lent_refusal s t) 0) _ _
    (λ z. perform_keeps s t held (lent_facts s t (eqb-true _ _ z)).range (decode s o) (decode-sound s o))
    (λ _. (held, omega arith, lent_small s t))

pub step_holds : StepHolds
step_holds s o t held =
    let k = step_keeps s o t held in
    let few = step_few s o t in
    (k.0, answer_back (step s o t).answer (omega (arith, k.2)) k.1 (omega (arith, few.swapped)) (omega (arith, few.reads)) (omega (arith, few.writes)))
