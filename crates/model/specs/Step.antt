-- The step: one order on main memory and the tables.
use Rattle.std.specs.Prelude.{Result as Outcome, Ok, Err}
use Rattle.refusals.specs.declared.Refusal.{Refusal}
use Rattle.refusals.specs.Numbers.{number}
use Rattle.std.specs.Prelude.{ℕ, zero, suc, ◌+◌, Bool, cond, ◌&&◌, not, List, get_or, set, eqb}
use Rattle.protocol.specs.declared.state.Mode.{Mode}
use Rattle.words.specs.declared.access.Access.{Access}
use Rattle.words.specs.declared.access.Effect.{Effect}
use Rattle.protocol.specs.declared.rules.Bus.{Bus}
use Rattle.protocol.specs.declared.rules.Bus.TheVariants.{Invalidate}
use Rattle.protocol.specs.declared.rules.Rule.{Rule}
use Rattle.protocol.specs.State.{code, owner}
use Rattle.words.specs.Word.{merge}
use Rattle.words.specs.Access.{effect_at}
use Rattle.protocol.specs.Rules.{rule, flush_rule, snooped, updates}
use Rattle.words.specs.Bools.{bit}
use Rattle.shape.specs.declared.Shape.{Shape}
use Rattle.model.specs.declared.order.Call.{Call}
use Rattle.model.specs.declared.order.Call.TheVariants.{ByPort, Flush, DeviceRead, DeviceWrite}
use Rattle.model.specs.Order.{Decoded, Asked, Refused}
use Rattle.model.specs.declared.answer.Answer.{Answer}
use Rattle.shape.specs.Shape.{tag_of, entry_of}
use Rattle.model.specs.Order.{Order, looks, decode}
use Rattle.model.specs.Below.{any_below, lowest, at_or}
use Rattle.model.specs.Tables.{Model, lent_refusal, state_at, home_at, seen, word_at, memory_at, holds, owns, dirty, column_sound}

pub record Result : Type 0 where
  pub answer : Answer
  pub after : Model

abbrev pub result : Answer → Model → Result
result x t = record { answer = x; after = t }

-- An accepted order's numbers: value, swapped, memory reads and writes.
abbrev pub accepted : ℕ → ℕ → ℕ → ℕ → Answer
accepted v s r w = record { refusal = 0; value = v; swapped = s; reads = r; writes = w }

-- A refused order answers its number and four zeros, and changes nothing.
abbrev pub refused : ℕ → Answer
refused n = record { refusal = n; value = 0; swapped = 0; reads = 0; writes = 0 }

-- The code's answer as such: a refusal by its number.
abbrev pub answer_of : Outcome Answer Refusal → Answer
answer_of (Ok x) = x
answer_of (Err r) = refused (number r)

abbrev pub refuse : ℕ → Model → Result
refuse n t = result (refused n) t

-- A word stored at line a, if b says so.
abbrev pub store : Bool → ℕ → ℕ → List ℕ → List ℕ
store b a w l = cond b (set l a w) l

-- A list with f p at the number `at p` for each port p below n.
unfoldable pub put_below : (ℕ → ℕ) → (ℕ → ℕ) → ℕ → List ℕ → List ℕ
put_below at f zero l = l
put_below at f (suc n) l = set (put_below at f n l) (at n) (f n)

-- What the ports give and answer at line a.
module _ (s : Shape) (t : Model) (a : ℕ) where
  -- The word of the line for one who doesn't hold it: the lowest-numbered owner's, by intervention, else memory's.
  unfoldable pub word_supplied : ℕ
  word_supplied = at_or (word_at s t a) (memory_at t a) (lowest (owns s t a) s.ports)

  -- The state byte and the word of port p's entry at the line's index, after the ports that `asked` names have answered bus command b by the
  -- snoop table, where the line's word is then w. Any other port's entry stays.
  unfoldable pub byte_answered : (ℕ → Bool) → Bus → ℕ → ℕ
  byte_answered asked b p = cond (asked p) (code (snooped b (seen s t a p))) (get_or t.states (entry_of s a p) 0)

  unfoldable pub word_answered : (ℕ → Bool) → Bus → ℕ → ℕ → ℕ
  word_answered asked b w p = cond (asked p && updates b) w (word_at s t a p)

-- Below, i is the port and a the line.
module _ (s : Shape) (t : Model) (i a : ℕ) where
  -- Another port holds the line.
  unfoldable pub shared : Bool
  shared = any_below (λ p. not (eqb p i) && holds s t a p) s.ports

  -- The word that the port finds: its own on a hit, else the one that is supplied.
  unfoldable pub word_found : ℕ
  word_found = cond (holds s t a i) (word_at s t a i) (word_supplied s t a)

  -- The word is fetched from memory: a miss, and there is no owner.
  unfoldable pub fetches : Bool
  fetches = not (holds s t a i) && not (dirty s t a)

  -- A miss takes over the port's entry at the line's index. The victim is the home line of that entry; if the entry is O or M, its word is
  -- stored at the victim.
  abbrev pub victim : ℕ
  victim = home_at s t (entry_of s a i)

  unfoldable pub evicts_owner : Bool
  evicts_owner = not (holds s t a i) && owner (state_at t (entry_of s a i))

  -- The state byte and the word of port p's entry at the line's index after rule r, where the line's word is then w: the port's own; another
  -- holder's, as it answers; any other entry's stays.
  unfoldable pub byte_after : Rule → ℕ → ℕ
  byte_after r p = cond (eqb p i) (code r.own) (byte_answered s t a (holds s t a) r.bus p)

  unfoldable pub word_after : Rule → ℕ → ℕ → ℕ
  word_after r w p = cond (eqb p i) w (word_answered s t a (holds s t a) r.bus w p)

  -- Memory and tables after rule r, where the line's word is then w. The evicted word is stored first.
  unfoldable pub applied : Rule → ℕ → Model
  applied r w = record {
    memory = store r.stores a w (store evicts_owner victim (word_at s t a i) t.memory);
    tags = set t.tags (entry_of s a i) (tag_of s a);
    states = put_below (entry_of s a) (byte_after r) s.ports t.states;
    words = put_below (entry_of s a) (word_after r w) s.ports t.words;
  }

  -- The rule of the own table for an access that has the effect e.
  unfoldable pub access_rule : Mode → Effect → Rule
  access_rule m e = rule e.outcome m shared (dirty s t a) (seen s t a i)

  -- A read, a write or a compare-and-swap.
  unfoldable pub accessed : Access → Mode → Result
  accessed acc m =
      let e = effect_at acc word_found in
      let r = access_rule m e in
      result (accepted e.value (bit e.swapped) (bit fetches) (bit evicts_owner + bit r.stores)) (applied r e.word)

  -- A flush: nothing changes where the port does not hold the line.
  unfoldable pub flushed : Result
  flushed =
      let r = flush_rule (seen s t a i) in
      cond (holds s t a i) (result (accepted 0 0 0 (bit r.stores)) (applied r (word_at s t a i))) (result (accepted 0 0 0 0) t)

-- A device write: the word that is supplied is merged and stored in memory, and every holder becomes I, as the snoop table has it; tags and
-- words stay. A merge from memory counts one read, whatever the mask; the store counts one write.
unfoldable pub device_written : Shape → Model → ℕ → ℕ → ℕ → Result
device_written s t a mask x =
    result (accepted 0 0 (bit (not (dirty s t a))) 1) (record {
      memory = set t.memory a (merge mask (word_supplied s t a) x);
      tags = t.tags;
      states = put_below (entry_of s a) (byte_answered s t a (holds s t a) Invalidate) s.ports t.states;
      words = t.words;
    })

-- What a call does to line a, where no entry that it looks at is unsound. A device read fetches memory's word.
unfoldable pub called : Shape → Model → Call → ℕ → Result
called s t (ByPort acc m i) a = accessed s t i a acc m
called s t (Flush i) a = flushed s t i a
called s t DeviceRead a = result (accepted (memory_at t a) 0 1 0) t
called s t (DeviceWrite mask x) a = device_written s t a mask x

-- Refusal 8, where the call looks at the entries at its line's index and one of them is not sound.
unfoldable pub perform : Shape → Model → Decoded → Result
perform s t (Refused n) = refuse n t
perform s t (Asked c a) = cond (looks c && not (column_sound s t a)) (refuse 8 t) (called s t c a)

-- Refusals 2, 3 and 12 come first, then those of the order.
unfoldable pub step : Shape → Order → Model → Result
step s o t = cond (eqb (lent_refusal s t) 0) (perform s t (decode s o)) (refuse (lent_refusal s t) t)
