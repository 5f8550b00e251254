-- By which rows an order goes on main memory and tables, and what a design does that takes all it knows of the protocol from the cells of these rows.
use Rattle.std.specs.Prelude.{ℕ, zero, suc, ◌+◌, Bool, true, false, cond, ◌&&◌, ◌||◌, not, List, [], ◌∷◌, get_or, set, eqb}
use Rattle.words.specs.Bools.{bit}
use Rattle.words.specs.Word.{merge}
use Rattle.words.specs.declared.access.Access.{Access}
use Rattle.words.specs.declared.access.Outcome.{Outcome}
use Rattle.words.specs.declared.access.Outcome.TheVariants.{Reads}
use Rattle.words.specs.declared.access.Effect.{Effect}
use Rattle.words.specs.Access.{effect_at}
use Rattle.protocol.specs.declared.state.Mode.{Mode}
use Rattle.protocol.specs.declared.rules.Bus.{Bus}
use Rattle.protocol.specs.Coded.{bus_at}
use Rattle.shape.specs.declared.Shape.{Shape}
use Rattle.shape.specs.Shape.{tag_of, entry_of}
use Rattle.model.specs.declared.order.Call.{Call}
use Rattle.model.specs.declared.order.Call.TheVariants.{ByPort, Flush, DeviceRead, DeviceWrite}
use Rattle.model.specs.Order.{Decoded, Asked, Refused}
use Rattle.model.specs.Order.{Order, decode}
use Rattle.model.specs.Below.{lowest, at_or}
use Rattle.model.specs.Tables.{Model, state_at, home_at, seen, word_at, memory_at, holds, owns, dirty}
use Rattle.model.specs.Step.{Result, result, accepted, store, put_below, shared}
use Rattle.rows.specs.Cases.{Case, own, snoop, take_over, flush, device_write, device_read}
use Rattle.rows.specs.Cells.{row_of}

-- A cell that says yes; and the command that a row sends.
abbrev pub says : ℕ → Bool
says cell = eqb cell 1

abbrev pub sent : Case → Bus
sent c = bus_at (row_of c).sends

-- The word of line a that a cell names, for port i: its own; the lowest-numbered owner's; memory's.
unfoldable pub word_from : Shape → Model → ℕ → ℕ → ℕ → ℕ
word_from s t i a cell =
    cond (eqb cell 0) (word_at s t a i) (cond (eqb cell 1) (at_or (word_at s t a) 0 (lowest (owns s t a) s.ports)) (memory_at t a))

-- An access by port i of line a, in the mode m: the row of an outcome; the word that is found, by the row of a read, for all outcomes name the same
-- one; what the access does at that word; and the row that it goes by.
module _ (s : Shape) (t : Model) (i a : ℕ) (m : Mode) where
  abbrev pub own_case : Outcome → Case
  own_case k = own k m (shared s t i a) (dirty s t a) (seen s t a i)

  unfoldable pub effect_here : Access → Effect
  effect_here acc = effect_at acc (word_from s t i a (row_of (own_case Reads)).word)

  abbrev pub access_case : Access → Case
  access_case acc = own_case (effect_here acc).outcome

-- The entry that port i has at the index of line a, where a miss takes it over.
abbrev pub taken_case : Shape → Model → ℕ → ℕ → Case
taken_case s t i a = take_over (state_at t (entry_of s a i))

-- The holders of line a but port i.
abbrev pub others : Shape → Model → ℕ → ℕ → ℕ → Bool
others s t i a p = not (eqb p i) && holds s t a p

-- A row for each of the first n ports that `asked` names: it hears command b, as a holder of line a.
unfoldable pub heard_by : Shape → Model → ℕ → (ℕ → Bool) → Bus → ℕ → List Case
heard_by s t a asked b zero = []
heard_by s t a asked b (suc n) = cond (asked n) (snoop b (seen s t a n) ∷ heard_by s t a asked b n) (heard_by s t a asked b n)

-- The rows of a call on line a: its own; on a miss, that of the entry which is taken over; and one for each holder that hears the command. Nobody hears
-- of a flush or of a device read.
unfoldable pub cases_of : Shape → Model → Call → ℕ → List Case
cases_of s t (ByPort acc m i) a =
    let c = access_case s t i a m acc in
    let heard = heard_by s t a (others s t i a) (sent c) s.ports in
    c ∷ cond (holds s t a i) heard (taken_case s t i a ∷ heard)
cases_of s t (Flush i) a = flush (seen s t a i) ∷ []
cases_of s t DeviceRead a = device_read ∷ []
cases_of s t (DeviceWrite mask x) a =
    let c = device_write (dirty s t a) in
    c ∷ heard_by s t a (holds s t a) (sent c) s.ports

-- The rows of an order. One that is refused by its word has none.
unfoldable pub rows_of : Shape → Model → Decoded → List Case
rows_of s t (Refused n) = []
rows_of s t (Asked c a) = cases_of s t c a

abbrev pub order_rows : Shape → Model → Order → List Case
order_rows s t o = rows_of s t (decode s o)

-- A test of every row of a list, of any, and the sum over them.
unfoldable pub every_row : (Case → Bool) → List Case → Bool
every_row f [] = true
every_row f (c ∷ cs) = f c && every_row f cs

unfoldable pub any_row : (Case → Bool) → List Case → Bool
any_row f [] = false
any_row f (c ∷ cs) = f c || any_row f cs

unfoldable pub sum_over : (Case → ℕ) → List Case → ℕ
sum_over f [] = 0
sum_over f (c ∷ cs) = f c + sum_over f cs

-- An accepted answer whose counts are the sums over the rows of a call.
abbrev pub answered : ℕ → ℕ → List Case → Model → Result
answered value swapped cs t = result (accepted value swapped (sum_over (λ c. (row_of c).reads) cs) (sum_over (λ c. (row_of c).writes) cs)) t

-- The state byte and the word of port p's entry at the line's index, after its holders heard command b, where the line's word is then w. Any other
-- entry stays.
unfoldable pub heard_byte : Shape → Model → ℕ → Bus → ℕ → ℕ
heard_byte s t a b p = cond (holds s t a p) (row_of (snoop b (seen s t a p))).next (get_or t.states (entry_of s a p) 0)

unfoldable pub heard_word : Shape → Model → ℕ → Bus → ℕ → ℕ → ℕ
heard_word s t a b w p = cond (holds s t a p && says (row_of (snoop b (seen s t a p))).takes) w (word_at s t a p)

-- What such a design leaves of memory and tables. An access: the entry that is taken over is stored at its home line, where its row says so, and then
-- the line's word at the line; the port's entry has the line's tag, the next state and the line's word.
unfoldable pub access_leaves : Shape → Model → ℕ → ℕ → Mode → Access → Model
access_leaves s t i a m acc =
    let c = access_case s t i a m acc in
    let w = (effect_here s t i a m acc).word in
    let at = entry_of s a i in
    record {
      memory = store (says (row_of c).writes) a w
          (store (not (holds s t a i) && says (row_of (taken_case s t i a)).writes) (home_at s t at) (word_at s t a i) t.memory);
      tags = set t.tags at (tag_of s a);
      states = put_below (entry_of s a) (λ p. cond (eqb p i) (row_of c).next (heard_byte s t a (sent c) p)) s.ports t.states;
      words = put_below (entry_of s a) (λ p. cond (eqb p i) w (heard_word s t a (sent c) w p)) s.ports t.words;
    }

-- A flush by a holder: its word is stored, where the row says so, and its entry has the next state. Where the port does not hold the line nothing
-- changes.
unfoldable pub flush_leaves : Shape → Model → ℕ → ℕ → Model
flush_leaves s t i a =
    let r = row_of (flush (seen s t a i)) in
    cond (holds s t a i) (record {
      memory = store (says r.writes) a (word_at s t a i) t.memory;
      tags = t.tags;
      states = set t.states (entry_of s a i) r.next;
      words = t.words;
    }) t

-- A device write: the word that the row names is merged and stored, where the row says so, and the holders hear the command.
unfoldable pub write_leaves : Shape → Model → ℕ → ℕ → ℕ → Model
write_leaves s t a mask x =
    let c = device_write (dirty s t a) in
    let w = merge mask (word_from s t 0 a (row_of c).word) x in
    record {
      memory = store (says (row_of c).writes) a w t.memory;
      tags = t.tags;
      states = put_below (entry_of s a) (heard_byte s t a (sent c)) s.ports t.states;
      words = put_below (entry_of s a) (heard_word s t a (sent c) w) s.ports t.words;
    }

-- The answer of such a design, and what it leaves: an access answers by the word that it finds, a device read the word that its row names, and the counts
-- are the sums over the rows.
unfoldable pub designed : Shape → Model → Call → ℕ → Result
designed s t (ByPort acc m i) a =
    let e = effect_here s t i a m acc in
    answered e.value (bit e.swapped) (cases_of s t (ByPort acc m i) a) (access_leaves s t i a m acc)
designed s t (Flush i) a = answered 0 0 (cases_of s t (Flush i) a) (flush_leaves s t i a)
designed s t DeviceRead a = answered (word_from s t 0 a (row_of device_read).word) 0 (cases_of s t DeviceRead a) t
designed s t (DeviceWrite mask x) a = answered 0 0 (cases_of s t (DeviceWrite mask x) a) (write_leaves s t a mask x)
