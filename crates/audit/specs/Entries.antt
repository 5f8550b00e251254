-- The tests of two entries, of one, and of all, as the code makes them. What two entries ask of each other goes both ways, so it is asked
-- once, of the higher port's entry.
use Rattle.std.specs.Prelude.{Option, Some, None}
use Rattle.std.specs.Prelude.{ℕ, ◌+◌, ◌*◌, ◌/◌, ◌%◌, Bool, false, cond, ◌&&◌, ◌||◌, not, List, get_or, eqb, leb}
use Rattle.protocol.specs.declared.state.Mode.TheVariants.{Through, Back}
use Rattle.protocol.specs.declared.state.State.{State}
use Rattle.protocol.specs.declared.state.State.TheVariants.{I, S, E, O, M}
use Rattle.protocol.specs.State.{state_of}
use Rattle.shape.specs.declared.Shape.{Shape}
use Rattle.shape.specs.Shape.{entry_number}
use Rattle.model.specs.Below.{all_below, any_below}
use Rattle.model.specs.Tables.{Model, memory_at}
use Rattle.audit.specs.declared.Held.{Held}

-- The class of a state, as a number: 0 for I; else 8, and 1 more for write back, 2 more for E or M, 4 more for O or M. A byte that is no
-- state has class 1.
abbrev pub class_number : State → ℕ
class_number I = 0
class_number (S Through) = 8
class_number (S Back) = 9
class_number (E Through) = 10
class_number (E Back) = 11
class_number O = 13
class_number M = 15

abbrev pub class_of : Option State → ℕ
class_of (Some s) = class_number s
class_of None = 1

-- What a class says: E or M; O or M.
abbrev pub is_exclusive : ℕ → Bool
is_exclusive n = eqb (n / 2 % 2) 1

abbrev pub is_owner : ℕ → Bool
is_owner n = eqb (n / 4 % 2) 1

-- Entry k, and the entry of port q at index x.
unfoldable pub held_at : Model → ℕ → Held
held_at t k = record { tag = get_or t.tags k 0; class = class_of (state_of (get_or t.states k 0)); word = get_or t.words k 0 }

abbrev pub held_by : Shape → Model → ℕ → ℕ → Held
held_by s t x q = held_at t (entry_number s q x)

-- The classes n and m of two holders of one line are compatible: of one mode, neither E or M, and not both O or M.
unfoldable pub compatible : ℕ → ℕ → Bool
compatible n m = eqb (m % 2) (n % 2) && not (is_exclusive n || is_exclusive m) && not (is_owner n && is_owner m)

-- Entry e, which is not I, goes with the entry f of another port that has its tag: f is I (or no state, which fails at its own port); or
-- they have one word and their classes are compatible.
unfoldable pub goes_with : Held → Held → Bool
goes_with e f = not (leb 8 f.class) || eqb f.word e.word && compatible e.class f.class

-- The same of any entry f of another port at e's index: it may be of another line.
unfoldable pub pair_passes : Held → Held → Bool
pair_passes e f = not (eqb f.tag e.tag) || goes_with e f

-- In tables of tags g and states h, entry k has the tag given and is O or M; and some port's entry at index x is so.
unfoldable pub owns_at : List ℕ → List ℕ → ℕ → ℕ → Bool
owns_at g h tag k = eqb (get_or g k 0) tag && is_owner (class_of (state_of (get_or h k 0)))

unfoldable pub owned_at : Shape → List ℕ → List ℕ → ℕ → ℕ → Bool
owned_at s g h x tag = any_below (λ q. owns_at g h tag (entry_number s q x)) s.ports

-- Entry e goes with the entry at index x of every port below p.
unfoldable pub below_pass : Shape → Model → ℕ → ℕ → Held → Bool
below_pass s t x p e = all_below (λ q. pair_passes e (held_by s t x q)) p

-- Port p's entry e at index x passes: it is I; or its home line is there, it goes with the entries of the ports below p, and memory has
-- its word, or it or some port's entry owns the line.
unfoldable pub passes_with : Shape → Model → ℕ → ℕ → Held → Bool
passes_with s t x p e =
    let home = e.tag * s.sets + x in
    cond (leb 8 e.class)
    (cond (leb s.lines home) false
    (below_pass s t x p e && (eqb e.word (memory_at t home) || is_owner e.class || owned_at s t.tags t.states x e.tag)))
    (eqb e.class 0)

unfoldable pub entry_passes : Shape → Model → ℕ → ℕ → Bool
entry_passes s t x p = passes_with s t x p (held_by s t x p)

-- Every port's entry at index x passes, and every entry of the tables.
unfoldable pub index_passes : Shape → Model → ℕ → Bool
index_passes s t x = all_below (entry_passes s t x) s.ports

unfoldable pub columns_pass : Shape → Model → Bool
columns_pass s t = all_below (index_passes s t) s.sets
