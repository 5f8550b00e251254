-- A small model and an order for each case, that goes by its row: two ports, one set, two lines, every word 5. Where tables that pass the audit have
-- the case, these do. The order is by port 0 and of line 0, or by a device.
use Rattle.std.specs.Prelude.{ℕ, ◌+◌, ◌*◌, Bool, cond, ◌&&◌, not, [], ◌∷◌}
use Rattle.words.specs.declared.access.Outcome.{Outcome}
use Rattle.words.specs.declared.access.Outcome.TheVariants.{Reads, Writes, Rewrites}
use Rattle.protocol.specs.declared.state.Mode.{Mode}
use Rattle.protocol.specs.declared.state.Mode.TheVariants.{Through, Back}
use Rattle.protocol.specs.declared.state.State.{State}
use Rattle.protocol.specs.declared.state.State.TheVariants.{I, S, O, M}
use Rattle.protocol.specs.declared.rules.Bus.{Bus}
use Rattle.protocol.specs.declared.rules.Bus.TheVariants.{Quiet, Share, Update, Invalidate, ShareOwned}
use Rattle.protocol.specs.State.{code, owner, mode_of}
use Rattle.protocol.specs.Coded.{mode_number}
use Rattle.shape.specs.declared.Shape.{Shape}
use Rattle.shape.specs.Shape.{unranged}
use Rattle.model.specs.Order.{Order}
use Rattle.model.specs.Tables.{Model, model}
use Rattle.rows.specs.Cases.{Case, own, snoop, take_over, flush, device_write, device_read}

pub record Example : Type 0 where
  pub tables : Model
  pub order : Order

abbrev pub two_ports : Shape
two_ports = unranged 2 1 2

-- The two ports' states; port 0's entry has the tag g, and port 1's the tag of line 0.
abbrev pub held : ℕ → State → State → Model
held g s u = model (5 ∷ 5 ∷ []) (g ∷ 0 ∷ []) (code s ∷ code u ∷ []) (5 ∷ 5 ∷ [])

abbrev pub example : Model → ℕ → ℕ → Example
example t w x = record { tables = t; order = record { word = w; operand = x } }

-- An access by port 0 of line 0: a read; a write of 9; and a write of nothing, with mask 0.
abbrev pub access_word : Outcome → Mode → ℕ
access_word Reads m = 8 * mode_number m
access_word Writes m = 0xFF01 + 8 * mode_number m
access_word Rewrites m = 1 + 8 * mode_number m

-- The other port's state beside port 0 in state s: it holds the line or doesn't, and owns it where the line is dirty and port 0 is no owner.
abbrev pub beside : Bool → Bool → State → State
beside shared dirty s = cond shared (cond (dirty && not (owner s)) O (S (mode_of s))) I

-- What port 0 has and does where port 1, in state u, is to hear command b.
abbrev pub saying : Bus → State → Example
saying Quiet u = example (held 0 (S (mode_of u)) u) (access_word Reads (mode_of u)) 0
saying (Share Through) u = example (held 0 I u) (access_word Reads Through) 0
saying (Share Back) u = example (held 0 (S Through) u) (access_word Reads Back) 0
saying (Update m) u = example (held 0 (S (mode_of u)) u) (access_word Writes m) 9
saying Invalidate u = example (held 0 I u) (access_word Writes Back) 9
saying ShareOwned u = example (held 0 I u) (access_word Reads Back) 0

unfoldable pub example_of : Case → Example
example_of (own k m shared dirty s) = example (held 0 s (beside shared dirty s)) (access_word k m) 9
example_of (snoop b s) = saying b s
example_of (take_over s) = example (held 1 s I) (access_word Reads Through) 0
example_of (flush s) = example (held 0 s I) 3 0
example_of (device_write dirty) = example (held 0 (cond dirty M I) I) 0xFF05 9
example_of device_read = example (held 0 I I) 4 0
