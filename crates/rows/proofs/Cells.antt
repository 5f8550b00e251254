-- Laws of the cells of a row. Assumes nothing.
use mathlib.Core.Path.{◌≡◌, refl}
use mathlib.Core.Bool.{Bool, true, false}
use Rattle.words.specs.Bools.{bit}
use Rattle.words.specs.declared.access.Outcome.{Outcome}
use Rattle.protocol.specs.declared.state.Mode.{Mode}
use Rattle.protocol.specs.declared.state.State.{State}
use Rattle.protocol.specs.declared.rules.Bus.{Bus}
use Rattle.protocol.specs.declared.rules.Bus.TheVariants.{Invalidate}
use Rattle.protocol.specs.Rules.{rule, updates}
use Rattle.protocol.proofs.Numbers.{bus_at_lem}
use Rattle.rows.specs.Cases.{Case, own, snoop, take_over, flush, device_write, device_read, audited}
use Rattle.rows.specs.Cells.{row_of}
use Rattle.rows.specs.Orders.{says, sent}
use Rattle.rows.specs.Claims.{says_audited}

-- What the cells of a row say.
pub says-bit : (b : Bool) → says (bit b) ≡ b
says-bit true = refl
says-bit false = refl

pub sent_own : (k : Outcome) (m : Mode) (shared dirty : Bool) (s : State) → sent (own k m shared dirty s) ≡ (rule k m shared dirty s).bus
unfolding row_of
sent_own k m shared dirty s = bus_at_lem (rule k m shared dirty s).bus

pub sent_device : (dirty : Bool) → sent (device_write dirty) ≡ Invalidate
unfolding row_of
sent_device dirty = bus_at_lem Invalidate

pub takes_says : (b : Bus) (s : State) → says (row_of (snoop b s)).takes ≡ updates b
unfolding row_of
takes_says b s = says-bit (updates b)

pub audited-says : (c : Case) → says_audited c ≡ audited c
unfolding row_of
audited-says (own k m shared dirty s) = says-bit (audited (own k m shared dirty s))
audited-says (snoop b s) = says-bit (audited (snoop b s))
audited-says (take_over s) = says-bit (audited (take_over s))
audited-says (flush s) = says-bit (audited (flush s))
audited-says (device_write dirty) = says-bit (audited (device_write dirty))
audited-says device_read = says-bit (audited device_read)
