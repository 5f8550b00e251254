-- An order: a word and an operand, and what the word says.
use Rattle.std.specs.Prelude.{ℕ, Option, Some, None, Result, Ok, Err, ◌/◌, ◌%◌, ◌^◌, ◌<◌, Bool, true, false, cond, ◌&&◌, ◌||◌, not, eqb, ltb, leb}
use Rattle.protocol.specs.declared.state.Mode.{Mode}
use Rattle.protocol.specs.declared.state.Mode.TheVariants.{Through, Back}
use Rattle.words.specs.declared.access.Access.TheVariants.{Read, Write, Swap}
use Rattle.refusals.specs.declared.Refusal.{Refusal}
use Rattle.refusals.specs.Numbers.{number}
use Rattle.shape.specs.declared.Shape.{Shape}
use Rattle.model.specs.declared.order.Kind.{Kind}
use Rattle.model.specs.declared.order.Call.{Call}
use Rattle.model.specs.declared.order.Call.TheVariants.{ByPort, Flush, DeviceRead, DeviceWrite}
use Rattle.shape.specs.Range.{inside}

-- An order word and its operand, taken apart: the call and its line, or the number of the refusal.
pub data Decoded : Type 0 where
  Asked : Call → ℕ → Decoded
  Refused : ℕ → Decoded

-- The code's answer as such.
abbrev pub decoded : Result (Call × ℕ) Refusal → Decoded
decoded (Ok p) = Asked p.0 p.1
decoded (Err r) = Refused (number r)

pub record Order : Type 0 where
  pub word : ℕ
  pub operand : ℕ

-- The n bits of w from bit k up.
abbrev pub bits : ℕ → ℕ → ℕ → ℕ
bits w k n = w / 2 ^ k % 2 ^ n

-- How many kinds of orders there are, from kind 0 up.
abbrev pub kinds : ℕ
kinds = 6

-- The number of each kind, and the kind of a number; from `kinds` on a number is none.
abbrev pub kind_number : Kind → ℕ
kind_number Kind.Read = 0
kind_number Kind.Write = 1
kind_number Kind.Swap = 2
kind_number Kind.Flush = 3
kind_number Kind.DeviceRead = 4
kind_number Kind.DeviceWrite = 5

unfoldable pub kind_at : ℕ → Option Kind
kind_at n =
    cond (eqb n 0) (Some Kind.Read)
    (cond (eqb n 1) (Some Kind.Write)
    (cond (eqb n 2) (Some Kind.Swap)
    (cond (eqb n 3) (Some Kind.Flush)
    (cond (eqb n 4) (Some Kind.DeviceRead)
    (cond (eqb n 5) (Some Kind.DeviceWrite) None)))))

-- The kind that an order's word says: its lowest three bits.
abbrev pub kind_of : Order → ℕ
kind_of o = bits o.word 0 3

-- The mode in which an order of word w runs on line a: write back inside the scratch range, which is looked up first; write through inside the
-- device range; elsewhere the word's bit 3 stands, 1 for write back. Nothing else reads that bit.
unfoldable pub mode_in_force : Shape → ℕ → ℕ → Mode
mode_in_force s w a =
    cond (inside s.scratch a) Back
    (cond (inside s.device a) Through
    (cond (eqb (bits w 3 1) 1) Back Through))

-- The kinds that name a port: read, write, compare-and-swap and flush.
abbrev pub has_port : ℕ → Bool
has_port kind = ltb kind 4

-- Refusals 4 to 7, in checking order, else the call and its line.
unfoldable pub checked : Shape → ℕ → ℕ → ℕ → ℕ → Call → Decoded
checked s kind port mask line call =
    cond (leb kinds kind) (Refused 4)
    (cond (has_port kind && leb s.ports port) (Refused 5)
    (cond (leb s.lines line) (Refused 6)
    (cond (eqb kind 2 && not (eqb mask 0x0F || eqb mask 0xF0)) (Refused 7)
    (Asked call line))))

-- What the kinds 0 to 5 ask: read, write, compare-and-swap, flush, device read and device write. Each takes the fields that it uses.
-- (Kinds 6 and 7 are refused first.)
unfoldable pub call_of : ℕ → Mode → ℕ → ℕ → ℕ → ℕ → Call
call_of kind m port mask compare x =
    cond (eqb kind 0) (ByPort Read m port)
    (cond (eqb kind 1) (ByPort (Write mask x) m port)
    (cond (eqb kind 2) (ByPort (Swap mask x compare) m port)
    (cond (eqb kind 3) (Flush port)
    (cond (eqb kind 4) DeviceRead
    (DeviceWrite mask x)))))

-- The fields of the word: 0–2 kind, 3 mode, 4–7 port, 8–15 byte mask, 16–31 line, 32–63 compare value.
unfoldable pub decode : Shape → Order → Decoded
decode s o =
    let kind = kind_of o in
    let port = bits o.word 4 4 in
    let mask = bits o.word 8 8 in
    let line = bits o.word 16 16 in
    let compare = bits o.word 32 32 in
    checked s kind port mask line (call_of kind (mode_in_force s o.word line) port mask compare o.operand)

-- The call looks at the ports' entries at its line's index: all but a device read.
abbrev pub looks : Call → Bool
looks (ByPort acc m i) = true
looks (Flush i) = true
looks DeviceRead = false
looks (DeviceWrite mask x) = true

-- The call's port, where it names one, is below ports; and its line is below lines.
abbrev pub PortThere : Shape → Call → Type 0
PortThere s (ByPort acc m i) = i < s.ports
PortThere s (Flush i) = i < s.ports
PortThere s DeviceRead = Unit {0}
PortThere s (DeviceWrite mask x) = Unit {0}

abbrev pub There : Shape → Call → ℕ → Type 0
There s c a = PortThere s c × (a < s.lines)
