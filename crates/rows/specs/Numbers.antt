-- The cells of a row of the code in numbers, a blank where it has none.
use Rattle.std.specs.Prelude.{ℕ, Option, None, Some}
use Rattle.words.specs.Bools.{bit}
use Rattle.protocol.specs.State.{code}
use Rattle.protocol.specs.Coded.{bus_number, mode_number}
use Rattle.rows.specs.declared.Table.{Table}
use Rattle.rows.specs.declared.Table.TheVariants.{Access, Snoop, TakeOver, Flush, DeviceWrite, DeviceRead}
use Rattle.rows.specs.declared.Source.{Source}
use Rattle.rows.specs.declared.Source.TheVariants.{Own, Owner, Memory}
use Rattle.rows.specs.declared.Row.{Row}
use Rattle.rows.specs.Cases.{outcome_number}
use Rattle.rows.specs.Cells.{Cells, blank}

abbrev pub table_number : Table → ℕ
table_number Access = 0
table_number Snoop = 1
table_number TakeOver = 2
table_number Flush = 3
table_number DeviceWrite = 4
table_number DeviceRead = 5

abbrev pub source_number : Source → ℕ
source_number Own = 0
source_number Owner = 1
source_number Memory = 2

abbrev pub cell : {A : Type 0} → (A → ℕ) → Option A → ℕ
cell f None = blank
cell f (Some x) = f x

abbrev pub cells : Row → Cells
cells r = record {
  table = table_number r.table;
  access = cell outcome_number r.access;
  mode = cell mode_number r.mode;
  shared = cell bit r.shared;
  dirty = cell bit r.dirty;
  hears = cell bus_number r.hears;
  state = cell code r.state;
  next = cell code r.next;
  sends = cell bus_number r.sends;
  word = cell source_number r.word;
  takes = cell bit r.takes;
  reads = bit r.reads;
  writes = bit r.writes;
  audited = bit r.audited;
}
