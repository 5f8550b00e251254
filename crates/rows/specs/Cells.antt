-- What stands in a row: its cells as numbers. A cell that a table does not have is blank.
use Rattle.std.specs.Prelude.{ℕ, Bool, false, cond, ◌&&◌, not, eqb}
use Rattle.words.specs.Bools.{bit}
use Rattle.protocol.specs.declared.rules.Bus.TheVariants.{Invalidate}
use Rattle.protocol.specs.State.{code, state_of, or_invalid, valid, owner}
use Rattle.protocol.specs.Rules.{rule, flush_rule, snooped, updates}
use Rattle.protocol.specs.Coded.{bus_number, bus_at, mode_number, mode_at}
use Rattle.rows.specs.Cases.{Case, own, snoop, take_over, flush, device_write, device_read, audited, outcome_number, outcome_in_turn}

abbrev pub blank : ℕ
blank = 255

-- The cells of a row: the table, then what is known before, what follows, and whether tables that pass the audit have the case. States are by their
-- bytes, bus commands by their numbers; an outcome is 0 for a read, 1 for a write, 2 for a rewrite; a mode 0 for write through; a word is the port's
-- own (0), the lowest-numbered owner's (1) or memory's (2).
pub record Cells : Type 0 where
  pub table : ℕ
  pub access : ℕ
  pub mode : ℕ
  pub shared : ℕ
  pub dirty : ℕ
  pub hears : ℕ
  pub state : ℕ
  pub next : ℕ
  pub sends : ℕ
  pub word : ℕ
  pub takes : ℕ
  pub reads : ℕ
  pub writes : ℕ
  pub audited : ℕ

-- Where the line's word comes from, by whether the port holds the line and whether the line is dirty: 0, the port's own entry; 1, the
-- lowest-numbered owner; 2, memory.
unfoldable pub source_of : Bool → Bool → ℕ
source_of hit dirty = cond hit 0 (cond dirty 1 2)

-- The memory words that are fetched and stored by the rule of a row. (A store of a row of `own` is at the line; one of `take_over` is at the home
-- line of the entry that is taken over.)
unfoldable pub reads_in : Case → ℕ
reads_in (own k m shared dirty s) = bit (not (valid s) && not dirty)
reads_in (snoop b s) = 0
reads_in (take_over s) = 0
reads_in (flush s) = 0
reads_in (device_write dirty) = bit (not dirty)
reads_in device_read = 1

unfoldable pub writes_in : Case → ℕ
writes_in (own k m shared dirty s) = bit (rule k m shared dirty s).stores
writes_in (snoop b s) = 0
writes_in (take_over s) = bit (owner s)
writes_in (flush s) = bit (flush_rule s).stores
writes_in (device_write dirty) = 1
writes_in device_read = 0

-- A row: the table that it is in, by its number; what is known before, access, mode, shared, dirty, the command that is heard, the state; what
-- follows, the next state, the command that is sent, where the word comes from, whether the holder takes the line's new word, memory reads and
-- writes; and whether tables that pass the audit have the case.
abbrev pub row : ℕ → ℕ → ℕ → ℕ → ℕ → ℕ → ℕ → ℕ → ℕ → ℕ → ℕ → Case → Cells
row table access mode shared dirty hears state next sends word takes c = record {
  table = table;
  access = access;
  mode = mode;
  shared = shared;
  dirty = dirty;
  hears = hears;
  state = state;
  next = next;
  sends = sends;
  word = word;
  takes = takes;
  reads = reads_in c;
  writes = writes_in c;
  audited = bit (audited c);
}

unfoldable pub row_of : Case → Cells
row_of (own k m shared dirty s) =
    let r = rule k m shared dirty s in
    row 0 (outcome_number k) (mode_number m) (bit shared) (bit dirty) blank (code s) (code r.own) (bus_number r.bus) (source_of (valid s) dirty) blank
    (own k m shared dirty s)
row_of (snoop b s) = row 1 blank blank blank blank (bus_number b) (code s) (code (snooped b s)) blank blank (bit (updates b)) (snoop b s)
row_of (take_over s) = row 2 blank blank blank blank blank (code s) blank blank blank blank (take_over s)
row_of (flush s) = row 3 blank blank blank blank blank (code s) (code (flush_rule s).own) blank blank blank (flush s)
row_of (device_write dirty) =
    row 4 blank blank blank (bit dirty) blank blank blank (bus_number Invalidate) (source_of false dirty) blank (device_write dirty)
row_of device_read = row 5 blank blank blank blank blank blank blank blank (source_of false false) blank device_read

-- The case that a row is of, by the cells that are known before.
unfoldable pub case_named : Cells → Case
case_named r =
    let state = or_invalid (state_of r.state) in
    cond (eqb r.table 0) (own (outcome_in_turn r.access) (mode_at r.mode) (eqb r.shared 1) (eqb r.dirty 1) state)
    (cond (eqb r.table 1) (snoop (bus_at r.hears) state)
    (cond (eqb r.table 2) (take_over state)
    (cond (eqb r.table 3) (flush state)
    (cond (eqb r.table 4) (device_write (eqb r.dirty 1))
    device_read))))

-- For the code: a row of a table before its cells are filled in, with no memory access, and met on tables that pass the audit.
abbrev pub blank_row : ℕ → Cells
blank_row table = record {
  table = table;
  access = blank;
  mode = blank;
  shared = blank;
  dirty = blank;
  hears = blank;
  state = blank;
  next = blank;
  sends = blank;
  word = blank;
  takes = blank;
  reads = 0;
  writes = 0;
  audited = 1;
}
