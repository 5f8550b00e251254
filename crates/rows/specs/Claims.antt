-- What is proved of the published tables, each claim over the cells of their rows. The proofs are in proofs/.
use Rattle.std.specs.Prelude.{ℕ, ◌<◌, ◌≡◌, Bool, true}
use Rattle.words.specs.declared.access.Outcome.{Outcome}
use Rattle.protocol.specs.declared.state.Mode.{Mode}
use Rattle.shape.specs.declared.Shape.{Shape}
use Rattle.model.specs.declared.order.Call.{Call}
use Rattle.model.specs.Order.{Asked}
use Rattle.model.specs.Order.{Order, decode}
use Rattle.model.specs.Tables.{Model}
use Rattle.model.specs.Step.{step, word_found}
use Rattle.model.specs.Audit.{audit}
use Rattle.rows.specs.Cases.{Case, printed, cases, case_number, case_at, same_case}
use Rattle.rows.specs.Cells.{row_of, case_named}
use Rattle.rows.specs.Orders.{says, word_from, own_case, order_rows, every_row, any_row, designed}
use Rattle.rows.specs.Examples.{two_ports, example_of}

-- A row says that tables which pass the audit have its case.
abbrev pub says_audited : Case → Bool
says_audited c = says (row_of c).audited

-- No other case arises: on any tables, by any order, every row that the order goes by is printed.
abbrev pub RowsArePrinted : Type 0
RowsArePrinted = (s : Shape) (t : Model) (o : Order) → every_row printed (order_rows s t o) ≡ true

-- And on tables that pass the audit every such row says so.
abbrev pub RowsAreAudited : Type 0
RowsAreAudited = (s : Shape) (t : Model) (o : Order) → audit s t ≡ true → every_row says_audited (order_rows s t o) ≡ true

-- Every case that is printed arises: its example is accepted and goes by its row, and passes the audit where the row says that such tables have it.
pub record Arises (c : Case) : Type 0 where
  pub accepted : (step two_ports (example_of c).order (example_of c).tables).answer.refusal ≡ 0
  pub goes_by : any_row (same_case c) (order_rows two_ports (example_of c).tables (example_of c).order) ≡ true
  pub passes : says_audited c ≡ true → audit two_ports (example_of c).tables ≡ true

abbrev pub PrintedArise : Type 0
PrintedArise = (c : Case) → printed c ≡ true → Arises c

-- Every case that is printed stands in the tables at its number, and no other stands there.
pub record Places : Type 0 where
  pub stands : (c : Case) → printed c ≡ true → (case_number c < cases) × (case_at (case_number c) ≡ c)
  pub apart : (k : ℕ) → k < cases → case_number (case_at k) ≡ k

-- The cells that are known before name the case: no two cases have one row.
abbrev pub CellsNameCases : Type 0
CellsNameCases = (c : Case) → case_named (row_of c) ≡ c

-- The rows of all outcomes and modes name one word, and a port finds that word.
abbrev pub WordsAreNamed : Type 0
WordsAreNamed = (s : Shape) (t : Model) (i a : ℕ) (k : Outcome) (m : Mode) → word_found s t i a ≡ word_from s t i a (row_of (own_case s t i a m k)).word

-- The rows are the step: on any tables an accepted order answers and leaves what a design does that takes the protocol from the cells of the rows, and
-- from the scope where entries lie, how bytes merge and what a swap compares.
abbrev pub RowsAreStep : Type 0
RowsAreStep =
    (s : Shape) (t : Model) (o : Order) (c : Call) (a : ℕ) → decode s o ≡ Asked c a → (step s o t).answer.refusal ≡ 0
    → step s o t ≡ designed s t c a
