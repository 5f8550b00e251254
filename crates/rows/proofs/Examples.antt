-- Every case that is printed arises: one test, computed over all cases on the examples. Assumes nothing.
use mathlib.Core.Path.{refl}
use mathlib.Core.Bool.{Bool, ◌&&◌}
use lib.Dec.{eqb}
use borrow.Author.Tests.{eqb-true}
use Rattle.words.specs.Bools.{implies}
use Rattle.words.specs.declared.access.Outcome.{Outcome}
use Rattle.words.proofs.Bools.{Is, and_l, and_r, mp}
use Rattle.protocol.specs.declared.state.Mode.{Mode}
use Rattle.protocol.specs.declared.state.State.{State}
use Rattle.protocol.specs.declared.rules.Bus.{Bus}
use Rattle.protocol.specs.Coded.{bus_number, bus_at}
use Rattle.protocol.proofs.Finite.{for_bools, for_modes, for_outcomes, for_states, for_buses, at_bool, at_mode, at_outcome, at_state, at_bus}
use Rattle.model.specs.Step.{step}
use Rattle.model.specs.Audit.{entries_sound, every_two, line_passes, tables_pass, audit}
use Rattle.model.proofs.Computing.{computing}
use Rattle.rows.specs.Cases.{Case, own, snoop, take_over, flush, device_write, device_read, arises, printed, own_audited, snoop_audited, audited}
use Rattle.rows.specs.Cases.{case_number, same_case}
use Rattle.rows.specs.Cells.{source_of, reads_in, writes_in, row_of}
use Rattle.rows.specs.Orders.{word_from, effect_here, heard_by, cases_of, rows_of, order_rows, any_row}
use Rattle.rows.specs.Examples.{two_ports, example_of}
use Rattle.rows.specs.Claims.{says_audited, Arises, PrintedArise}

-- The three facts of a case's example, as one test.
abbrev accepts : Case → Bool
accepts c = eqb (step two_ports (example_of c).order (example_of c).tables).answer.refusal 0

abbrev goes : Case → Bool
goes c = any_row (same_case c) (order_rows two_ports (example_of c).tables (example_of c).order)

abbrev passes : Case → Bool
passes c = implies (says_audited c) (audit two_ports (example_of c).tables)

test : Case → Bool
test c = implies (printed c) (accepts c && goes c && passes c)

tested : (c : Case) → Is (test c) → Is (printed c) → Arises c
unfolding test
tested c h p =
    let all = mp h p in
    record {
      accepted = eqb-true _ _ (and_l (accepts c) (goes c) (and_l (accepts c && goes c) (passes c) all));
      goes_by = and_r (accepts c) (goes c) (and_l (accepts c && goes c) (passes c) all);
      passes = mp (and_r (accepts c && goes c) (passes c) all);
    }

own_tests : Bool
own_tests = for_outcomes (λ k. for_modes (λ m. for_bools (λ shared. for_bools (λ dirty. for_states (λ s. test (own k m shared dirty s))))))

own_tested : Is own_tests → (k : Outcome) (m : Mode) (shared dirty : Bool) (s : State) → Is (test (own k m shared dirty s))
unfolding own_tests
own_tested h k m shared dirty s =
    at_state (λ s. test (own k m shared dirty s))
    (at_bool (λ dirty. for_states (λ s. test (own k m shared dirty s)))
    (at_bool (λ shared. for_bools (λ dirty. for_states (λ s. test (own k m shared dirty s))))
    (at_mode (λ m. for_bools (λ shared. for_bools (λ dirty. for_states (λ s. test (own k m shared dirty s)))))
    (at_outcome (λ k. for_modes (λ m. for_bools (λ shared. for_bools (λ dirty. for_states (λ s. test (own k m shared dirty s))))))
    h k) m) shared) dirty) s

snoop_tested : Is (for_buses (λ b. for_states (λ s. test (snoop b s)))) → (b : Bus) (s : State) → Is (test (snoop b s))
snoop_tested h b s = at_state (λ s. test (snoop b s)) (at_bus (λ b. for_states (λ s. test (snoop b s))) h b) s

all_tested : (c : Case) → Is (test c)
unfolding computing test own_tests arises printed own_audited snoop_audited audited case_number bus_number source_of reads_in writes_in row_of word_from effect_here
    bus_at heard_by cases_of rows_of any_row example_of entries_sound every_two line_passes tables_pass audit
all_tested (own k m shared dirty s) = own_tested refl k m shared dirty s
all_tested (snoop b s) = snoop_tested refl b s
all_tested (take_over s) = at_state (λ s. test (take_over s)) refl s
all_tested (flush s) = at_state (λ s. test (flush s)) refl s
all_tested (device_write dirty) = at_bool (λ dirty. test (device_write dirty)) refl dirty
all_tested device_read = refl

pub printed_arise : PrintedArise
printed_arise c p = tested c (all_tested c) p
