-- The example's totals, by computation. Assumes nothing.
use mathlib.Core.Path.{refl}
use Rattle.endian.specs.Little.{number, bytes_of, encoded}
use Rattle.model.proofs.Computing.{computing}
use Rattle.replay.specs.Trace.{trace_refusal, order_at, orders_of, start}
use Rattle.replay.specs.Example.{example}
use Rattle.counters.specs.Totals.{high, full, totals_after, step_totals}
use Rattle.counters.specs.Run.{totals_with}
use Rattle.tally.specs.Tally.{tallied}
use Rattle.tally.specs.Example.{ExampleTallied}

pub example_tallied : ExampleTallied
unfolding computing number bytes_of encoded trace_refusal order_at orders_of start example high full totals_after step_totals totals_with tallied
example_tallied = refl
