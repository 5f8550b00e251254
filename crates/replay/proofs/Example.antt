-- Document 01's example, by computation. Assumes nothing.
use mathlib.Core.Path.{refl}
use Rattle.endian.specs.Little.{number, bytes_of, encoded}
use Rattle.model.specs.Audit.{entries_sound, every_two, line_passes, tables_pass, audit}
use Rattle.model.specs.Marks.{model_run}
use Rattle.model.proofs.Computing.{computing}
use Rattle.replay.specs.Trace.{trace_refusal, order_at, orders_of, answers_to, start, played, answers_of}
use Rattle.replay.specs.Example.{example, ExampleHolds}

pub example_holds : ExampleHolds
unfolding computing number bytes_of encoded entries_sound every_two line_passes tables_pass audit trace_refusal order_at orders_of model_run answers_to
    start played answers_of example
example_holds = (refl, refl)
