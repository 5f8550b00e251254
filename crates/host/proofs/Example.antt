-- The example of README.md, by computation. Assumes nothing.
use Prim.Native.Nat.{zero, suc}
use mathlib.Core.Path.{refl}
use mathlib.Core.List.{◌∷◌}
use native.Mathlib.Omega.{arith}
use lib.ListN.{replicate}
use Rattle.endian.specs.Little.{number, bytes_of, numbers, encoded}
use Rattle.answers.specs.Answers.{answer_bytes, answer_in}
use Rattle.lengths.specs.Lengths.{tables_fit, bytes_fit, refusal_by}
use Rattle.ports.specs.Bytes.{model_in}
use Rattle.model.proofs.Computing.{computing}
use Rattle.counters.specs.Totals.{high, full, totals_after, step_totals}
use Rattle.host.specs.Host.{in_bytes, refusal_put, host_step, host_fresh}
use Rattle.host.specs.Totals.{record_refusal, record_refused, host_step_totals}
use Rattle.host.specs.Calls.{AllRoom}
use Rattle.host.specs.ReadBack.{AreBytes}
use Rattle.host.proofs.ReadBack.{same_below}
use Rattle.host.specs.Example.{lent_bytes, example_calls, answers_over, ExampleHolds}

memory_bytes_lem : AreBytes (5 ∷ replicate 15 0)
memory_bytes_lem zero = omega arith
memory_bytes_lem (suc k) = same_below 256 15 0 (omega arith) k

pub example_holds : ExampleHolds
unfolding computing number bytes_of numbers encoded answer_bytes answer_in tables_fit bytes_fit refusal_by model_in high full totals_after step_totals in_bytes host_step host_fresh
    record_refusal record_refused refusal_put host_step_totals AllRoom lent_bytes example_calls answers_over
example_holds = (
  record {
    bytes = record {
      memory = memory_bytes_lem;
      tags = same_below 256 8 255 (omega arith);
      states = same_below 256 2 255 (omega arith);
      words = same_below 256 16 255 (omega arith);
    };
    accepted = refl;
    room = (refl, ((refl, refl, refl), ((refl, refl, refl), (refl, tt))));
  },
  refl,
)
