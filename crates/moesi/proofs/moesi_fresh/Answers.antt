-- The tables are cleared, or a refusal leaves them. Assumes nothing.
use Rattle.std.proofs.Common.{refl, ◌∙◌}
use Rattle.ports.specs.Bytes.{bytes}
use Rattle.refusals.proofs.Numbers.{some_number}
use Rattle.host.specs.ReadBack.{OfBytes}
use Rattle.host.proofs.Host.{of_bytes, fresh-accepted, fresh-refused}
use Rattle.moesi.proofs.moesi_fresh.Goals as goal

pub returns-in-Err : goal.returns-in-Err
returns-in-Err c = (
  search of_bytes,
  rw (← c.new-shape.ensures) (fresh-refused _ _ (c.from.ensures ∙ c.in-Err.ensures) (rw c.from.ensures (some_number _))),
)

pub returns : goal.returns
returns c =
    let a = c.args in
    let of : OfBytes (bytes a.memory.now a.tags.now a.states.now a.«data».now) = search of_bytes in (
      of,
      rw (← c.new-shape.ensures) (fresh-accepted _ _ c.in_default.ensures refl of.memory c.clear_bytes.ensures c.clear_bytes-2.ensures
          c.clear_bytes-3.ensures),
    )
