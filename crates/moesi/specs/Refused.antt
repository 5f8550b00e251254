-- Demand 1's last sentence, of every entry point that C has and of every refusal: a refused call changes no lent table and no word of main memory.
-- The proof is in proofs/Refused.antt.
use Rattle.host.specs.Refused.{HostRefusedChangesNothing}
use Rattle.edition.specs.Claims.{RefusedConvertsNothing}

pub record RefusedChangesNothing : Type 0 where
  -- `moesi_step`, `moesi_step_totals`, `moesi_fresh` and `moesi_audit`.
  pub calls : HostRefusedChangesNothing
  -- `moesi_from_old` and `moesi_to_old`.
  pub conversions : RefusedConvertsNothing
