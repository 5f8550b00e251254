-- A refused call changes nothing, whichever it is. Assumes nothing.
use Rattle.host.proofs.Refused.{host_refused_changes_nothing}
use Rattle.edition.proofs.Claims.{refused_converts_nothing}
use Rattle.moesi.specs.Refused.{RefusedChangesNothing}

pub refused_changes_nothing : RefusedChangesNothing
refused_changes_nothing = record { calls = host_refused_changes_nothing; conversions = refused_converts_nothing }
