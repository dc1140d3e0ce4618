-- Refused or taken, by the law of each.
use Rattle.marker.proofs.Public.{open_fits, open_refuses, open_takes}
use Rattle.marker.proofs.open.Goals as goal

pub returns-in-Err : goal.returns-in-Err
returns-in-Err c = search open_refuses

pub asked-requires : goal.asked-requires
asked-requires c = search open_fits

pub returns : goal.returns
returns c = search open_takes
