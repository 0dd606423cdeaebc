use Rattle.mt_splice.proofs.Clearing.{map_is_empty, root_is_0}
use Rattle.mt_splice.proofs.clears.clear.Goals as goal

pub returns-clause-root : goal.returns-clause-root
returns-clause-root g c = root_is_0 c.requires c.clear_as.ensures.spliced

pub returns-clause-map : goal.returns-clause-map
returns-clause-map g c = map_is_empty c.requires c.clear_as.ensures.spliced
