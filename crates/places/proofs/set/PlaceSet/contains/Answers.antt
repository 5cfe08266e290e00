use Rattle.std.proofs.Common.{rules}
use Rattle.places.specs.PlaceSets.{has}
use Rattle.places.proofs.set.PlaceSet.contains.Goals as goal

pub returns : goal.returns
unfolding has
returns c = search rules
