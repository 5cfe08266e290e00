use Rattle.places.proofs.PlaceSetLaws.{cleared}
use Rattle.places.proofs.set.PlaceSet.empty.Goals as goal

pub returns : goal.returns
returns c = cleared c.no_marks.result c.no_marks.ensures
