use Rattle.places.proofs.StoreLaws.{all_blank}
use Rattle.places.proofs.store.BodyStore.new.Goals as goal

pub returns : goal.returns
returns c = all_blank c.blank.result c.blank.ensures
