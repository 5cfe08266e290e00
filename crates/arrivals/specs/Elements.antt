-- An element of a bundle as it arrives. Assumes nothing.
use Rattle.std.specs.Prelude.{ℕ, List}
use Rattle.tables.specs.declared.element.Element.{Element}
use Rattle.exchange.specs.Arrivals.{Arrival}

abbrev pub arriving : {I : Type 0} → Element → I → List ℕ → Arrival I
arriving e x bs = record { element = e; instance = x; body = bs }
