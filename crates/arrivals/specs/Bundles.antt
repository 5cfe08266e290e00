-- What a bundle does, and what is written of it. Assumes nothing.
use Rattle.std.specs.Prelude.{ℕ, ◌<◌, cond, List, [], ◌∷◌, ◌++◌, map, length, nat_lt}
use Rattle.packets.specs.declared.acknowledgement.Acknowledged.{Acknowledged}
use Rattle.packets.specs.declared.bundle.Bundle.{Bundle}
use Rattle.packets.specs.declared.bundle.Element.{Element}
use Rattle.packets.specs.declared.layout.PacketType.TheVariants as type
use Rattle.packets.specs.Bundles.{ElementView, element_at}
use Rattle.packets.specs.Groups.{contents}
use Rattle.tables.specs.declared.verdict.Verdict.{Verdict}
use Rattle.exchange.specs.Arrivals.{is_acknowledged}
use Rattle.places.specs.Lists.{listed}
use Rattle.arrivals.specs.declared.bundle.Arrivals.{Arrivals}

abbrev pub element_view : Element → ElementView
element_view e = record { element_type = e.element_type; number = e.number; instance = e.instance; body = e.body.now }

abbrev pub elements_in : List ℕ → List ElementView
elements_in groups = map element_at (contents (length groups) type.Bundle groups)

-- the elements of a bundle; none of groups that are longer than those of a packet
abbrev pub elements_of : List ℕ → List ElementView
elements_of groups = cond (nat_lt 2004 (length groups)) [] (elements_in groups)

abbrev pub bundled : Bundle → List ElementView
bundled b = elements_of b.groups.now

-- one more, if the verdict is one that is acknowledged
abbrev pub noted : Verdict → Acknowledged → List Acknowledged → List Acknowledged
noted v a xs = cond (is_acknowledged v) (xs ++ a ∷ []) xs

-- there is room to note one more, acknowledged or left
abbrev pub HasPlace : Arrivals → Type 0
HasPlace a = (length (listed a.acknowledged) < 100) × (a.left < 100)
