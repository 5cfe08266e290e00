-- The descriptions of a summary, as they are read. Assumes nothing.
use Rattle.std.specs.Prelude.{ℕ, cond, List, [], map, length, nat_lt}
use Rattle.kinds.specs.Kinds.{Operations}
use Rattle.places.specs.Lists.{listed as items}
use Rattle.exchange.specs.Namings.{Naming}
use Rattle.arrivals.specs.declared.summary.Descriptions.{Descriptions}
use Rattle.arrivals.specs.Readings.{described_in, naming_view}

abbrev pub listed : {I : Type 0} → Descriptions I → List (Naming I)
listed d = map naming_view (items d.all)

-- the descriptions of a summary; none of groups that are longer than those of a packet
abbrev pub descriptions_of : {I : Type 0} → Operations I → List ℕ → List (Naming I)
descriptions_of ops groups = cond (nat_lt 2032 (length groups)) [] (described_in ops groups)
