-- What a line's descriptions are held against. Assumes nothing.
use Rattle.std.specs.Prelude.{Bool, false, not, ◌&&◌, List, [], ◌∷◌, map}
use Rattle.kinds.specs.Kinds.{Operations}
use Rattle.database.specs.Nodes.{World, world}
use Rattle.exchange.specs.Wanting.{needs_for, needs_place}
use Rattle.lines.specs.Tables.{some_where}
use Rattle.arrivals.specs.declared.naming.Naming.{Naming}
use Rattle.arrivals.specs.declared.want.View.{View}
use Rattle.arrivals.specs.Readings.{naming_view}

-- the row of wants is of no account
abbrev pub viewed : {I : Type 0} → View I → World I
viewed v = world v.node.now v.elements.now []

-- the first of some descriptions is needed, and by none of the later ones
abbrev pub last_needed : {I : Type 0} → Operations I → View I → List (Naming I) → Bool
last_needed ops v [] = false
last_needed ops v (m ∷ ms) =
    needs_place ops v.line (viewed v) (naming_view m) && not (some_where (needs_for ops v.line (viewed v) m.name) (map naming_view ms))
