-- The elements of a bundle, each against the table as the one before left it. Assumes nothing.
use Rattle.std.specs.Prelude.{ℕ, ◌+◌, Bool, true, false, cond, not, ◌&&◌, List, [], ◌∷◌}
use Rattle.kinds.specs.Kinds.{Operations, is_expired}
use Rattle.packets.specs.declared.acknowledgement.Acknowledged.{Acknowledged}
use Rattle.packets.specs.Bundles.{ElementView}
use Rattle.packets.specs.Ids.{same_node}
use Rattle.tables.specs.declared.element.Element.{Element}
use Rattle.database.specs.declared.node.Node.{Node}
use Rattle.tables.specs.declared.verdict.Verdict.{Verdict}
use Rattle.tables.specs.declared.verdict.Verdict.TheVariants.{Same, Newer, Older, Gone, New, NoPlace}
use Rattle.database.specs.Entries.{entered}
use Rattle.lines.specs.Lines.{owing, shown}
use Rattle.database.specs.Nodes.{World}
use Rattle.tables.specs.Searches.{free_place, place_of}
use Rattle.tables.specs.Verdicts.{rank_at, verdict_of}
use Rattle.tables.specs.Wants.{closed_wants}
use Rattle.exchange.specs.Changes.{on_line, with_wants}
use Rattle.exchange.specs.Namings.{name_of}
use Rattle.exchange.specs.Showings.{showing}

-- an element of a bundle, with the bundle's node ID and peer group ID
pub record Arrival (I : Type 0) : Type 0 where
  pub element : Element
  pub instance : I
  pub body : List ℕ

-- acknowledged under its number, with the instance as it arrived
abbrev pub acknowledgement_of : ElementView → Acknowledged
acknowledgement_of e = record { number = e.number; instance = e.instance }

-- an older one is not acknowledged, nor one that found no place
abbrev pub is_acknowledged : Verdict → Bool
is_acknowledged (Same p) = true
is_acknowledged (Newer p) = true
is_acknowledged (Older p) = false
is_acknowledged Gone = true
is_acknowledged (New p) = true
is_acknowledged NoPlace = false

-- an arrival that found no place is left and counted
abbrev pub left_by : Verdict → ℕ
left_by (Same p) = 0
left_by (Newer p) = 0
left_by (Older p) = 0
left_by Gone = 0
left_by (New p) = 0
left_by NoPlace = 1

module _ {I : Type 0} (ops : Operations I) where
  -- the element's own fields, and those of its bundle
  abbrev pub arrival_of : List ℕ → List ℕ → ElementView → Arrival I
  arrival_of node group e = record {
    element = record { name = name_of node e.number; group = record { bytes = group }; element_type = e.element_type };
    instance = ops.read e.instance;
    body = e.body;
  }

  -- what an arrival is found to be
  abbrev pub verdict_on : Arrival I → World I → Verdict
  verdict_on a w =
      verdict_of (place_of w.node.places a.element.name)
      (rank_at ops w.elements a.instance (place_of w.node.places a.element.name))
      (is_expired ops a.instance) (free_place w.node.places)

  -- an unexpired element of our own
  abbrev pub comes_back : Arrival I → Node → Bool
  comes_back a n = same_node a.element.name.node n.id && not (is_expired ops a.instance)

  -- an element of our own that comes back enters in its expired form with an empty body, all else as it came
  abbrev pub entered_as : ℕ → Arrival I → World I → World I
  entered_as p a w =
      cond (comes_back a w.node) (entered ops p a.element (ops.expired a.instance) [] w)
      (entered ops p a.element a.instance a.body w)

  -- after an entry: an arrival that ranks the same as what is now held shows it on its line
  abbrev pub then_shown : ℕ → ℕ → Arrival I → World I → World I
  then_shown i p a w = on_line i (showing ops w.elements a.instance p) w

  -- an arrival that is gone closes wants of its name on every line, and is not entered
  abbrev pub gone_by : Arrival I → World I → World I
  gone_by a w = with_wants w (closed_wants ops w.wants a.element.name a.instance w.node.wants) w.wants

  -- the effect of each verdict, for an arrival on line i
  abbrev pub arrived_as : ℕ → Arrival I → World I → Verdict → World I
  arrived_as i a w (Same p) = on_line i (shown p) w
  arrived_as i a w (Newer p) = then_shown i p a (entered_as p a w)
  arrived_as i a w (Older p) = on_line i (owing p) w
  arrived_as i a w Gone = gone_by a w
  arrived_as i a w (New p) = then_shown i p a (entered_as p a w)
  arrived_as i a w NoPlace = w

  -- one element of a bundle
  abbrev pub arrived : ℕ → Arrival I → World I → World I
  arrived i a w = arrived_as i a w (verdict_on a w)

-- a bundle on line i, with its node ID and peer group ID
module _ {I : Type 0} (ops : Operations I) (i : ℕ) (node group : List ℕ) where
  -- node and rows once one element is processed
  abbrev pub after_element : ElementView → World I → World I
  after_element e w = arrived ops i (arrival_of ops node group e) w

  -- what one element is found to be
  abbrev pub verdict_of_element : ElementView → World I → Verdict
  verdict_of_element e w = verdict_on ops (arrival_of ops node group e) w

  -- node and rows once all elements are processed
  abbrev pub bundle_world : List ElementView → World I → World I
  bundle_world [] w = w
  bundle_world (e ∷ es) w = bundle_world es (after_element e w)

  -- what is acknowledged, in the order of the bundle
  abbrev pub acknowledged_of : List ElementView → World I → List Acknowledged
  acknowledged_of [] w = []
  acknowledged_of (e ∷ es) w =
      cond (is_acknowledged (verdict_of_element e w)) (acknowledgement_of e ∷ acknowledged_of es (after_element e w))
      (acknowledged_of es (after_element e w))

  -- how many elements found no place
  abbrev pub left_of : List ElementView → World I → ℕ
  left_of [] w = 0
  left_of (e ∷ es) w = left_by (verdict_of_element e w) + left_of es (after_element e w)
