-- What an acknowledgement, a summary or a request names, entry by entry. Assumes nothing.
use Rattle.std.specs.Prelude.{ℕ, List, [], ◌∷◌, ◌++◌, map}
use Rattle.kinds.specs.Kinds.{Operations}
use Rattle.packets.specs.declared.ids.Name.{Name}
use Rattle.packets.specs.Contents.{AcknowledgedGroup, DescribedGroup, RequestedGroup}

-- an instance, and the name that it is an instance of
pub record Naming (I : Type 0) : Type 0 where
  pub name : Name
  pub instance : I

-- a node ID and a number of that node
abbrev pub name_of : List ℕ → ℕ → Name
name_of node number = record { node = record { bytes = node }; number = number }

-- an entry under its group's node ID
abbrev pub naming : {I : Type 0} → Operations I → List ℕ → ℕ → List ℕ → Naming I
naming ops node number instance = record { name = name_of node number; instance = ops.read instance }

-- what all groups name, in order
abbrev pub each_of : {G X : Type 0} → (G → List X) → List G → List X
each_of f [] = []
each_of f (g ∷ gs) = f g ++ each_of f gs

-- the instances that a group of an acknowledgement names
abbrev pub acknowledged_by : {I : Type 0} → Operations I → AcknowledgedGroup → List (Naming I)
acknowledged_by ops g = map (λ e. naming ops g.node e.number e.instance) g.entries

-- the instances that a group of a summary describes
abbrev pub described_by : {I : Type 0} → Operations I → DescribedGroup → List (Naming I)
described_by ops g = map (λ e. naming ops g.node e.number e.instance) g.entries

-- the names that a group of a request asks for
abbrev pub requested_by : RequestedGroup → List Name
requested_by g = map (name_of g.node) g.numbers

abbrev pub acknowledgements : {I : Type 0} → Operations I → List AcknowledgedGroup → List (Naming I)
acknowledgements ops gs = each_of (acknowledged_by ops) gs

abbrev pub descriptions : {I : Type 0} → Operations I → List DescribedGroup → List (Naming I)
descriptions ops gs = each_of (described_by ops) gs

abbrev pub requests : List RequestedGroup → List Name
requests gs = each_of requested_by gs
