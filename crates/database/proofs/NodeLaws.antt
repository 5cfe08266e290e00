-- A node at its start, and names at one place. Assumes nothing.
use Rattle.std.proofs.Common.{◌≡◌, ℕ, zero, suc, false, List, get_or, replicate, None, refl, ap, ◌∙◌}
use Rattle.std.proofs.lemmas.Bool.{both_ways}
use Rattle.packets.specs.declared.ids.Name.{Name}
use Rattle.packets.specs.declared.ids.NodeId.{NodeId}
use Rattle.packets.specs.declared.ids.PeerGroupId.{PeerGroupId}
use Rattle.places.specs.declared.store.BodyStore.{BodyStore}
use Rattle.places.specs.BodyStores.{no_bodies}
use Rattle.lines.specs.declared.line.Line.{Line}
use Rattle.database.specs.declared.node.Node.{Node}
use Rattle.database.specs.Nodes.{OnePlace, element_at, idle_line, started}
use Rattle.tables.specs.Searches.{is_named}

none_named : (n p : ℕ) (name : Name) → is_named name (get_or (replicate n None) p None) ≡ false
none_named zero p name = refl
none_named (suc n) zero name = refl
none_named (suc n) (suc p) name = none_named n p name

abbrev of_parts : NodeId → PeerGroupId → BodyStore → List Line → Node
of_parts id group bodies lines = record { id = id; group = group; places = replicate 64 None; bodies = bodies; wants = replicate 64 None; lines = lines }

pub start_is : (id : NodeId) (group : PeerGroupId) (bodies : BodyStore) (lines : List Line) → bodies ≡ no_bodies → lines ≡ replicate 8 idle_line → of_parts id group bodies lines ≡ started id group
unfolding started
start_is id group bodies lines b l = ap (λ s. of_parts id group s lines) b ∙ ap (of_parts id group no_bodies) l

pub start_one : (id : NodeId) (group : PeerGroupId) (n : Node) → n ≡ started id group → OnePlace n
unfolding started
start_one id group n e p q name h k =
    let f : is_named name (element_at n p) ≡ false = ap (λ m. is_named name (element_at m p)) e ∙ none_named 64 p name in
    absurd (both_ways _ f h)
