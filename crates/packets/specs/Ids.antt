-- Identifiers, compared. Assumes nothing.
use Rattle.std.specs.Prelude.{ℕ, Bool, true, false, cond, ◌&&◌, List, [], ◌∷◌, ◌==◌, nat_lt}
use Rattle.std.specs.Str.{bytes_eq}
use Rattle.packets.specs.declared.ids.Name.{Name}
use Rattle.packets.specs.declared.ids.NodeId.{NodeId}

abbrev pub same_node : NodeId → NodeId → Bool
same_node a b = bytes_eq a.bytes b.bytes

-- the first byte that differs decides: the order of unsigned numbers of one length
abbrev pub larger_bytes : List ℕ → List ℕ → Bool
larger_bytes [] ys = false
larger_bytes (x ∷ xs) [] = true
larger_bytes (x ∷ xs) (y ∷ ys) = cond (x == y) (larger_bytes xs ys) (nat_lt y x)

abbrev pub larger_node : NodeId → NodeId → Bool
larger_node a b = larger_bytes a.bytes b.bytes

-- a name is a pair: numbers under different nodes are different names
abbrev pub same_name : Name → Name → Bool
same_name a b = a.number == b.number && same_node a.node b.node
