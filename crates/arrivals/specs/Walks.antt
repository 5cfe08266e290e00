-- The entries of all groups of a packet, one after the other, each with the node ID of its group. Assumes nothing.
use Rattle.std.specs.Prelude.{ℕ, ◌-◌, List, ◌++◌, map, length, take, drop}
use Rattle.packets.specs.declared.ids.NodeId.{NodeId}
use Rattle.packets.specs.declared.layout.PacketType.{PacketType}
use Rattle.packets.specs.Contents.{entries}
use Rattle.packets.specs.Entries.{entries_left}
use Rattle.packets.specs.Groups.{contents, groups_left}
use Rattle.packets.specs.Layouts.{group_fixed_of}
use Rattle.exchange.specs.Namings.{each_of}
use Rattle.arrivals.specs.declared.walk.Walk.{Walk}

-- what stands between the node ID of a group and its entries
abbrev pub skip_of : PacketType → ℕ
skip_of t = group_fixed_of t - 26

-- entries of one size
module _ {E : Type 0} (at : List ℕ → E) (size : ℕ) where
  -- of one node ID
  abbrev pub under : NodeId → List E → List (NodeId × E)
  under node es = map (λ e. (node, e)) es

  abbrev pub in_group : ℕ → List ℕ → List (NodeId × E)
  in_group skip c = under (record { bytes = take 22 c }) (entries at size (length c) (drop skip (drop 22 c)))

  abbrev pub in_groups : PacketType → List ℕ → List (NodeId × E)
  in_groups t bs = each_of (in_group (skip_of t)) (contents (length bs) t bs)

  -- what a walk has before it
  abbrev pub ahead : Walk E → List (NodeId × E)
  ahead w = under w.node (entries_left at size w.entries) ++ each_of (in_group w.skip) (groups_left w.groups)
