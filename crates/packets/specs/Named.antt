-- What a group of an acknowledgement or of a request holds. Assumes nothing.
use Rattle.std.specs.Prelude.{ℕ, cond, List, length, take, drop, Some, None, Option, nat_lt}
use Rattle.packets.specs.declared.named.Named.{Named}

-- a node ID, and the bytes of entries
pub record NamedView : Type 0 where
  pub node : List ℕ
  pub entries : List ℕ

abbrev pub viewed_named : Option Named → Option NamedView
viewed_named None = None
viewed_named (Some g) = Some (record { node = g.node.bytes; entries = g.entries.now })

-- node ID, count, entries
abbrev pub named_at : List ℕ → NamedView
named_at c = record { node = take 22 c; entries = drop 2 (drop 22 c) }

abbrev pub named_of : List ℕ → Option NamedView
named_of c = cond (nat_lt (length c) 24) None (Some (named_at c))
