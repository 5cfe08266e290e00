-- The summary. Assumes nothing.
use Rattle.std.specs.Prelude.{ℕ, cond, List, length, take, drop, Some, None, Option, nat_lt}
use Rattle.kinds.specs.BigEndian.{at16, at32}
use Rattle.packets.specs.declared.summary.Summary.{Summary}
use Rattle.packets.specs.declared.summary.Described.{Described}
use Rattle.packets.specs.declared.summary.Description.{Description}

pub record SummaryView : Type 0 where
  pub flags : ℕ
  pub ds_number : ℕ
  pub groups : List ℕ

abbrev pub viewed_summary : Option Summary → Option SummaryView
viewed_summary None = None
viewed_summary (Some s) = Some (record { flags = s.head.flags; ds_number = s.head.ds_number; groups = s.groups.now })

-- flags, two reserved bytes, DS number, then the groups
abbrev pub summary_of : List ℕ → Option SummaryView
summary_of part =
    cond (nat_lt (length part) 8) None
    (Some (record { flags = at16 (take 8 part) 0; ds_number = at32 (take 8 part) 4; groups = drop 8 part }))

-- node ID and peer group ID, and the bytes of entries
pub record DescribedView : Type 0 where
  pub node : List ℕ
  pub group : List ℕ
  pub entries : List ℕ

abbrev pub viewed_described : Option Described → Option DescribedView
viewed_described None = None
viewed_described (Some g) = Some (record { node = g.node.bytes; group = g.group.bytes; entries = g.entries.now })

-- node ID, peer group ID, two reserved bytes, count, entries
abbrev pub described_at : List ℕ → DescribedView
described_at c = record { node = take 22 c; group = take 14 (drop 22 c); entries = drop 4 (drop 14 (drop 22 c)) }

abbrev pub described_of : List ℕ → Option DescribedView
described_of c = cond (nat_lt (length c) 40) None (Some (described_at c))

-- type, two reserved bytes, number, instance
abbrev pub description_at : List ℕ → Description
description_at es = record { element_type = at16 (take 8 es) 0; number = at32 (take 8 es) 4; instance = take 8 (drop 8 es) }
