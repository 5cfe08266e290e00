use Rattle.std.proofs.Common.{◌≡◌, length}
use Rattle.std.specs.List.{AllByRecursion}
use Rattle.packets.specs.Contents.{entries}
use Rattle.packets.specs.Encodings.{description_bytes}
use Rattle.packets.specs.Entries.{entries_left}
use Rattle.packets.specs.Summaries.{description_at}
use Rattle.codec.proofs.BackLaws.{Sixteen, Written}
use Rattle.codec.proofs.back.write_descriptions.Given as goal

abbrev pub invariant-loop-description : goal.invariant-loop-description
invariant-loop-description l =
    (l.group.start ≡ l.initial.group.start) ×
    AllByRecursion Sixteen (entries_left description_at 16 l.description-iterator) ×
    Written description_bytes (entries description_at 16 (length l.entries) l.entries) l.initial.group.len l.initial.buffer (entries_left description_at 16 l.description-iterator) l.buffer l.group.len
