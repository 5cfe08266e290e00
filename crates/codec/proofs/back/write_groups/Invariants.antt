use Rattle.std.proofs.Common.{length}
use Rattle.std.specs.List.{AllByRecursion}
use Rattle.packets.proofs.GroupLaws.{Kept}
use Rattle.packets.specs.Groups.{contents, groups_left}
use Rattle.codec.proofs.BackLaws.{Written}
use Rattle.codec.specs.Backs.{group_again}
use Rattle.codec.proofs.back.write_groups.Given as goal

abbrev pub invariant-loop-content : goal.invariant-loop-content
invariant-loop-content l =
    AllByRecursion (Kept l.of) (groups_left l.content-iterator) ×
    Written (group_again l.of) (contents (length l.groups) l.of l.groups) l.initial.draft.len l.initial.buffer (groups_left l.content-iterator) l.buffer l.draft.len
