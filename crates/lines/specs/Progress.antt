-- How far an exchange has come on a line. Assumes nothing.
use Rattle.std.specs.Prelude.{ℕ, Bool, true, false, cond, not, ◌&&◌, ◌||◌, List, [], ◌∷◌, Some, Option, ◌==◌, bit_and, slice_set}
use Rattle.packets.specs.declared.summary.SummaryHead.{SummaryHead}
use Rattle.places.specs.declared.set.PlaceSet.{PlaceSet}
use Rattle.places.specs.declared.count.SendCount.{SendCount}
use Rattle.places.specs.PlaceSets.{no_places, with_place, without_place}
use Rattle.places.specs.SendCounts.{sent_count}
use Rattle.lines.specs.declared.line.Line.{Line}
use Rattle.lines.specs.declared.line.OwnSummary.{OwnSummary}
use Rattle.lines.specs.declared.line.Role.{Role}
use Rattle.lines.specs.declared.line.Role.TheVariants.{Master, Slave}
use Rattle.lines.specs.declared.line.State.{State}
use Rattle.lines.specs.declared.line.State.TheVariants.{Exchanging, Loading}
use Rattle.lines.specs.Lines.{following, initial_summary, with_marks, with_state}

abbrev pub with_progress : Line → State → ℕ → Role → Option SummaryHead → Line
with_progress l state ds role accepted = record {
  state = state;
  neighbour = l.neighbour;
  ds_number = ds;
  role = role;
  accepted = accepted;
  summary = l.summary;
  owed = l.owed;
  counts = l.counts;
  to_tell = l.to_tell;
  told = l.told;
}

-- our present summary
abbrev pub with_summary : Line → OwnSummary → Line
with_summary l summary = record {
  state = l.state;
  neighbour = l.neighbour;
  ds_number = l.ds_number;
  role = l.role;
  accepted = l.accepted;
  summary = summary;
  owed = l.owed;
  counts = l.counts;
  to_tell = l.to_tell;
  told = l.told;
}

abbrev pub numbered : ℕ → Line → Line
numbered ds l = with_progress l l.state ds l.role l.accepted

-- the slave takes the number of the master's summary
abbrev pub number_as : Role → ℕ → ℕ → ℕ
number_as Master theirs ours = ours
number_as Slave theirs ours = theirs

-- the role is settled, and our own summary is the initial one, which has More
abbrev pub settled_as : Role → ℕ → Line → Line
settled_as role ds l = with_summary (with_progress l Exchanging (number_as role ds l.ds_number) role l.accepted) initial_summary

-- negotiation ends: what is held is to be told, and nothing is owed
abbrev pub begun : PlaceSet → Role → ℕ → Line → Line
begun held role ds l = with_marks (settled_as role ds l) no_places l.counts held no_places

-- the last accepted summary is this one, and our summary before it tells nothing any more
abbrev pub remembered : ℕ → ℕ → Line → Line
remembered flags ds l =
    with_marks (with_progress l l.state l.ds_number l.role (Some (record { flags = flags; ds_number = ds })))
    l.owed l.counts l.to_tell no_places

-- our next summary is due, not yet written and so with More
abbrev pub next_due : Line → Line
next_due l = with_summary (numbered (following l.ds_number) l) initial_summary

-- a resend keeps its elements and More
abbrev pub sent_again : Line → Line
sent_again l = with_summary l (record { written = l.summary.written; more = l.summary.more; count = sent_count })

-- a summary of ours that is not written counts as having More
abbrev pub own_more : OwnSummary → Bool
own_more s = not s.written || s.more

abbrev pub has_more : ℕ → Bool
has_more flags = not (bit_and flags 16384 == 0)

-- neither the accepted summary nor our own of its number has More
abbrev pub is_done : ℕ → OwnSummary → Bool
is_done flags own = not (has_more flags) && not (own_more own)

-- all of these places put into a set
abbrev pub with_each : List ℕ → PlaceSet → PlaceSet
with_each [] s = s
with_each (p ∷ ps) s = with_each ps (with_place s p)

-- all of these places taken out of a set
abbrev pub without_each : List ℕ → PlaceSet → PlaceSet
without_each [] s = s
without_each (p ∷ ps) s = without_each ps (without_place s p)

abbrev pub is_empty : {X : Type 0} → List X → Bool
is_empty [] = true
is_empty (x ∷ xs) = false

-- a summary that takes these places: they are told now, and More is clear exactly if there are none
abbrev pub taking : List ℕ → Line → Line
taking ps l =
    with_summary (with_marks l l.owed l.counts (without_each ps l.to_tell) (with_each ps l.told))
    (record { written = true; more = not (is_empty ps); count = sent_count })

-- loading once the exchange is done; until then as the role says
abbrev pub loading_or : (Line → Line) → ℕ → Line → Line
loading_or going_on flags l = cond (is_done flags l.summary) (with_state Loading l) (going_on l)

-- the slave writes its next summary now, of these places and under the number of the accepted one; the master's is due
-- unless the exchange is done
abbrev pub concluded : Role → List ℕ → ℕ → ℕ → Line → Line
concluded Slave ps flags ds l = loading_or (λ k. k) flags (taking ps (numbered ds l))
concluded Master ps flags ds l = loading_or next_due flags l

-- the line once the descriptions of an accepted summary have counted
abbrev pub accepted_with : List ℕ → ℕ → ℕ → Line → Line
accepted_with ps flags ds l = concluded l.role ps flags ds (remembered flags ds l)

-- sent now, at each of these places
abbrev pub sent_counts : List ℕ → List SendCount → List SendCount
sent_counts [] counts = counts
sent_counts (p ∷ ps) counts = sent_counts ps (slice_set counts p sent_count)

-- what is sent stays owed
abbrev pub sent_on : List ℕ → Line → Line
sent_on ps l = with_marks l l.owed (sent_counts ps l.counts) l.to_tell l.told
