-- One line: its state, and what its marks become. Assumes nothing.
use Rattle.std.specs.Prelude.{ℕ, ◌+◌, ◌%◌, ◌^◌, Bool, true, false, cond, not, ◌&&◌, List, [], map, None, slice_set}
use Rattle.packets.specs.declared.ids.NodeId.{NodeId}
use Rattle.packets.specs.Ids.{same_node}
use Rattle.places.specs.declared.count.SendCount.{SendCount}
use Rattle.places.specs.declared.set.PlaceSet.{PlaceSet}
use Rattle.places.specs.PlaceSets.{no_places, with_place, without_place, has}
use Rattle.places.specs.SendCounts.{fresh_count, raised}
use Rattle.lines.specs.declared.line.Line.{Line}
use Rattle.lines.specs.declared.line.OwnSummary.{OwnSummary}
use Rattle.lines.specs.declared.line.State.{State}
use Rattle.lines.specs.declared.line.State.TheVariants.{Down, Negotiating, Exchanging, Loading, Full}
use Rattle.lines.specs.declared.line.Role.TheVariants.{Master}
use Rattle.lines.specs.Tables.{some_where}

-- a thing that was sent is due again after so many seconds
abbrev pub resend_limit : ℕ
resend_limit = 5

abbrev pub is_down : State → Bool
is_down Down = true
is_down Negotiating = false
is_down Exchanging = false
is_down Loading = false
is_down Full = false

abbrev pub is_past_negotiation : State → Bool
is_past_negotiation Down = false
is_past_negotiation Negotiating = false
is_past_negotiation Exchanging = true
is_past_negotiation Loading = true
is_past_negotiation Full = true

abbrev pub is_synchronizing : State → Bool
is_synchronizing Down = false
is_synchronizing Negotiating = false
is_synchronizing Exchanging = true
is_synchronizing Loading = true
is_synchronizing Full = false

abbrev pub some_synchronizing : List Line → Bool
some_synchronizing lines = some_where (λ l. is_synchronizing l.state) lines

-- a line that is not down has this neighbour
abbrev pub is_with : NodeId → Line → Bool
is_with id l = not (is_down l.state) && same_node l.neighbour id

abbrev pub some_owed : List Line → ℕ → Bool
some_owed lines p = some_where (λ l. has l.owed p) lines

abbrev pub with_marks : Line → PlaceSet → List SendCount → PlaceSet → PlaceSet → Line
with_marks l owed counts to_tell told = record {
  state = l.state;
  neighbour = l.neighbour;
  ds_number = l.ds_number;
  role = l.role;
  accepted = l.accepted;
  summary = l.summary;
  owed = owed;
  counts = counts;
  to_tell = to_tell;
  told = told;
}

-- owed, and due at once
abbrev pub owing : ℕ → Line → Line
owing p l = with_marks l (with_place l.owed p) (slice_set l.counts p (fresh_count resend_limit)) l.to_tell l.told

-- the neighbour has shown the instance held
abbrev pub shown : ℕ → Line → Line
shown p l = with_marks l (without_place l.owed p) l.counts l.to_tell l.told

-- nothing of the place is told any more
abbrev pub untold : ℕ → Line → Line
untold p l = with_marks l l.owed l.counts (without_place l.to_tell p) (without_place l.told p)

-- an instance entered at the place: past negotiation it is owed, and no summary names what was there
abbrev pub entered_on : ℕ → Line → Line
entered_on p l = untold p (cond (is_past_negotiation l.state) (owing p l) l)

-- an initial summary, which is due at once
abbrev pub initial_summary : OwnSummary
initial_summary = record { written = false; more = true; count = fresh_count resend_limit }

abbrev pub following : ℕ → ℕ
following ds = (ds + 1) % 2 ^ 32

-- no mark, nothing accepted, and the next DS number
abbrev pub cleared_line : State → Line → Line
cleared_line to l = record {
  state = to;
  neighbour = l.neighbour;
  ds_number = following l.ds_number;
  role = l.role;
  accepted = None;
  summary = initial_summary;
  owed = no_places;
  counts = l.counts;
  to_tell = no_places;
  told = no_places;
}

-- negotiating with a new neighbour
abbrev pub negotiating_line : NodeId → ℕ → Line → Line
negotiating_line id ds l = record {
  state = Negotiating;
  neighbour = id;
  ds_number = ds;
  role = l.role;
  accepted = None;
  summary = initial_summary;
  owed = no_places;
  counts = l.counts;
  to_tell = no_places;
  told = no_places;
}

abbrev raised_summary : OwnSummary → OwnSummary
raised_summary s = record { written = s.written; more = s.more; count = raised s.count resend_limit }

-- a second later: every count of the line
abbrev pub second_line : Line → Line
second_line l = record {
  state = l.state;
  neighbour = l.neighbour;
  ds_number = l.ds_number;
  role = l.role;
  accepted = l.accepted;
  summary = raised_summary l.summary;
  owed = l.owed;
  counts = map (λ c. raised c resend_limit) l.counts;
  to_tell = l.to_tell;
  told = l.told;
}

abbrev pub with_state : State → Line → Line
with_state to l = record {
  state = to;
  neighbour = l.neighbour;
  ds_number = l.ds_number;
  role = l.role;
  accepted = l.accepted;
  summary = l.summary;
  owed = l.owed;
  counts = l.counts;
  to_tell = l.to_tell;
  told = l.told;
}

-- what a table of lines has past its end, which is never looked at
abbrev pub no_line : Line
no_line = record {
  state = Down;
  neighbour = record { bytes = [] };
  ds_number = 0;
  role = Master;
  accepted = None;
  summary = record { written = false; more = false; count = record { seconds = 0 } };
  owed = record { marks = [] };
  counts = [];
  to_tell = record { marks = [] };
  told = record { marks = [] };
}
