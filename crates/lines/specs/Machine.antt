-- The neighbour machine: what a summary is to a line, and what follows from state and event. Assumes nothing.
use Rattle.std.specs.Prelude.{ℕ, Bool, true, false, cond, not, ◌&&◌, Some, None, Option, ◌==◌, bit_and}
use Rattle.packets.specs.declared.ids.NodeId.{NodeId}
use Rattle.packets.specs.declared.summary.SummaryHead.{SummaryHead}
use Rattle.packets.specs.Ids.{larger_node}
use Rattle.lines.specs.declared.line.Line.{Line}
use Rattle.lines.specs.declared.line.Role.{Role}
use Rattle.lines.specs.declared.line.Role.TheVariants.{Master, Slave}
use Rattle.lines.specs.declared.line.State.{State}
use Rattle.lines.specs.declared.line.State.TheVariants.{Down, Negotiating, Exchanging, Loading, Full}
use Rattle.lines.specs.declared.machine.Reaction.{Reaction}
use Rattle.lines.specs.declared.machine.Reaction.TheVariants.{Accepts, AnswersAgain, Ignores, Restarts}
use Rattle.lines.specs.declared.machine.SummaryEvent.{SummaryEvent}
use Rattle.lines.specs.declared.machine.SummaryEvent.TheVariants.{MakesSlave, MakesMaster, Other, Duplicate, Wrong, InSequence}
use Rattle.lines.specs.Lines.{cleared_line, following}
use Rattle.lines.specs.Progress.{begun, has_more}
use Rattle.places.specs.declared.set.PlaceSet.{PlaceSet}

abbrev pub has_initialize : ℕ → Bool
has_initialize flags = not (bit_and flags 32768 == 0)

abbrev pub has_master : ℕ → Bool
has_master flags = not (bit_and flags 8192 == 0)

abbrev pub is_negotiating : State → Bool
is_negotiating Down = false
is_negotiating Negotiating = true
is_negotiating Exchanging = false
is_negotiating Loading = false
is_negotiating Full = false

-- all three flags and no groups, from a larger node
abbrev pub to_slave : NodeId → Line → ℕ → Bool → Bool
to_slave own l flags groups = has_initialize flags && has_more flags && has_master flags && not groups && larger_node l.neighbour own

-- without Initialize and Master, under our own number, from a smaller node
abbrev pub to_master : NodeId → Line → ℕ → ℕ → Bool
to_master own l flags ds = not (has_initialize flags) && not (has_master flags) && ds == l.ds_number && larger_node own l.neighbour

abbrev pub while_negotiating : NodeId → Line → ℕ → ℕ → Bool → SummaryEvent
while_negotiating own l flags ds groups = cond (to_slave own l flags groups) MakesSlave (cond (to_master own l flags ds) MakesMaster Other)

-- all 16 flag bits and the DS number of the last accepted summary
abbrev pub repeats : Option SummaryHead → ℕ → ℕ → Bool
repeats None flags ds = false
repeats (Some a) flags ds = a.flags == flags && a.ds_number == ds

-- only the master sets Master
abbrev pub right_master : Role → ℕ → Bool
right_master Master flags = not (has_master flags)
right_master Slave flags = has_master flags

-- the master is answered under its number, the slave is asked under the one that follows
abbrev pub awaited : Role → ℕ → ℕ
awaited Master ds = ds
awaited Slave ds = following ds

abbrev pub past_negotiation : Line → ℕ → ℕ → SummaryEvent
past_negotiation l flags ds =
    cond (repeats l.accepted flags ds) (Duplicate l.role)
    (cond (right_master l.role flags && not (has_initialize flags) && ds == awaited l.role l.ds_number) InSequence Wrong)

-- by the line's state, our own ID, flags, DS number, and whether the summary has groups
abbrev pub event_in : State → NodeId → Line → ℕ → ℕ → Bool → SummaryEvent
event_in Down own l flags ds groups = Other
event_in Negotiating own l flags ds groups = while_negotiating own l flags ds groups
event_in Exchanging own l flags ds groups = past_negotiation l flags ds
event_in Loading own l flags ds groups = past_negotiation l flags ds
event_in Full own l flags ds groups = past_negotiation l flags ds

abbrev pub event_of : NodeId → Line → ℕ → ℕ → Bool → SummaryEvent
event_of own l flags ds groups = event_in l.state own l flags ds groups

-- state by event; an event that does not arise in a state is ignored there
abbrev pub reaction : State → SummaryEvent → Reaction
reaction Down event = Ignores
reaction Negotiating MakesSlave = Accepts
reaction Negotiating MakesMaster = Accepts
reaction Negotiating Other = Ignores
reaction Negotiating (Duplicate role) = Ignores
reaction Negotiating Wrong = Ignores
reaction Negotiating InSequence = Ignores
reaction Exchanging MakesSlave = Ignores
reaction Exchanging MakesMaster = Ignores
reaction Exchanging Other = Ignores
reaction Exchanging (Duplicate Slave) = AnswersAgain
reaction Exchanging (Duplicate Master) = Ignores
reaction Exchanging Wrong = Restarts
reaction Exchanging InSequence = Accepts
reaction Loading MakesSlave = Ignores
reaction Loading MakesMaster = Ignores
reaction Loading Other = Ignores
reaction Loading (Duplicate Slave) = AnswersAgain
reaction Loading (Duplicate Master) = Ignores
reaction Loading Wrong = Restarts
reaction Loading InSequence = Restarts
reaction Full MakesSlave = Ignores
reaction Full MakesMaster = Ignores
reaction Full Other = Ignores
reaction Full (Duplicate Slave) = AnswersAgain
reaction Full (Duplicate Master) = Ignores
reaction Full Wrong = Restarts
reaction Full InSequence = Restarts

abbrev pub is_accepting : Reaction → Bool
is_accepting Accepts = true
is_accepting AnswersAgain = false
is_accepting Ignores = false
is_accepting Restarts = false

-- negotiation ends in the role that the event gives
abbrev pub ended_by : PlaceSet → ℕ → SummaryEvent → Line → Line
ended_by held ds MakesSlave l = begun held Slave ds l
ended_by held ds MakesMaster l = begun held Master ds l
ended_by held ds Other l = l
ended_by held ds (Duplicate role) l = l
ended_by held ds Wrong l = l
ended_by held ds InSequence l = l

abbrev pub changed_by : Reaction → PlaceSet → ℕ → SummaryEvent → Line → Line
changed_by Accepts held ds event l = ended_by held ds event l
changed_by AnswersAgain held ds event l = l
changed_by Ignores held ds event l = l
changed_by Restarts held ds event l = cleared_line Negotiating l

-- the line once it has reacted: past negotiation where that ends, negotiating where it restarts, else as it was
abbrev pub reacted : PlaceSet → ℕ → SummaryEvent → Line → Line
reacted held ds event l = changed_by (reaction l.state event) held ds event l
