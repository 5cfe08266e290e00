-- What is handed out to a neighbour: the first of summary, request and bundle that is due. Assumes nothing.
use Rattle.std.specs.Prelude.{ℕ, Bool, false, cond, ◌&&◌, List, [], ◌∷◌, Some, None, Option, ◌==◌, slice_index_or, slice_set}
use Rattle.kinds.specs.Kinds.{Operations}
use Rattle.packets.specs.Bundles.{ElementView}
use Rattle.packets.specs.Contents.{RequestedGroup, PacketView}
use Rattle.packets.specs.Contents.Said.{bundle, request}
use Rattle.places.specs.SendCounts.{due, sent_count}
use Rattle.tables.specs.declared.element.Element.{Element}
use Rattle.lines.specs.declared.line.Line.{Line}
use Rattle.lines.specs.declared.line.Role.{Role}
use Rattle.lines.specs.declared.line.Role.TheVariants.{Master, Slave}
use Rattle.lines.specs.declared.line.State.{State}
use Rattle.lines.specs.declared.line.State.TheVariants.{Down, Negotiating, Exchanging, Loading, Full}
use Rattle.tables.specs.declared.want.Want.{Want}
use Rattle.lines.specs.Lines.{is_past_negotiation, is_synchronizing, resend_limit}
use Rattle.database.specs.Nodes.{World, element_at}
use Rattle.lines.specs.Progress.{sent_again, sent_on}
use Rattle.exchange.specs.Bundling.{bundle_places, due_places, element_out}
use Rattle.exchange.specs.Changes.{line_at, on_line, with_wants}
use Rattle.exchange.specs.Selections.{first_places, groups_at}
use Rattle.exchange.specs.Summaries.{first_written, own_summary, packet}

-- a packet, and node and rows once it is handed out
pub record Handed (I : Type 0) : Type 0 where
  pub content : PacketView
  pub world : World I

-- the first that is due
abbrev pub or_else : {X : Type 0} → Option X → Option X → Option X
or_else None later = later
or_else (Some x) later = Some x

-- the initial summary, or the master's while exchanging, when its count is due; a slave's never
abbrev pub summary_due : State → Role → Bool → Bool
summary_due Down role now = false
summary_due Negotiating role now = now
summary_due Exchanging Master now = now
summary_due Exchanging Slave now = false
summary_due Loading role now = false
summary_due Full role now = false

-- the master's summary takes its elements when it is first handed out
abbrev pub summary_sent : State → List (Option Element) → Line → Line
summary_sent Down places l = l
summary_sent Negotiating places l = sent_again l
summary_sent Exchanging places l = cond l.summary.written (sent_again l) (first_written places l)
summary_sent Loading places l = l
summary_sent Full places l = l

-- a due want of the line
abbrev pub due_want : ℕ → ℕ → Want → Bool
due_want i q w = w.line == i && due w.count resend_limit

-- the name of a want as a group of our request
abbrev pub requested : ℕ → Want → RequestedGroup
requested q w = record { node = w.name.node.bytes; numbers = w.name.number ∷ [] }

-- what is requested stays wanted
abbrev pub sent_want : Option Want → Option Want
sent_want None = None
sent_want (Some w) = Some (record { line = w.line; name = w.name; count = sent_count })

-- requested now, at each of these want places
abbrev pub sent_wants : List ℕ → List (Option Want) → List (Option Want)
sent_wants [] wants = wants
sent_wants (q ∷ qs) wants = sent_wants qs (slice_set wants q (sent_want (slice_index_or wants q None)))

module _ {I : Type 0} (ops : Operations I) (i : ℕ) where
  -- our present summary, as the line has it once it is sent
  abbrev pub summary_with : World I → Handed I
  summary_with w = record { content = own_summary ops i w; world = w }

  abbrev pub hand_summary : World I → Line → Option (Handed I)
  hand_summary w l =
      cond (summary_due l.state l.role (due l.summary.count resend_limit))
      (Some (summary_with (on_line i (summary_sent l.state w.node.places) w))) None

  -- a request of these want places, a group for each; nothing is due where there are none
  abbrev pub request_with : World I → List ℕ → Option (Handed I)
  request_with w [] = None
  request_with w (q ∷ qs) = Some (record {
    content = packet (request (groups_at requested w.node.wants (q ∷ qs)));
    world = with_wants w (sent_wants (q ∷ qs) w.node.wants) w.wants;
  })

  -- the first 32 due wants of a line that is exchanging or loading
  abbrev pub hand_request : World I → Line → Option (Handed I)
  hand_request w l = cond (is_synchronizing l.state) (request_with w (first_places (due_want i) w.node.wants)) None

  -- the elements of these places, a group for each
  abbrev pub elements_out : World I → List ℕ → List ElementView
  elements_out w ps = groups_at (element_out ops w.elements w.node.bodies) w.node.places ps

  -- a bundle of these places, under the node ID and peer group ID of an element
  abbrev pub bundle_with : World I → List ℕ → Element → Handed I
  bundle_with w ps e = record {
    content = packet (bundle e.name.node.bytes e.group.bytes (elements_out w ps));
    world = on_line i (sent_on ps) w;
  }

  abbrev pub bundle_from : World I → Line → Option Element → Option (Handed I)
  bundle_from w l None = None
  bundle_from w l (Some e) = Some (bundle_with w (bundle_places w.node l e) e)

  -- the first owed and due element gives the bundle's node ID and peer group ID; nothing is due where there is none
  abbrev pub bundle_by : World I → Line → List ℕ → Option (Handed I)
  bundle_by w l [] = None
  bundle_by w l (p ∷ ps) = bundle_from w l (element_at w.node p)

  abbrev pub hand_bundle : World I → Line → Option (Handed I)
  hand_bundle w l = cond (is_past_negotiation l.state) (bundle_by w l (due_places l w.node.places)) None

  -- summary, request, bundle: in this order
  abbrev pub handed : World I → Option (Handed I)
  handed w =
      or_else (hand_summary w (line_at w.node i))
      (or_else (hand_request w (line_at w.node i)) (hand_bundle w (line_at w.node i)))
