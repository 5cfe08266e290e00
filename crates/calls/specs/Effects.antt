-- What each packet does, once it is not refused. Assumes nothing.
use Rattle.std.specs.Prelude.{ℕ, Bool, true, false, cond, not, ◌&&◌, List, [], ◌∷◌, Some, None, Option}
use Rattle.kinds.specs.Kinds.{Operations}
use Rattle.packets.specs.declared.acknowledgement.Acknowledged.{Acknowledged}
use Rattle.packets.specs.Contents.{DescribedGroup, RequestedGroup, PacketView, Said}
use Rattle.packets.specs.Contents.Said.{bundle, acknowledgement, summary, request}
use Rattle.lines.specs.declared.machine.Reaction.{Reaction}
use Rattle.lines.specs.declared.machine.Reaction.TheVariants.{Accepts, AnswersAgain, Ignores, Restarts}
use Rattle.lines.specs.declared.machine.SummaryEvent.{SummaryEvent}
use Rattle.lines.specs.Machine.{event_of, is_accepting, is_negotiating, reacted, reaction}
use Rattle.lines.specs.Progress.{is_empty}
use Rattle.tables.specs.Wants.{removed_wants}
use Rattle.database.specs.Nodes.{World}
use Rattle.exchange.specs.Acceptance.{accepted, all_held, summary_reply}
use Rattle.exchange.specs.Arrivals.{acknowledged_of, bundle_world, left_of}
use Rattle.exchange.specs.Changes.{line_at, on_line, restarted, with_wants}
use Rattle.exchange.specs.Namings.{acknowledgements, descriptions, requests}
use Rattle.exchange.specs.Showings.{called_for, shown_all, some_unheld}
use Rattle.exchange.specs.Summaries.{packet}
use Rattle.exchange.specs.Wanting.{lacks_places}
use Rattle.calls.specs.Calls.{settled_world}
use Rattle.calls.specs.Outcomes.{Effect, effect, written}
use Rattle.calls.specs.Outcomes.Outcome.{done, ignored, restarted as has_restarted}

abbrev pub is_summary : Said → Bool
is_summary (bundle node group es) = false
is_summary (acknowledgement gs) = false
is_summary (summary flags ds gs) = true
is_summary (request gs) = false

-- one group, since all elements of a bundle have its node ID; nothing where none is acknowledged
abbrev pub acknowledging : List ℕ → List Acknowledged → Option PacketView
acknowledging node [] = None
acknowledging node (a ∷ rest) = Some (packet (acknowledgement (record { node = node; entries = a ∷ rest } ∷ [])))

-- the packet did what it is for, and then loading lines without wants are full
abbrev pub went : {I : Type 0} → Option PacketView → ℕ → World I → Effect I
went content left w = effect (done (written content) left) content (settled_world w)

-- nothing changes at all
abbrev pub unchanged : {I : Type 0} → World I → Effect I
unchanged w = effect ignored None w

-- the line negotiates again, without wants
abbrev pub restarting : {I : Type 0} → ℕ → World I → Effect I
restarting line w = effect has_restarted None (with_wants w (removed_wants line w.node.wants) w.wants)

-- a summary was accepted; the slave replies with its next one
abbrev pub accepting : {I : Type 0} → Operations I → ℕ → World I → Effect I
accepting ops line w = went (summary_reply ops line w) 0 w

-- a duplicate is answered with the present summary again, and changes nothing
abbrev pub answering_again : {I : Type 0} → Operations I → ℕ → World I → Effect I
answering_again ops line w = effect (done (written (summary_reply ops line w)) 0) (summary_reply ops line w) w

module _ {I : Type 0} (ops : Operations I) (line : ℕ) (w : World I) where
  abbrev pub event_from : ℕ → ℕ → List DescribedGroup → SummaryEvent
  event_from flags ds gs = event_of w.node.id (line_at w.node line) flags ds (not (is_empty gs))

  -- how the line's state and the event make it react to a summary
  abbrev pub reaction_to : SummaryEvent → Reaction
  reaction_to event = reaction (line_at w.node line).state event

  -- the line once it has reacted; negotiation that ends marks every held element for telling
  abbrev pub once_reacted : ℕ → SummaryEvent → World I
  once_reacted ds event = on_line line (reacted (all_held w.node.places) ds event) w

  -- what follows from each reaction
  abbrev pub summarized : ℕ → ℕ → List DescribedGroup → World I → Reaction → Effect I
  summarized flags ds gs v Accepts = accepting ops line (accepted ops line flags ds (descriptions ops gs) v)
  summarized flags ds gs v AnswersAgain = answering_again ops line v
  summarized flags ds gs v Ignores = unchanged v
  summarized flags ds gs v Restarts = restarting line v

  abbrev pub on_summary : ℕ → ℕ → List DescribedGroup → SummaryEvent → Effect I
  on_summary flags ds gs event = summarized flags ds gs (once_reacted ds event) (reaction_to event)

  -- a request is met whole or restarts the line
  abbrev pub called : List RequestedGroup → Effect I
  called gs =
      cond (some_unheld w.node.places (requests gs)) (restarting line (restarted line w))
      (went None 0 (on_line line (called_for w.node.places (requests gs)) w))

  -- a bundle is processed and acknowledged, an acknowledgement shows, a summary moves the exchange, a request calls
  abbrev pub delivered : Said → Effect I
  delivered (bundle node group es) =
      went (acknowledging node (acknowledged_of ops line node group es w)) (left_of ops line node group es w) (bundle_world ops line node group es w)
  delivered (acknowledgement gs) =
      went None 0 (on_line line (shown_all ops w.node.places w.elements (acknowledgements ops gs)) w)
  delivered (summary flags ds gs) = on_summary flags ds gs (event_from flags ds gs)
  delivered (request gs) = called gs

  -- a bundle, acknowledgement or request while negotiating
  abbrev pub too_early : Said → Bool
  too_early said = is_negotiating (line_at w.node line).state && not (is_summary said)

  -- a summary that would be accepted needs more want places than are free
  abbrev pub lacks_wants : Said → Bool
  lacks_wants (bundle node group es) = false
  lacks_wants (acknowledgement gs) = false
  lacks_wants (summary flags ds gs) = is_accepting (reaction_to (event_from flags ds gs)) && lacks_places ops line w (descriptions ops gs)
  lacks_wants (request gs) = false
