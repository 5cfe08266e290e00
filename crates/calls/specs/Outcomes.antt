-- What a call gives that is not refused. Assumes nothing.
use Rattle.std.specs.Prelude.{ℕ, List, ◌++◌, length, drop, Some, None, Option}
use Rattle.packets.specs.Contents.{PacketView}
use Rattle.packets.specs.Encodings.{encode}
use Rattle.database.specs.Nodes.{World}

-- done comes with the bytes written and the elements that found no place
pub data Outcome : Type 0 where
  done : ℕ → ℕ → Outcome
  ignored : Outcome
  restarted : Outcome
  nothing_due : Outcome

-- the number by which a caller knows it
abbrev pub outcome_number : Outcome → ℕ
outcome_number (done written left) = 0
outcome_number ignored = 40
outcome_number restarted = 41
outcome_number nothing_due = 42

-- a call's outcome, what it writes, and node and rows after it
pub record Effect (I : Type 0) : Type 0 where
  pub outcome : Outcome
  pub content : Option PacketView
  pub world : World I

abbrev pub effect : {I : Type 0} → Outcome → Option PacketView → World I → Effect I
effect outcome content w = record { outcome = outcome; content = content; world = w }

-- how many bytes are written
abbrev pub written : Option PacketView → ℕ
written None = 0
written (Some p) = length (encode p)

-- a packet over the first bytes of a buffer; without one the buffer stays
abbrev pub pasted : Option PacketView → List ℕ → List ℕ
pasted None buffer = buffer
pasted (Some p) buffer = encode p ++ drop (length (encode p)) buffer
