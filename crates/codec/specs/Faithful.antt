-- What reading and writing promise each other. Assumes nothing.
use Rattle.std.specs.Prelude.{◌≡◌, Ok}
use Rattle.packets.specs.Contents.{PacketView, decode}
use Rattle.packets.specs.Encodings.{encode, Fits}

pub record Faithful : Type 0 where
  -- reading what was written gives what was written
  pub read_back : (p : PacketView) → Fits p → decode (encode p) ≡ Ok p
  -- two contents are never written as the same bytes
  pub apart : (p q : PacketView) → Fits p → Fits q → encode p ≡ encode q → p ≡ q
