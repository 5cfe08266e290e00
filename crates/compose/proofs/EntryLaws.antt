-- What the entries of a group leave in the buffer. Assumes nothing.
use Rattle.std.proofs.Common.{◌≡◌, ℕ, ◌+◌, ◌*◌, ◌<◌, ◌≤◌, List, ◌++◌, map, length, get_or, drop, ◌∙◌, arith}
use Rattle.std.proofs.lemmas.List.{at_drop_more}
use Rattle.packets.specs.declared.acknowledgement.Acknowledged.{Acknowledged}
use Rattle.packets.specs.Encodings.{entry_bytes, joined}
use Rattle.writer.specs.declared.states.GroupOpen.{GroupOpen}
use Rattle.writer.specs.Writers.{Appended}
use Rattle.compose.proofs.ComposeLaws.{Leads, leads_more}

abbrev entries_bytes : List Acknowledged → List ℕ
entries_bytes es = joined (map entry_bytes es)

-- how far the entries were written
pub record Entered (es : List Acknowledged) (g₀ : GroupOpen) (before : List ℕ) (i : ℕ) (g : GroupOpen) (buffer : List ℕ) : Type 0 where
  pub written : Leads g.len (entries_bytes (drop i es)) buffer g₀.len (entries_bytes es) before
  pub start : g.start ≡ g₀.start
  pub long : g.len ≡ g₀.len + i * 12

-- one more is written
pub entered_more : (es : List Acknowledged) (g₀ : GroupOpen) (before : List ℕ) (i : ℕ) (g : GroupOpen) (buffer : List ℕ) → Entered es g₀ before i g buffer → i < length es → (d : Acknowledged) (h : GroupOpen) (out : List ℕ) → g₀.len + length es * 12 ≤ length buffer → h.start ≡ g.start → Appended g.len (entry_bytes (get_or es i d)) buffer h.len out → h.len ≡ g.len + 12 → Entered es g₀ before (i + 1) h out
entered_more es g₀ before i g buffer s lt d h out room p w len =
    let e : entries_bytes (drop i es) ≡ entry_bytes (get_or es i d) ++ entries_bytes (drop (i + 1) es) = at_drop_more entries_bytes es i d lt in
    record {
      written = leads_more g.len _ buffer g₀.len _ before (entry_bytes (get_or es i d)) _ h.len out s.written e w (omega (arith, s.long));
      start = p ∙ s.start;
      long = omega (arith, s.long);
    }
