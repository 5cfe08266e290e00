-- Entries of one size, taken from bytes. Assumes nothing.
use Rattle.std.specs.Prelude.{ℕ, cond, List, length, drop, Some, None, Option, nat_lt}
use Rattle.std.specs.Borrow.{Bor}
use Rattle.packets.specs.declared.entry.Entries.{Entries}
use Rattle.packets.specs.Contents.{entries}

abbrev pub viewed_entry : {X : Type 0} → Option (X × Bor (List ℕ)) → Option (X × List ℕ)
viewed_entry None = None
viewed_entry (Some p) = Some (p.0, p.1.now)

-- the first entry, and the bytes behind it
abbrev pub first_entry : {X : Type 0} → (List ℕ → X) → ℕ → List ℕ → Option (X × List ℕ)
first_entry at size es = cond (nat_lt (length es) size) None (Some (at es, drop size es))

-- the entries that are still to come
abbrev pub entries_left : {X : Type 0} → (List ℕ → X) → ℕ → Entries X → List X
entries_left at size s = entries at size (length s.rest.now) s.rest.now
