-- How a neighbour shows what is held, and calls for it. Assumes nothing.
use Rattle.std.specs.Prelude.{ℕ, Bool, List, [], ◌∷◌, Some, None, Option}
use Rattle.kinds.specs.declared.rank.Rank.{Rank}
use Rattle.kinds.specs.declared.rank.Rank.TheVariants.{Lower, Same, Higher}
use Rattle.kinds.specs.Kinds.{Operations}
use Rattle.kinds.specs.Recency.{instance_at}
use Rattle.packets.specs.declared.ids.Name.{Name}
use Rattle.tables.specs.declared.element.Element.{Element}
use Rattle.lines.specs.declared.line.Line.{Line}
use Rattle.lines.specs.Lines.{owing, shown}
use Rattle.tables.specs.Searches.{is_free, place_of}
use Rattle.lines.specs.Tables.{some_where}
use Rattle.exchange.specs.Namings.{Naming}

-- a showing must rank the same; higher and lower show nothing
abbrev pub shown_if : Rank → ℕ → Line → Line
shown_if Lower p l = l
shown_if Same p l = shown p l
shown_if Higher p l = l

-- an instance that ranks the same as the one held at a place shows it
abbrev pub showing : {I : Type 0} → Operations I → List I → I → ℕ → Line → Line
showing ops xs x p l = shown_if (ops.rank x (instance_at ops xs p)) p l

-- a name that is not held shows nothing
abbrev pub showing_at : {I : Type 0} → Operations I → List I → I → Option ℕ → Line → Line
showing_at ops xs x None l = l
showing_at ops xs x (Some p) l = showing ops xs x p l

-- an entry of an acknowledgement or of a summary shows the instance held of its name
abbrev pub shown_by : {I : Type 0} → Operations I → List (Option Element) → List I → Naming I → Line → Line
shown_by ops places xs m l = showing_at ops xs m.instance (place_of places m.name) l

-- the entries of an acknowledgement, in order
abbrev pub shown_all : {I : Type 0} → Operations I → List (Option Element) → List I → List (Naming I) → Line → Line
shown_all ops places xs [] l = l
shown_all ops places xs (m ∷ ms) l = shown_all ops places xs ms (shown_by ops places xs m l)

-- a name that no place has
abbrev pub is_unheld : List (Option Element) → Name → Bool
is_unheld places name = is_free (place_of places name)

-- a request that names an element which is not held
abbrev pub some_unheld : List (Option Element) → List Name → Bool
some_unheld places names = some_where (is_unheld places) names

-- the neighbour calls for what is held at a place
abbrev pub called_at : Option ℕ → Line → Line
called_at None l = l
called_at (Some p) l = owing p l

-- each element that a request names is owed, and due at once
abbrev pub called_for : List (Option Element) → List Name → Line → Line
called_for places [] l = l
called_for places (name ∷ names) l = called_for places names (called_at (place_of places name) l)
