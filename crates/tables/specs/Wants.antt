-- The wants of all lines. Assumes nothing.
use Rattle.std.specs.Prelude.{◌≡◌, ℕ, ◌<◌, Bool, true, false, cond, ◌&&◌, List, map, length, get_or, Some, None, Option, ◌==◌, ◌≢◌, nat_lt, slice_index_or}
use Rattle.kinds.specs.declared.rank.Rank.{Rank}
use Rattle.kinds.specs.declared.rank.Rank.TheVariants.{Lower, Same, Higher}
use Rattle.kinds.specs.Kinds.{Operations}
use Rattle.kinds.specs.Recency.{instance_at}
use Rattle.packets.specs.declared.ids.Name.{Name}
use Rattle.packets.specs.Ids.{same_name}
use Rattle.places.specs.SendCounts.{raised}
use Rattle.lines.specs.declared.line.Line.{Line}
use Rattle.lines.specs.declared.line.State.{State}
use Rattle.lines.specs.declared.line.State.TheVariants.{Down, Negotiating, Exchanging, Loading, Full}
use Rattle.tables.specs.declared.want.Want.{Want}
use Rattle.lines.specs.Lines.{no_line, resend_limit, with_state}
use Rattle.lines.specs.Tables.{by_place, first_where}

abbrev pub is_of : ℕ → Option Want → Bool
is_of line None = false
is_of line (Some w) = w.line == line

-- the first want of a line, if it has one
abbrev pub want_of : List (Option Want) → ℕ → Option ℕ
want_of wants line = first_where (is_of line) 0 wants

-- whether an instance that ranks so against what came is at or below it
abbrev pub at_or_below : Rank → Bool
at_or_below Lower = true
at_or_below Same = true
at_or_below Higher = false

-- a want of the name at or below the instance that came is closed
abbrev pub closed_want : {I : Type 0} → Operations I → Name → I → I → Option Want → Option Want
closed_want ops name x wanted None = None
closed_want ops name x wanted (Some w) = cond (same_name w.name name && at_or_below (ops.rank wanted x)) None (Some w)

-- a want place that the row does not reach has no instance, and stays
abbrev pub closed_at : {I : Type 0} → Operations I → List I → Name → I → ℕ → Option Want → Option Want
closed_at ops row name x i w = cond (nat_lt i (length row)) (closed_want ops name x (instance_at ops row i) w) w

-- wants of the name, of whatever line, close at or below the instance that came
abbrev pub closed_wants : {I : Type 0} → Operations I → List I → Name → I → List (Option Want) → List (Option Want)
closed_wants ops row name x wants = by_place (closed_at ops row name x) wants

abbrev pub removed_want : ℕ → Option Want → Option Want
removed_want line None = None
removed_want line (Some w) = cond (w.line == line) None (Some w)

-- no want of the line is left
abbrev pub removed_wants : ℕ → List (Option Want) → List (Option Want)
removed_wants line wants = map (removed_want line) wants

abbrev pub second_want : Option Want → Option Want
second_want None = None
second_want (Some w) = Some (record { line = w.line; name = w.name; count = raised w.count resend_limit })

abbrev pub settled_by : Option ℕ → State → State
settled_by left Down = Down
settled_by left Negotiating = Negotiating
settled_by left Exchanging = Exchanging
settled_by (Some i) Loading = Loading
settled_by None Loading = Full
settled_by left Full = Full

-- a loading line without a want is full
abbrev pub settled_line : List (Option Want) → ℕ → Line → Line
settled_line wants i l = with_state (settled_by (want_of wants i) l.state) l

abbrev pub settled_lines : List (Option Want) → List Line → List Line
settled_lines wants lines = by_place (settled_line wants) lines

-- No want of the name at or below the instance is left, of whatever line.
abbrev pub Closed : {I : Type 0} → Operations I → List I → Name → I → List (Option Want) → Type 0
Closed ops row name x wants =
    (i : ℕ) (w : Want) → i < length row → slice_index_or wants i None ≡ Some w → same_name w.name name ≡ true → ops.rank (instance_at ops row i) x ≡ Higher

-- No want of the line is left.
abbrev pub NoneOf : ℕ → List (Option Want) → Type 0
NoneOf line wants = (i : ℕ) → is_of line (slice_index_or wants i None) ≡ false

-- A line without a want is not loading.
abbrev pub Settled : List (Option Want) → List Line → Type 0
Settled wants lines = (i : ℕ) → i < length lines → NoneOf i wants → (get_or lines i no_line).state ≢ Loading
