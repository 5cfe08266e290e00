-- What descriptions make a line want. Assumes nothing.
use Rattle.std.specs.Prelude.{ℕ, ◌+◌, Bool, false, cond, not, ◌&&◌, List, [], ◌∷◌, Some, None, Option, ◌==◌, nat_lt, slice_set}
use Rattle.kinds.specs.Kinds.{Operations, is_expired}
use Rattle.kinds.specs.Recency.{instance_at, is_higher}
use Rattle.packets.specs.declared.ids.Name.{Name}
use Rattle.packets.specs.Ids.{same_name}
use Rattle.places.specs.SendCounts.{fresh_count}
use Rattle.tables.specs.declared.want.Want.{Want}
use Rattle.lines.specs.Lines.{resend_limit}
use Rattle.database.specs.Nodes.{World}
use Rattle.tables.specs.Searches.{free_place, is_free, place_of}
use Rattle.lines.specs.Tables.{first_where, some_where}
use Rattle.exchange.specs.Changes.{on_line, with_wants}
use Rattle.exchange.specs.Namings.{Naming}
use Rattle.exchange.specs.Showings.{shown_by}

-- a want of this line and name
abbrev pub is_want : ℕ → Name → Option Want → Bool
is_want line name None = false
is_want line name (Some w) = w.line == line && same_name w.name name

-- the line's want of a name, if it has one
abbrev pub want_named : List (Option Want) → ℕ → Name → Option ℕ
want_named wants line name = first_where (is_want line name) 0 wants

-- how many want places are free
abbrev pub free_places : {X : Type 0} → List (Option X) → ℕ
free_places [] = 0
free_places (x ∷ xs) = cond (is_free x) (1 + free_places xs) (free_places xs)

-- a want that is new or raised is due at once
abbrev pub new_want : ℕ → Name → Want
new_want line name = record { line = line; name = name; count = fresh_count resend_limit }

module _ {I : Type 0} (ops : Operations I) where
  abbrev pub wanted_at : List I → I → Option ℕ → Bool
  wanted_at xs x None = not (is_expired ops x)
  wanted_at xs x (Some p) = is_higher (ops.rank x (instance_at ops xs p))

  -- the held instance ranks lower, or none is held and this one is unexpired
  abbrev pub is_wanted : World I → Naming I → Bool
  is_wanted w m = wanted_at w.elements m.instance (place_of w.node.places m.name)

  -- wanted, of a name that the line has no want of
  abbrev pub needs_place : ℕ → World I → Naming I → Bool
  needs_place i w m = is_wanted w m && is_free (want_named w.node.wants i m.name)

  -- the same, of one name
  abbrev pub needs_for : ℕ → World I → Name → Naming I → Bool
  needs_for i w name m = needs_place i w m && same_name m.name name

  -- how many want places descriptions need: a name counts once, where such a description of it is the last
  abbrev pub needed : ℕ → World I → List (Naming I) → ℕ
  needed i w [] = 0
  needed i w (m ∷ ms) =
      cond (needs_place i w m && not (some_where (needs_for i w m.name) ms)) (1 + needed i w ms) (needed i w ms)

  -- more are needed than are free
  abbrev pub lacks_places : ℕ → World I → List (Naming I) → Bool
  lacks_places i w ms = nat_lt (free_places w.node.wants) (needed i w ms)

  -- a want of the line in a want place, with its instance in the row
  abbrev pub wanting : ℕ → Naming I → ℕ → World I → World I
  wanting i m q w = with_wants w (slice_set w.node.wants q (Some (new_want i m.name))) (slice_set w.wants q m.instance)

  -- a new want, if a want place is free
  abbrev pub newly_wanted : ℕ → Naming I → Option ℕ → World I → World I
  newly_wanted i m None w = w
  newly_wanted i m (Some q) w = wanting i m q w

  -- none yet: a new one in the lowest free want place; a lower one is replaced in its place; one at or above stays
  abbrev pub raised_want : ℕ → Naming I → Option ℕ → World I → World I
  raised_want i m None w = newly_wanted i m (free_place w.node.wants) w
  raised_want i m (Some q) w = cond (is_higher (ops.rank m.instance (instance_at ops w.wants q))) (wanting i m q w) w

  -- a description that is not wanted changes no want
  abbrev pub wanted_by : ℕ → Naming I → World I → World I
  wanted_by i m w = cond (is_wanted w m) (raised_want i m (want_named w.node.wants i m.name) w) w

  -- a description shows the instance held, or is wanted
  abbrev pub described : ℕ → Naming I → World I → World I
  described i m w = wanted_by i m (on_line i (shown_by ops w.node.places w.elements m) w)

  -- the descriptions of an accepted summary, in order
  abbrev pub described_all : ℕ → List (Naming I) → World I → World I
  described_all i [] w = w
  described_all i (m ∷ ms) w = described_all i ms (described i m w)
