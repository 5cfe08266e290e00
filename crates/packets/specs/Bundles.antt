-- The bundle. Assumes nothing.
use Rattle.std.specs.Prelude.{ℕ, cond, List, length, take, drop, Some, None, Option, nat_lt}
use Rattle.kinds.specs.BigEndian.{at16, at32}
use Rattle.packets.specs.declared.bundle.Bundle.{Bundle}
use Rattle.packets.specs.declared.bundle.Element.{Element}

pub record BundleView : Type 0 where
  pub node : List ℕ
  pub group : List ℕ
  pub groups : List ℕ

pub record ElementView : Type 0 where
  pub element_type : ℕ
  pub number : ℕ
  pub instance : List ℕ
  pub body : List ℕ

abbrev pub viewed_bundle : Option Bundle → Option BundleView
viewed_bundle None = None
viewed_bundle (Some b) = Some (record { node = b.node.bytes; group = b.group.bytes; groups = b.groups.now })

-- node ID and peer group ID, then the groups
abbrev pub bundle_of : List ℕ → Option BundleView
bundle_of part =
    cond (nat_lt (length part) 36) None
    (Some (record { node = take 22 part; group = take 14 (drop 22 part); groups = drop 14 (drop 22 part) }))

abbrev pub viewed_element : Option Element → Option ElementView
viewed_element None = None
viewed_element (Some e) = Some (record { element_type = e.element_type; number = e.number; instance = e.instance; body = e.body.now })

-- type, two reserved bytes, number, instance, body
abbrev pub element_at : List ℕ → ElementView
element_at c = record { element_type = at16 (take 8 c) 0; number = at32 (take 8 c) 4; instance = take 8 (drop 8 c); body = drop 8 (drop 8 c) }

abbrev pub element_of : List ℕ → Option ElementView
element_of c = cond (nat_lt (length c) 16) None (Some (element_at c))
