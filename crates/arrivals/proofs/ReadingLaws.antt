-- A walk over the entries of a packet meets what the packet says. Assumes nothing.
use Rattle.std.proofs.Common.{◌≡◌, ℕ, List, map, length, take, drop, sym, ap, ◌∙◌}
use mathlib.Core.List.{map-map}
use Rattle.std.proofs.lemmas.List.{drop-drop}
use Rattle.kinds.specs.Kinds.{Operations}
use Rattle.packets.specs.declared.layout.PacketType.TheVariants.{Acknowledgement, Summary, Request}
use Rattle.packets.specs.Acknowledgements.{entry_at}
use Rattle.packets.specs.Contents.{entries, acknowledged_group, described_group, requested_group}
use Rattle.packets.specs.Groups.{contents}
use Rattle.packets.specs.Requests.{number_at}
use Rattle.packets.specs.Summaries.{description_at}
use Rattle.exchange.specs.Namings.{acknowledged_by, described_by, naming, requested_by}
use Rattle.arrivals.specs.Readings.{acknowledged_at, acknowledged_in, described_at, described_in, requested_at, requested_in}
use Rattle.arrivals.specs.Walks.{in_group, in_groups}
use Rattle.arrivals.proofs.WalkLaws.{each_as}

pub requested_met : (groups : List ℕ) → map requested_at (in_groups number_at 4 Request groups) ≡ requested_in groups
requested_met groups =
    sym (each_as requested_by requested_group (in_group number_at 4 2) requested_at
    (λ c. sym (map-map requested_at (λ e. (record { bytes = take 22 c }, e)) (entries number_at 4 (length c) (drop 2 (drop 22 c)))))
    (contents (length groups) Request groups))

module _ {I : Type 0} (ops : Operations I) where
  pub acknowledged_met : (groups : List ℕ) → map (acknowledged_at ops) (in_groups entry_at 12 Acknowledgement groups) ≡ acknowledged_in ops groups
  acknowledged_met groups =
      sym (each_as (acknowledged_by ops) acknowledged_group (in_group entry_at 12 2) (acknowledged_at ops)
      (λ c. sym (map-map (acknowledged_at ops) (λ e. (record { bytes = take 22 c }, e)) (entries entry_at 12 (length c) (drop 2 (drop 22 c)))))
      (contents (length groups) Acknowledgement groups))

  pub described_met : (groups : List ℕ) → map (described_at ops) (in_groups description_at 16 Summary groups) ≡ described_in ops groups
  described_met groups =
      sym (each_as (described_by ops) described_group (in_group description_at 16 18) (described_at ops)
      (λ c. ap (λ es. map (λ e. naming ops (take 22 c) e.number e.instance) (entries description_at 16 (length c) es)) (drop-drop 4 14 (drop 22 c))
      ∙ sym (map-map (described_at ops) (λ e. (record { bytes = take 22 c }, e)) (entries description_at 16 (length c) (drop 18 (drop 22 c)))))
      (contents (length groups) Summary groups))
