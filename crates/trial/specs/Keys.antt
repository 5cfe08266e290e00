-- How two editions rank by one key alone. Assumes nothing.
use Rattle.kinds.specs.declared.cache.Cache.{Cache}
use Rattle.kinds.specs.declared.rank.Rank.{Rank}
use Rattle.kinds.specs.declared.rank.Rank.TheVariants.{Same}
use Rattle.kinds.specs.declared.topology.Topology.{Topology}
use Rattle.kinds.specs.Caches.{cache}
use Rattle.kinds.specs.Kinds.{is_expired}
use Rattle.kinds.specs.Ranks.{by_number, by_signed, by_expiry}
use Rattle.kinds.specs.Topologies.{topology}
use Rattle.trial.specs.declared.key.Key.{Key}
use Rattle.trial.specs.declared.key.Key.TheVariants.{Sequence, Expiry, Check}

abbrev pub topology_by : Key → Topology → Topology → Rank
topology_by Sequence x y = by_number x.sequence y.sequence
topology_by Expiry x y = by_expiry (is_expired topology x) (is_expired topology y)
topology_by Check x y = by_number x.check y.check

-- a cache record has no check
abbrev pub cache_by : Key → Cache → Cache → Rank
cache_by Sequence x y = by_signed x.sequence y.sequence
cache_by Expiry x y = by_expiry (is_expired cache x) (is_expired cache y)
cache_by Check x y = Same
