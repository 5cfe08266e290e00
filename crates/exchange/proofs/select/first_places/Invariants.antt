use Rattle.std.proofs.Common.{◌≡◌, ℕ, Bool, [], drop}
use Rattle.places.specs.Lists.{listed}
use Rattle.exchange.specs.Selections.{chosen}
use Rattle.exchange.proofs.select.first_places.Given as goal

abbrev pub invariant-loop-place : goal.invariant-loop-place
invariant-loop-place g l =
    goal.F-IsAlwaysCallable g l.passes
    × ((f : ℕ → _ → Bool) → ((p : _) (x : _) (b : _) → goal.F-post g l.passes p x b → b ≡ f p x.now) → chosen 32 f l.place (drop l.place l.table) (listed l.list) ≡ chosen 32 f 0 l.table [])
