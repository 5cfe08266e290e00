-- What becomes of an instance as time goes by. Assumes nothing.
use Rattle.std.specs.Prelude.{◌≡◌, ℕ, zero, suc, ◌-◌, ◌<◌, ◌≤◌}
use Rattle.kinds.specs.declared.rank.Rank.TheVariants.{Same, Higher}
use Rattle.kinds.specs.Kinds.{Operations}

-- an instance after a number of seconds
unfoldable pub aged : {I : Type 0} → Operations I → ℕ → I → I
aged ops zero x = x
aged ops (suc n) x = ops.older (aged ops n x)

-- While time is left the rank stays; then comes the expired form of what the instance had aged to, which is above all
-- that it was; and an expired instance stays as it is.
pub record Ageing {I : Type 0} (ops : Operations I) (x : I) (seconds : ℕ) (y : I) : Type 0 where
  pub rank_stays : seconds < ops.left x → ops.rank y x ≡ Same
  pub time_falls : seconds < ops.left x → ops.left y ≡ ops.left x - seconds
  pub runs_out : 0 < ops.left x → ops.left x ≤ seconds → y ≡ ops.expired (aged ops (ops.left x - 1) x)
  pub ends_higher : 0 < ops.left x → ops.left x ≤ seconds → ops.rank y x ≡ Higher
  pub stays_expired : ops.left x ≡ 0 → y ≡ x
