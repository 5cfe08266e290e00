-- Ranks, the laws of an order by rank, and how keys of an instance decide one. Assumes nothing.
use Rattle.std.specs.Prelude.{◌≡◌, ℕ, Bool, cond, ℤ, int_lt, nat_lt}
use Rattle.std.specs.declared.cmp.Ordering.TheVariants.{Less, Equal, Greater}
use Rattle.std.specs.declared.cmp.Ordering.{Ordering}
use Rattle.kinds.specs.declared.rank.Rank.{Rank}
use Rattle.kinds.specs.declared.rank.Rank.TheVariants.{Lower, Same, Higher}

abbrev pub rank_of : Ordering → Rank
rank_of Less = Lower
rank_of Equal = Same
rank_of Greater = Higher

-- the rank seen from the other side
abbrev pub turned : Rank → Rank
turned Lower = Higher
turned Same = Same
turned Higher = Lower

-- Exactly one of lower, same and higher holds, as a rank is one of the three. Lower one way is higher the other way,
-- and lower and same are transitive.
pub record WeakOrder {I : Type 0} (rank : I → I → Rank) : Type 0 where
  pub rank_turned : (x y : I) → rank y x ≡ turned (rank x y)
  pub lower_trans : (x y z : I) → rank x y ≡ Lower → rank y z ≡ Lower → rank x z ≡ Lower
  pub same_trans : (x y z : I) → rank x y ≡ Same → rank y z ≡ Same → rank x z ≡ Same

-- What follows of every such order: same is reflexive and symmetric, higher is transitive, and lower and higher
-- respect same on both sides.
pub record OrderFacts {I : Type 0} (rank : I → I → Rank) : Type 0 where
  pub same_self : (x : I) → rank x x ≡ Same
  pub same_sym : (x y : I) → rank x y ≡ Same → rank y x ≡ Same
  pub higher_trans : (x y z : I) → rank x y ≡ Higher → rank y z ≡ Higher → rank x z ≡ Higher
  pub lower_same : (x y z : I) → rank x y ≡ Lower → rank y z ≡ Same → rank x z ≡ Lower
  pub same_lower : (x y z : I) → rank x y ≡ Same → rank y z ≡ Lower → rank x z ≡ Lower
  pub higher_same : (x y z : I) → rank x y ≡ Higher → rank y z ≡ Same → rank x z ≡ Higher
  pub same_higher : (x y z : I) → rank x y ≡ Same → rank y z ≡ Higher → rank x z ≡ Higher

-- the first key decides, unless it is the same
abbrev pub then_by : Rank → Rank → Rank
then_by Lower r = Lower
then_by Same r = r
then_by Higher r = Higher

-- the larger number ranks higher
abbrev pub by_number : ℕ → ℕ → Rank
by_number a b = cond (nat_lt a b) Lower (cond (nat_lt b a) Higher Same)

-- the larger signed number ranks higher
abbrev pub by_signed : ℤ → ℤ → Rank
by_signed a b = cond (int_lt a b) Lower (cond (int_lt b a) Higher Same)

-- expired ranks above unexpired
abbrev pub by_expiry : Bool → Bool → Rank
by_expiry a b = cond a (cond b Same Higher) (cond b Lower Same)
