use Rattle.std.proofs.Common.{◌+◌, length, ap}
use Rattle.compose.proofs.LengthLaws.{sum_more, sum_over, sum_all}
use Rattle.compose.proofs.bundle.is_short.Goals as goal

pub returns-then-len-gt-LONGEST : goal.returns-then-len-gt-LONGEST
returns-then-len-gt-LONGEST c =
    sum_over _ _ _ _ _ c.loop-place.invariant.0 _ c.loop-place-test.true (ap (λ ys. c.loop-place.len + (20 + length ys)) c.body.ensures) c.if-len-gt-LONGEST.true

pub loop-place-preserved : goal.loop-place-preserved
loop-place-preserved c = (
  sum_more _ _ _ _ _ c.loop-place.invariant.0 _ c.loop-place-test.true (ap (λ ys. c.loop-place.len + (20 + length ys)) c.body.ensures),
  c.if-len-gt-LONGEST.false,
)

pub returns : goal.returns
returns c = sum_all _ _ _ _ _ c.loop-place.invariant.0 c.loop-place-test.false c.loop-place.invariant.1
