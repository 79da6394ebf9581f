-- The loop keeps product times square to the remaining exponent.
use Rattle.std.proofs.Common.{◌≡◌, ◌*◌, ◌%◌, ◌^◌, ◌<◌}
use Rattle.lookup.proofs.bench.power.Given as goal

abbrev pub invariant-loop-remaining : goal.invariant-loop-remaining
invariant-loop-remaining l =
    (l.product < 2147483647)
    × (l.product * l.square ^ l.remaining % 2147483647 ≡ l.initial.product * l.initial.square ^ l.initial.remaining % 2147483647)

abbrev pub decreases-loop-remaining : goal.decreases-loop-remaining
decreases-loop-remaining l = l.remaining
