-- After i turns the first i words are written.
use Rattle.std.proofs.Common.{◌≡◌, ◌*◌, length, take}
use Rattle.aes.specs.Schedule.{words}
use Rattle.aes.proofs.schedule.expand.Given as goal

abbrev pub invariant-loop-i : goal.invariant-loop-i
invariant-loop-i l = (length l.schedule ≡ 176) × (take (4 * l.i) l.schedule ≡ words l.key l.i)
