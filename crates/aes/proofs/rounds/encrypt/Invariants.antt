-- After n turns the state is that after rounds 1 to n.
use Rattle.std.proofs.Common.{◌≡◌}
use Rattle.aes.specs.Rounds.{rounds}
use Rattle.aes.specs.View.{state_of}
use Rattle.aes.proofs.rounds.encrypt.Given as goal

abbrev pub invariant-loop-n : goal.invariant-loop-n
invariant-loop-n l = state_of l.s ≡ rounds l.schedule (state_of l.initial.s) l.n
