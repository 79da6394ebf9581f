-- After i turns: the words after i rounds.
use Rattle.std.proofs.Common.{◌≡◌}
use Rattle.speck.specs.Speck.{word, rounds}
use Rattle.speck.proofs.Words.after_rounds.Given as goal

abbrev pub invariant-loop-i : goal.invariant-loop-i
invariant-loop-i l = l.state ≡ rounds (λ j. word j l.keys) l.i l.initial.state
