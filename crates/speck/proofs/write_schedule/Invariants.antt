-- After i turns: the key's words after i rounds, and i round keys at the start of the workspace.
use Rattle.std.proofs.Common.{◌≡◌, ◌*◌, ◌++◌, drop}
use Rattle.speck.specs.Speck.{rounds, round_keys}
use Rattle.speck.proofs.write_schedule.Given as goal

abbrev pub invariant-loop-round : goal.invariant-loop-round
invariant-loop-round l =
    (l.state ≡ rounds (λ j. j) l.round l.initial.state)
    × (l.workspace ≡ round_keys l.initial.state l.round ++ drop (8 * l.round) l.initial.workspace)
