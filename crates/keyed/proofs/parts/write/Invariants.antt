-- What holds after some parts.
use Rattle.std.proofs.Common.{◌≡◌, ◌++◌, length, take, drop}
use Rattle.keyed.specs.Parts.{joined}
use Rattle.keyed.proofs.parts.write.Given as goal

abbrev pub invariant-loop-part : goal.invariant-loop-part
invariant-loop-part l =
    (l.at ≡ length (joined (take l.part-index l.parts)))
    × (l.string ≡ joined (take l.part-index l.parts) ++ drop l.at l.initial.string)
