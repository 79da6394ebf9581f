use Rattle.std.proofs.Common.{◌≡◌, vec_items}
use Rattle.text.specs.Words.{pairs}
use Rattle.text.proofs.hex_pairs.Given as goal

-- the octets of the pairs so far
abbrev pub invariant-loop-high : goal.invariant-loop-high
invariant-loop-high l = vec_items l.octets ≡ pairs l.fn.word l.high-index
