use Rattle.std.proofs.Common.{◌≡◌, ◌+◌, ◌^◌, ◌<◌, take, drop}
use Rattle.std.specs.List.{prefix_len}
use Rattle.text.specs.Words.{digit, decimal_value}
use Rattle.recorded.proofs.words.value.Given as goal

-- the value of the characters so far, which are digits
abbrev pub invariant-loop-b : goal.invariant-loop-b
invariant-loop-b l = (l.value ≡ decimal_value (take l.b-index l.word)) × ((l.value < 2 ^ 32) × (prefix_len digit l.word ≡ l.b-index + prefix_len digit (drop l.b-index l.word)))
