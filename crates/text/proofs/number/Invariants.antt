use Rattle.std.proofs.Common.{◌≡◌, ◌^◌, ◌<◌, take}
use Rattle.text.specs.Words.{decimal_value}
use Rattle.text.proofs.number.Given as goal

-- the value of the digits so far, which are at most nine
abbrev pub invariant-loop-b : goal.invariant-loop-b
invariant-loop-b l = (l.value ≡ decimal_value (take l.b-index l.word)) × (l.value < 10 ^ l.b-index)
