-- How much was compared.
use Rattle.std.specs.Prelude.{ℕ, ◌+◌, ◌-◌, ◌^◌, Bool, true, false, List, codes, min}
use Rattle.recorded.specs.declared.tally.Tally.{Tally}

-- one more, up to the last number of 32 bits
abbrev pub one_more : ℕ → ℕ
one_more n = min (n + 1) (2 ^ 32 - 1)

-- a tally with one figure more
abbrev pub counted : Tally → Bool → Tally
counted t true = record t { compared = one_more t.compared }
counted t false = record { compared = one_more t.compared; wrong = one_more t.wrong }

-- the word for what came of a figure
abbrev pub verdict : Bool → List ℕ
verdict true = codes "agrees"
verdict false = codes "DIFFERS"
