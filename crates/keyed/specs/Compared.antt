-- A comparison that does not leave early.
use Rattle.std.specs.Prelude.{ℕ, List, bit_or, bit_xor}
use Rattle.std.specs.List.{fold, zip}

-- the bits d and those in which the octets of a and b differ, place by place as far as both reach
abbrev pub gathered : ℕ → List ℕ → List ℕ → ℕ
gathered d a b = fold (λ bits p. bit_or bits (bit_xor p.0 p.1)) d (zip a b)
