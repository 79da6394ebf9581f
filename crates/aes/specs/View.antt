-- The rows of the program as lists of octets.
use Rattle.std.specs.Prelude.{ℕ, List, [], ◌∷◌, slice_index, slice_index_or}
use Rattle.aes.specs.declared.state.Row.{Row}
use Rattle.aes.specs.Field.{product}
use Rattle.aes.specs.Schedule.{four}
use Rattle.aes.specs.Rounds.{State}

-- the octets of a row
abbrev pub octets : Row → List ℕ
octets r = r.c0 ∷ r.c1 ∷ r.c2 ∷ r.c3 ∷ []

-- the state that an array of four rows holds
abbrev pub state_of : List Row → State
state_of s = four (λ r. octets (slice_index_or s r (record { c0 = 0; c1 = 0; c2 = 0; c3 = 0 })))

-- each octet of a row times k
abbrev pub scaled : ℕ → List ℕ → List ℕ
scaled k u = four (λ c. product k (slice_index u c))
