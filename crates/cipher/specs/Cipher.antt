-- A block cipher by its schedule and by what it works out under a schedule.
use Rattle.std.specs.Prelude.{ℕ, cond, List, ◌++◌, length, take, drop, nat_lt}

-- E(K, X): the block worked out of X under the schedule of K
abbrev pub E : (List ℕ → List ℕ) → (List ℕ → List ℕ → List ℕ) → List ℕ → List ℕ → List ℕ
E schedule worked k x = worked (schedule k) x

-- a workspace of full size after a schedule s was written at its start; a shorter one stays as it is
abbrev pub prepared : List ℕ → List ℕ → List ℕ
prepared s w = cond (nat_lt (length w) 256) w (s ++ drop (length s) w)

-- the block worked out under the schedule that is the first n octets of the workspace; under a short workspace the block itself
abbrev pub enciphered : ℕ → (List ℕ → List ℕ → List ℕ) → List ℕ → List ℕ → List ℕ
enciphered n worked w x = cond (nat_lt (length w) 256) x (worked (take n w) x)

-- E(K, X) where a workspace w of full size is lent; where a shorter one is, X itself
abbrev pub one_block : (List ℕ → List ℕ) → (List ℕ → List ℕ → List ℕ) → List ℕ → List ℕ → List ℕ → List ℕ
one_block schedule worked k x w = cond (nat_lt (length w) 256) x (E schedule worked k x)
