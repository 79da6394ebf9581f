-- Speck128/128: a key and a block are two words of 64 bits each, and 32 rounds work on them.
use Rattle.std.specs.Prelude.{ℕ, zero, suc, ◌+◌, ◌-◌, ◌*◌, ◌/◌, ◌%◌, ◌^◌, List, [], ◌∷◌, ◌++◌, take, drop, bit_xor, slice_index}
use Rattle.speck.specs.declared.Words.{Words}

-- the number that eight octets are, the highest first
unfoldable pub number : List ℕ → ℕ
number o =
    slice_index o 0 * 2 ^ 56 + slice_index o 1 * 2 ^ 48 + slice_index o 2 * 2 ^ 40 + slice_index o 3 * 2 ^ 32
    + slice_index o 4 * 2 ^ 24 + slice_index o 5 * 2 ^ 16 + slice_index o 6 * 2 ^ 8 + slice_index o 7

-- word i of a row of octets: octets 8 i to 8 i + 7
unfoldable pub word : ℕ → List ℕ → ℕ
word i s = number (take 8 (drop (8 * i) s))

-- the eight octets of a word, the highest first
unfoldable pub octets : ℕ → List ℕ
octets v =
    (v / 2 ^ 56 % 256) ∷ (v / 2 ^ 48 % 256) ∷ (v / 2 ^ 40 % 256) ∷ (v / 2 ^ 32 % 256)
    ∷ (v / 2 ^ 24 % 256) ∷ (v / 2 ^ 16 % 256) ∷ (v / 2 ^ 8 % 256) ∷ (v % 256) ∷ []

-- a word of 64 bits rotated right by n: the lowest n bits become the highest
unfoldable pub rotated_right : ℕ → ℕ → ℕ
rotated_right n v = v % 2 ^ n * 2 ^ (64 - n) + v / 2 ^ n

-- a word of 64 bits rotated left by n: the highest n bits become the lowest
unfoldable pub rotated_left : ℕ → ℕ → ℕ
rotated_left n v = v % 2 ^ (64 - n) * 2 ^ n + v / 2 ^ (64 - n)

-- a round with a round key: x becomes (x rotated right 8, plus y) XOR the key, then y becomes (y rotated left 3) XOR the new x
unfoldable pub round : ℕ → Words → Words
round key w =
    let x : ℕ = bit_xor ((rotated_right 8 w.x + w.y) % 2 ^ 64) key in
    record { x = x; y = bit_xor (rotated_left 3 w.y) x }

-- n rounds, of which round i has the round key (key i)
unfoldable pub rounds : (ℕ → ℕ) → ℕ → Words → Words
rounds key zero w = w
rounds key (suc i) w = round (key i) (rounds key i w)

-- the two words of sixteen octets
unfoldable pub words : List ℕ → Words
words b = record { x = word 0 b; y = word 1 b }

-- round key i of a key, whose words are l and k: the word k after i rounds on l and k, of which round j has the number j as its key
unfoldable pub round_key : Words → ℕ → ℕ
round_key w i = (rounds (λ j. j) i w).y

-- the first n round keys of a key, one after another
unfoldable pub round_keys : Words → ℕ → List ℕ
round_keys w zero = []
round_keys w (suc i) = round_keys w i ++ octets (round_key w i)

-- the schedule of a key: its 32 round keys, 256 octets
unfoldable pub schedule : List ℕ → List ℕ
schedule key = round_keys (words key) 32

-- the block worked out of a block under a schedule: 32 rounds, of which round i has word i of the schedule as its key
unfoldable pub worked : List ℕ → List ℕ → List ℕ
worked s b =
    let w : Words = rounds (λ i. word i s) 32 (words b) in
    octets w.x ++ octets w.y
