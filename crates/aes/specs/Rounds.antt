-- The cipher of FIPS 197 with ten rounds. A state is four rows of four octets, filled column by column.
use Rattle.std.specs.Prelude.{ℕ, zero, suc, ◌+◌, ◌*◌, ◌%◌, List, [], ◌++◌, bit_xor, slice_index, slice_index_or}
use Rattle.aes.specs.Field.{product}
use Rattle.aes.specs.Sbox.{sbox}
use Rattle.aes.specs.Schedule.{four, octet}

-- a state: the list of its rows
abbrev pub State : Type 0
State = List (List ℕ)

-- the octet in row r and column c
abbrev pub cell : State → ℕ → ℕ → ℕ
cell s r c = slice_index (slice_index_or s r []) c

-- the state with the octet f r c in row r and column c
abbrev pub grid : (ℕ → ℕ → ℕ) → State
grid f = four (λ r. four (f r))

-- the state that a block fills
abbrev pub input : List ℕ → State
input x = grid (λ r c. slice_index x (r + 4 * c))

-- column c of a state
abbrev pub column : State → ℕ → List ℕ
column s c = four (λ r. cell s r c)

-- the block that a state gives
abbrev pub output : State → List ℕ
output s = column s 0 ++ (column s 1 ++ (column s 2 ++ column s 3))

-- round key n of the schedule w: its column c is word 4 n + c
abbrev pub round_key : List ℕ → ℕ → State
round_key w n = grid (λ r c. octet w (4 * n + c) r)

-- SubBytes: each octet through the S-box
abbrev pub sub_bytes : State → State
sub_bytes s = grid (λ r c. sbox (cell s r c))

-- ShiftRows: row r goes r places to the left
abbrev pub shift_rows : State → State
shift_rows s = grid (λ r c. cell s r ((c + r) % 4))

-- MixColumns: each octet becomes the XOR of twice itself, three times the octet below it and the two below that, round its column
abbrev pub mix_columns : State → State
mix_columns s =
    grid (λ r c. bit_xor (bit_xor (bit_xor (product 2 (cell s r c)) (product 3 (cell s ((r + 1) % 4) c))) (cell s ((r + 2) % 4) c)) (cell s ((r + 3) % 4) c))

-- AddRoundKey: the XOR of a state and a round key
abbrev pub add_round_key : State → State → State
add_round_key s k = grid (λ r c. bit_xor (cell s r c) (cell k r c))

-- a round under the round key k
abbrev pub full_round : State → State → State
full_round s k = add_round_key (mix_columns (shift_rows (sub_bytes s))) k

-- the last round, which does not mix the columns
abbrev pub last_round : State → State → State
last_round s k = add_round_key (shift_rows (sub_bytes s)) k

-- the state s after rounds 1 to n under the schedule w
abbrev pub rounds : List ℕ → State → ℕ → State
rounds w s zero = s
rounds w s (suc n) = full_round (rounds w s n) (round_key w (suc n))

-- the block x enciphered under the schedule w: round key 0, nine rounds and the last one
unfoldable pub cipher : List ℕ → List ℕ → List ℕ
cipher w x = output (last_round (rounds w (add_round_key (input x) (round_key w 0)) 9) (round_key w 10))
