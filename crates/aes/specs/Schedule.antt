-- The key expansion of FIPS 197 for a key of 128 bits. A word is four octets.
use Rattle.std.specs.Prelude.{ℕ, zero, suc, ◌+◌, ◌-◌, ◌*◌, ◌/◌, ◌%◌, cond, List, [], ◌∷◌, ◌++◌, ◌==◌, bit_xor, nat_lt, slice_index}
use Rattle.aes.specs.Field.{x_power}
use Rattle.aes.specs.Sbox.{sbox}

-- what f gives at 0, 1, 2 and 3
abbrev pub four : {X : Type 0} → (ℕ → X) → List X
four f = f 0 ∷ f 1 ∷ f 2 ∷ f 3 ∷ []

-- octet r of word i of the octets w
abbrev pub octet : List ℕ → ℕ → ℕ → ℕ
octet w i r = slice_index w (4 * i + r)

-- word i of the octets w
abbrev pub word : List ℕ → ℕ → List ℕ
word w i = four (octet w i)

-- the XOR of two words
abbrev pub xor_word : List ℕ → List ℕ → List ℕ
xor_word u v = four (λ r. bit_xor (slice_index u r) (slice_index v r))

-- RotWord: one place to the left, the first octet last
abbrev pub rot_word : List ℕ → List ℕ
rot_word u = four (λ r. slice_index u ((r + 1) % 4))

-- SubWord: each octet through the S-box
abbrev pub sub_word : List ℕ → List ℕ
sub_word u = four (λ r. sbox (slice_index u r))

-- Rcon[j]: x to the j - 1, and three octets 0
abbrev pub rcon : ℕ → List ℕ
rcon j = x_power (j - 1) ∷ 0 ∷ 0 ∷ 0 ∷ []

-- temp at word i, from the word u before it: u, at each fourth word through RotWord and SubWord and XORed with Rcon[i / 4]
abbrev pub temp : List ℕ → ℕ → List ℕ
temp u i = cond (i % 4 == 0) (xor_word (sub_word (rot_word u)) (rcon (i / 4))) u

-- w[i], from the words w before it: word i of the key for the first four, and w[i - 4] XOR temp after them
abbrev pub next_word : List ℕ → List ℕ → ℕ → List ℕ
next_word key w i = cond (nat_lt i 4) (word key i) (xor_word (word w (i - 4)) (temp (word w (i - 1)) i))

-- the first n words, in one list of octets
abbrev pub words : List ℕ → ℕ → List ℕ
words key zero = []
words key (suc n) = let w : List ℕ = words key n in w ++ next_word key w n

-- the schedule of a key: 44 words, which are eleven round keys
unfoldable pub key_expansion : List ℕ → List ℕ
key_expansion key = words key 44
