-- Data under the keystream: the cipher e in counter mode, under the key k from the counter c on.
use Rattle.std.specs.Prelude.{◌≡◌, ℕ, ◌+◌, ◌-◌, ◌/◌, ◌%◌, ◌^◌, List, ◌++◌, map, length, drop, bit_xor, slice_index}
use Rattle.std.specs.List.{range_with_len}

-- a counter as a block of sixteen octets, the highest first
unfoldable pub counter_block : ℕ → List ℕ
counter_block n = map (λ i. n / 256 ^ (15 - i) % 256) (range_with_len 0 16)

-- octet i of the keystream from the counter c on, where f enciphers under the key: block i / 16 is that of the counter c + i / 16, modulo 2 ^ 128
unfoldable pub streamed : (List ℕ → List ℕ) → ℕ → ℕ → ℕ
streamed f c i = slice_index (f (counter_block ((c + i / 16) % 2 ^ 128))) (i % 16)

-- each octet of the data d with its octet of the keystream, by exclusive or
unfoldable pub xored : (List ℕ → List ℕ → List ℕ) → List ℕ → ℕ → List ℕ → List ℕ
xored e k c d = map (λ i. bit_xor (slice_index d i) (streamed (e k) c i)) (range_with_len 0 (length d))

-- how many blocks n octets begin
abbrev pub blocks : ℕ → ℕ
blocks n = (n + 15) / 16

-- the counter after n octets: a block for each begun sixteen, modulo 2 ^ 128
abbrev pub moved : ℕ → ℕ → ℕ
moved c n = (c + blocks n) % 2 ^ 128

-- octets written at the start of others
abbrev pub over : List ℕ → List ℕ → List ℕ
over new old = new ++ drop (length new) old

-- under the same key and counter, data twice under the keystream is the data again
abbrev pub GivesBack : Type 0
GivesBack = (e : List ℕ → List ℕ → List ℕ) (k : List ℕ) (c : ℕ) (d : List ℕ) → xored e k c (xored e k c d) ≡ d

-- data under the keystream is as long as before
abbrev pub KeepsLength : Type 0
KeepsLength = (e : List ℕ → List ℕ → List ℕ) (k : List ℕ) (c : ℕ) (d : List ℕ) → length (xored e k c d) ≡ length d
