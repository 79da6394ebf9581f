-- XCBC as in RFC 3566, with any block cipher e in the place of AES: e k x is the block x enciphered under the key k.
use Rattle.std.specs.Prelude.{ℕ, zero, suc, ◌-◌, ◌*◌, ◌/◌, cond, List, ◌∷◌, ◌++◌, map, length, take, drop, replicate, ◌==◌, bit_xor, slice_index}
use Rattle.std.specs.List.{range_with_len}

-- the exclusive or of two blocks of sixteen octets
unfoldable pub xors : List ℕ → List ℕ → List ℕ
xors a b = map (λ i. bit_xor (slice_index a i) (slice_index b i)) (range_with_len 0 16)

-- block i of a message, from 0 on: sixteen octets, the last block as many as are left
abbrev pub block : List ℕ → ℕ → List ℕ
block m i = take 16 (drop (16 * i) m)

-- how many blocks stand before the last; an empty message is one empty block
abbrev pub before : List ℕ → ℕ
before m = (length m - 1) / 16

-- the chain after n blocks of m, from a block of zeros on; f enciphers under K1
unfoldable pub chain : (List ℕ → List ℕ) → List ℕ → ℕ → List ℕ
chain f m zero = replicate 16 0
chain f m (suc n) = f (xors (block m n) (chain f m n))

-- a block that is not full, padded with the octet 80 hexadecimal and zeros
unfoldable pub padded : List ℕ → List ℕ
padded l = l ++ 0x80 ∷ replicate (15 - length l) 0

-- the last block l and the chain c before it: a full block is taken with K2, any other is padded and taken with K3
unfoldable pub closed : List ℕ → List ℕ → List ℕ → List ℕ → List ℕ
closed k2 k3 c l = cond (length l == 16) (xors (xors l c) k2) (xors (xors (padded l) c) k3)

-- K1, K2 and K3: the keys worked out of the key k
unfoldable pub key1 : (List ℕ → List ℕ → List ℕ) → List ℕ → List ℕ
key1 e k = e k (replicate 16 1)

unfoldable pub key2 : (List ℕ → List ℕ → List ℕ) → List ℕ → List ℕ
key2 e k = e k (replicate 16 2)

unfoldable pub key3 : (List ℕ → List ℕ → List ℕ) → List ℕ → List ℕ
key3 e k = e k (replicate 16 3)

-- result(K, M): the sixteen octets of the message m under the key k
unfoldable pub keyed_result : (List ℕ → List ℕ → List ℕ) → List ℕ → List ℕ → List ℕ
keyed_result e k m = e (key1 e k) (closed (key2 e k) (key3 e k) (chain (e (key1 e k)) m (before m)) (block m (before m)))

-- the tag of the message m under the key k: the first twelve octets of its result
unfoldable pub tag : (List ℕ → List ℕ → List ℕ) → List ℕ → List ℕ → List ℕ
tag e k m = take 12 (keyed_result e k m)
