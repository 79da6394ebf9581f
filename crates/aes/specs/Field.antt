-- The field of 256 elements: polynomials over one bit, reduced by the polynomial hex 11B. An octet holds the eight coefficients.
use Rattle.std.specs.Prelude.{◌≡◌, ℕ, zero, suc, ◌*◌, ◌/◌, ◌%◌, ◌<◌, cond, ◌==◌, bit_xor, nat_lt}

-- a times x: one place up, and less the polynomial hex 11B where that comes to degree 8
abbrev pub xtime : ℕ → ℕ
xtime a = cond (nat_lt a 128) (2 * a) (bit_xor (2 * a) 0x11B)

-- a times the n low bits of b: the sum of a times x to the i over the bits i that are set
abbrev pub times : ℕ → ℕ → ℕ → ℕ
times zero a b = 0
times (suc n) a b = bit_xor (b % 2 * a) (times n (xtime a) (b / 2))

-- the product of two elements
unfoldable pub product : ℕ → ℕ → ℕ
product a b = times 8 a b

-- x to the n, where x is the octet 2
abbrev pub x_power : ℕ → ℕ
x_power zero = 1
x_power (suc n) = product 2 (x_power n)

-- the first of the n octets from b on whose product with a is 1, and 0 where there is none
unfoldable pub inverse_from : ℕ → ℕ → ℕ → ℕ
inverse_from zero a b = 0
inverse_from (suc n) a b = cond (product a b == 1) b (inverse_from n a (suc b))

-- the inverse of a, and 0 for 0
unfoldable pub inverse : ℕ → ℕ
inverse a = inverse_from 255 a 1

-- each element but 0 has an inverse, 0 stays 0, and the two products that FIPS 197 works out
abbrev pub FieldLaws : Type 0
FieldLaws =
    ((a : ℕ) → 0 < a → a < 256 → (inverse a < 256) × (product a (inverse a) ≡ 1)) × (inverse 0 ≡ 0)
    × (product 0x57 0x83 ≡ 0xC1) × (product 0x57 0x13 ≡ 0xFE)
