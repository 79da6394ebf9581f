-- The rule of the S-box.
use Rattle.std.specs.Prelude.{ℕ, ◌+◌, ◌*◌, ◌/◌, ◌%◌, bit_xor}
use Rattle.aes.specs.Field.{inverse}

-- an octet rotated left by one bit
abbrev pub rotated : ℕ → ℕ
rotated b = 2 * b % 256 + b / 128

-- b XORed with its left rotations by 1, 2, 3 and 4 bits, and with hex 63
abbrev pub affine : ℕ → ℕ
affine b =
    let b1 : ℕ = rotated b in
    let b2 : ℕ = rotated b1 in
    let b3 : ℕ = rotated b2 in
    let b4 : ℕ = rotated b3 in
    bit_xor (bit_xor (bit_xor (bit_xor (bit_xor b b1) b2) b3) b4) 0x63

-- the S-box: the inverse in the field, then the affine map
unfoldable pub sbox : ℕ → ℕ
sbox a = affine (inverse a)
