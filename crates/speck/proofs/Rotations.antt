-- A word whose bits are shifted and joined by OR is the rotated word.
use Rattle.std.proofs.Common.{◌≡◌, ℕ, ◌+◌, ◌*◌, ◌/◌, ◌%◌, ◌^◌, ◌<◌, ◌∙◌, add-zero}
use native.Mathlib.Nat.{mul-mod_left}
use lib.Bits.{bit_or}
use Rattle.std.proofs.lemmas.Nat.{mod-pow-add, shl-shr, shr_below, or_shifted, or_comm}
use Rattle.speck.specs.Speck.{rotated_right, rotated_left}

-- of n + m bits, the lowest n become the highest
moved : (n m v : ℕ) → v < 2 ^ (m + n) → bit_or (v * 2 ^ m % 2 ^ (n + m)) (v / 2 ^ n) ≡ v % 2 ^ n * 2 ^ m + v / 2 ^ n
moved n m v h =
    let split = mod-pow-add (v * 2 ^ m) n m in
    rw (split, shl-shr v m, mul-mod_left v (2 ^ m), add-zero (v % 2 ^ n * 2 ^ m)) (or_shifted (v % 2 ^ n) m (v / 2 ^ n) (shr_below v m n h))

pub right_is : (v : ℕ) → v < 2 ^ 64 → bit_or (v / 2 ^ 8) (v * 2 ^ 56 % 2 ^ 64) ≡ rotated_right 8 v
unfolding rotated_right
right_is v h = or_comm (v / 2 ^ 8) (v * 2 ^ 56 % 2 ^ 64) ∙ moved 8 56 v h

pub left_is : (v : ℕ) → v < 2 ^ 64 → bit_or (v * 2 ^ 3 % 2 ^ 64) (v / 2 ^ 61) ≡ rotated_left 3 v
unfolding rotated_left
left_is v h = moved 61 3 v h
