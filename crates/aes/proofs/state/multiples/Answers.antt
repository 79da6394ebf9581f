-- The shift, with hex 1B where the top bit falls out, is the product with 2; the octet added to it gives the product with 3.
use Rattle.std.proofs.Common.{ℕ, ◌*◌, ◌/◌, ◌%◌, ◌<◌, refl, ap₂, rules}
use lib.Bits.{bit_xor}
use Rattle.aes.specs.Field.{product}
use Rattle.aes.proofs.Below.{below}
use Rattle.aes.proofs.state.multiples.Goals as goal

abbrev twice : ℕ → ℕ
twice x = bit_xor (x * 2 % 256) (x / 128 * 27)

abbrev thrice : ℕ → ℕ
thrice x = bit_xor (twice x) x

pub returns : goal.returns
unfolding product
returns c =
    let x = c.args.x in
    let h : x < 256 = search rules in
    record { value = ap₂ (λ (p q : ℕ). (p, q)) (below 256 twice (product 2) refl x h) (below 256 thrice (product 3) refl x h) }
