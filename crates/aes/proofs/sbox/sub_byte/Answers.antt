-- The table keeps the rule of the S-box at each of its 256 entries.
use Rattle.std.proofs.Common.{refl}
use Rattle.aes.specs.Field.{inverse, inverse_from, product}
use Rattle.aes.specs.Sbox.{sbox}
use Rattle.aes.proofs.Below.{below}
use Rattle.aes.proofs.sbox.sub_byte.Goals as goal

pub entry-requires : goal.entry-requires
unfolding sbox inverse inverse_from product
entry-requires c = below 256 _ sbox refl
