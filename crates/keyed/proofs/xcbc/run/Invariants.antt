-- What holds after so many blocks.
use Rattle.std.proofs.Common.{◌≡◌, ◌≤◌, ◌*◌, length, take, drop}
use Rattle.cipher.specs.Cipher.{enciphered}
use Rattle.keyed.specs.Xcbc.{chain}
use Rattle.keyed.proofs.xcbc.run.Given as goal

abbrev pub invariant-loop-block : goal.invariant-loop-block
invariant-loop-block g l =
    (l.state ≡ chain (enciphered g.C.BlockCipher.size g.C.BlockCipher.worked l.workspace) l.message (length l.yielded))
    × (l.block-iterator.rest.now ≡ drop (16 * length l.yielded) (take (16 * l.count) l.message))
    × (l.block-iterator.size ≡ 16)
    × (length l.yielded ≤ l.count)
