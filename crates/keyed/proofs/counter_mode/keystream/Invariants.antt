-- What holds after i octets.
use Rattle.std.proofs.Common.{◌≡◌, ◌+◌, ◌-◌, ◌/◌, ◌%◌, ◌^◌, ◌<◌, ◌++◌, length, drop}
use Rattle.cipher.specs.Cipher.{enciphered}
use Rattle.keyed.specs.Keystream.{counter_block, moved}
use Rattle.keyed.proofs.Stream.{masked}
use Rattle.keyed.proofs.counter_mode.keystream.Given as goal

-- the counter is moved by the blocks begun, the block in hand is the last of them, and the first i octets are written
abbrev pub invariant-loop-i : goal.invariant-loop-i
invariant-loop-i g l =
    (l.next ≡ moved l.counter l.i)
    × (length l.block ≡ 16)
    × (0 < l.i → l.block ≡ enciphered g.C.BlockCipher.size g.C.BlockCipher.worked l.workspace (counter_block ((l.counter + (l.i - 1) / 16) % 2 ^ 128)))
    × (l.output ≡ masked (enciphered g.C.BlockCipher.size g.C.BlockCipher.worked l.workspace) l.counter l.data l.i ++ drop l.i l.initial.output)
