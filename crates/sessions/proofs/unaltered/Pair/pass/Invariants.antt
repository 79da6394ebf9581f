-- What has come through so far, and what is left.
use Rattle.std.proofs.Common.{replicate}
use Rattle.cipher.specs.Cipher.{E}
use Rattle.sessions.proofs.Pairs.{Going}
use Rattle.sessions.proofs.unaltered.Pair.pass.Given as goal

abbrev pub invariant-loop-i : goal.invariant-loop-i
invariant-loop-i g l = Going g.C.BlockCipher.protocol (E g.C.BlockCipher.schedule g.C.BlockCipher.worked) l.initial.self l.self (replicate l.count l.payload) l.i
