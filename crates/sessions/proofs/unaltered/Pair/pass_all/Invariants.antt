-- What has come through so far, and what is left.
use Rattle.cipher.specs.Cipher.{E}
use Rattle.sessions.specs.Sessions.{held}
use Rattle.sessions.proofs.Pairs.{Going}
use Rattle.sessions.proofs.unaltered.Pair.pass_all.Given as goal

abbrev pub invariant-loop-i : goal.invariant-loop-i
invariant-loop-i g l = Going g.C.BlockCipher.protocol (E g.C.BlockCipher.schedule g.C.BlockCipher.worked) l.initial.self l.self (held l.payloads) l.i
