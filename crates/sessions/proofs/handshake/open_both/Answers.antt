-- Honest ends open.
use Rattle.std.proofs.Common.{rules}
use Rattle.cipher.specs.Cipher.{E}
use Rattle.runs.specs.History.{lookups}
use Rattle.sessions.proofs.Joint.{both_open}
use Rattle.sessions.proofs.handshake.open_both.Goals as goal

pub returns-in-Ok-clause-honest : goal.returns-in-Ok-clause-honest
returns-in-Ok-clause-honest g c h =
    both_open g.C.BlockCipher.protocol (E g.C.BlockCipher.schedule g.C.BlockCipher.worked) (lookups g.K.KeyLookup.own g.K.KeyLookup.replies g.L.KeyLookup.own g.L.KeyLookup.replies)
    c.args.fob.end c.args.fob.key c.args.fob.nonce c.args.mixer.end c.args.mixer.key c.args.mixer.nonce
    (λ k x. g.met.C.BlockCipher.blocks (g.C.BlockCipher.schedule k) x) h (search rules)
