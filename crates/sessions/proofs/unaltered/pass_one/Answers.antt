-- Two ends that are ready for the payload get it through.
use Rattle.std.proofs.Common.{◌∙◌}
use Rattle.cipher.specs.Cipher.{E}
use Rattle.sessions.proofs.Pairs.{ready_through}
use Rattle.sessions.proofs.unaltered.pass_one.Goals as goal

pub returns-clause-honest : goal.returns-clause-honest
returns-clause-honest g c h =
    let t = ready_through g.C.BlockCipher.protocol (E g.C.BlockCipher.schedule g.C.BlockCipher.worked) (λ k x. g.met.C.BlockCipher.blocks (g.C.BlockCipher.schedule k) x)
    c.args.sealer.now c.args.unsealer.now c.args.payload.now h in
    record {
      came = c.pass_within.ensures.value ∙ t.came;
      sealer = c.pass_within.ensures.sealer ∙ t.sealer;
      unsealer = c.pass_within.ensures.unsealer ∙ t.unsealer;
    }
