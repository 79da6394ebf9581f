-- The result comes from its parts, and what lies past the schedule is kept.
use Rattle.std.proofs.Common.{◌∙◌, arith, rules}
use Rattle.cipher.specs.Cipher.{E}
use Rattle.keyed.proofs.Blocks.{result_is}
use Rattle.keyed.proofs.Schedules.{enciphers, keeps}
use Rattle.keyed.proofs.xcbc.result.Goals as goal

pub returns : goal.returns
returns g c =
    let b = g.C.BlockCipher in
    let law = g.met.C.BlockCipher in
    let k = c.args.key.now in
    let w = c.args.workspace.now in
    let v = c.prepare.new.workspace in
    record {
      value = result_is (E b.schedule b.worked) k c.args.message.now _ _ _ _
          (enciphers b.size b.worked (b.schedule k) w v (law.scheduled k) c.requires (omega arith) c.prepare.ensures.workspace)
          c.encipher-k1.ensures.value c.encipher-k2.ensures.value c.encipher-k3.ensures.value
          (enciphers b.size b.worked (b.schedule c.encipher-k1.result) v _ (law.scheduled _) (omega arith) (omega arith) c.prepare-2.ensures.workspace)
          (search rules) (search rules) c.run-state.ensures.value c.close-last.ensures.value c.encipher.ensures.value;
      workspace =
          keeps b.size (b.schedule c.encipher-k1.result) v _ (law.scheduled _) law.fits (omega arith) c.prepare-2.ensures.workspace
          ∙ keeps b.size (b.schedule k) w v (law.scheduled k) law.fits c.requires c.prepare.ensures.workspace;
    }
