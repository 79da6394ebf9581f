-- The workspace has its size, and the guard clears what the work left.
use Rattle.std.proofs.Common.{◌+◌, length, sym, ap, ◌∙◌, arith, rules}
use Rattle.cipher.specs.Cipher.{E}
use Rattle.cipher.proofs.Cleared.{left_after}
use Rattle.channel.specs.Steps.{written}
use Rattle.channel.specs.Packets.{sealed_packet}
use Rattle.channel.proofs.Checks.{sized-passes}
use Rattle.channel.proofs.Open.seal.Goals as goal

pub returns : goal.returns
returns g c =
    let answer = c.seal_within.ensures.value ∙ sym (sized-passes 256 c.args.workspace.now _ (omega arith)) in
    record {
      value = answer;
      end = c.seal_within.ensures.end;
      output = c.seal_within.ensures.output ∙ ap (λ v. written (21 + length c.args.payload.now) (λ _. sealed_packet (E g.C.BlockCipher.schedule g.C.BlockCipher.worked) g.C.BlockCipher.protocol c.args.self.now.epoch c.args.payload.now) v c.args.output.now) answer;
      workspace = left_after c.args.workspace.now c.seal_within.new.workspace _ (omega arith) (search rules)
          c.seal_within.ensures.workspace c.drop-guard.ensures.workspace;
    }
