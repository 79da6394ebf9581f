-- The workspace has its size, and the guard clears what the work left.
use Rattle.std.proofs.Common.{sym, ap, ◌∙◌, arith, rules}
use Rattle.cipher.specs.Cipher.{E}
use Rattle.cipher.proofs.Cleared.{left_after}
use Rattle.channel.specs.Steps.{written}
use Rattle.message.specs.Layout.{number_at}
use Rattle.channel.specs.Packets.{crypted, data_in}
use Rattle.channel.proofs.Checks.{sized-passes}
use Rattle.channel.proofs.Open.unseal.Goals as goal

pub returns : goal.returns
returns g c =
    let answer = c.unseal_within.ensures.value ∙ sym (sized-passes 256 c.args.workspace.now _ (omega arith)) in
    record {
      value = answer;
      end = c.unseal_within.ensures.end;
      output = c.unseal_within.ensures.output ∙ ap (λ v. written (number_at c.args.message.now 6) (λ _. crypted (E g.C.BlockCipher.schedule g.C.BlockCipher.worked) c.args.self.now.epoch (data_in c.args.message.now)) v c.args.output.now) answer;
      workspace = left_after c.args.workspace.now c.unseal_within.new.workspace _ (omega arith) (search rules)
          c.unseal_within.ensures.workspace c.drop-guard.ensures.workspace;
    }
