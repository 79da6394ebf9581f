-- The workspace has its size, and the guard clears what the work left.
use Rattle.std.proofs.Common.{sym, ◌∙◌, arith, rules}
use Rattle.cipher.proofs.Cleared.{left_after}
use Rattle.channel.proofs.Checks.{sized-passes}
use Rattle.channel.proofs.Answered.check.Goals as goal

pub returns : goal.returns
returns g c = record {
  value = c.check_within.ensures.value ∙ sym (sized-passes 256 c.args.workspace.now _ (omega arith));
  workspace = left_after c.args.workspace.now c.check_within.new.workspace _ (omega arith) (search rules)
      c.check_within.ensures.workspace c.drop-guard.ensures.workspace;
  form = c.check_within.ensures.form;
}
