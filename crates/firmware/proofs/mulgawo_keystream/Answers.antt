-- The guard clears what the work left.
use Rattle.std.proofs.Common.{◌≡◌, sym, ap, ◌∙◌, arith, rules}
use Rattle.cipher.proofs.Cleared.{left_after}
use Rattle.firmware.specs.Keyed.{stream_output}
use Rattle.firmware.specs.Verdicts.{verdict}
use Rattle.firmware.proofs.mulgawo_keystream.Goals as goal

pub returns : goal.returns
returns c =
    let told : c.from-2.result.number ≡ (verdict c.keystream_within.result).number = ap (λ v. v.number) c.from-2.ensures in
    record {
      value = told ∙ c.keystream_within.ensures.value;
      output = c.keystream_within.ensures.output
          ∙ ap (λ n. stream_output n c.args.key.now c.args.counter.now c.args.data.now c.args.output.now) (sym told);
      workspace = left_after c.args.workspace.now c.keystream_within.new.workspace _ (omega arith) (search rules)
          c.keystream_within.ensures.workspace c.drop-guard.ensures.workspace;
    }
