-- 32 rounds under the schedule that stands at the start of the workspace.
use Rattle.std.proofs.Common.{◌≡◌, take, sym, refl, ◌∙◌, arith}
use Rattle.cipher.proofs.Prepared.{enciphered-full}
use Rattle.speck.specs.Speck.{worked}
use Rattle.speck.proofs.SpeckBlockCipher.encipher.Goals as goal

pub returns : goal.returns
unfolding worked
returns c =
    let w = c.args.workspace.now in
    let b = c.args.block.now in
    let end : c.to_octets.result ≡ worked (take 256 w) b = simp (c.to_octets.ensures.value, c.after_rounds.ensures.value, c.read.ensures.value) in
    record { value = end ∙ sym (enciphered-full 256 worked (take 256 w) w b (omega arith) refl) }
