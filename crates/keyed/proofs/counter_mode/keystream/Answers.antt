-- A block comes where it is due, each octet is written with its own, and the counter ends behind the last block.
use Rattle.std.proofs.Common.{◌≡◌, ◌+◌, ◌-◌, ◌/◌, ◌%◌, ◌^◌, length, take, refl, ap, ◌∙◌, arith, length-take, rules}
use Rattle.cipher.specs.Cipher.{E, enciphered}
use Rattle.keyed.specs.Keystream.{counter_block, moved}
use Rattle.keyed.proofs.Schedules.{enciphers, keeps}
use Rattle.keyed.proofs.Stream.{masked, due_block, due_moved, same_block, same_moved, masked-step, masked-all, gives_back, keeps_length}
use Rattle.keyed.proofs.counter_mode.keystream.Goals as goal
use Rattle.keyed.proofs.counter_mode.keystream.Goals.{then-i-eq0, else-i-eq0}

pub loop-i-init : goal.loop-i-init
unfolding masked
loop-i-init g c = (omega arith, refl, λ h. absurd (omega arith), refl)

pub loop-i-preserved : goal.loop-i-preserved
loop-i-preserved g c =
    let f = enciphered g.C.BlockCipher.size g.C.BlockCipher.worked c.prepare.new.workspace in
    let n = c.args.counter in
    let i = c.loop-i.i in
    let moves : c.if-i-eq0.next ≡ moved n (i + 1) =
    elim c.if-i-eq0.branch [
      | then-i-eq0 w ↦ due_moved n i c.loop-i.next _ w.if-i-eq0.true c.loop-i.invariant.0 w.next-is
      | else-i-eq0 w ↦ same_moved n i _ w.if-i-eq0.false (w.next-is ∙ c.loop-i.invariant.0)
    ] in
    let block : c.if-i-eq0.block ≡ f (counter_block ((n + i / 16) % 2 ^ 128)) =
    elim c.if-i-eq0.branch [
      | then-i-eq0 w ↦ w.block-is ∙ due_block f n i c.loop-i.next w.if-i-eq0.true c.loop-i.invariant.0 w.to_be_bytes.ensures w.encipher-block.ensures.value
      | else-i-eq0 w ↦ w.block-is ∙ same_block f n i w.if-i-eq0.false c.loop-i.invariant.2
    ] in
    let whole : length c.if-i-eq0.block ≡ 16 =
    elim c.if-i-eq0.branch [ then-i-eq0 w ↦ ap length w.block-is ∙ search rules | else-i-eq0 w ↦ ap length w.block-is ∙ c.loop-i.invariant.1 ] in
    let q : i ≡ i + 1 - 1 = omega arith in
    (moves, whole, (λ h. block ∙ ap (λ j. f (counter_block ((n + j / 16) % 2 ^ 128))) q), masked-step f n c.args.data.now c.args.output.now i (omega arith) block c.loop-i.invariant.3)

pub returns : goal.returns
returns g c =
    let b = g.C.BlockCipher in
    let law = g.met.C.BlockCipher in
    let k = c.args.key.now in
    let w = c.args.workspace.now in
    let v = c.prepare.new.workspace in
    let all : c.loop-i.i ≡ length (take (length c.args.output.now) c.args.data.now) = omega (arith, length-take (length c.args.output.now) c.args.data.now) in
    record {
      value = c.loop-i.invariant.0 ∙ ap (moved c.args.counter) all;
      output = masked-all (E b.schedule b.worked) k _ c.args.counter c.args.data.now c.args.output.now c.loop-i.i
          (enciphers b.size b.worked (b.schedule k) w v (law.scheduled k) c.requires (omega arith) c.prepare.ensures.workspace) all c.loop-i.invariant.3;
      workspace = keeps b.size (b.schedule k) w v (law.scheduled k) law.fits c.requires c.prepare.ensures.workspace;
      gives_back = gives_back;
      keeps_length = keeps_length;
    }
