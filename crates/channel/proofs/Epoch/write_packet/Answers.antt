-- Head, data and tag stand one after another, and the tag is that of what stands from the number on.
use Rattle.std.proofs.Common.{◌≡◌, ◌+◌, ◌-◌, ◌++◌, length, drop, refl, ap, ◌∙◌, arith, rules}
use Rattle.cipher.specs.Cipher.{E}
use Rattle.keyed.specs.Strings.{packet}
use Rattle.keyed.specs.Xcbc.{tag}
use Rattle.message.specs.Writing.{octets_of, enc}
use Rattle.keyed.proofs.Stream.{keeps_length}
use Rattle.channel.specs.Packets.{crypted}
use Rattle.channel.proofs.Packed.{filled, tagged, packed}
use Rattle.channel.proofs.Epoch.write_packet.Goals as goal

pub returns : goal.returns
returns g c =
    let e = E g.C.BlockCipher.schedule g.C.BlockCipher.worked in
    let x = c.args.self.now in
    let p = c.args.payload.now in
    let n = length p in
    let d = crypted e x p in
    let m = c.args.number.value in
    let o = c.args.output.now in
    let long : length d ≡ n = keeps_length e x.keys.encryption x.keys.counter p in
    let ki = x.keys.integrity in
    let pid = c.pid.result in
    let head = c.copy_from_slice.ensures.after ∙ c.enc_head.ensures.value in
    let body = filled e x.keys.encryption x.keys.counter p _ _ (search rules) c.keystream-counter.ensures.output in
    let over-all =
    tagged e pid m n ki d o 9 (9 + n - 9) c.args.number.fits long (omega arith) head body refl (omega arith) (9 + n - 3) (omega arith) c.tag-tag.ensures.value in
    let whole =
    packed e pid m n ki d o 9 (9 + n - 9) c.args.number.fits long (omega arith) head body refl (omega arith)
    (9 + n + 12 - (9 + n)) over-all c.copy_from_slice-2.ensures.after (omega arith) in
    record {
      value = search rules;
      output = whole ∙ ap (λ v. octets_of 5 v (enc m d (tag e ki (packet m d))) ++ drop (21 + n) o) c.pid.ensures.value
          ∙ ap (λ v. octets_of 5 g.C.BlockCipher.protocol (enc v d (tag e ki (packet v d))) ++ drop (21 + n) o) c.requires.0;
      workspace = search rules;
    }
