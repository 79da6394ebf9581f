-- What stands from the number to the end of the data is the string of the tag, and the tag follows it.
use Rattle.std.proofs.Common.{◌≡◌, ◌+◌, ◌-◌, take, drop, ap, ◌∙◌, arith, rules}
use Rattle.std.specs.Str.{bytes_eq}
use Rattle.cipher.specs.Cipher.{E}
use Rattle.keyed.specs.Xcbc.{tag}
use Rattle.message.specs.Layout.{number_at}
use Rattle.channel.specs.Packets.{packet_tag, data_in}
use Rattle.channel.proofs.Packed.{packet_in}
use Rattle.channel.proofs.Epoch.tag_stands.Goals as goal

pub returns : goal.returns
returns g c =
    let e = E g.C.BlockCipher.schedule g.C.BlockCipher.worked in
    let ki = c.args.self.now.keys.integrity in
    let m = c.args.message.now in
    let n = c.args.length in
    let string = packet_in m (9 + n - 3) (omega arith) (omega arith) (search rules) (search rules) (search rules) (search rules) (search rules) (search rules) in
    let twelve : 9 + n + 12 - (9 + n) ≡ 12 = omega arith in
    let right = packet_tag e c.args.self.now (number_at m 3) (data_in m) in
    record {
      value = c.tag_matches.ensures.value ∙ ap (λ v. bytes_eq (tag e ki v) (take (9 + n + 12 - (9 + n)) (drop (9 + n) m))) string
          ∙ ap (λ v. bytes_eq right (take v (drop (9 + n) m))) twelve ∙ ap (λ v. bytes_eq right (take 12 (drop (9 + v) m))) c.requires.0;
      workspace = c.tag_matches.ensures.workspace;
    }
