-- Eight octets of a row, read as one number.
use Rattle.std.proofs.Common.{◌≡◌, ◌*◌, take, drop, ap, ◌∙◌, rules}
use Rattle.speck.specs.Speck.{number, word}
use Rattle.speck.proofs.read_word.Goals as goal

pub returns : goal.returns
unfolding number word
returns c =
    let octets : c.unwrap.result ≡ take 8 (drop (8 * c.args.i) c.args.from.now) = search rules in
    record { value = c.from_be_bytes.ensures ∙ ap number octets }
