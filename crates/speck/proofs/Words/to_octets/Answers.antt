-- Two words written as sixteen octets.
use Rattle.std.proofs.Common.{◌≡◌, ◌∙◌}
use Rattle.speck.specs.Speck.{octets}
use Rattle.speck.proofs.Words.to_octets.Goals as goal

pub returns : goal.returns
unfolding octets
returns c =
    let p : c.copy_from_slice.new.self ≡ octets c.args.self.x = c.copy_from_slice.ensures.after ∙ c.to_be_bytes.ensures in
    let q : c.copy_from_slice-2.new.self ≡ octets c.args.self.y = c.copy_from_slice-2.ensures.after ∙ c.to_be_bytes-2.ensures in
    record { value = simp (p, q) }
