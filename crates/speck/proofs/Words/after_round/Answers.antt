-- One round, from what the rotations and the sum give.
use Rattle.std.proofs.Common.{◌≡◌, ◌^◌, ◌<◌, ◌∙◌, rules}
use Rattle.speck.specs.Speck.{round, rotated_right, rotated_left}
use Rattle.speck.proofs.Rotations.{right_is, left_is}
use Rattle.speck.proofs.Words.after_round.Goals as goal

pub returns : goal.returns
unfolding round
returns c =
    let x : c.args.self.x < 2 ^ 64 = search rules in
    let y : c.args.self.y < 2 ^ 64 = search rules in
    let r : c.rotate_right.result ≡ rotated_right 8 c.args.self.x = c.rotate_right.ensures ∙ right_is c.args.self.x x in
    let l : c.rotate_left.result ≡ rotated_left 3 c.args.self.y = c.rotate_left.ensures ∙ left_is c.args.self.y y in
    record { value = simp (r, l) }
