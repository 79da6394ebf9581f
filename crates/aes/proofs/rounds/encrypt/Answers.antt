-- One round more at each turn, and the last round after nine.
use Rattle.std.proofs.Common.{◌≡◌, ap, ◌∙◌, ap₂, arith}
use Rattle.aes.specs.Rounds.{rounds, last_round, add_round_key, output, cipher}
use Rattle.aes.proofs.rounds.encrypt.Goals as goal

pub returns : goal.returns
unfolding cipher
returns c =
    let nine : c.loop-n.n ≡ 9 = omega arith in
    let start = c.add_round_key-s.ensures.value ∙ ap₂ add_round_key c.load.ensures.value c.round_key.ensures.value in
    let state = c.loop-n.invariant ∙ ap₂ (rounds c.args.schedule.now) start nine in
    record {
      value = c.unload.ensures.value ∙ ap output (c.last_round.ensures.value ∙ ap₂ last_round state c.round_key-2.ensures.value);
    }
