-- Each turn makes one round, with the round key that stands at its number.
use Rattle.std.proofs.Common.{refl}
use Rattle.speck.specs.Speck.{word, rounds}
use Rattle.speck.proofs.Rounds.{rounds_more}
use Rattle.speck.proofs.Words.after_rounds.Goals as goal

pub loop-i-init : goal.loop-i-init
unfolding rounds
loop-i-init c = refl

pub loop-i-preserved : goal.loop-i-preserved
loop-i-preserved c =
    rounds_more (λ j. word j c.args.keys.now) c.loop-i.i c.read_word.result c.args.self c.loop-i.state c.after_round-state.result
    c.loop-i.invariant c.read_word.ensures.value c.after_round-state.ensures.value
