-- Each turn writes one round key and makes one round with its number as the key.
use Rattle.std.proofs.Common.{refl, ◌∙◌, arith}
use Rattle.speck.specs.Speck.{octets, rounds, round_keys}
use Rattle.speck.proofs.Rounds.{rounds_more, keys_more, keys_all}
use Rattle.speck.proofs.write_schedule.Goals as goal

pub loop-round-init : goal.loop-round-init
unfolding rounds round_keys
loop-round-init c = (refl, refl)

pub loop-round-preserved : goal.loop-round-preserved
unfolding octets
loop-round-preserved c =
    let i = c.loop-round.round in
    let w = c.read-state.result in (
      rounds_more (λ j. j) i i w c.loop-round.state c.after_round-state.result c.loop-round.invariant.0 refl c.after_round-state.ensures.value,
      keys_more w c.loop-round.state i _ c.args.workspace.now c.loop-round.workspace c.copy_from_slice.new.self
          c.loop-round.invariant.0 c.loop-round.invariant.1 (c.copy_from_slice.ensures.after ∙ c.to_be_bytes.ensures) (omega arith),
    )

pub returns : goal.returns
returns c = record {
  workspace =
      keys_all c.args.key.now c.args.workspace.now c.loop-round.workspace c.loop-round.round c.read-state.result
      c.requires c.read-state.ensures.value c.loop-round.invariant.1 (omega arith);
}
