-- The parts are the string of the first counter.
use Rattle.std.proofs.Common.{◌∙◌}
use Rattle.std.proofs.lemmas.List.{append_assoc}
use Rattle.keyed.specs.Derivation.{counter_string}
use Rattle.keyed.proofs.derivation.first_block.Goals as goal

pub returns : goal.returns
unfolding counter_string
returns g c = record {
  value = c.result_of.ensures.value ∙ simp append_assoc;
  workspace = c.result_of.ensures.workspace;
}
