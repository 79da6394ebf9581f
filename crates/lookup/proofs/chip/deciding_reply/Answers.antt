-- What was found, or else what the rest of the rows decides, is what all rows decide.
use Rattle.std.proofs.Common.{◌≡◌, Some, None, Option, refl, rules}
use Rattle.std.specs.Option.{option_or}
use Rattle.lookup.specs.Replies.{Reply}
use Rattle.lookup.proofs.Rows.{deciding_more, deciding_none}
use Rattle.lookup.proofs.chip.deciding_reply.Goals as goal

or_assoc : (x y z : Option Reply) → option_or (option_or x y) z ≡ option_or x (option_or y z)
or_assoc None y z = refl
or_assoc (Some r) y z = refl

or_none : (x : Option Reply) → option_or x None ≡ x
or_none None = refl
or_none (Some r) = refl

pub loop-row-preserved : goal.loop-row-preserved
loop-row-preserved c = search (rules, deciding_more, or_assoc)

pub returns : goal.returns
returns c = search (rules, deciding_none, or_none)
