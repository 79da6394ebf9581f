-- A full block goes with one key, a padded one with the other.
use Rattle.std.proofs.Common.{arith}
use Rattle.std.proofs.lemmas.Bool.Decides.{nat_tests}
use Rattle.keyed.specs.Xcbc.{closed}
use Rattle.keyed.proofs.xcbc.close.Goals as goal

pub returns-then-last-eq16 : goal.returns-then-last-eq16
unfolding closed
returns-then-last-eq16 c = record { value = grind (arith, nat_tests) }

pub returns-else-last-eq16 : goal.returns-else-last-eq16
unfolding closed
returns-else-last-eq16 c = record { value = grind (arith, nat_tests) }
