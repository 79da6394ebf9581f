-- Sixteen octets read as two words.
use Rattle.std.proofs.Common.{rules}
use Rattle.speck.specs.Speck.{words}
use Rattle.speck.proofs.Words.read.Goals as goal

pub returns : goal.returns
unfolding words
returns c = search rules
