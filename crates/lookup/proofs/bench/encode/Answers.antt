-- A label of a value in range is read again.
use Rattle.std.proofs.Common.{rules}
use Rattle.lookup.specs.Bench.{label_of}
use Rattle.lookup.proofs.Labels.{decoded}
use Rattle.lookup.proofs.bench.encode.Goals as goal

pub returns : goal.returns
unfolding label_of
returns c = let read = decoded c.args.value c.requires in search rules
