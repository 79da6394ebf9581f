use Rattle.runs.proofs.nonces_count.Goals as goal
use Rattle.runs.proofs.Samples.{altered}

pub returns : goal.returns
returns c = record { run = altered }
