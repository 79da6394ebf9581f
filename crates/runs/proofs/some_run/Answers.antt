use Rattle.runs.proofs.some_run.Goals as goal
use Rattle.runs.proofs.Samples.{as_sent}

pub returns : goal.returns
returns c = record { run = as_sent }
