use Rattle.runs.proofs.law_of_runs.Goals as goal
use Rattle.runs.proofs.Whole.{law_of_runs}

pub returns : goal.returns
returns g c = record { law = law_of_runs g.row.C.Denot g.row.K.Denot g.row.L.Denot }
