use Rattle.channel.proofs.Outcomes.{outcome_laws}
use Rattle.channel.proofs.outcome_laws.Goals as goal

pub returns : goal.returns
returns g c = record { laws = outcome_laws g.row.C.Denot g.row.K.Denot }
