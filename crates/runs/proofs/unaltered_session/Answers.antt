-- The theorems on the unaltered session, at the types of the function.
use Rattle.runs.proofs.Opening.{opens_unaltered}
use Rattle.runs.proofs.Passing.{passes_unaltered, ends_at_last}
use Rattle.runs.proofs.unaltered_session.Goals as goal

pub returns : goal.returns
returns g c = record {
  opens = opens_unaltered g.row.C.Denot g.row.K.Denot g.row.L.Denot;
  passes = passes_unaltered g.row.C.Denot g.row.K.Denot g.row.L.Denot;
  last = ends_at_last g.row.C.Denot g.row.K.Denot;
}
