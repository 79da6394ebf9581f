-- Room in the log changes nothing, and what the step makes goes on from the histories so far.
use Rattle.std.proofs.Common.{[], ◌∷◌}
use Rattle.cipher.specs.Cipher.{E}
use Rattle.simulation.specs.Simulation.{call_in}
use Rattle.runs.specs.History.{lookups}
use Rattle.simulation.proofs.Going.{room_follows}
use Rattle.simulation.proofs.run.Run.make.Goals as goal

pub returns-in-Ok-clause-law : goal.returns-in-Ok-clause-law
returns-in-Ok-clause-law g c =
    room_follows g.C.BlockCipher.protocol (E g.C.BlockCipher.schedule g.C.BlockCipher.worked) (lookups g.K.KeyLookup.own g.K.KeyLookup.replies g.L.KeyLookup.own g.L.KeyLookup.replies)
    c.args.self c.step-run.result.0 c.reserve.new.self (call_in c.args.call ∷ []) c.in-Ok.ensures.items c.step-run.ensures.run
