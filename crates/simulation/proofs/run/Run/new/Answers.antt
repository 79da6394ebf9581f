-- Nothing was called yet; the lengths come of the types and of the key lookups.
use Rattle.std.proofs.Common.{arith, rules}
use Rattle.cipher.specs.Cipher.{E}
use Rattle.runs.specs.History.{lookups}
use Rattle.simulation.proofs.Going.{begins}
use Rattle.simulation.proofs.run.Run.new.Goals as goal

pub returns : goal.returns
returns g c = record {
  run = begins g.C.BlockCipher.protocol (E g.C.BlockCipher.schedule g.C.BlockCipher.worked) (lookups g.K.KeyLookup.own g.K.KeyLookup.replies g.L.KeyLookup.own g.L.KeyLookup.replies) c.args.fob c.args.fob_key c.args.mixer c.args.mixer_key _ (search rules)
      (record { fob_10 = omega (arith, c.well_formed); mixer_10 = omega (arith, c.well_formed); fob_10' = omega (arith, c.well_formed); mixer_10' = omega (arith, c.well_formed) })
      c.label-own.ensures.size c.label-peer.ensures.size;
}
