-- Each of the two strings fills its seventy-one octets.
use Rattle.std.proofs.Common.{replicate, refl, arith}
use Rattle.keyed.specs.Strings.{confirmation}
use Rattle.keyed.proofs.Joins.{fills_confirmation}
use Rattle.keyed.proofs.confirm.Told.string.Goals as goal

pub returns-in-Fob : goal.returns-in-Fob
unfolding confirmation
returns-in-Fob g c = record {
  value = rw c.in-Fob.is (fills_confirmation 3 c.args.self.identities.now.fob c.args.self.identities.now.mixer c.args.self.labels.now.fob c.args.self.labels.now.mixer (replicate 71 0) refl (omega arith) (omega arith) (omega arith) (omega arith) c.write.ensures.output);
}

pub returns-in-Mixer : goal.returns-in-Mixer
unfolding confirmation
returns-in-Mixer g c = record {
  value = rw c.in-Mixer.is (fills_confirmation 2 c.args.self.identities.now.mixer c.args.self.identities.now.fob c.args.self.labels.now.mixer c.args.self.labels.now.fob (replicate 71 0) refl (omega arith) (omega arith) (omega arith) (omega arith) c.write-in-Mixer.ensures.output);
}
