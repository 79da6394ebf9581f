-- An array of zeros is a list of zeros.
use Rattle.std.proofs.Common.{refl}
use Rattle.sessions.specs.Sessions.{zeros}
use Rattle.sessions.proofs.handshake.buffer.Goals as goal

pub returns : goal.returns
unfolding zeros
returns g c = record { value = refl }
