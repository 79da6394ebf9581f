-- There is room for the calls that are left, and they lead to the end.
use Rattle.std.proofs.Common.{◌+◌, ◌*◌, ◌≤◌, vec_len, vec_capacity}
use Rattle.std.specs.Vec.Iter.{into_iter_len, into_iter_items}
use Rattle.cipher.specs.Cipher.{E}
use Rattle.runs.specs.History.{lookups}
use Rattle.simulation.proofs.Going.{Left}
use Rattle.simulation.proofs.run.Run.steps.Given as goal

abbrev pub invariant-loop-call : goal.invariant-loop-call
invariant-loop-call g l =
    (goal.iterator-loop-call g).can_next l.call-iterator ×
    (goal.iterator-loop-call g).is_finite l.call-iterator ×
    (vec_len l.run.log + 3 * into_iter_len l.call-iterator ≤ vec_capacity l.run.log) ×
    Left g.C.BlockCipher.protocol (E g.C.BlockCipher.schedule g.C.BlockCipher.worked) (lookups g.K.KeyLookup.own g.K.KeyLookup.replies g.L.KeyLookup.own g.L.KeyLookup.replies)
    l.initial.run (into_iter_items l.initial.call-iterator) l.run (into_iter_items l.call-iterator)
