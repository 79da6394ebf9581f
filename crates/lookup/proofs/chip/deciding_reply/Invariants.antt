-- The loop keeps what is found so far together with what the rest decides.
use Rattle.std.proofs.Common.{◌≡◌}
use Rattle.std.specs.Option.{option_or}
use Rattle.std.specs.Slice.Iter.{chunks_exact_rest, chunks_exact_size}
use Rattle.lookup.specs.Chip.{rows_of, deciding_reply}
use Rattle.lookup.proofs.chip.deciding_reply.Given as goal

abbrev pub invariant-loop-row : goal.invariant-loop-row
invariant-loop-row l =
    (goal.iterator-loop-row).can_next l.row-iterator × (goal.iterator-loop-row).is_finite l.row-iterator
    × (chunks_exact_size l.row-iterator ≡ 50)
    × (option_or l.found (deciding_reply l.peer (rows_of (chunks_exact_rest l.row-iterator))) ≡ deciding_reply l.peer (rows_of (chunks_exact_rest l.initial.row-iterator)))
