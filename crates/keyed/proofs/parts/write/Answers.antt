-- Each part has room, and lands right after those before it.
use Rattle.std.proofs.Common.{arith}
use Rattle.keyed.proofs.Joins.{nothing, joined-room, write_step}
use Rattle.keyed.proofs.parts.write.Goals as goal

pub slice_bounds-copy_from_slice-end : goal.slice_bounds-copy_from_slice-end
slice_bounds-copy_from_slice-end c = let r = joined-room c.args.parts.now c.loop-part.part-index c.loop-part.at nothing c.loop-part-test.true c.loop-part.invariant.0 in omega arith

pub loop-part-preserved : goal.loop-part-preserved
loop-part-preserved c =
    write_step c.args.parts.now c.loop-part.part-index c.loop-part.at nothing c.loop-part.string c.args.string.now c.copy_from_slice.new.self _
    c.loop-part-test.true c.loop-part.invariant.0 c.loop-part.invariant.1 c.copy_from_slice.ensures.after (omega arith)
