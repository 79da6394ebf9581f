-- The block written is the padded one.
use Rattle.keyed.proofs.Blocks.{pad_is}
use Rattle.keyed.proofs.xcbc.pad.Goals as goal

pub returns : goal.returns
returns c = record {
  value = pad_is c.args.last.now c.copy_from_slice.new.self c.requires c.copy_from_slice.ensures.after;
}
