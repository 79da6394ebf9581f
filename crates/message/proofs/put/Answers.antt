-- Each part stands after the one before.
use Rattle.std.proofs.Common.{◌+◌, ◌-◌, length, refl, arith}
use Rattle.message.proofs.Laid.{laid}
use Rattle.message.proofs.put.Goals as goal

pub returns : goal.returns
returns c =
    let h = length c.args.head.now in
    let m = length c.args.middle.now in
    let l = length c.args.last.now in
    record {
      value = omega arith;
      output = laid c.args.head.now c.args.middle.now c.args.last.now c.args.output.now h (h - 0) (h + m - h) (h + m) (h + m + l - (h + m)) (h + m + l)
          c.copy_from_slice.ensures.after c.copy_from_slice-2.ensures.after c.copy_from_slice-3.ensures.after
          refl (omega arith) (omega arith) (omega arith) (omega arith);
    }
