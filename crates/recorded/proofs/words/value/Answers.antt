-- Each character is a digit, and a value that has no 32 bits stays so.
use Rattle.std.proofs.Common.{◌+◌, ◌*◌, ◌≤◌, ◌^◌, sym, ◌∙◌, arith}
use Rattle.recorded.proofs.Decimals.{too_much, all_read}
use Rattle.recorded.proofs.words.value.Goals as goal

pub returns-in_err-checked_mul : goal.returns-in_err-checked_mul
returns-in_err-checked_mul c =
    let n : 2 ^ 32 ≤ c.loop-b.value * 10 = omega (arith, c.in_err-checked_mul.ensures) in
    let t = too_much c.args.word.now c.loop-b.value c.loop-b.b-index c.loop-b.invariant.0 c.loop-b-test.true (omega (arith, n)) in
    record { value = c.from_residual.ensures ∙ sym t }

pub returns-in_err-value : goal.returns-in_err-value
returns-in_err-value c =
    let n : 2 ^ 32 ≤ c.in_ok-checked_mul.field-0 + c.from.result = omega (arith, c.in_err-value.ensures) in
    let m = c.in_ok-checked_mul.ensures in
    let t = too_much c.args.word.now c.loop-b.value c.loop-b.b-index c.loop-b.invariant.0 c.loop-b-test.true (omega (arith, n, m, c.from.ensures)) in
    record { value = c.from_residual-in_err-value.ensures ∙ sym t }

pub returns : goal.returns
returns c =
    record { value = sym (all_read c.args.word.now c.loop-b.value c.loop-b.b-index c.loop-b.invariant.0 c.loop-b.invariant.1.0 c.loop-b.invariant.1.1 c.loop-b.auto.b-index-end c.loop-b-test.false) }
