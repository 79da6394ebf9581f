-- Each character is a digit, so the value of at most nine fits.
use Rattle.std.proofs.Common.{◌≡◌, ◌+◌, ◌-◌, ◌*◌, take, ap, ◌∙◌, arith, rules, tests}
use Rattle.std.proofs.lemmas.List.{take_all}
use Rattle.std.proofs.lemmas.List.Sums.{fold_more}
use Rattle.text.specs.Words.{decimal_value, digit}
use Rattle.text.proofs.Digits.{digit_at, room}
use Rattle.text.proofs.number.Goals as goal

pub overflow_mul-value : goal.overflow_mul-value
overflow_mul-value c = let r = room c.loop-b.value c.loop-b.b-index 0 c.loop-b.invariant.1 (omega arith) (omega arith) in omega arith

pub overflow_sub-b : goal.overflow_sub-b
overflow_sub-b c =
    let n = c.run_of.ensures.value digit (λ b r p. search (rules, tests)) in
    (digit_at c.args.word.now c.loop-b.b-index (omega arith)).0

pub overflow_add-value : goal.overflow_add-value
overflow_add-value c =
    let n = c.run_of.ensures.value digit (λ b r p. search (rules, tests)) in
    let d = digit_at c.args.word.now c.loop-b.b-index (omega arith) in
    let r = room c.loop-b.value c.loop-b.b-index c.from.result c.loop-b.invariant.1 (omega arith) (omega arith) in
    omega arith

pub loop-b-preserved : goal.loop-b-preserved
loop-b-preserved c =
    let n = c.run_of.ensures.value digit (λ b r p. search (rules, tests)) in
    let d = digit_at c.args.word.now c.loop-b.b-index (omega arith) in
    let r = room c.loop-b.value c.loop-b.b-index c.from.result c.loop-b.invariant.1 (omega arith) (omega arith) in
    let f = fold_more (λ a b. a * 10 + (b - 48)) 0 c.args.word.now c.loop-b.b-index 0 c.loop-b-test.true in
    (omega (arith, f), r.1)

pub returns : goal.returns
returns c =
    let t : take c.loop-b.b-index c.args.word.now ≡ c.args.word.now = take_all c.loop-b.b-index c.args.word.now (omega arith) in
    let v : c.loop-b.value ≡ decimal_value c.args.word.now = c.loop-b.invariant.0 ∙ ap decimal_value t in
    search rules
