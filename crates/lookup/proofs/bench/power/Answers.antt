-- Product times square to what is left of the exponent stays the power.
use Rattle.std.proofs.Common.{◌≡◌, ℕ, ◌*◌, ◌/◌, ◌%◌, ◌^◌, sym, ap, ◌∙◌, ap₂, mod-eq_of_lt, one-mul, mul-one, arith}
use native.Mathlib.Nat.{pow-zero}
use Rattle.lookup.specs.Bench.{power_of}
use Rattle.lookup.proofs.Powers.{pow-one, turn}
use Rattle.lookup.proofs.bench.power.Goals as goal
use Rattle.lookup.proofs.bench.power.Goals.{then-remaining-eq1, else-remaining-eq1}

-- the new product in either case
product : (c : goal.After-times-square) → c.if-remaining-eq1.product ≡ c.loop-remaining.product * c.loop-remaining.square ^ (c.loop-remaining.remaining % 2) % 2147483647
product c =
    let a = c.loop-remaining.product in
    let b = c.loop-remaining.square in
    elim c.if-remaining-eq1.branch [
      | then-remaining-eq1 w ↦
          w.product-is ∙ w.times-product.ensures.value
          ∙ ap (λ (x : ℕ). a * x % 2147483647) (sym (ap (λ (x : ℕ). b ^ x) w.if-remaining-eq1.true ∙ pow-one b))
      | else-remaining-eq1 w ↦
          let even : c.loop-remaining.remaining % 2 ≡ 0 = omega (arith, w.if-remaining-eq1.false) in
          w.product-is ∙ sym (mod-eq_of_lt c.loop-remaining.invariant.0)
          ∙ ap (λ (x : ℕ). x % 2147483647) (sym (ap (λ (x : ℕ). a * b ^ x) even ∙ ap (λ (x : ℕ). a * x) (pow-zero b) ∙ mul-one a))
    ]

pub loop-remaining-preserved : goal.loop-remaining-preserved
loop-remaining-preserved c = (
  omega (arith, product c),
  ap₂ (λ (x y : ℕ). x * y ^ (c.loop-remaining.remaining / 2) % 2147483647) (product c) c.times-square.ensures.value
      ∙ turn c.loop-remaining.product c.loop-remaining.square c.loop-remaining.remaining 2147483647 ∙ c.loop-remaining.invariant.1,
)

pub returns : goal.returns
unfolding power_of
returns c =
    let none : c.loop-remaining.remaining ≡ 0 = omega arith in
    let a = c.loop-remaining.product in
    let b = c.loop-remaining.square in
    record {
      value = sym (mod-eq_of_lt c.loop-remaining.invariant.0)
          ∙ ap (λ (x : ℕ). x % 2147483647) (sym (ap (λ (x : ℕ). a * b ^ x) none ∙ ap (λ (x : ℕ). a * x) (pow-zero b) ∙ mul-one a))
          ∙ c.loop-remaining.invariant.1 ∙ ap (λ (x : ℕ). x % 2147483647) (one-mul (c.args.base ^ c.args.exponent));
    }
