-- The table of the round constants holds the powers of x.
use Rattle.std.proofs.Common.{◌≡◌, ℕ, ◌-◌, ◌<◌, true, List, get_or, arith, rules}
use Rattle.aes.specs.Field.{x_power, product}
use Rattle.aes.proofs.Below.{agree, below}
use Rattle.aes.proofs.schedule.round_constant.Goals as goal

rule : (table : List ℕ) → agree 10 (λ k. get_or table k 0) x_power ≡ true → (k : ℕ) → k < 10 → get_or table k 0 ≡ x_power k
rule table t k h = below 10 (λ x. get_or table x 0) x_power t k h

pub returns : goal.returns
unfolding product
returns c = let h : c.args.j - 1 < 10 = omega arith in search (rules, rule)
