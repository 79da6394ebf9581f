-- The inverse, tried at each element of the field.
use Rattle.std.proofs.Common.{◌≡◌, ℕ, zero, suc, ◌+◌, ◌<◌, min, eqb, refl, ◌∙◌, arith}
use Rattle.std.proofs.lemmas.Bool.{cond_both}
use Rattle.aes.specs.Field.{product, inverse, inverse_from}
use Rattle.aes.proofs.Below.{below}
use Rattle.aes.proofs.field_laws.Goals as goal

one : (a : ℕ) → 0 < a → min a 1 ≡ 1
one a h = omega arith

inverse_from-below : (n a b : ℕ) → 0 < b → inverse_from n a b < n + b
unfolding inverse_from
inverse_from-below zero a b h = omega arith
inverse_from-below (suc n) a b h =
    let later : inverse_from n a (suc b) < n + suc b = inverse_from-below n a (suc b) (omega arith) in
    cond_both (eqb (product a b) 1) b (inverse_from n a (suc b)) (λ m. m < suc n + b) (λ _. omega arith) (λ _. omega arith)

element : (a : ℕ) → inverse a < 256
unfolding inverse
element a = inverse_from-below 255 a 1 (omega arith)

pub returns : goal.returns
unfolding product inverse inverse_from
returns c = (
  λ a h l. (element a, below 256 (λ b. product b (inverse b)) (λ b. min b 1) refl a l ∙ one a h),
  refl,
  refl,
  refl,
)
