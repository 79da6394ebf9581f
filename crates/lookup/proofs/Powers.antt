-- Powers modulo m: square and multiply, and that exponents commute.
use Rattle.std.proofs.Common.{◌≡◌, ℕ, zero, suc, ◌+◌, ◌*◌, ◌/◌, ◌%◌, ◌^◌, sym, ap, ◌∙◌, mul_assoc, mul_comm, add-mul, one-mul, pow-suc, mul-zero, mul-suc, pow-add}
use native.Mathlib.Nat.{div-add-mod, mul-add-mod_self_left, pow-zero}

-- a factor may be reduced first
mul_mod_left : (a b m : ℕ) → a % m * b % m ≡ a * b % m
mul_mod_left a b m =
    sym (ap (λ (x : ℕ). x % m)
    (ap (λ (x : ℕ). x * b) (sym (div-add-mod a m)) ∙ add-mul (m * (a / m)) (a % m) b ∙ ap (λ (x : ℕ). x + a % m * b) (mul_assoc m (a / m) b))
    ∙ mul-add-mod_self_left m (a / m * b) (a % m * b))

mul_mod_right : (a b m : ℕ) → a * (b % m) % m ≡ a * b % m
mul_mod_right a b m =
    ap (λ (x : ℕ). x % m) (mul_comm a (b % m)) ∙ mul_mod_left b a m ∙ ap (λ (x : ℕ). x % m) (mul_comm b a)

-- and so may the base of a power
pow-mod : (a m n : ℕ) → (a % m) ^ n % m ≡ a ^ n % m
pow-mod a m zero = ap (λ (x : ℕ). x % m) (pow-zero (a % m) ∙ sym (pow-zero a))
pow-mod a m (suc n) =
    ap (λ (x : ℕ). x % m) (pow-suc (a % m) n) ∙ mul_mod_right ((a % m) ^ n) a m ∙ sym (mul_mod_left ((a % m) ^ n) a m)
    ∙ ap (λ (x : ℕ). x * a % m) (pow-mod a m n) ∙ mul_mod_left (a ^ n) a m ∙ ap (λ (x : ℕ). x % m) (sym (pow-suc a n))

pow-mul : (a m n : ℕ) → a ^ (m * n) ≡ (a ^ m) ^ n
pow-mul a m zero = ap (λ (x : ℕ). a ^ x) (mul-zero m) ∙ pow-zero a ∙ sym (pow-zero (a ^ m))
pow-mul a m (suc n) =
    ap (λ (x : ℕ). a ^ x) (mul-suc m n) ∙ pow-add a (m * n) m ∙ ap (λ (x : ℕ). x * a ^ m) (pow-mul a m n) ∙ sym (pow-suc (a ^ m) n)

pub pow-one : (b : ℕ) → b ^ 1 ≡ b
pow-one b = pow-suc b 0 ∙ ap (λ (x : ℕ). x * b) (pow-zero b) ∙ one-mul b

-- a power by the square of its base
halved : (b e : ℕ) → b ^ (e % 2) * (b * b) ^ (e / 2) ≡ b ^ e
halved b e =
    ap (λ (x : ℕ). b ^ (e % 2) * x ^ (e / 2)) (sym (pow-suc b 1 ∙ ap (λ (x : ℕ). x * b) (pow-one b)))
    ∙ ap (λ (x : ℕ). b ^ (e % 2) * x) (sym (pow-mul b 2 (e / 2))) ∙ mul_comm (b ^ (e % 2)) (b ^ (2 * (e / 2)))
    ∙ sym (pow-add b (2 * (e / 2)) (e % 2)) ∙ ap (λ (x : ℕ). b ^ x) (div-add-mod e 2)

-- one turn of square and multiply
pub turn : (a b e m : ℕ) → a * b ^ (e % 2) % m * (b * b % m) ^ (e / 2) % m ≡ a * b ^ e % m
turn a b e m =
    mul_mod_left (a * b ^ (e % 2)) ((b * b % m) ^ (e / 2)) m ∙ sym (mul_mod_right (a * b ^ (e % 2)) ((b * b % m) ^ (e / 2)) m)
    ∙ ap (λ (x : ℕ). a * b ^ (e % 2) * x % m) (pow-mod (b * b) m (e / 2)) ∙ mul_mod_right (a * b ^ (e % 2)) ((b * b) ^ (e / 2)) m
    ∙ ap (λ (x : ℕ). x % m) (mul_assoc a (b ^ (e % 2)) ((b * b) ^ (e / 2)) ∙ ap (λ (x : ℕ). a * x) (halved b e))

-- both sides of an exchange reach one power
pub exchanged : (g d e m : ℕ) → (g ^ d % m) ^ e % m ≡ (g ^ e % m) ^ d % m
exchanged g d e m =
    pow-mod (g ^ d) m e ∙ ap (λ (x : ℕ). x % m) (sym (pow-mul g d e) ∙ ap (λ (x : ℕ). g ^ x) (mul_comm d e) ∙ pow-mul g e d) ∙ sym (pow-mod (g ^ e) m d)
