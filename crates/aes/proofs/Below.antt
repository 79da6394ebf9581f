-- Two functions that agree at each number below n, by one test that antt computes.
use Rattle.std.proofs.Common.{◌≡◌, ℕ, zero, suc, ◌<◌, Bool, true, ◌&&◌, eqb, sym, subst, inl, inr, not-suc-le-zero, arith}
use Rattle.std.proofs.lemmas.Bool.{and_parts, cases_eq, eqb-true}

abbrev pub agree : ℕ → (ℕ → ℕ) → (ℕ → ℕ) → Bool
agree zero f g = true
agree (suc n) f g = eqb (f n) (g n) && agree n f g

pub below : (n : ℕ) (f g : ℕ → ℕ) → agree n f g ≡ true → (k : ℕ) → k < n → f k ≡ g k
below zero f g t k h = absurd (not-suc-le-zero h)
below (suc n) f g t k h =
    let p = and_parts (eqb (f n) (g n)) (agree n f g) t in
    elim (cases_eq k n) [
      | inl e ↦ subst (λ (m : ℕ). f m ≡ g m) (sym e) (eqb-true (f n) (g n) p.0)
      | inr other ↦ below n f g p.1 k (omega arith)
    ]
