-- What is known of the value of decimal digits from those read so far.
use Rattle.std.proofs.Common.{◌≡◌, ℕ, ◌+◌, ◌-◌, ◌*◌, ◌^◌, ◌<◌, ◌≤◌, cond, ◌&&◌, nat_eq, nat_lt, List, [], ◌∷◌, length, take, drop, get_or, Some, None, sym, ap, ◌∙◌, arith}
use Rattle.std.specs.List.{prefix_len, fold}
use Rattle.std.proofs.lemmas.List.{take-append-drop, take_all}
use Rattle.std.proofs.lemmas.List.Sums.{fold-append, fold_more, prefix_len-drop_all}
use Rattle.std.proofs.lemmas.Bool.Decides.{nat_tests}
use Rattle.text.specs.Words.{digit, decimal_value}
use Rattle.recorded.specs.Words.{value_of}

-- more digits give no smaller value
grows : (xs : List ℕ) (a b : ℕ) → a ≤ b → a ≤ fold (λ v d. v * 10 + (d - 48)) b xs
grows [] a b h = h
grows (x ∷ xs) a b h = grows xs a (b * 10 + (x - 48)) (omega (arith, h))

-- the first i digits have no larger value than all
so_far : (w : List ℕ) (i : ℕ) → decimal_value (take i w) ≤ decimal_value w
so_far w i =
    let f = fold-append (λ v d. v * 10 + (d - 48)) 0 (take i w) (drop i w) in
    let e : decimal_value w ≡ fold (λ v d. v * 10 + (d - 48)) (decimal_value (take i w)) (drop i w) = ap decimal_value (sym (take-append-drop i w)) ∙ f in
    let g = grows (drop i w) (decimal_value (take i w)) (decimal_value (take i w)) (omega arith) in
    omega (arith, e, g)

-- a value that has no 32 bits
pub too_much : (w : List ℕ) (v i : ℕ) → v ≡ decimal_value (take i w) → i < length w → 2 ^ 32 ≤ v * 10 + (get_or w i 0 - 48) → value_of w ≡ None
too_much w v i e l h =
    let m = fold_more (λ a b. a * 10 + (b - 48)) 0 w i 0 l in
    let s = so_far w (i + 1) in
    none (prefix_len digit w) (length w) (decimal_value w) (omega (arith, e, m, s))
  where
    none : (p n d : ℕ) → 2 ^ 32 ≤ d → cond (nat_eq p n && nat_lt d (2 ^ 32)) (Some d) None ≡ None
    none p n d h = grind (arith, nat_tests)

-- the value of digits that are read whole
pub all_read : (w : List ℕ) (v i : ℕ) → v ≡ decimal_value (take i w) → v < 2 ^ 32 → prefix_len digit w ≡ i + prefix_len digit (drop i w) → i ≤ length w → length w ≤ i → value_of w ≡ Some v
all_read w v i e h p l m =
    let t : take i w ≡ w = take_all i w m in
    let q = prefix_len-drop_all digit w i m in
    whole (prefix_len digit w) (length w) (decimal_value w) v (omega (arith, p, q)) (sym (e ∙ ap decimal_value t)) h
  where
    whole : (p n d v : ℕ) → p ≡ n → d ≡ v → v < 2 ^ 32 → cond (nat_eq p n && nat_lt d (2 ^ 32)) (Some d) None ≡ Some v
    whole p n d v e f h = grind (arith, nat_tests)
