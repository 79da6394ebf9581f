-- What is known of each character of a word whose characters all belong to a class.
use Rattle.std.proofs.Common.{◌≡◌, ℕ, zero, suc, ◌+◌, ◌*◌, ◌/◌, ◌^◌, ◌<◌, ◌≤◌, true, leb, List, [], length, drop, get_or, ap, ◌∙◌, pow-suc, add-one, arith, lit≤}
use native.Mathlib.Nat.{pow-le-pow_right}
use Rattle.std.specs.List.{prefix_len}
use Rattle.std.specs.Simd.{first_chunks}
use Rattle.std.proofs.lemmas.List.{get_or-take, get_or-drop}
use Rattle.std.proofs.lemmas.List.Sums.{prefix_len_passes}
use Rattle.std.proofs.lemmas.Bool.{leb-true, and_parts}
use Rattle.std.proofs.lemmas.Bool.Decides.{nat_tests}
use Rattle.text.specs.Words.{digit, hex_digit, hex_value}

-- each character of a run of digits is one
pub digit_at : (w : List ℕ) (i : ℕ) → i < prefix_len digit w → (48 ≤ get_or w i 0) × (get_or w i 0 ≤ 57)
digit_at w i h =
    let d = and_parts (leb 48 (get_or w i 0)) (leb (get_or w i 0) 57) (prefix_len_passes digit w i 0 h) in
    (leb-true 48 (get_or w i 0) d.0, leb-true (get_or w i 0) 57 d.1)

-- each character of a run of hexadecimal digits has a value of at most 15
pub hex_at : (w : List ℕ) (i : ℕ) → i < prefix_len hex_digit w → hex_value (get_or w i 0) ≤ 15
hex_at w i h = small (get_or w i 0) (prefix_len_passes hex_digit w i 0 h)
  where
    small : (b : ℕ) → hex_digit b ≡ true → hex_value b ≤ 15
    small b t = grind (arith, nat_tests)

-- the two characters of pair i of a word that is cut into k pairs
pub pair_at : (k : ℕ) (w : List ℕ) (i : ℕ) → i < k
    → (get_or (get_or (first_chunks 2 k w) i []) 0 0 ≡ get_or w (2 * i) 0) × (get_or (get_or (first_chunks 2 k w) i []) 1 0 ≡ get_or w (2 * i + 1) 0)
pair_at zero w i h = absurd (omega arith)
pair_at (suc k) w zero h = (get_or-take 2 w 0 0 (omega arith), get_or-take 2 w 1 0 (omega arith))
pair_at (suc k) w (suc i) h =
    let p = pair_at k (drop 2 w) i (omega arith) in
    let e : 2 + 2 * i ≡ 2 * suc i = omega arith in
    let f : 2 + (2 * i + 1) ≡ 2 * suc i + 1 = omega arith in
    (p.0 ∙ (get_or-drop 2 w (2 * i) 0 ∙ ap (λ n. get_or w n 0) e), p.1 ∙ (get_or-drop 2 w (2 * i + 1) 0 ∙ ap (λ n. get_or w n 0) f))

-- the same of a word of hexadecimal digits, with what their values are at most
pub hex_pair_at : (w : List ℕ) (ps : List (List ℕ)) → length w ≡ prefix_len hex_digit w → ps ≡ first_chunks 2 (length w / 2) w → (i : ℕ) → i < length w / 2
    → (get_or (get_or ps i []) 0 0 ≡ get_or w (2 * i) 0) × (get_or (get_or ps i []) 1 0 ≡ get_or w (2 * i + 1) 0)
    × (hex_value (get_or w (2 * i) 0) ≤ 15) × (hex_value (get_or w (2 * i + 1) 0) ≤ 15)
hex_pair_at w ps h e i l = let p = pair_at (length w / 2) w i l in rw e (p.0, p.1, hex_at w (2 * i) (omega arith), hex_at w (2 * i + 1) (omega arith))

-- a number below 10 ^ i, i at most 8, has room for a digit
pub room : (v i d : ℕ) → v < 10 ^ i → i ≤ 8 → d ≤ 9 → (v * 10 + d < 10 ^ 9) × (v * 10 + d < 10 ^ (i + 1))
room v i d h l m =
    let a : 10 ^ i ≤ 10 ^ 8 = pow-le-pow_right (lit≤ tt) l in
    let b : 10 ^ (i + 1) ≡ 10 ^ i * 10 = rw (add-one i) (pow-suc 10 i) in
    (omega arith, omega arith)
