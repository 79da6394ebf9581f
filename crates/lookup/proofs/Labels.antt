-- A value is read from its label again, so two keys reply alike to each other's label.
use Rattle.std.proofs.Common.{◌≡◌, ℕ, ◌+◌, ◌*◌, ◌/◌, ◌%◌, ◌<◌, ◌≤◌, cond, ◌&&◌, Some, None, sym, refl, ap, ◌∙◌, mod-eq_of_lt, div-add-mod', arith}
use native.Mathlib.Nat.{div-div-eq-div-mul}
use Rattle.std.proofs.lemmas.Slice.Eq.{bytes_eq-Decides}
use Rattle.std.proofs.lemmas.Bool.{and_from, cond-true, le-leb}
use Rattle.std.specs.Str.{bytes_eq}
use Rattle.lookup.specs.Bench.{power_of, is_value, padded, label_of, number_in, value_of, power_reply, value_reply, reply_to}
use Rattle.lookup.proofs.Powers.{exchanged}

read_again : (v : ℕ) → v < 4294967296 → number_in (label_of v) ≡ v
unfolding label_of padded
read_again v h =
    let low : v / 256 * 256 + v % 256 ≡ v = div-add-mod' v 256 in
    let third : v / 65536 * 256 + v / 256 % 256 ≡ v / 256 =
    ap (λ (n : ℕ). n * 256 + v / 256 % 256) (sym (div-div-eq-div-mul v 256 256)) ∙ div-add-mod' (v / 256) 256 in
    let second : v / 16777216 * 256 + v / 65536 % 256 ≡ v / 65536 =
    ap (λ (n : ℕ). n * 256 + v / 65536 % 256) (sym (div-div-eq-div-mul v 65536 256)) ∙ div-add-mod' (v / 65536) 256 in
    let high : v / 16777216 % 256 ≡ v / 16777216 = mod-eq_of_lt (omega arith) in
    omega arith

pub decoded : (v : ℕ) → (2 ≤ v) × (v ≤ 2147483645) → value_of (label_of v) ≡ Some v
decoded v h =
    ap (λ (n : ℕ). cond (is_value n && bytes_eq (label_of v) (label_of n)) (Some n) None) (read_again v (omega arith))
    ∙ cond-true _ _ _ (and_from _ _ (and_from _ _ (le-leb 2 v h.0) (le-leb v 2147483645 h.1)) ((bytes_eq-Decides (label_of v) (label_of v)).1 refl))

same_power : (d e : ℕ) → power_of (power_of 7 e) d ≡ power_of (power_of 7 d) e
unfolding power_of
same_power d e = exchanged 7 e d 2147483647

pub agreed : (d e v w : ℕ) → v ≡ power_of 7 d → w ≡ power_of 7 e → (2 ≤ v) × (v ≤ 2147483645) → (2 ≤ w) × (w ≤ 2147483645) → reply_to d (label_of w) ≡ reply_to e (label_of v)
agreed d e v w p q h i =
    ap (value_reply d) (decoded w i)
    ∙ ap power_reply (ap (λ (x : ℕ). power_of x d) q ∙ same_power d e ∙ sym (ap (λ (x : ℕ). power_of x e) p)) ∙ sym (ap (value_reply e) (decoded v h))
