-- The keys and the first counter from the results that they are.
use Rattle.std.proofs.Common.{◌≡◌, ℕ, ◌+◌, ◌*◌, ◌^◌, List, [], ◌∷◌, ◌++◌, map, length, get_or, sym, refl, ap, ◌∙◌, arith}
use Rattle.std.specs.List.{range_with_len}
use Rattle.std.specs.Int.Digits.{number_from_digits}
use Rattle.std.proofs.lemmas.List.FromFn.{fill_by_all}
use Rattle.keyed.specs.declared.derivation.SessionKeys.{SessionKeys}
use Rattle.keyed.specs.Xcbc.{keyed_result}
use Rattle.keyed.specs.Derivation.{split, seed, master_string, master_key, encryption_string, encryption_key, integrity_string, integrity_key, counter_string, first_counter, derived}

-- sixteen octets and what each counts for, the highest first
abbrev pub weighed : List ℕ → ℕ
weighed b =
    get_or b 0 0 * 2 ^ 120 + get_or b 1 0 * 2 ^ 112 + get_or b 2 0 * 2 ^ 104 + get_or b 3 0 * 2 ^ 96 + get_or b 4 0 * 2 ^ 88 + get_or b 5 0 * 2 ^ 80 + get_or b 6 0 * 2 ^ 72
    + get_or b 7 0 * 2 ^ 64 + get_or b 8 0 * 2 ^ 56 + get_or b 9 0 * 2 ^ 48 + get_or b 10 0 * 2 ^ 40 + get_or b 11 0 * 2 ^ 32 + get_or b 12 0 * 2 ^ 24 + get_or b 13 0 * 2 ^ 16
    + get_or b 14 0 * 2 ^ 8 + get_or b 15 0

-- which is the number that they are in base 256
pub weighed_number : (b : List ℕ) → length b ≡ 16 → weighed b ≡ number_from_digits 256 b
weighed_number b h =
    let e : b ≡ map (λ i. get_or b i 0) (range_with_len 0 16) = fill_by_all (λ i. get_or b i 0) b 16 0 h (λ k l. refl) in
    let n : weighed b ≡ number_from_digits 256 (map (λ i. get_or b i 0) (range_with_len 0 16)) = omega arith in
    n ∙ ap (number_from_digits 256) (sym e)

pub derived-is :
    (e : List ℕ → List ℕ → List ℕ) (na nb ida idb z : List ℕ) (n : ℕ) {s d mk ke ki b : List ℕ} →
    s ≡ split na nb → d ≡ keyed_result e s z → mk ≡ keyed_result e d (s ++ ida ++ idb ++ 1 ∷ []) → ke ≡ keyed_result e d (mk ++ s ++ ida ++ idb ++ 2 ∷ []) →
    ki ≡ keyed_result e d (ke ++ s ++ ida ++ idb ++ 3 ∷ []) → b ≡ keyed_result e mk (counter_string ki na nb) → length b ≡ 16 → n ≡ weighed b →
    ◌≡◌ {A = SessionKeys} (record { master = mk; encryption = ke; integrity = ki; counter = n }) (derived e na nb ida idb z)
unfolding seed master_string master_key encryption_string encryption_key integrity_string integrity_key first_counter
derived-is e na nb ida idb z n es ed em ee ei eb l en = let w = weighed_number _ l in cc
