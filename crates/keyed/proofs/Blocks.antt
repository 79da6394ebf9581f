-- The steps of XCBC: the padding, one block more of the chain, and the result from its parts.
use Rattle.std.proofs.Common.{◌≡◌, ℕ, suc, ◌+◌, ◌-◌, ◌*◌, ◌<◌, List, ◌++◌, length, take, drop, set, replicate, sym, refl, ap, ◌∙◌, add-one, ◌≤◌, ◌∙◌, arith, length-drop, length-take, length-append}
use borrow.Rule.Slice.PartMut.{post_of}
use Rattle.std.proofs.lemmas.List.{set_at, drop-replicate, take_all, take_at, drop_at, drop-drop, take-append-drop, append_assoc}
use Rattle.keyed.specs.Xcbc.{xors, block, before, chain, padded, closed, key1, key2, key3, keyed_result}

-- a short block written over zeros, and the octet 80 hexadecimal after it
pub pad_is : (l b : List ℕ) → length l < 16 → b ≡ l → set (b ++ post_of 0 (length l - 0) (replicate 16 0)) (length l) 0x80 ≡ padded l
unfolding padded
pad_is l b h s =
    let z : length l - 0 ≡ length l = omega arith in
    let e : 16 - length l ≡ suc (15 - length l) = omega arith in
    let d : drop (length l) (replicate 16 0) ≡ replicate (16 - length l) 0 = drop-replicate {X = ℕ} (length l) 16 0 in
    rw (s, z, d, e) (set_at l 0 (replicate (15 - length l) 0) 0x80 (length l) refl)

-- one block more of the chain
pub chain_more : (f : List ℕ → List ℕ) (m : List ℕ) (n : ℕ) → chain f m (n + 1) ≡ f (xors (block m n) (chain f m n))
unfolding chain
chain_more f m n = rw (add-one n) refl

-- c blocks of m are gone through, n of them so far; of what is left, b is the next block and r what comes after it
pub next_block :
    (m w b r : List ℕ) (n c : ℕ) → 16 * c ≤ length m → w ≡ drop (16 * n) (take (16 * c) m) → w ≡ b ++ r → length b ≡ 16 →
    (b ≡ block m n) × (r ≡ drop (16 * (n + 1)) (take (16 * c) m)) × (n + 1 ≤ c)
next_block m w b r n c h e s l =
    let t : List ℕ = take (16 * c) m in
    let rest : List ℕ = drop (16 * c) m in
    let lw : length w ≡ length t - 16 * n = ap length e ∙ length-drop (16 * n) t in
    let la : length (take (16 * n) t) ≡ 16 * n = omega (arith, length-take (16 * n) t, ap length s, length-append b r) in
    let parts : m ≡ take (16 * n) t ++ (b ++ (r ++ rest)) =
    sym (take-append-drop (16 * c) m) ∙ ap (λ x. x ++ rest) (sym (take-append-drop (16 * n) t) ∙ ap (λ x. take (16 * n) t ++ x) (sym e ∙ s)) ∙ simp append_assoc in
    let left : drop (16 * n) m ≡ b ++ (r ++ rest) = ap (drop (16 * n)) parts ∙ drop_at (take (16 * n) t) (b ++ (r ++ rest)) (16 * n) la in
    let on : 16 * n + 16 ≡ 16 * (n + 1) = omega arith in (
      sym (ap (take 16) left ∙ take_at b (r ++ rest) 16 l),
      sym (drop_at b r 16 l) ∙ ap (drop 16) (sym s ∙ e) ∙ drop-drop 16 (16 * n) t ∙ ap (λ k. drop k t) on,
      omega (arith, lw, length-take (16 * c) m, ap length s, length-append b r),
    )

-- what is left after the blocks before the last is the last block
last_block : (m : List ℕ) (j : ℕ) → j ≡ length m - 16 * before m → take j (drop (16 * before m) m) ≡ block m (before m)
last_block m j e =
    let d : List ℕ = drop (16 * before m) m in
    let l : length d ≡ length m - 16 * before m = length-drop (16 * before m) m in
    take_all j d (omega arith) ∙ sym (take_all 16 d (omega arith))

-- a result from its parts: f enciphers under the key, g under K1
pub result_is :
    (e : List ℕ → List ℕ → List ℕ) (k m : List ℕ) (n j : ℕ) (f g : List ℕ → List ℕ) {k1 k2 k3 s x r : List ℕ} →
    f ≡ e k → k1 ≡ f (replicate 16 1) → k2 ≡ f (replicate 16 2) → k3 ≡ f (replicate 16 3) →
    g ≡ e k1 → n ≡ before m → j ≡ length m - 16 * n → s ≡ chain g m n → x ≡ closed k2 k3 s (take j (drop (16 * n) m)) → r ≡ g x → r ≡ keyed_result e k m
unfolding keyed_result key1 key2 key3
result_is e k m n j f g ef e1 e2 e3 eg en ej es ex er =
    let jj : j ≡ length m - 16 * before m = ej ∙ ap (λ i. length m - 16 * i) en in
    let t = last_block m j jj in
    cc
