-- Three parts written one after the other at the start of an output.
use Rattle.std.proofs.Common.{◌≡◌, ℕ, ◌+◌, List, ◌++◌, length, take, drop, ap, ◌∙◌, arith}
use borrow.Rule.Slice.PartMut.{put_mid}
use Rattle.std.proofs.lemmas.List.{take_at, drop_at, drop-drop, append_assoc, length-append}

-- o held w and what stood after it; then s of k octets is written at a, the end of w
pub put_next : (w s o : List ℕ) (a k : ℕ) → length w ≡ a → put_mid a k (w ++ drop a o) s ≡ (w ++ s) ++ drop (a + k) o
put_next w s o a k h =
    let e : take a (w ++ drop a o) ≡ w = take_at w (drop a o) a h in
    let f : drop a (w ++ drop a o) ≡ drop a o = drop_at w (drop a o) a h in
    simp (e, f, drop-drop, append_assoc)

-- w, s and t, each as the copy left it, in place of the first e octets of o
pub laid : (w s t o : List ℕ) {xs ys zs : List ℕ} (a i k b j e : ℕ) → xs ≡ w → ys ≡ s → zs ≡ t
    → length w ≡ a → i ≡ a → length s ≡ k → b ≡ a + k → e ≡ b + j
    → put_mid b j (put_mid a k (xs ++ drop i o) ys) zs ≡ (w ++ (s ++ t)) ++ drop e o
laid w s t o a i k b j e p q r l u m f g =
    let n : length (w ++ s) ≡ a + k = omega (arith, length-append w s) in
    simp (p, q, r, u, f, g)
    (ap (λ v. put_mid (a + k) j v t) (put_next w s o a k l) ∙ put_next (w ++ s) t o (a + k) j n ∙ simp append_assoc)
