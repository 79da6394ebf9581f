-- What stands in a workspace after a schedule was written at its start, and what is enciphered under it.
use Rattle.std.proofs.Common.{◌≡◌, ℕ, ◌≤◌, ltb, List, ◌++◌, length, take, drop, ap, ◌∙◌}
use Rattle.std.proofs.lemmas.Bool.{cond-false, le-ltb}
use Rattle.cipher.specs.Cipher.{prepared, enciphered}

-- a workspace of full size begins with the schedule
pub prepared-full : (s w : List ℕ) → 256 ≤ length w → prepared s w ≡ s ++ drop (length s) w
prepared-full s w h = cond-false (ltb (length w) 256) w (s ++ drop (length s) w) (le-ltb (length w) 256 h)

-- under a workspace of full size that begins with the schedule s, a block is worked out under s
pub enciphered-full : (n : ℕ) (worked : List ℕ → List ℕ → List ℕ) (s w x : List ℕ) → 256 ≤ length w → take n w ≡ s → enciphered n worked w x ≡ worked s x
enciphered-full n worked s w x h e =
    cond-false (ltb (length w) 256) x (worked (take n w) x) (le-ltb (length w) 256 h) ∙ ap (λ t. worked t x) e
