-- After `prepare`, `encipher` is E under the key, and what lies past the first 256 octets of the workspace is kept.
use Rattle.std.proofs.Common.{◌≡◌, ℕ, ◌≤◌, Bool, false, cond, ltb, List, ◌++◌, length, take, drop, refl, ap, ◌∙◌}
use Rattle.std.proofs.lemmas.List.{take_at}
use Rattle.std.proofs.lemmas.Slice.{drop-append-drop}
use Rattle.std.proofs.lemmas.Bool.{le-ltb, cond-false}
use Rattle.cipher.specs.Cipher.{prepared, enciphered}

-- a workspace of full size begins with the schedule
written : (s w v : List ℕ) → 256 ≤ length w → v ≡ prepared s w → v ≡ s ++ drop (length s) w
written s w v h e = e ∙ cond-false (ltb (length w) 256) w (s ++ drop (length s) w) (le-ltb (length w) 256 h)

-- enciphering under the workspace is working under the schedule
pub enciphers : (n : ℕ) (worked : List ℕ → List ℕ → List ℕ) (s w v : List ℕ) → length s ≡ n → 256 ≤ length w → 256 ≤ length v → v ≡ prepared s w → enciphered n worked v ≡ worked s
enciphers n worked s w v z h j e =
    let t : ltb (length v) 256 ≡ false = le-ltb (length v) 256 j in
    let p : take n v ≡ s = ap (take n) (written s w v h e) ∙ take_at s (drop (length s) w) n z in
    ap (λ (b : Bool). (λ (x : List ℕ). cond b x (worked (take n v) x))) t ∙ ap worked p

pub keeps : (n : ℕ) (s w v : List ℕ) → length s ≡ n → n ≤ 256 → 256 ≤ length w → v ≡ prepared s w → drop 256 v ≡ drop 256 w
keeps n s w v z f h e = ap (drop 256) (written s w v h e) ∙ drop-append-drop (length s) w s 256 (rw z f) refl
