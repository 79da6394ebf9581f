-- A workspace that is cleared after work which kept what stands after its first 256 octets.
use Rattle.std.proofs.Common.{◌≡◌, ℕ, ◌≤◌, ltb, List, ◌++◌, length, drop, replicate, sym, ap, ◌∙◌, arith}
use Rattle.std.proofs.lemmas.Bool.{cond-false, le-ltb}
use Rattle.cipher.specs.Workspace.{left, cleared}

-- of full size
left-full : (w : List ℕ) → 256 ≤ length w → left w ≡ cleared w
left-full w h = cond-false (ltb (length w) 256) w (cleared w) (le-ltb (length w) 256 h)

-- v is what the work left of w, and u what clearing left of v
pub left_after : (w v u : List ℕ) → 256 ≤ length w → length v ≡ length w → drop 256 v ≡ drop 256 w → u ≡ left v → u ≡ left w
unfolding cleared
left_after w v u h l k e = e ∙ left-full v (omega arith) ∙ ap (λ t. replicate 256 0 ++ t) k ∙ sym (left-full w h)
