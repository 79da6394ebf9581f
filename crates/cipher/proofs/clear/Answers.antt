-- A workspace of full size after zeros were written over its first 256 octets.
use Rattle.std.proofs.Common.{◌≡◌, ℕ, ◌≤◌, List, ◌++◌, length, take, drop, replicate, ap, ◌∙◌, arith, length-take}
use Rattle.std.proofs.lemmas.Bool.{cond_above}
use Rattle.cipher.specs.Workspace.{left, cleared}
use Rattle.cipher.proofs.clear.Goals as goal

zeroed : (z w : List ℕ) → z ≡ replicate 256 0 → 256 ≤ length w → z ++ drop 256 w ≡ left w
unfolding cleared
zeroed z w e h = cond_above (length w) 256 w (cleared w) (z ++ drop 256 w) h (ap (λ v. v ++ drop 256 w) e)

pub returns : goal.returns
returns c =
    let w = c.args.workspace.now in
    let all : length (take 256 w) ≡ 256 = omega (arith, length-take 256 w) in
    record { workspace = zeroed _ w (c.fill.ensures.after (λ y e. e) ∙ ap (λ n. replicate n 0) all) (omega arith) }
