-- Rows are cut and searched from the front.
use Rattle.std.proofs.Common.{◌≡◌, ℕ, suc, ◌/◌, ◌<◌, List, ◌∷◌, ◌++◌, length, None, ap, ◌∙◌, ap₂, arith, length-append}
use Rattle.std.proofs.lemmas.List.{take_at, drop_at}
use Rattle.std.specs.Option.{option_or}
use Rattle.lookup.specs.Chip.{cut, rows_of, matching_reply, deciding_reply}

rows_more : (row rest : List ℕ) → length row ≡ 50 → rows_of (row ++ rest) ≡ row ∷ rows_of rest
unfolding rows_of
rows_more row rest h =
    let more : length (row ++ rest) / 50 ≡ suc (length rest / 50) = simp length-append (omega arith) in
    ap (λ (n : ℕ). cut n (row ++ rest)) more
    ∙ ap₂ (λ (x y : List ℕ). x ∷ cut (length rest / 50) y) (take_at row rest 50 h) (drop_at row rest 50 h)

pub deciding_more : (peer xs row rest : List ℕ) → xs ≡ row ++ rest → length row ≡ 50 → deciding_reply peer (rows_of xs) ≡ option_or (matching_reply peer row) (deciding_reply peer (rows_of rest))
unfolding deciding_reply
deciding_more peer xs row rest e h = ap (λ (ys : List ℕ). deciding_reply peer (rows_of ys)) e ∙ ap (deciding_reply peer) (rows_more row rest h)

pub deciding_none : (peer xs : List ℕ) → length xs < 50 → deciding_reply peer (rows_of xs) ≡ None
unfolding rows_of deciding_reply
deciding_none peer xs h = let none : length xs / 50 ≡ 0 = omega arith in ap (λ (n : ℕ). deciding_reply peer (cut n xs)) none
