-- Each character is a hexadecimal digit, so two make an octet.
use Rattle.std.proofs.Common.{◌≡◌, ◌+◌, ◌*◌, [], ◌∷◌, ◌++◌, get_or, ap, ◌∙◌, arith}
use Rattle.std.proofs.lemmas.List.FromFn.{map-range_with_len_more}
use Rattle.text.specs.Words.{hex_value, pairs}
use Rattle.text.proofs.Digits.{hex_pair_at}
use Rattle.text.proofs.hex_pairs.Goals as goal

pub overflow_mul-hex_value : goal.overflow_mul-hex_value
overflow_mul-hex_value c =
    let p = hex_pair_at c.args.word.now _ c.requires c.as_chunks.ensures.front c.loop-high.high-index (omega arith) in
    let v : c.hex_value.result ≡ hex_value (get_or c.args.word.now (2 * c.loop-high.high-index) 0) = c.hex_value.ensures.value ∙ ap hex_value p.0 in
    omega (arith, p, v)

pub overflow_add-hex_value : goal.overflow_add-hex_value
overflow_add-hex_value c =
    let p = hex_pair_at c.args.word.now _ c.requires c.as_chunks.ensures.front c.loop-high.high-index (omega arith) in
    let h = c.hex_value.ensures.value ∙ ap hex_value p.0 in
    let l = c.hex_value-in-loop-high.ensures.value ∙ ap hex_value p.1 in
    omega (arith, p, h, l)

pub loop-high-preserved : goal.loop-high-preserved
loop-high-preserved c =
    let w = c.args.word.now in
    let i = c.loop-high.high-index in
    let p = hex_pair_at w _ c.requires c.as_chunks.ensures.front i (omega arith) in
    let m : pairs w (i + 1) ≡ pairs w i ++ (hex_value (get_or w (2 * i) 0) * 16 + hex_value (get_or w (2 * i + 1) 0)) ∷ [] =
    map-range_with_len_more (λ k. hex_value (get_or w (2 * k) 0) * 16 + hex_value (get_or w (2 * k + 1) 0)) 0 i i (omega arith) in
    let h = c.hex_value.ensures.value ∙ ap hex_value p.0 in
    let l = c.hex_value-in-loop-high.ensures.value ∙ ap hex_value p.1 in
    let q = c.in_ok-push.ensures.items in
    cc
