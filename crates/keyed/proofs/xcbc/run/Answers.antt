-- Each turn is one block more of the chain.
use Rattle.std.proofs.Common.{◌≡◌, ◌+◌, ◌*◌, ◌∷◌, ◌++◌, ◌≤◌, [], length, take, drop, refl, sym, ap, ◌∙◌, arith, rules, length-append}
use Rattle.cipher.specs.Cipher.{enciphered}
use Rattle.keyed.specs.Xcbc.{xors, block, chain}
use Rattle.keyed.proofs.Blocks.{chain_more, next_block}
use Rattle.keyed.proofs.xcbc.run.Goals as goal

pub loop-block-init : goal.loop-block-init
unfolding chain
loop-block-init g c = (refl, search rules, search rules, omega arith)

pub loop-block-preserved : goal.loop-block-preserved
loop-block-preserved g c =
    let f = enciphered g.C.BlockCipher.size g.C.BlockCipher.worked c.args.workspace.now in
    let m = c.args.message.now in
    let n = length c.loop-block.yielded in
    let inv = c.loop-block.invariant in
    let b = c.in-Some.block.now in
    let long : length b ≡ 16 = search rules in
    let more : length (c.loop-block.yielded ++ c.in-Some.block ∷ []) ≡ n + 1 = length-append c.loop-block.yielded (c.in-Some.block ∷ []) in
    let next : (b ≡ block m n) × (c.next.new.self.rest.now ≡ drop (16 * (n + 1)) (take (16 * c.args.count) m)) × (n + 1 ≤ c.args.count) =
    next_block m _ b c.next.new.self.rest.now n c.args.count c.requires inv.1 (search rules) long in (
      c.encipher-state.ensures.value ∙ ap f (c.xor-mixed.ensures.value ∙ ap (λ x. xors x c.loop-block.state) next.0 ∙ ap (xors (block m n)) inv.0)
          ∙ sym (chain_more f m n) ∙ ap (chain f m) (sym more),
      next.1 ∙ ap (λ k. drop (16 * k) (take (16 * c.args.count) m)) (sym more),
      search rules,
      omega (arith, more, next.2),
    )
