-- One word more is written at each turn.
use Rattle.std.proofs.Common.{◌≡◌, ℕ, ◌*◌, List, ◌++◌, length, take, sym, ap, ◌∙◌, ap₂, add-one, arith, rules}
use native.Mathlib.Nat.{sub-zero}
use Rattle.std.proofs.lemmas.List.{take_all}
use Rattle.std.proofs.lemmas.Slice.{take-put_mid}
use Rattle.aes.specs.Schedule.{words, next_word, key_expansion}
use Rattle.aes.proofs.schedule.expand.Goals as goal

pub loop-i-preserved : goal.loop-i-preserved
loop-i-preserved c =
    let i = c.loop-i.i in
    let key = c.args.key.now in
    let old = c.loop-i.schedule in
    let four : length c.copy_from_slice.new.self ≡ 4 = search rules in
    let before = ap (λ (n : ℕ). take n old) (sub-zero (4 * i)) ∙ c.loop-i.invariant.1 in
    let next = c.copy_from_slice.ensures.after ∙ c.next_word-word.ensures.value ∙ ap (λ (w : List ℕ). next_word key w i) before in (
      search rules,
      take-put_mid (4 * i) _ old _ _ (omega arith) (omega arith) ∙ ap₂ (λ (w v : List ℕ). w ++ v) c.loop-i.invariant.1 next
          ∙ ap (words key) (sym (add-one i)),
    )

pub returns : goal.returns
unfolding key_expansion
returns c =
    let all : c.loop-i.i ≡ 44 = omega arith in
    record {
      output = sym (take_all (4 * c.loop-i.i) c.loop-i.schedule (omega arith)) ∙ c.loop-i.invariant.1 ∙ ap (words c.args.key.now) all;
    }
