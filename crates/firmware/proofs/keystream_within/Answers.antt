-- The whole data is worked on, since the output is as long.
use Rattle.std.proofs.Common.{◌≡◌, ℕ, ◌≤◌, List, ◌++◌, length, take, drop, ap, ◌∙◌, arith, rules}
use Rattle.std.specs.Int.Digits.{number_from_digits}
use Rattle.std.proofs.lemmas.List.{take_all}
use Rattle.std.proofs.lemmas.Bool.Decides.{nat_tests}
use Rattle.keyed.proofs.Keys.{weighed, weighed_number}
use Rattle.keyed.specs.Keystream.{xored, over, KeepsLength}
use Rattle.firmware.specs.Keyed.{aes}
use Rattle.firmware.proofs.keystream_within.Goals as goal

whole : (k c d o v k' : List ℕ) (n : ℕ) → KeepsLength → length d ≤ length o → k' ≡ k → n ≡ number_from_digits 256 c
    → v ≡ over (xored aes k' n (take (length o) d)) o → v ≡ xored aes k (number_from_digits 256 c) d ++ drop (length d) o
whole k c d o v k' n keeps h ek en e =
    let t : take (length o) d ≡ d = take_all (length o) d h in
    let l : length (xored aes k' n d) ≡ length d = keeps aes k' n d in
    e ∙ simp (t, l) (ap (λ x. x ++ drop (length d) o) (ap (λ x. xored aes x n d) ek ∙ ap (λ x. xored aes k x d) en))

-- sixteen octets, weighed, are a number in base 256
read : (o h : List ℕ) (n : ℕ) → length o ≡ 16 → h ≡ o → n ≡ weighed h → n ≡ number_from_digits 256 o
read o h n l e w = w ∙ ap weighed e ∙ weighed_number o l

pub returns : goal.returns
returns c =
    let key : c.in_ok-key.key ≡ c.args.key.now = search rules in
    let counter : c.in_ok-counter.counter ≡ c.args.counter.now = search rules in
    let sizes : (length c.args.key.now ≡ 16) × (length c.args.counter.now ≡ 16) = search rules in
    record {
      value = grind (arith, nat_tests);
      output = whole c.args.key.now c.args.counter.now c.args.data.now c.args.output.now _ _ _ c.keystream-moved.ensures.keeps_length
          (omega arith) key (read c.args.counter.now c.in_ok-counter.counter _ sizes.1 counter c.from_be_bytes-first.ensures)
          c.keystream-moved.ensures.output;
      workspace = c.keystream-moved.ensures.workspace;
    }
