-- The examples by computing, and for every end by the tests in their order.
use Rattle.std.proofs.Common.{◌≡◌, ◌+◌, [], length, Ok, refl, ap, ◌∙◌, arith, lit≤}
use Rattle.aes.specs.Field.{product, inverse, inverse_from}
use Rattle.aes.specs.Sbox.{sbox}
use Rattle.keyed.specs.Keystream.{counter_block}
use Rattle.lookup.specs.Bench.{power_of, label_of, padded}
use Rattle.channel.specs.Packets.{seal_check, seal_end}
use Rattle.examples.specs.Examples.{Examples}
use Rattle.examples.proofs.Sealing.{sealed, too_long, at_last, unmoved, by_two, short}
use Rattle.examples.proofs.worked_examples.Goals as goal

examples : (C K : Type 0) → Examples C K
unfolding product inverse inverse_from sbox counter_block power_of label_of padded
examples C K = record {
  field_product = refl;
  sbox_entry = refl;
  counter_wraps = refl;
  bench_value = refl;
  bench_shared = refl;
  bench_shared_back = refl;
  bench_zero = (refl, refl);
  seal_empty = λ x w o r. sealed x [] w o r (lit≤ tt);
  counter_unmoved = unmoved;
  counter_by_two = by_two;
  seal_full = λ x p w o r h. sealed x p w o r (omega arith) ∙ ap (λ n. Ok (21 + n)) h;
  seal_over = λ x p w o r h. too_long x p w o r (omega arith);
  seal_last = λ x p w o r h e.
      let a : seal_check x p w o ≡ Ok (21 + length p) = sealed x p w o r h in
      let n : (seal_end x p (seal_check x p w o)).epoch.number ≡ 16777215 =
      ap (λ q. (seal_end x p q).epoch.number) a ∙ ap (λ k. k + 1) e in
      (n, at_last x p w o r (seal_end x p (seal_check x p w o)) h n, refl);
  short_act = short;
}

pub returns : goal.returns
returns g c = record { examples = examples g.row.C.Denot g.row.K.Denot }
