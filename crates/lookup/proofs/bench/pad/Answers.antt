-- The last four octets are those of the number.
use Rattle.std.proofs.Common.{◌≡◌, ℕ, List, [], ◌++◌, replicate, ap, rules}
use Rattle.lookup.specs.Bench.{octets_of, padded}
use Rattle.lookup.proofs.bench.pad.Goals as goal

pub returns : goal.returns
unfolding padded
returns c =
    let written : c.copy_from_slice.new.self ≡ octets_of c.args.number = search rules in
    record { value = ap (λ (xs : List ℕ). replicate 20 0 ++ (xs ++ [])) written }
