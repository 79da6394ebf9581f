-- Two halves of eight octets fill S.
use Rattle.std.proofs.Common.{[], ◌++◌, take, replicate, ap, ◌∙◌, arith, length-append}
use Rattle.std.proofs.lemmas.List.{append-nil, length-take}
use Rattle.keyed.specs.Derivation.{split}
use Rattle.keyed.proofs.Joins.{fills}
use Rattle.keyed.proofs.derivation.split_nonces.Goals as goal

pub returns : goal.returns
unfolding split
returns c = record {
  value =
      fills (take 8 c.args.nonces.now.fob ++ (take 8 c.args.nonces.now.mixer ++ [])) (replicate 16 0) (simp (length-append, length-take) (omega arith)) c.write.ensures.output
      ∙ ap (λ t. take 8 c.args.nonces.now.fob ++ t) (append-nil (take 8 c.args.nonces.now.mixer));
}
