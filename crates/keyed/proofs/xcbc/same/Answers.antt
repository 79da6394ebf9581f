-- No bit is gathered just where all twelve octets agree.
use Rattle.std.proofs.Common.{eqb, ap, ◌∙◌, arith}
use Rattle.keyed.proofs.Agrees.{agreed}
use Rattle.keyed.proofs.xcbc.same.Goals as goal

pub returns-then-octets-eq12 : goal.returns-then-octets-eq12
returns-then-octets-eq12 c = record {
  value = ap (λ d. eqb d 0) c.difference.ensures.value ∙ agreed c.args.expected.now c.args.octets.now (omega arith);
}
