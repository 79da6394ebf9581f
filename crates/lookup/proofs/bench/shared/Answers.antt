-- Both keys raise the other's value to one power.
use Rattle.std.proofs.Common.{◌≡◌, ap, ◌∙◌}
use Rattle.lookup.specs.Bench.{label_of, reply_to}
use Rattle.lookup.proofs.Labels.{agreed}
use Rattle.lookup.proofs.bench.shared.Goals as goal

pub returns : goal.returns
returns c =
    let x = c.args.ours.now in
    let y = c.args.theirs.now in
    let e : c.reply.result ≡ reply_to x.d (label_of y.value) = c.reply.ensures.value ∙ ap (reply_to x.d) c.label.ensures.value in
    record { value = e; agreed = e ∙ agreed x.d y.d x.value y.value x.power y.power x.valid y.valid }
