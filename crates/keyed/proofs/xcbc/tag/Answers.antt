-- The tag is the front of the result.
use Rattle.std.proofs.Common.{◌≡◌, take, ap, ◌∙◌, rules}
use Rattle.keyed.specs.Xcbc.{tag}
use Rattle.keyed.proofs.xcbc.tag.Goals as goal

pub returns-clause-value : goal.returns-clause-value
unfolding tag
returns-clause-value g c =
    let front : c.unwrap.result ≡ take 12 c.result-full.result = search rules in
    front ∙ ap (take 12) c.result-full.ensures.value
