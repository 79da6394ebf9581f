-- The tag that was sent stands in the output, and the one that was accepted in the message.
use Rattle.std.proofs.Common.{take, vec_items, ap, ◌∙◌, subst, arith}
use Rattle.std.proofs.lemmas.List.{with_items_is}
use Rattle.cipher.specs.Cipher.{E}
use Rattle.channel.specs.Handshake.{confirmed, confirm_output}
use Rattle.simulation.proofs.Calls.{at_same, Accepted, confirm_does}
use Rattle.simulation.proofs.sides.confirm.Goals as goal

pub returns-in-Ok-clause-does : goal.returns-in-Ok-clause-does
returns-in-Ok-clause-does g c =
    let h = c.in-Ok.ensures.value ∙ at_same (confirmed g.C.BlockCipher.protocol (E g.C.BlockCipher.schedule g.C.BlockCipher.worked) c.in-Answered.answered) c.as_slice.ensures.value c.as_mut_slice-space.ensures.value c.as_mut_slice-out.ensures.value in
    let o = c.truncate.ensures.items ∙ ap (take 15) (with_items_is c.args.given.output c.confirm.new.output (omega arith)
    ∙ c.in-Ok.ensures.output ∙ at_same (confirm_output g.C.BlockCipher.protocol (E g.C.BlockCipher.schedule g.C.BlockCipher.worked) c.in-Answered.answered) c.as_slice.ensures.value c.as_mut_slice-space.ensures.value c.as_mut_slice-out.ensures.value) in
    confirm_does g.C.BlockCipher.protocol (E g.C.BlockCipher.schedule g.C.BlockCipher.worked) (λ k x. g.met.C.BlockCipher.blocks (g.C.BlockCipher.schedule k) x) c.args.side c.in-Answered.answered (vec_items c.args.given.input) (vec_items c.args.given.workspace) (vec_items c.args.given.output)
    c.as_slice-in-Ok.result.now c.field.result c.in-Ok.end c.in-Ok.ticket c.accepts.result _ c.in-Answered.is h
    (c.as_slice-in-Ok.ensures.value ∙ o) c.field.ensures.value
    (subst (Accepted c.accepts.result) c.as_slice-in-Ok-2.ensures.value c.accepts.ensures.value)
