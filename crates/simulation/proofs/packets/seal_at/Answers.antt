-- The tag that was sent stands in the output.
use Rattle.std.proofs.Common.{take, Ok, vec_items, ap, ◌∙◌, arith}
use Rattle.std.proofs.lemmas.List.{with_items_is}
use Rattle.cipher.specs.Cipher.{E}
use Rattle.channel.specs.Packets.{seal_check, seal_output, seal_end}
use Rattle.simulation.proofs.Calls.{at_same}
use Rattle.simulation.proofs.Sealing.{seal_does, seal_tells}
use Rattle.simulation.proofs.packets.seal_at.Goals as goal

pub returns-in-Ok : goal.returns-in-Ok
returns-in-Ok g c =
    let h = c.in-Ok.ensures.value ∙ at_same (seal_check c.args.end) c.as_slice.ensures.value c.as_mut_slice-space.ensures.value c.as_mut_slice-out.ensures.value in
    let o = c.truncate.ensures.items ∙ ap (take c.in-Ok.size) (with_items_is c.args.given.output c.seal.new.output (omega arith)
    ∙ c.in-Ok.ensures.output ∙ at_same (seal_output g.C.BlockCipher.protocol (E g.C.BlockCipher.schedule g.C.BlockCipher.worked) c.args.end) c.as_slice.ensures.value c.as_mut_slice-space.ensures.value c.as_mut_slice-out.ensures.value) in
    let r = seal_does g.C.BlockCipher.protocol (E g.C.BlockCipher.schedule g.C.BlockCipher.worked) (λ k x. g.met.C.BlockCipher.blocks (g.C.BlockCipher.schedule k) x) c.args.end c.seal.new.self (vec_items c.args.given.input) (vec_items c.args.given.workspace) (vec_items c.args.given.output)
    c.as_slice-in-Ok.result.now c.field-tag.result c.in-Ok.size _ c.number-number.result c.counter-counter.result h
    (c.in-Ok.ensures.end ∙ ap (λ p. seal_end c.args.end p (Ok c.in-Ok.size)) c.as_slice.ensures.value)
    (c.as_slice-in-Ok.ensures.value ∙ o) (omega (arith, c.len.ensures, c.args.given.input.ok.0))
    c.field-tag.ensures.value c.number-number.ensures.value c.counter-counter.ensures.value in
    record {
      does = record { next = r.0; events = r.1 };
      outcome = seal_tells g.C.BlockCipher.protocol (E g.C.BlockCipher.schedule g.C.BlockCipher.worked) c.args.end (vec_items c.args.given.input) (vec_items c.args.given.workspace) (vec_items c.args.given.output) (vec_items c.truncate.new.self) c.in-Ok.size h o;
    }
