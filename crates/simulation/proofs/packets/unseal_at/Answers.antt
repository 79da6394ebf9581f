-- The tag that was accepted stands in the message, and the payload in the output.
use Rattle.std.proofs.Common.{◌≡◌, ℕ, ◌+◌, ◌≤◌, List, length, take, drop, vec_items, ap, ◌∙◌, subst, arith}
use Rattle.std.proofs.lemmas.List.{with_items_is}
use Rattle.cipher.specs.Cipher.{E}
use Rattle.channel.specs.Packets.{unseal_check, unseal_output}
use Rattle.simulation.proofs.Calls.{at_same}
use Rattle.simulation.proofs.Sealing.{unseal_does}
use Rattle.simulation.proofs.packets.unseal_at.Goals as goal

pub returns-clause-does : goal.returns-clause-does
returns-clause-does g c =
    let P : List ℕ → Type 0 = λ m. 9 + c.in-Ok.size + 12 ≤ length m → c.field-tag.result ≡ take 12 (drop (9 + c.in-Ok.size) m) in
    let h = c.in-Ok.ensures.value ∙ at_same (unseal_check g.C.BlockCipher.protocol (E g.C.BlockCipher.schedule g.C.BlockCipher.worked) c.args.end) c.as_slice.ensures.value c.as_mut_slice-space.ensures.value c.as_mut_slice-out.ensures.value in
    let r = unseal_does g.C.BlockCipher.protocol (E g.C.BlockCipher.schedule g.C.BlockCipher.worked) c.args.end c.unseal.new.self (vec_items c.args.given.input) (vec_items c.args.given.workspace) (vec_items c.args.given.output)
    (vec_items c.truncate.new.self) c.field-tag.result c.in-Ok.size c.in-Ok.number h c.in-Ok.ensures.end
    (c.truncate.ensures.items ∙ ap (take c.in-Ok.size) (with_items_is c.args.given.output c.unseal.new.output (omega arith)
    ∙ c.in-Ok.ensures.output ∙ at_same (unseal_output g.C.BlockCipher.protocol (E g.C.BlockCipher.schedule g.C.BlockCipher.worked) c.args.end) c.as_slice.ensures.value c.as_mut_slice-space.ensures.value c.as_mut_slice-out.ensures.value))
    (subst P c.as_slice-in-Ok.ensures.value c.field-tag.ensures.value) in
    record { next = r.0; events = r.1 }
