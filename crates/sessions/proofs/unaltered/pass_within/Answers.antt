-- What the answers of seal and unseal come to.
use Rattle.std.proofs.Common.{◌-◌, take, Ok, Err, sym, ap, ◌∙◌, arith}
use Rattle.std.specs.Str.{bytes_eq}
use Rattle.std.proofs.lemmas.Result.{err_from_is_err_and}
use Rattle.cipher.specs.Cipher.{E}
use Rattle.channel.specs.Packets.{seal_end, unseal_end}
use Rattle.sessions.proofs.Payloads.{sealing_is, seal_refused, passed_on}
use Rattle.sessions.proofs.unaltered.pass_within.Goals as goal

pub returns-in_err-size-clause-value : goal.returns-in_err-size-clause-value
returns-in_err-size-clause-value g c =
    let is = c.seal.ensures.value ∙ sealing_is c.args.sealer.now c.args.payload.now c.args.workspace.now c.args.packet.now (omega arith) (omega arith) in
    let y = err_from_is_err_and c.from_residual.result c.from_residual.ensures.1 in
    y.1 ∙ ap Err y.2 ∙ sym (seal_refused g.C.BlockCipher.protocol (E g.C.BlockCipher.schedule g.C.BlockCipher.worked)
    c.args.sealer.now c.args.unsealer.now c.args.payload.now _ (sym is ∙ c.in_err-size.was)).0

pub returns-in_err-count : goal.returns-in_err-count
returns-in_err-count g c =
    let k = passed_on g.C.BlockCipher.protocol (E g.C.BlockCipher.schedule g.C.BlockCipher.worked) (λ k x. g.met.C.BlockCipher.blocks (g.C.BlockCipher.schedule k) x)
    c.args.sealer.now c.args.unsealer.now c.args.payload.now c.args.workspace.now c.args.packet.now c.seal.new.output c.seal.new.workspace c.args.output.now c.in_ok-size.size
    (omega arith) (omega arith) (omega arith) (omega arith) (sym c.seal.ensures.value ∙ c.in_ok-size.was) c.seal.ensures.output in
    let y = err_from_is_err_and c.from_residual-in_err-count.result c.from_residual-in_err-count.ensures.1 in
    record {
      value = y.1 ∙ ap Err y.2 ∙ k.refused _ (sym c.unseal.ensures.value ∙ c.in_err-count.was);
      sealer = c.seal.ensures.end ∙ ap (seal_end c.args.sealer.now c.args.payload.now) c.seal.ensures.value ∙ k.sealer;
      unsealer = c.unseal.ensures.end ∙ ap (unseal_end c.args.unsealer.now) c.unseal.ensures.value ∙ k.unsealer;
    }

pub returns : goal.returns
returns g c =
    let k = passed_on g.C.BlockCipher.protocol (E g.C.BlockCipher.schedule g.C.BlockCipher.worked) (λ k x. g.met.C.BlockCipher.blocks (g.C.BlockCipher.schedule k) x)
    c.args.sealer.now c.args.unsealer.now c.args.payload.now c.args.workspace.now c.args.packet.now c.seal.new.output c.seal.new.workspace c.args.output.now c.in_ok-size.size
    (omega arith) (omega arith) (omega arith) (omega arith) (sym c.seal.ensures.value ∙ c.in_ok-size.was) c.seal.ensures.output in
    record {
      value =
          ap Ok (c.eq.ensures ∙ ap (λ x. bytes_eq (take (c.in_ok-count.count - 0) x) c.args.payload.now) c.unseal.ensures.output)
          ∙ k.came c.in_ok-count.count _ (sym c.unseal.ensures.value ∙ c.in_ok-count.was);
      sealer = c.seal.ensures.end ∙ ap (seal_end c.args.sealer.now c.args.payload.now) c.seal.ensures.value ∙ k.sealer;
      unsealer = c.unseal.ensures.end ∙ ap (unseal_end c.args.unsealer.now) c.unseal.ensures.value ∙ k.unsealer;
    }
