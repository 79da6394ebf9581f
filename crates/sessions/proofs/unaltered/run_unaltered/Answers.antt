-- Honest ends open, get every payload through and close.
use Rattle.std.proofs.Common.{◌≡◌, ℕ, List, length, Ok, Result, Bor, rules}
use Rattle.std.proofs.lemmas.List.{length-map}
use Rattle.cipher.specs.Cipher.{E}
use Rattle.sessions.specs.declared.unaltered.Ended.{Ended}
use Rattle.sessions.specs.declared.handshake.Unopened.{Unopened}
use Rattle.sessions.specs.Sessions.{held}
use Rattle.sessions.specs.Both.{then_passed}
use Rattle.sessions.proofs.Joint.{session_ends}
use Rattle.sessions.proofs.unaltered.run_unaltered.Goals as goal

pub returns-clause-honest : goal.returns-clause-honest
returns-clause-honest g c h s most =
    let pid : ℕ = g.C.BlockCipher.protocol in
    let e : List ℕ → List ℕ → List ℕ = E g.C.BlockCipher.schedule g.C.BlockCipher.worked in
    let ps : List (List ℕ) = held c.args.payloads.now in
    let r : Result (Ended g.row.K.Denot g.row.L.Denot) (Unopened g.row.K.Denot g.row.L.Denot) =
    Ok (record { passed = c.pass_all-passed.result; closed = c.close-closed.result }) in
    let v : r ≡ then_passed pid e ps c.open_both.result = search rules in
    session_ends pid e (λ k x. g.met.C.BlockCipher.blocks (g.C.BlockCipher.schedule k) x) c.args.fob.key c.args.mixer.key c.open_both.result ps (length c.args.payloads.now) r
    (c.open_both.ensures.honest h) s (length-map c.args.payloads.now (λ (p : Bor (List ℕ)). p.now)) most v
