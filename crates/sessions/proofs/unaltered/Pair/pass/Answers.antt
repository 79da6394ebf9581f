-- Each turn passes one payload more.
use Rattle.std.proofs.Common.{◌≡◌, ℕ, List, [], length, replicate, sym, ◌∙◌, arith}
use Rattle.cipher.specs.Cipher.{E}
use Rattle.runs.specs.Unaltered.{Blocks}
use Rattle.std.proofs.lemmas.List.{get_or-replicate, length-replicate}
use Rattle.sessions.proofs.Pairs.{going_next, going_stops, going_done, honest_all, small_replicate}
use Rattle.sessions.proofs.unaltered.Pair.pass.Goals as goal

pub loop-i-preserved : goal.loop-i-preserved
loop-i-preserved g c =
    let pid : ℕ = g.C.BlockCipher.protocol in
    let e : List ℕ → List ℕ → List ℕ = E g.C.BlockCipher.schedule g.C.BlockCipher.worked in
    let ps : List (List ℕ) = replicate c.args.count c.args.payload.now in
    let long : length ps ≡ c.args.count = length-replicate c.args.count c.args.payload.now in
    let i : ℕ = c.loop-i.i in
    let p : List ℕ = c.args.payload.now in
    going_next pid e c.args.self.now c.loop-i.self ps i c.loop-i.invariant c.pass_next.new.self p (omega arith)
    (get_or-replicate c.args.count i p [] c.loop-i-test.true) c.pass_next.ensures.end (sym c.pass_next.ensures.value ∙ c.if-not-pass_next.false)

pub returns-then-not-pass_next : goal.returns-then-not-pass_next
returns-then-not-pass_next g c =
    let pid : ℕ = g.C.BlockCipher.protocol in
    let e : List ℕ → List ℕ → List ℕ = E g.C.BlockCipher.schedule g.C.BlockCipher.worked in
    let ps : List (List ℕ) = replicate c.args.count c.args.payload.now in
    let whole : Blocks e = λ k x. g.met.C.BlockCipher.blocks (g.C.BlockCipher.schedule k) x in
    let long : length ps ≡ c.args.count = length-replicate c.args.count c.args.payload.now in
    let i : ℕ = c.loop-i.i in
    let p : List ℕ = c.args.payload.now in
    let t = going_stops pid e c.args.self.now c.loop-i.self ps i c.loop-i.invariant c.pass_next.new.self p (omega arith)
    (get_or-replicate c.args.count i p [] c.loop-i-test.true) c.pass_next.ensures.end (sym c.pass_next.ensures.value ∙ c.if-not-pass_next.true) in
    record {
      value = t.0;
      end = t.1;
      honest = λ n h s. honest_all pid e whole c.args.self.now c.pass_next.new.self ps c.args.count i long t n h (small_replicate c.args.count c.args.payload.now s);
    }

pub returns-clause-honest : goal.returns-clause-honest
returns-clause-honest g c =
    let pid : ℕ = g.C.BlockCipher.protocol in
    let e : List ℕ → List ℕ → List ℕ = E g.C.BlockCipher.schedule g.C.BlockCipher.worked in
    let ps : List (List ℕ) = replicate c.args.count c.args.payload.now in
    let whole : Blocks e = λ k x. g.met.C.BlockCipher.blocks (g.C.BlockCipher.schedule k) x in
    let long : length ps ≡ c.args.count = length-replicate c.args.count c.args.payload.now in
    let t = going_done pid e c.args.self.now c.loop-i.self ps c.loop-i.i c.loop-i.invariant c.args.count long (omega arith) (omega arith) in
    λ n h s. honest_all pid e whole c.args.self.now c.loop-i.self ps c.args.count c.args.count long t n h (small_replicate c.args.count c.args.payload.now s)
