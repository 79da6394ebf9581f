-- What an accepted call of the handshake wrote and read is what the history says that it did.
use Rattle.std.proofs.Common.{◌≡◌, ℕ, ◌≤◌, cond, eqb, ltb, List, [], ◌∷◌, length, take, Ok, Err, Result, sym, refl, ap, ◌∙◌, arith}
use Rattle.std.specs.Str.{bytes_eq}
use Rattle.std.proofs.lemmas.Bool.{eqb-true}
use Rattle.fault.specs.declared.Fault.{Fault}
use Rattle.keyed.specs.declared.derivation.SessionKeys.{SessionKeys}
use Rattle.ends.specs.declared.Role.TheVariants.{Fob as AtFob, Mixer as AtMixer}
use Rattle.keyed.specs.Derivation.{derived}
use Rattle.lookup.specs.Replies.{Reply}
use Rattle.message.specs.declared.Direction.TheVariants.{Request, Response}
use Rattle.message.specs.Reading.{checked}
use Rattle.message.proofs.Again.{passed, went_on, was_checked}
use Rattle.channel.proofs.Checks.{after_check, with_secret}
use Rattle.channel.specs.declared.Invited.{Invited}
use Rattle.channel.specs.declared.Answered.{Answered}
use Rattle.channel.specs.declared.Proved.{Proved}
use Rattle.channel.specs.declared.Open.{Open}
use Rattle.channel.specs.declared.Ticket.{Ticket}
use Rattle.channel.specs.Steps.{settled, label_in, nonce_in, tag_in}
use Rattle.channel.specs.Handshake.{ticket, proof_of, prove_check, to_proved, proven, prove_output, open_mixer, confirmation_tag, confirm_check, confirmed, confirm_output}
use Rattle.runs.specs.declared.FobSide.{FobSide}
use Rattle.runs.specs.declared.FobSide.TheVariants.{Invited as InvitedFob, Proved as ProvedFob}
use Rattle.runs.specs.declared.MixerSide.{MixerSide}
use Rattle.runs.specs.declared.MixerSide.TheVariants.{Answered as AnsweredMixer, Open as OpenMixer}
use Rattle.simulation.specs.declared.record.Event.{Event as RecordedEvent}
use Rattle.simulation.specs.declared.record.Event.TheVariants.{Reads, Proves, Opens, Sends, Accepts}
use Rattle.simulation.specs.declared.record.Events.TheVariants.{Three}
use Rattle.simulation.specs.declared.record.Outcome.{Outcome}
use Rattle.runs.specs.History.{proves, opens, sends, after_prove, prove_at, after_confirm, confirm_at}
use Rattle.simulation.specs.Simulation.{event_in, Does}
use Rattle.runs.specs.Unaltered.{Blocks}
use Rattle.runs.proofs.Fields.{tag_12, written-verifies}

module _ {W : Type 0} where
  -- an accepted call had a check that passed, and made the move
  moved : {E F : Type 0} (end : E) (next : W → F) (c : Result W Fault) {y : F} → Ok y ≡ settled end next c → (w : W) × (c ≡ Ok w) × (y ≡ next w)
  moved end next (Ok w) e = (w, refl, (cc))
  moved end next (Err f) e = let z : ◌≡◌ {A = ℕ} 0 1 = cc in absurd (omega arith)

-- what depends on three lists, at equal lists
pub at_same : {A : Type 0} (f : List ℕ → List ℕ → List ℕ → A) {m n w x o p : List ℕ} → m ≡ n → w ≡ x → o ≡ p → f m w o ≡ f n x p
at_same f {n = n} {w = w} {x = x} {o = o} a b c = ap (λ v. f v w o) a ∙ ap (λ v. f n v o) b ∙ ap (f n x) c

-- an event, or a tag, as it stands in octets of full length
abbrev pub Read : RecordedEvent → List ℕ → Type 0
Read a m = 40 ≤ length m → a ≡ Reads (label_in m) (nonce_in m)

abbrev pub Accepted : RecordedEvent → List ℕ → Type 0
Accepted a m = 15 ≤ length m → a ≡ Accepts (tag_in m)

-- how many octets a message has that passed the check
long : (n : ℕ) (m : List ℕ) (f : Fault) → ◌≡◌ {A = Result (Unit {0}) Fault} (cond (eqb (length m) n) (Ok tt) (Err f)) (Ok tt) → n ≤ length m
long n m f e = let h : length m ≡ n = eqb-true (length m) n (passed (eqb (length m) n) (Ok tt) f e).0 in omega arith

pub act_long_2 : (p : ℕ) (m : List ℕ) → checked 2 p m ≡ Ok tt → 40 ≤ length m
act_long_2 p m e = long 40 m _ (was_checked 2 p m e).lengths

pub verify_long_3 : (p : ℕ) (m : List ℕ) → checked 3 p m ≡ Ok tt → 15 ≤ length m
verify_long_3 p m e = long 15 m _ (was_checked 3 p m e).lengths

pub verify_long_4 : (p : ℕ) (m : List ℕ) → checked 4 p m ≡ Ok tt → 15 ≤ length m
verify_long_4 p m e = long 15 m _ (was_checked 4 p m e).lengths

module _ {C K : Type 0} (pid : ℕ) (e : List ℕ → List ℕ → List ℕ) (own : K → List ℕ) (replies : K → List ℕ → Reply) where
  pub prove_does :
      Blocks e → (s : FobSide C K) (i : Invited C K) (m w o out t : List ℕ) (y : Proved C K) (a : RecordedEvent) (z : Outcome) → s ≡ InvitedFob i →
      Ok y ≡ proven pid e own replies i m w o → out ≡ take 15 (prove_output pid e own replies i m w o) → (15 ≤ length out → t ≡ tag_in out) →
      Read a m →
      Does (record { next = ProvedFob y; events = Three (Sends t) Proves a; outcome = z }) (prove_at pid e own replies s m w o)
  prove_does blocks s i m w o out t y a z is h eo ft f =
      let r = moved i (to_proved pid e own replies i m) (prove_check pid e own replies i m w o) h in
      let p = went_on (ltb (length w) 256) _ _ r.1 in
      let p' = went_on (ltb (length o) 15) _ _ p.1 in
      let d = after_check (checked 2 pid m) _ p'.1 in
      let g : a ≡ Reads (label_in m) (nonce_in m) = f (act_long_2 pid m d.0) in
      let ks : List ℕ → SessionKeys = λ x. derived e i.nonce.octets (nonce_in m) i.identities.fob i.identities.mixer x in
      let k = with_secret (replies i.key (label_in m)) (λ x. Ok (proof_of pid e own replies i m (ks x))) d.1 in
      let q : proof_of pid e own replies i m (ks k.0) ≡ r.0 = cc k.1 in
      -- the tag that was worked out is the fob's confirmation of the session
      let pt : r.0.tag ≡ confirmation_tag pid e AtFob (to_proved pid e own replies i m r.0).session =
      ap (λ x. x.tag) (sym q) ∙ ap (λ x. confirmation_tag pid e AtFob (to_proved pid e own replies i m x).session) q in
      let v = written-verifies Request pid o r.1 (λ x. x.tag) (ap length pt ∙ tag_12 e blocks _ _) in
      let o15 : 15 ≤ length (take 15 (prove_output pid e own replies i m w o)) = verify_long_3 pid (take 15 (prove_output pid e own replies i m w o)) v.accepted in
      let l : 15 ≤ length out = omega (arith, ap length eo) in
      let ts : t ≡ confirmation_tag pid e AtFob y.session =
      ft l ∙ ap tag_in eo ∙ v.tagged ∙ pt ∙ ap (λ x. confirmation_tag pid e AtFob x.session) (sym r.2) in
      let j : prove_at pid e own replies s m w o ≡ after_prove pid e own replies m (Ok y) =
      ap (λ x. prove_at pid e own replies x m w o) is ∙ ap (after_prove pid e own replies m) (sym h) in
      record {
        next = ap (λ x. x.next) (sym j);
        events = ap (λ x. sends x ∷ proves ∷ event_in a ∷ []) ts ∙ ap (λ x. sends (confirmation_tag pid e AtFob y.session) ∷ proves ∷ event_in x ∷ []) g
            ∙ ap (λ x. x.events) (sym j);
      }

module _ {C K : Type 0} (pid : ℕ) (e : List ℕ → List ℕ → List ℕ) where
  pub confirm_does :
      Blocks e → (s : MixerSide C K) (x : Answered C K) (m w o out t : List ℕ) (y : Open C K) (k : Ticket) (a : RecordedEvent) (z : Outcome) → s ≡ AnsweredMixer x →
      Ok (y, k) ≡ confirmed pid e x m w o → out ≡ take 15 (confirm_output pid e x m w o) → (15 ≤ length out → t ≡ tag_in out) →
      Accepted a m →
      Does (record { next = OpenMixer y k; events = Three (Sends t) Opens a; outcome = z }) (confirm_at pid e s m w o)
  confirm_does blocks s x m w o out t y k a z is h eo ft f =
      let ck : Result (List ℕ) Fault = confirm_check pid e x m w o in
      let r = moved x (λ u. (open_mixer x, ticket)) ck h in
      let p = went_on (ltb (length w) 256) _ _ r.1 in
      let p' = went_on (ltb (length o) 15) _ _ p.1 in
      let d = after_check (checked 3 pid m) _ p'.1 in
      let g : a ≡ Accepts (tag_in m) = f (verify_long_3 pid m d.0) in
      let b = passed (bytes_eq (confirmation_tag pid e AtFob x.session) (tag_in m)) _ _ d.1 in
      let pt : r.0 ≡ confirmation_tag pid e AtMixer x.session = cc b.1 in
      let v = written-verifies Response pid o r.1 (λ u. u) (ap length pt ∙ tag_12 e blocks _ _) in
      let o15 : 15 ≤ length (take 15 (confirm_output pid e x m w o)) = verify_long_4 pid (take 15 (confirm_output pid e x m w o)) v.accepted in
      let l : 15 ≤ length out = omega (arith, ap length eo) in
      let ts : t ≡ confirmation_tag pid e AtMixer x.session = ft l ∙ ap tag_in eo ∙ v.tagged ∙ pt in
      let j : confirm_at pid e s m w o ≡ after_confirm pid e x m ck (Ok (y, k)) =
      ap (λ u. confirm_at pid e u m w o) is ∙ ap (after_confirm pid e x m ck) (sym h) in
      record {
        next = ap (λ u. u.next) (sym j);
        events = ap (λ u. sends u ∷ opens ∷ event_in a ∷ []) ts ∙ ap (λ u. sends (confirmation_tag pid e AtMixer x.session) ∷ opens ∷ event_in u ∷ []) g
            ∙ ap (λ u. u.events) (sym j);
      }
