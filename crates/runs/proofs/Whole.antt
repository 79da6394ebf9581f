-- The law of runs, by induction on the calls.
use Rattle.std.proofs.Common.{◌≡◌, ℕ, ◌+◌, ◌≢◌, List, [], ◌∷◌, ◌++◌, fold, sym, refl, ◌∙◌, subst, inl, inr}
use Rattle.keyed.specs.Keystream.{moved}
use Rattle.keyed.specs.Strings.{packet}
use Rattle.ends.specs.declared.Role.{Role}
use Rattle.ends.specs.declared.Role.TheVariants.{Fob as AtFob, Mixer as AtMixer}
use Rattle.channel.specs.Packets.{seal_check, unseal_check}
use Rattle.runs.specs.declared.FobSide.{FobSide}
use Rattle.runs.specs.declared.FobSide.TheVariants.{Closed as ClosedFob}
use Rattle.runs.specs.declared.MixerSide.{MixerSide}
use Rattle.runs.specs.declared.MixerSide.TheVariants.{Closed as ClosedMixer}
use Rattle.runs.specs.History.{Call, invite, answer, prove, confirm, finish, seal, unseal, close, Event, opens, sends, accepts, unseals, Entry, ◌did◌, Keyed, Done, idle, invite_at, answer_at, prove_at, confirm_at, finish_at, sealed_by, unsealed_by, open_fob_does, open_mixer_does, History, logged, fob_did, mixer_did, start, step, history}
use Rattle.runs.specs.Law.{other, ◌∈◌, Everywhere, sealed, unsealed, NoncesAsSent, FobHolds, MixerHolds, UpToLast, Law, LawOfRuns}
use Rattle.runs.proofs.Model.{Octets, Inputs, Setting, Ghost, fresh, invited, holding, opened, seeded, mk, ke, ki, iv, mk_string, ki_string, results, proof, tagged, crypt, Step, nothing, inviting, answering, proving, confirming, finishing, sealing, unsealing}
use Rattle.runs.proofs.Base.{in_append}
use Rattle.runs.proofs.Flow.{all_in, flow_up_to_last, flow_swap}
use Rattle.runs.proofs.Facts.{IsOpen, Early, Says, Derived, Live, Both, SentBefore, Facts}
use Rattle.runs.proofs.Moves.{FactsAt}
use Rattle.runs.proofs.Steps.{invite_keeps, answer_keeps, prove_keeps, confirm_keeps, finish_keeps, seal_keeps, unseal_keeps}
use Rattle.runs.proofs.View.{shown_fob, shown_mixer, WasFob, WasMixer, Moves, view_invite, view_answer, view_prove, view_confirm, view_finish, view_seal_fob, view_seal_mixer, view_unseal_fob, view_unseal_mixer}

before_logged : (P : Entry → List Entry → Type 0) (x : Role) (es : List Event) (log : List Entry) → Everywhere P (logged x es log) → Everywhere P log
before_logged P x [] log h = h
before_logged P x (e ∷ es) log h = before_logged P x es log h.1

module _ {C K L : Type 0} (m : Setting C K L) where
  derived_from : (s : Inputs) (l : List Keyed) → ((a : Keyed) → a ∈ (results m s ++ l) → m.Worked a) → Derived m s
  derived_from s l h =
      record {
        mk_in = h (seeded m s, mk_string m s) (inr (inl refl));
        ki_in = h (seeded m s, ki_string m s) (inr (inr (inr (inl refl))));
      }

  -- each step keeps it
  keep :
      (x : Role) (a a' b : Ghost) (es : List Event) (ks l : List Keyed) (log : List Entry) → Step m x a a' es ks →
      ((k : Keyed) → k ∈ (ks ++ l) → m.Worked k) → Everywhere (SentBefore m) (logged x es log) → FactsAt m x log a b →
      FactsAt m x (logged x es log) a' b
  keep x a a' b es ks l log (nothing ks') w sent h = h
  keep x a a' b es ks l log (inviting na) w sent h = invite_keeps m log b na h
  keep x a a' b es ks l log (answering s named) w sent h = answer_keeps m log b s named (derived_from s l w) h
  keep x a a' b es ks l log (proving na s named en eq) w sent h =
      prove_keeps m log b na s named en eq (derived_from s l (λ k i. w k (inr i))) (w (mk m s, proof m AtFob s) (inl refl)) h
  keep x a a' b es ks l log (confirming s t q) w sent h =
      subst
      (λ (t : Octets). Facts m (AtMixer did sends (tagged m (mk m s) (proof m AtMixer s)) ∷ AtMixer did opens ∷ AtMixer did accepts t ∷ log) b
      (opened s 0 (iv m s))) (sym q)
      (confirm_keeps m log b s (w (mk m s, proof m AtFob s) (inr (inl refl))) (w (mk m s, proof m AtMixer s) (inl refl))
      (subst (λ (t : Octets). AtFob did sends t ∈ log) q (sent.1.1.0 AtMixer t refl)) h)
  keep x a a' b es ks l log (finishing s t ks') w sent h = finish_keeps m log b s t (sent.1.0 AtFob t refl) h
  keep x a a' b es ks l log (sealing s n c p fits small turn) w sent h =
      seal_keeps m x log b s n c p fits small turn (w (ki m s, packet (n + 1) (crypt m (ke m s) c p)) (inl refl)) h
  keep x a a' b es ks l log (unsealing s n c k size d t out small is long q right) w sent h =
      subst (λ (k : ℕ). FactsAt m x (x did unseals k out ∷ x did accepts t ∷ log) (opened s (n + 1) (moved c size)) b) (sym is)
      (unseal_keeps m x log b s n c size d t out small long right
      (subst (λ (k : ℕ). m.Worked (ki m s, packet k d)) is (w (ki m s, packet k d) (inl refl)))
      (subst (λ (k : ℕ). t ≡ tagged m (ki m s) (packet k d)) is q) (sent.1.0 x t refl) h)

  -- what holds of a history
  record Inv (h : History C K L) : Type 0 where
    f : Ghost
    g : Ghost
    was_f : WasFob m f h.fob
    was_g : WasMixer m g h.mixer
    facts : Facts m h.log f g

  begins : Inv (start m.fob m.fob_key m.mixer m.mixer_key)
  begins =
      record {
        f = fresh;
        g = fresh;
        was_f = inl refl;
        was_g = inl refl;
        facts =
            record {
              fob_at = tt;
              mixer_at = tt;
              says = tt;
              both = (tt, record { sealed_f = refl; sealed_m = refl; unsealed_f = refl; unsealed_m = refl; no_seal = tt });
              places = record { first = tt; meets = tt; apart = λ a. tt };
            };
      }

  -- one call more: keyed results and log grow at the front, and what holds is kept
  record Next (h h' : History C K L) : Type 0 where
    worked_on : (k : Keyed) → k ∈ h.worked → k ∈ h'.worked
    log_before : Everywhere (SentBefore m) h'.log → Everywhere (SentBefore m) h.log
    keeps : ((k : Keyed) → k ∈ h'.worked → m.Worked k) → Everywhere (SentBefore m) h'.log → Inv h → Inv h'

  fob_next :
      (h : History C K L) (d : Done (FobSide C K)) → ((g : Ghost) → WasFob m g h.fob → Moves m (WasFob m) AtFob g d) → Next h (fob_did h d)
  fob_next h d view =
      record {
        worked_on = λ k i. in_append d.worked h.worked k i;
        log_before = λ s. before_logged (SentBefore m) AtFob d.events h.log s;
        keeps =
            λ w s i.
            let v : Moves m (WasFob m) AtFob i.f d = view i.f i.was_f in
            record {
              f = v.next;
              g = i.g;
              was_f = v.was;
              was_g = i.was_g;
              facts = keep AtFob i.f v.next i.g d.events d.worked h.worked h.log v.step w s i.facts;
            };
      }

  mixer_next :
      (h : History C K L) (d : Done (MixerSide C L)) → ((g : Ghost) → WasMixer m g h.mixer → Moves m (WasMixer m) AtMixer g d) → Next h (mixer_did h d)
  mixer_next h d view =
      record {
        worked_on = λ k i. in_append d.worked h.worked k i;
        log_before = λ s. before_logged (SentBefore m) AtMixer d.events h.log s;
        keeps =
            λ w s i.
            let v : Moves m (WasMixer m) AtMixer i.g d = view i.g i.was_g in
            record {
              f = i.f;
              g = v.next;
              was_f = i.was_f;
              was_g = v.was;
              facts = keep AtMixer i.g v.next i.f d.events d.worked h.worked h.log v.step w s i.facts;
            };
      }

  abbrev onward : History C K L → Call → History C K L
  onward h c = step m.pid m.cipher m.lookups h c

  next : (h : History C K L) (c : Call) → Next h (onward h c)
  next h (invite n o) = fob_next h (invite_at m.lookups.fob_own h.fob n o) (λ g. view_invite m n o g h.fob)
  next h (answer n t w o) =
      mixer_next h (answer_at m.pid m.cipher m.lookups.mixer_own m.lookups.mixer_replies h.mixer n t w o)
      (λ g. view_answer m n t w o g h.mixer)
  next h (prove t w o) =
      fob_next h (prove_at m.pid m.cipher m.lookups.fob_own m.lookups.fob_replies h.fob t w o) (λ g. view_prove m t w o g h.fob)
  next h (confirm t w o) = mixer_next h (confirm_at m.pid m.cipher h.mixer t w o) (λ g. view_confirm m t w o g h.mixer)
  next h (finish t w) = fob_next h (finish_at m.pid m.cipher h.fob t w) (λ g. view_finish m t w g h.fob)
  next h (seal AtFob p w o) =
      fob_next h (open_fob_does (λ x. sealed_by m.pid m.cipher x p (seal_check x p w o)) h.fob) (λ g. view_seal_fob m p w o g h.fob)
  next h (seal AtMixer p w o) =
      mixer_next h (open_mixer_does (λ x. sealed_by m.pid m.cipher x p (seal_check x p w o)) h.mixer) (λ g. view_seal_mixer m p w o g h.mixer)
  next h (unseal AtFob t w o) =
      fob_next h (open_fob_does (λ x. unsealed_by m.pid m.cipher x t w o (unseal_check m.pid m.cipher x t w o)) h.fob)
      (λ g. view_unseal_fob m t w o g h.fob)
  next h (unseal AtMixer t w o) =
      mixer_next h (open_mixer_does (λ x. unsealed_by m.pid m.cipher x t w o (unseal_check m.pid m.cipher x t w o)) h.mixer)
      (λ g. view_unseal_mixer m t w o g h.mixer)
  next h (close AtFob) = fob_next h (idle ClosedFob) (λ g e. record { next = g; step = nothing []; was = inr refl })
  next h (close AtMixer) = mixer_next h (idle ClosedMixer) (λ g e. record { next = g; step = nothing []; was = inr refl })

  on_worked : (calls : List Call) (h : History C K L) (k : Keyed) → k ∈ h.worked → k ∈ (fold onward h calls).worked
  on_worked [] h k i = i
  on_worked (c ∷ cs) h k i = on_worked cs (onward h c) k ((next h c).worked_on k i)

  before_log : (calls : List Call) (h : History C K L) → Everywhere (SentBefore m) (fold onward h calls).log → Everywhere (SentBefore m) h.log
  before_log [] h s = s
  before_log (c ∷ cs) h s = (next h c).log_before (before_log cs (onward h c) s)

  always :
      (calls : List Call) (h : History C K L) → ((k : Keyed) → k ∈ (fold onward h calls).worked → m.Worked k) →
      Everywhere (SentBefore m) (fold onward h calls).log → Inv h → Inv (fold onward h calls)
  always [] h w s i = i
  always (c ∷ cs) h w s i =
      always cs (onward h c) w s ((next h c).keeps (λ k j. w k (on_worked cs (onward h c) k j)) (before_log cs (onward h c) s) i)

  -- what follows for the law
  same_keys :
      (log : List Entry) (f g : Ghost) → IsOpen g → Both m log f g →
      (mk ke ki : List ℕ) × FobHolds (shown_fob m f) mk ke ki × MixerHolds (shown_mixer m g) mk ke ki
  same_keys log f fresh o h = absurd o
  same_keys log f (invited n) o h = absurd o
  same_keys log f (holding t) o h = absurd o
  same_keys log fresh (opened t n c) o h = absurd h
  same_keys log (invited k) (opened t n c) o h = absurd h
  same_keys log (holding u) (opened t n c) o h = (
    mk m t,
    ke m t,
    ki m t,
    record { same_mk = h.same_mk; same_ke = h.same_ke; same_ki = h.same_ki },
    record { same_mk = refl; same_ke = refl; same_ki = refl },
  )
  same_keys log (opened u k d) (opened t n c) o h = (
    mk m t,
    ke m t,
    ki m t,
    record { same_mk = h.same_mk; same_ke = h.same_ke; same_ki = h.same_ki },
    record { same_mk = refl; same_ke = refl; same_ki = refl },
  )

  fob_so : (g : Ghost) (st : FobSide C K) → WasFob m g st → st ≢ ClosedFob → shown_fob m g ≡ st
  fob_so g st (inl e) n = sym e
  fob_so g st (inr e) n = absurd (n e)

  mixer_so : (g : Ghost) (st : MixerSide C L) → WasMixer m g st → st ≢ ClosedMixer → shown_mixer m g ≡ st
  mixer_so g st (inl e) n = sym e
  mixer_so g st (inr e) n = absurd (n e)

  payloads_early : (log : List Entry) → Early log → (x : Role) → UpToLast (unsealed x log) (sealed (other x) log)
  payloads_early log h AtFob = inl (h.unsealed_f ∙ sym h.sealed_m)
  payloads_early log h AtMixer = inl (h.unsealed_m ∙ sym h.sealed_f)

  payloads_live :
      (log : List Entry) (sf : Inputs) (nf cf : ℕ) (sm : Inputs) (nm cm : ℕ) → Live m log sf nf cf sm nm cm → NoncesAsSent log →
      (x : Role) → UpToLast (unsealed x log) (sealed (other x) log)
  payloads_live log sf nf cf sm nm cm h a AtFob = flow_up_to_last (h.flow a)
  payloads_live log sf nf cf sm nm cm h a AtMixer = flow_up_to_last (flow_swap (h.flow a))

  payloads :
      (log : List Entry) (f g : Ghost) → Both m log f g → NoncesAsSent log → (x : Role) → UpToLast (unsealed x log) (sealed (other x) log)
  payloads log f fresh h a x = payloads_early log h.1 x
  payloads log f (invited n) h a x = absurd h
  payloads log f (holding t) h a x = payloads_early log h.1 x
  payloads log fresh (opened t n c) h a x = absurd h
  payloads log (invited k) (opened t n c) h a x = absurd h
  payloads log (holding u) (opened t n c) h a x = payloads_live log u 0 (iv m u) t n c h a x
  payloads log (opened u k d) (opened t n c) h a x = payloads_live log u k d t n c h a x

  law_from : (h : History C K L) → Inv h → Law m.fob m.mixer h
  law_from h i =
      record {
        mixer_first = i.facts.places.first;
        met = i.facts.places.meets;
        same_keys =
            λ o nf ng.
            let is_open : IsOpen i.g = all_in (Says m h.log i.f i.g) h.log i.facts.says AtMixer opens o in
            let r : (mk ke ki : List ℕ) × FobHolds (shown_fob m i.f) mk ke ki × MixerHolds (shown_mixer m i.g) mk ke ki =
            same_keys h.log i.f i.g is_open i.facts.both
            in (
              r.0,
              r.1,
              r.2,
              subst (λ (st : FobSide C K). FobHolds st r.0 r.1 r.2) (fob_so i.f h.fob i.was_f nf) r.3,
              subst (λ (st : MixerSide C L). MixerHolds st r.0 r.1 r.2) (mixer_so i.g h.mixer i.was_g ng) r.4,
            );
        payloads = λ a x. payloads h.log i.f i.g i.facts.both a x;
        counters = i.facts.places.apart;
      }

pub law_of_runs : (C K L : Type 0) → LawOfRuns C K L
unfolding history
law_of_runs C K L pid e u f k x l named fob_25 mixer_25 calls h =
    let m : Setting C K L = record {
      pid = pid;
      cipher = e;
      lookups = u;
      fob = f;
      fob_key = k;
      mixer = x;
      mixer_key = l;
      named = named;
      label_25 = fob_25;
      Worked = λ a. a ∈ (history pid e u f k x l calls).worked;
      apart = h.apart;
    } in
    law_from m (history pid e u f k x l calls) (always m calls (start f k x l) (λ a i. i) h.sent_before (begins m))
