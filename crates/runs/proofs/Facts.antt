-- What holds of both ends after each call, had none closed.
use Rattle.std.proofs.Common.{◌≡◌, ℕ, ◌^◌, ◌<◌, List, [], ◌∷◌, ◌∙◌, subst}
use Rattle.ends.specs.declared.Role.{Role}
use Rattle.ends.specs.declared.Role.TheVariants.{Fob as AtFob, Mixer as AtMixer}
use Rattle.keyed.specs.Strings.{packet}
use Rattle.runs.specs.History.{Event, offers, reads, proves, opens, sends, accepts, seals, unseals, Entry, ◌did◌, logged}
use Rattle.runs.specs.Law.{other, ◌∈◌, sealed, unsealed, NoncesAsSent}
use Rattle.runs.proofs.Model.{Octets, Inputs, Setting, Ghost, fresh, invited, holding, opened, label, seeded, mk, ke, ki, iv, mk_string, ki_string, proof, tagged, crypt}
use Rattle.runs.proofs.Flow.{All, all_map, AllSeals, Flow, Still, Stills, flow_stills, sealed_still, unsealed_still}
use Rattle.runs.proofs.Places.{Within, nonces_less, within_logged, Places}

-- the inputs of an end that holds keys, and of one that is open
abbrev pub InputsOf : Ghost → Inputs → Type 0
InputsOf fresh t = ⊥
InputsOf (invited n) t = ⊥
InputsOf (holding s) t = s ≡ t
InputsOf (opened s n c) t = s ≡ t

abbrev pub OpenedOf : Ghost → Inputs → Type 0
OpenedOf fresh t = ⊥
OpenedOf (invited n) t = ⊥
OpenedOf (holding s) t = ⊥
OpenedOf (opened s n c) t = s ≡ t

abbrev pub NotOpen : Ghost → Type 0
NotOpen fresh = Unit {0}
NotOpen (invited n) = Unit {0}
NotOpen (holding s) = Unit {0}
NotOpen (opened s n c) = ⊥

pub not_open_opened : (g : Ghost) (s : Inputs) {A : Type 0} → NotOpen g → OpenedOf g s → A
not_open_opened fresh s n h = absurd h
not_open_opened (invited k) s n h = absurd h
not_open_opened (holding t) s n h = absurd h
not_open_opened (opened t k c) s n h = absurd n

abbrev pub IsOpen : Ghost → Type 0
IsOpen fresh = ⊥
IsOpen (invited n) = ⊥
IsOpen (holding s) = ⊥
IsOpen (opened s n c) = Unit {0}

-- nothing is sealed or unsealed yet
pub record Early (log : List Entry) : Type 0 where
  pub sealed_f : sealed AtFob log ≡ []
  pub sealed_m : sealed AtMixer log ≡ []
  pub unsealed_f : unsealed AtFob log ≡ []
  pub unsealed_m : unsealed AtMixer log ≡ []
  pub no_seal : AllSeals (λ x n c p. ⊥) log

early_still : (z : Role) (d : Event) (log : List Entry) → Still d → Early log → Early (z did d ∷ log)
early_still z d log q h =
    record {
      sealed_f = sealed_still AtFob z d log q.0 ∙ h.sealed_f;
      sealed_m = sealed_still AtMixer z d log q.0 ∙ h.sealed_m;
      unsealed_f = unsealed_still AtFob z d log q.1 ∙ h.unsealed_f;
      unsealed_m = unsealed_still AtMixer z d log q.1 ∙ h.unsealed_m;
      no_seal = (q.2 (λ x n c p. ⊥) z, h.no_seal);
    }

pub early_stills : (z : Role) (ks : List Event) (log : List Entry) → Stills ks → Early log → Early (logged z ks log)
early_stills z [] log q h = h
early_stills z (k ∷ ks) log q h = early_still z k (logged z ks log) q.0 (early_stills z ks log q.1 h)

module _ {C K L : Type 0} (m : Setting C K L) where
  -- where a tag that x sent comes from, by the stage g that x is at now
  pub data Origin (log : List Entry) (x : Role) (g : Ghost) (t : Octets) : Type 0 where
    by_proof :
        (s : Inputs) → InputsOf g s → (x ≡ AtMixer → IsOpen g) → m.Worked (mk m s, proof m x s) → t ≡ tagged m (mk m s) (proof m x s) →
        Origin log x g t
    by_seal :
        (s : Inputs) (n c : ℕ) (p : Octets) → OpenedOf g s → n < 2 ^ 24 → m.Worked (ki m s, packet n (crypt m (ke m s) c p)) →
        t ≡ tagged m (ki m s) (packet n (crypt m (ke m s) c p)) → x did seals n c p ∈ log → Origin log x g t

  -- what an event of x tells
  abbrev pub Said : List Entry → Role → Ghost → Event → Type 0
  Said log x g (offers q n) = Unit {0}
  Said log x g (reads q n) = Unit {0}
  Said log x g proves = Unit {0}
  Said log x g opens = IsOpen g
  Said log x g (sends t) = Origin log x g t
  Said log x g (accepts t) = Unit {0}
  Said log x g (seals n c p) = Unit {0}
  Said log x g (unseals n p) = Unit {0}

  abbrev pub Says : List Entry → Ghost → Ghost → Role → Event → Type 0
  Says log f g AtFob d = Said log AtFob f d
  Says log f g AtMixer d = Said log AtMixer g d

  -- an end that goes on keeps its inputs, and stays open
  pub record Grows (f f' : Ghost) : Type 0 where
    pub sessions : (t : Inputs) → InputsOf f t → InputsOf f' t
    pub openings : (t : Inputs) → OpenedOf f t → OpenedOf f' t
    pub open_on : IsOpen f → IsOpen f'

  pub grows_not : (f : Ghost) → Grows f f
  grows_not f = record { sessions = λ t a. a; openings = λ t a. a; open_on = λ a. a }

  origin_grows :
      (log log' : List Entry) (x : Role) (f f' : Ghost) → Within log log' → Grows f f' → (t : Octets) → Origin log x f t → Origin log' x f' t
  origin_grows log log' x f f' i w t (by_proof s a b c e) = by_proof s (w.sessions s a) (λ h. w.open_on (b h)) c e
  origin_grows log log' x f f' i w t (by_seal s n c p a b k e j) = by_seal s n c p (w.openings s a) b k e (i (x did seals n c p) j)

  said_grows :
      (log log' : List Entry) (x : Role) (f f' : Ghost) → Within log log' → Grows f f' → (d : Event) → Said log x f d → Said log' x f' d
  said_grows log log' x f f' i w (offers q n) h = tt
  said_grows log log' x f f' i w (reads q n) h = tt
  said_grows log log' x f f' i w proves h = tt
  said_grows log log' x f f' i w opens h = w.open_on h
  said_grows log log' x f f' i w (sends t) h = origin_grows log log' x f f' i w t h
  said_grows log log' x f f' i w (accepts t) h = tt
  said_grows log log' x f f' i w (seals n c p) h = tt
  said_grows log log' x f f' i w (unseals n p) h = tt

  says_grow :
      (log log' : List Entry) (f f' g g' : Ghost) → Within log log' → Grows f f' → Grows g g' → (z : Role) (d : Event) →
      Says log f g z d → Says log' f' g' z d
  says_grow log log' f f' g g' i w w' AtFob d h = said_grows log log' AtFob f f' i w d h
  says_grow log log' f f' g g' i w w' AtMixer d h = said_grows log log' AtMixer g g' i w' d h

  pub all_says :
      (log log' : List Entry) (f f' g g' : Ghost) → Within log log' → Grows f f' → Grows g g' → (l : List Entry) →
      All (Says log f g) l → All (Says log' f' g') l
  all_says log log' f f' g g' i w w' l h = all_map (Says log f g) (Says log' f' g') (says_grow log log' f f' g g' i w w') l h

  -- the keyed results of MK and KI are among those worked out
  pub record Derived (s : Inputs) : Type 0 where
    pub mk_in : m.Worked (seeded m s, mk_string m s)
    pub ki_in : m.Worked (seeded m s, ki_string m s)

  -- what stands in the log of an end that holds keys
  pub record FobTrail (log : List Entry) (s : Inputs) : Type 0 where
    pub named : s.identities ≡ m.fob.identities
    pub offered : AtFob did offers s.qa s.na ∈ log
    pub had_read : AtFob did reads s.qb s.nb ∈ log
    pub proved : AtFob did proves ∈ log
    pub derived : Derived s

  pub record MixerTrail (log : List Entry) (s : Inputs) : Type 0 where
    pub named : s.identities ≡ m.mixer.identities
    pub offered : AtMixer did offers s.qb s.nb ∈ log
    pub had_read : AtMixer did reads s.qa s.na ∈ log
    pub derived : Derived s

  abbrev pub FobAt : List Entry → Ghost → Type 0
  FobAt log fresh = Unit {0}
  FobAt log (invited na) = AtFob did offers (label m) na ∈ log
  FobAt log (holding s) = FobTrail log s
  FobAt log (opened s n c) = FobTrail log s

  abbrev pub MixerAt : List Entry → Ghost → Type 0
  MixerAt log fresh = Unit {0}
  MixerAt log (invited na) = ⊥
  MixerAt log (holding s) = MixerTrail log s
  MixerAt log (opened s n c) = MixerTrail log s × (AtMixer did opens ∈ log)

  fob_trail_more : (log log' : List Entry) → Within log log' → (s : Inputs) → FobTrail log s → FobTrail log' s
  fob_trail_more log log' w s h =
      record {
        named = h.named;
        offered = w (AtFob did offers s.qa s.na) h.offered;
        had_read = w (AtFob did reads s.qb s.nb) h.had_read;
        proved = w (AtFob did proves) h.proved;
        derived = h.derived;
      }

  pub mixer_trail_more : (log log' : List Entry) → Within log log' → (s : Inputs) → MixerTrail log s → MixerTrail log' s
  mixer_trail_more log log' w s h =
      record {
        named = h.named;
        offered = w (AtMixer did offers s.qb s.nb) h.offered;
        had_read = w (AtMixer did reads s.qa s.na) h.had_read;
        derived = h.derived;
      }

  pub fob_more : (log log' : List Entry) → Within log log' → (f : Ghost) → FobAt log f → FobAt log' f
  fob_more log log' w fresh h = tt
  fob_more log log' w (invited n) h = w (AtFob did offers (label m) n) h
  fob_more log log' w (holding s) h = fob_trail_more log log' w s h
  fob_more log log' w (opened s n c) h = fob_trail_more log log' w s h

  pub mixer_more : (log log' : List Entry) → Within log log' → (g : Ghost) → MixerAt log g → MixerAt log' g
  mixer_more log log' w fresh h = tt
  mixer_more log log' w (invited n) h = h
  mixer_more log log' w (holding s) h = mixer_trail_more log log' w s h
  mixer_more log log' w (opened s n c) h = (mixer_trail_more log log' w s h.0, w (AtMixer did opens) h.1)

  pub fob_trail_of : (f : Ghost) (log : List Entry) (s : Inputs) → InputsOf f s → FobAt log f → FobTrail log s
  fob_trail_of fresh log s e h = absurd e
  fob_trail_of (invited n) log s e h = absurd e
  fob_trail_of (holding t) log s e h = subst (λ (t : Inputs). FobTrail log t) e h
  fob_trail_of (opened t n c) log s e h = subst (λ (t : Inputs). FobTrail log t) e h

  pub mixer_trail_of : (g : Ghost) (log : List Entry) (s : Inputs) → InputsOf g s → MixerAt log g → MixerTrail log s
  mixer_trail_of fresh log s e h = absurd e
  mixer_trail_of (invited n) log s e h = absurd e
  mixer_trail_of (holding t) log s e h = subst (λ (t : Inputs). MixerTrail log t) e h
  mixer_trail_of (opened t n c) log s e h = subst (λ (t : Inputs). MixerTrail log t) e h.0

  -- the mixer open, and the fob with the same keys
  pub record Live (log : List Entry) (sf : Inputs) (nf cf : ℕ) (sm : Inputs) (nm cm : ℕ) : Type 0 where
    pub same_mk : mk m sf ≡ mk m sm
    pub same_ke : ke m sf ≡ ke m sm
    pub same_ki : ki m sf ≡ ki m sm
    pub flow : NoncesAsSent log → Flow (iv m sm) AtFob AtMixer log nf cf nm cm

  pub live_stills :
      (z : Role) (ks : List Event) (log : List Entry) (sf : Inputs) (nf cf : ℕ) (sm : Inputs) (nm cm : ℕ) → Stills ks →
      Live log sf nf cf sm nm cm → Live (logged z ks log) sf nf cf sm nm cm
  live_stills z ks log sf nf cf sm nm cm q h =
      record {
        same_mk = h.same_mk;
        same_ke = h.same_ke;
        same_ki = h.same_ki;
        flow = λ a. flow_stills log z ks q (h.flow (nonces_less log (logged z ks log) (within_logged z ks log) a));
      }

  -- what holds of both, by the stages of the mixer and the fob
  abbrev pub WithOpen : List Entry → Inputs → ℕ → ℕ → Ghost → Type 0
  WithOpen log sm nm cm fresh = ⊥
  WithOpen log sm nm cm (invited n) = ⊥
  WithOpen log sm nm cm (holding sf) = Live log sf 0 (iv m sf) sm nm cm
  WithOpen log sm nm cm (opened sf nf cf) = Live log sf nf cf sm nm cm

  abbrev pub Both : List Entry → Ghost → Ghost → Type 0
  Both log f fresh = NotOpen f × Early log
  Both log f (invited n) = ⊥
  Both log f (holding s) = NotOpen f × Early log
  Both log f (opened sm nm cm) = WithOpen log sm nm cm f

  -- the fob moves on before the mixer opens
  pub both_moves :
      (f f' g : Ghost) (ks : List Event) (log : List Entry) → Stills ks → NotOpen f' → ((sm : Inputs) (nm cm : ℕ) → WithOpen log sm nm cm f → ⊥) →
      Both log f g → Both (logged AtFob ks log) f' g
  both_moves f f' fresh ks log q n w h = (n, early_stills AtFob ks log q h.1)
  both_moves f f' (invited k) ks log q n w h = h
  both_moves f f' (holding s) ks log q n w h = (n, early_stills AtFob ks log q h.1)
  both_moves f f' (opened sm nm cm) ks log q n w h = absurd (w sm nm cm h)

  abbrev pub SentBefore : Entry → List Entry → Type 0
  SentBefore e past = (x : Role) (t : Octets) → e ≡ x did accepts t → other x did sends t ∈ past

  -- all that is kept from call to call
  pub record Facts (log : List Entry) (f g : Ghost) : Type 0 where
    pub fob_at : FobAt log f
    pub mixer_at : MixerAt log g
    pub says : All (Says log f g) log
    pub both : Both log f g
    pub places : Places m log
