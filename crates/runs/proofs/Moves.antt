-- How what holds of both ends goes over to a longer log, by the end that moves.
use Rattle.std.proofs.Common.{◌≡◌, ℕ, List, [], ◌∷◌, sym, ap, ◌∙◌}
use Rattle.ends.specs.declared.Role.{Role}
use Rattle.ends.specs.declared.Role.TheVariants.{Fob as AtFob, Mixer as AtMixer}
use Rattle.runs.specs.History.{Event, sends, Entry, ◌did◌, logged}
use Rattle.runs.specs.Law.{other, ◌∈◌, NoncesAsSent}
use Rattle.runs.proofs.Model.{Octets, Inputs, Setting, Ghost, fresh, invited, holding, opened, ke, iv}
use Rattle.runs.proofs.Flow.{All, all_in, Flow, flow_swap}
use Rattle.runs.proofs.Places.{Within, within_logged, Places}
use Rattle.runs.proofs.Facts.{InputsOf, OpenedOf, Origin, Said, Says, all_says, Grows, grows_not, Derived, FobAt, MixerAt, fob_more, mixer_more, fob_trail_of, mixer_trail_of, WithOpen, Both, Facts}

module _ {C K L : Type 0} (m : Setting C K L) where
  -- the events of a step tell what they should
  abbrev pub Saids : List Entry → Role → Ghost → List Event → Type 0
  Saids log x g [] = Unit {0}
  Saids log x g (k ∷ ks) = Said m log x g k × Saids log x g ks

  says_fob :
      (log : List Entry) (f g : Ghost) (ks : List Event) (l : List Entry) → Saids log AtFob f ks → All (Says m log f g) l →
      All (Says m log f g) (logged AtFob ks l)
  says_fob log f g [] l s h = h
  says_fob log f g (k ∷ ks) l s h = (s.0, says_fob log f g ks l s.1 h)

  says_mixer :
      (log : List Entry) (f g : Ghost) (ks : List Event) (l : List Entry) → Saids log AtMixer g ks → All (Says m log f g) l →
      All (Says m log f g) (logged AtMixer ks l)
  says_mixer log f g [] l s h = h
  says_mixer log f g (k ∷ ks) l s h = (s.0, says_mixer log f g ks l s.1 h)

  -- an end moves on
  pub fob_moves :
      (log : List Entry) (ks : List Event) (f f' g : Ghost) → Facts m log f g → Grows m f f' → FobAt m (logged AtFob ks log) f' →
      Saids (logged AtFob ks log) AtFob f' ks → Both m (logged AtFob ks log) f' g → Places m (logged AtFob ks log) → Facts m (logged AtFob ks log) f' g
  fob_moves log ks f f' g h w at s b p =
      let log' : List Entry = logged AtFob ks log in
      let i : Within log log' = within_logged AtFob ks log in
      record {
        fob_at = at;
        mixer_at = mixer_more m log log' i g h.mixer_at;
        says = says_fob log' f' g ks log s (all_says m log log' f f' g g i w (grows_not m g) log h.says);
        both = b;
        places = p;
      }

  pub mixer_moves :
      (log : List Entry) (ks : List Event) (f g g' : Ghost) → Facts m log f g → Grows m g g' → MixerAt m (logged AtMixer ks log) g' →
      Saids (logged AtMixer ks log) AtMixer g' ks → Both m (logged AtMixer ks log) f g' → Places m (logged AtMixer ks log) → Facts m (logged AtMixer ks log) f g'
  mixer_moves log ks f g g' h w at s b p =
      let log' : List Entry = logged AtMixer ks log in
      let i : Within log log' = within_logged AtMixer ks log in
      record {
        fob_at = fob_more m log log' i f h.fob_at;
        mixer_at = at;
        says = says_mixer log' f g' ks log s (all_says m log log' f f g g' i (grows_not m f) w log h.says);
        both = b;
        places = p;
      }

  -- the same by an end, x, and the other
  abbrev pub FactsAt : Role → List Entry → Ghost → Ghost → Type 0
  FactsAt AtFob log a b = Facts m log a b
  FactsAt AtMixer log a b = Facts m log b a

  abbrev pub BothAt : Role → List Entry → Ghost → Ghost → Type 0
  BothAt AtFob log a b = Both m log a b
  BothAt AtMixer log a b = Both m log b a

  pub places_of : (x : Role) (log : List Entry) (a b : Ghost) → FactsAt x log a b → Places m log
  places_of AtFob log a b h = h.places
  places_of AtMixer log a b h = h.places

  pub own_derived : (x : Role) (log : List Entry) (s : Inputs) (n c : ℕ) (b : Ghost) → FactsAt x log (opened s n c) b → Derived m s
  own_derived AtFob log s n c b h = h.fob_at.derived
  own_derived AtMixer log s n c b h = h.mixer_at.0.derived

  pub their_derived : (x : Role) (log : List Entry) (a b : Ghost) → FactsAt x log a b → (u : Inputs) → InputsOf b u → Derived m u
  their_derived AtFob log a b h u e = (mixer_trail_of m b log u e h.mixer_at).derived
  their_derived AtMixer log a b h u e = (fob_trail_of m b log u e h.fob_at).derived

  pub their_origin :
      (x : Role) (log : List Entry) (a b : Ghost) → FactsAt x log a b → (t : Octets) → other x did sends t ∈ log → Origin m log (other x) b t
  their_origin AtFob log a b h t i = all_in (Says m log a b) log h.says AtMixer (sends t) i
  their_origin AtMixer log a b h t i = all_in (Says m log b a) log h.says AtFob (sends t) i

  -- an open end stays open
  pub open_moves :
      (x : Role) (log : List Entry) (ks : List Event) (s : Inputs) (n c n' c' : ℕ) (b : Ghost) → FactsAt x log (opened s n c) b →
      Saids (logged x ks log) x (opened s n' c') ks → BothAt x (logged x ks log) (opened s n' c') b → Places m (logged x ks log) →
      FactsAt x (logged x ks log) (opened s n' c') b
  open_moves AtFob log ks s n c n' c' b h q both p =
      fob_moves log ks (opened s n c) (opened s n' c') b h record { sessions = λ t a. a; openings = λ t a. a; open_on = λ a. a }
      (fob_more m log (logged AtFob ks log) (within_logged AtFob ks log) (opened s n c) h.fob_at) q both p
  open_moves AtMixer log ks s n c n' c' b h q both p =
      mixer_moves log ks b (opened s n c) (opened s n' c') h record { sessions = λ t a. a; openings = λ t a. a; open_on = λ a. a }
      (mixer_more m log (logged AtMixer ks log) (within_logged AtMixer ks log) (opened s n c) h.mixer_at) q both p

  -- an open end x and the other: the same KE, the packets between them, and how what holds of both comes of them
  pub record Linked (x : Role) (log : List Entry) (s : Inputs) (n c : ℕ) (b : Ghost) : Type 0 where
    pub start : ℕ
    pub number : ℕ
    pub counter : ℕ
    pub same_key : (u : Inputs) → OpenedOf b u → ke m s ≡ ke m u
    pub flow : NoncesAsSent log → Flow start x (other x) log n c number counter
    pub again :
        (log' : List Entry) (n' c' : ℕ) → (NoncesAsSent log' → Flow start x (other x) log' n' c' number counter) →
        BothAt x log' (opened s n' c') b

  linked_fob : (log : List Entry) (s : Inputs) (n c : ℕ) (g : Ghost) → Both m log (opened s n c) g → Linked AtFob log s n c g
  linked_fob log s n c fresh h = absurd h.0
  linked_fob log s n c (invited k) h = absurd h
  linked_fob log s n c (holding u) h = absurd h.0
  linked_fob log s n c (opened u k d) h =
      record {
        start = iv m u;
        number = k;
        counter = d;
        same_key = λ v e. h.same_ke ∙ ap (ke m) e;
        flow = h.flow;
        again = λ log' n' c' f. record { same_mk = h.same_mk; same_ke = h.same_ke; same_ki = h.same_ki; flow = f };
      }

  linked_mixer : (log : List Entry) (s : Inputs) (n c : ℕ) (f : Ghost) → WithOpen m log s n c f → Linked AtMixer log s n c f
  linked_mixer log s n c fresh h = absurd h
  linked_mixer log s n c (invited k) h = absurd h
  linked_mixer log s n c (holding u) h =
      record {
        start = iv m s;
        number = 0;
        counter = iv m u;
        same_key = λ v e. absurd e;
        flow = λ a. flow_swap (h.flow a);
        again = λ log' n' c' f. record { same_mk = h.same_mk; same_ke = h.same_ke; same_ki = h.same_ki; flow = λ a. flow_swap (f a) };
      }
  linked_mixer log s n c (opened u k d) h =
      record {
        start = iv m s;
        number = k;
        counter = d;
        same_key = λ v e. sym h.same_ke ∙ ap (ke m) e;
        flow = λ a. flow_swap (h.flow a);
        again = λ log' n' c' f. record { same_mk = h.same_mk; same_ke = h.same_ke; same_ki = h.same_ki; flow = λ a. flow_swap (f a) };
      }

  pub linked : (x : Role) (log : List Entry) (s : Inputs) (n c : ℕ) (b : Ghost) → FactsAt x log (opened s n c) b → Linked x log s n c b
  linked AtFob log s n c b h = linked_fob log s n c b h.both
  linked AtMixer log s n c b h = linked_mixer log s n c b h.both
