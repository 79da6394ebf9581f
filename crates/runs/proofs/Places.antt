-- What the law says of the places of a log, event by event.
use Rattle.std.proofs.Common.{◌≡◌, ℕ, List, [], ◌∷◌, length, sym, refl, ap, ◌∙◌, subst, inr}
use Rattle.ends.specs.declared.Role.{Role}
use Rattle.ends.specs.declared.Role.TheVariants.{Fob as AtFob, Mixer as AtMixer}
use Rattle.runs.specs.History.{Event, offers, reads, proves, opens, sends, accepts, seals, unseals, Entry, ◌did◌, logged}
use Rattle.runs.specs.Law.{other, ◌∈◌, Everywhere, NoncesAsSent, Met, NoBlockTwice}
use Rattle.runs.proofs.Model.{Octets, Setting}
use Rattle.runs.proofs.Base.{zero_one, fob_mixer, mixer_fob}

-- a log with all entries of another, as one that has grown
abbrev pub Within : List Entry → List Entry → Type 0
Within log log' = (e : Entry) → e ∈ log → e ∈ log'

pub nonces_less : (log log' : List Entry) → Within log log' → NoncesAsSent log' → NoncesAsSent log
nonces_less log log' w h x q n q' n' a b = h x q n q' n' (w (x did offers q n) a) (w (other x did reads q' n') b)

pub within_logged : (z : Role) (ks : List Event) (log : List Entry) → Within log (logged z ks log)
within_logged z [] log e i = i
within_logged z (k ∷ ks) log e i = inr (within_logged z ks log e i)

-- what is said of each place, and the events of which it says nothing
abbrev pub MixerFirst : Entry → List Entry → Type 0
MixerFirst e past = e ≡ AtFob did opens → AtMixer did opens ∈ past

abbrev pub Meets : {C K L : Type 0} → Setting C K L → Entry → List Entry → Type 0
Meets m e past = e ≡ AtMixer did opens → Met m.fob m.mixer past

abbrev pub Apart : Entry → List Entry → Type 0
Apart e past =
    (x y : Role) (k c l d : ℕ) (p q : Octets) → e ≡ x did seals k c p → y did seals l d q ∈ past → NoBlockTwice c (length p) d (length q)

abbrev pub opens_at : Entry → ℕ
opens_at (x did offers q n) = 0
opens_at (x did reads q n) = 0
opens_at (x did proves) = 0
opens_at (x did opens) = 1
opens_at (x did sends t) = 0
opens_at (x did accepts t) = 0
opens_at (x did seals n c p) = 0
opens_at (x did unseals n p) = 0

abbrev pub seals_at_lem : Entry → ℕ
seals_at_lem (x did offers q n) = 0
seals_at_lem (x did reads q n) = 0
seals_at_lem (x did proves) = 0
seals_at_lem (x did opens) = 0
seals_at_lem (x did sends t) = 0
seals_at_lem (x did accepts t) = 0
seals_at_lem (x did seals n c p) = 1
seals_at_lem (x did unseals n p) = 0

pub not_first : (e : Entry) (past : List Entry) → opens_at e ≡ 0 → MixerFirst e past
not_first e past z h = zero_one (sym z ∙ ap opens_at h)

pub not_meets : {C K L : Type 0} (m : Setting C K L) (e : Entry) (past : List Entry) → opens_at e ≡ 0 → Meets m e past
not_meets m e past z h = zero_one (sym z ∙ ap opens_at h)

pub not_apart : (e : Entry) (past : List Entry) → seals_at_lem e ≡ 0 → Apart e past
not_apart e past z x y k c l d p q h i = zero_one (sym z ∙ ap seals_at_lem h)

-- a seal whose blocks are new
new_apart :
    (z : Role) (n c : ℕ) (p : Octets) (log : List Entry) →
    ((y : Role) (l d : ℕ) (q : Octets) → y did seals l d q ∈ log → NoBlockTwice c (length p) d (length q)) → Apart (z did seals n c p) log
new_apart z n c p log h x y k c' l d p' q e i =
    let ec : c ≡ c' = cc in
    let ep : p ≡ p' = cc in
    subst (λ (c : ℕ). NoBlockTwice c (length p') d (length q)) ec
    (subst (λ (p : Octets). NoBlockTwice c (length p) d (length q)) ep (h y l d q i))

-- whose an entry is
abbrev by : Entry → Role
by (x did k) = x

module _ {C K L : Type 0} (m : Setting C K L) where
  -- all three: the mixer opens first, the ends have met, and no counter block enciphers two packets
  pub record Places (log : List Entry) : Type 0 where
    pub first : Everywhere MixerFirst log
    pub meets : Everywhere (Meets m) log
    pub apart : NoncesAsSent log → Everywhere Apart log

  -- an event that neither opens nor seals
  pub plain :
      (x : Role) (k : Event) (log : List Entry) → opens_at (x did k) ≡ 0 → seals_at_lem (x did k) ≡ 0 → Places log → Places (x did k ∷ log)
  plain x k log a b h =
      record {
        first = (not_first (x did k) log a, h.first);
        meets = (not_meets m (x did k) log a, h.meets);
        apart = λ n. (not_apart (x did k) log b, h.apart (nonces_less log (x did k ∷ log) (λ e i. inr i) n));
      }

  pub opens_fob : (log : List Entry) → AtMixer did opens ∈ log → Places log → Places (AtFob did opens ∷ log)
  opens_fob log i h =
      record {
        first = ((λ e. i), h.first);
        meets = ((λ e. fob_mixer (ap by e)), h.meets);
        apart = λ n. (not_apart (AtFob did opens) log refl, h.apart (nonces_less log (AtFob did opens ∷ log) (λ e i. inr i) n));
      }

  pub opens_mixer : (log : List Entry) → Met m.fob m.mixer log → Places log → Places (AtMixer did opens ∷ log)
  opens_mixer log i h =
      record {
        first = ((λ e. mixer_fob (ap by e)), h.first);
        meets = ((λ e. i), h.meets);
        apart = λ n. (not_apart (AtMixer did opens) log refl, h.apart (nonces_less log (AtMixer did opens ∷ log) (λ e i. inr i) n));
      }

  pub seals_new :
      (x : Role) (n c : ℕ) (p : Octets) (log : List Entry) →
      (NoncesAsSent log → (y : Role) (l d : ℕ) (q : Octets) → y did seals l d q ∈ log → NoBlockTwice c (length p) d (length q)) →
      Places log → Places (x did seals n c p ∷ log)
  seals_new x n c p log new h =
      record {
        first = (not_first (x did seals n c p) log refl, h.first);
        meets = (not_meets m (x did seals n c p) log refl, h.meets);
        apart =
            λ a.
            let a' : NoncesAsSent log = nonces_less log (x did seals n c p ∷ log) (λ e i. inr i) a in
            (new_apart x n c p log (new a'), h.apart a');
      }
