-- The law of runs: what holds of every history of a fob and a mixer in which no tag was lucky.
use Rattle.std.specs.Prelude.{◌≡◌, ℕ, ◌+◌, ◌%◌, ◌^◌, ◌<◌, ◌≢◌, ◌⊎◌, List, [], ◌∷◌, ◌++◌, length}
use Rattle.keyed.specs.declared.derivation.SessionKeys.{SessionKeys}
use Rattle.keyed.specs.Keystream.{blocks}
use Rattle.keyed.specs.Xcbc.{tag}
use Rattle.ends.specs.declared.Role.{Role}
use Rattle.ends.specs.declared.Role.TheVariants.{Fob as AtFob, Mixer as AtMixer}
use Rattle.channel.specs.declared.Fob.{Fob}
use Rattle.channel.specs.declared.Mixer.{Mixer}
use Rattle.runs.specs.declared.FobSide.{FobSide}
use Rattle.runs.specs.declared.FobSide.TheVariants.{Fresh as FreshFob, Invited as InvitedFob, Proved as ProvedFob, Open as OpenFob, Closed as ClosedFob}
use Rattle.runs.specs.declared.MixerSide.{MixerSide}
use Rattle.runs.specs.declared.MixerSide.TheVariants.{Fresh as FreshMixer, Answered as AnsweredMixer, Open as OpenMixer, Closed as ClosedMixer}
use Rattle.runs.specs.History.{Call, Event, offers, reads, proves, opens, sends, accepts, seals, unseals, Entry, ◌did◌, Keyed, History, Lookups, history}

-- the other end
abbrev pub other : Role → Role
other AtFob = AtMixer
other AtMixer = AtFob

-- an entry stands in a log
infix 15 ◌∈◌
abbrev pub ◌∈◌ : {A : Type 0} → A → List A → Type 0
a ∈ [] = ⊥
a ∈ (x ∷ xs) = (a ≡ x) ⊎ (a ∈ xs)

-- at each place of a log: of the entry there and of what came before it
abbrev pub Everywhere : (Entry → List Entry → Type 0) → List Entry → Type 0
Everywhere P [] = Unit {0}
Everywhere P (x ∷ past) = P x past × Everywhere P past

-- the payloads that an end sealed, and those that it unsealed, the latest first
abbrev pub when : Role → Role → List (List ℕ) → List (List ℕ)
when AtFob AtFob ps = ps
when AtFob AtMixer ps = []
when AtMixer AtFob ps = []
when AtMixer AtMixer ps = ps

abbrev pub sealed_in : Event → List (List ℕ)
sealed_in (offers q n) = []
sealed_in (reads q n) = []
sealed_in proves = []
sealed_in opens = []
sealed_in (sends t) = []
sealed_in (accepts t) = []
sealed_in (seals n c p) = p ∷ []
sealed_in (unseals n p) = []

abbrev pub unsealed_in : Event → List (List ℕ)
unsealed_in (offers q n) = []
unsealed_in (reads q n) = []
unsealed_in proves = []
unsealed_in opens = []
unsealed_in (sends t) = []
unsealed_in (accepts t) = []
unsealed_in (seals n c p) = []
unsealed_in (unseals n p) = p ∷ []

abbrev pub sealed : Role → List Entry → List (List ℕ)
sealed x [] = []
sealed x (y did k ∷ past) = when x y (sealed_in k) ++ sealed x past

abbrev pub unsealed : Role → List Entry → List (List ℕ)
unsealed x [] = []
unsealed x (y did k ∷ past) = when x y (unsealed_in k) ++ unsealed x past

-- No lucky tag: keyed results that are equal in their first 12 octets have equal keys and equal strings, and each tag that an end
-- accepted had earlier been put into a message by the other end.
pub record NoLuckyTag {C K L : Type 0} (e : List ℕ → List ℕ → List ℕ) (h : History C K L) : Type 0 where
  pub apart :
      (a b : Keyed) → a ∈ h.worked → b ∈ h.worked → tag e a.0 a.1 ≡ tag e b.0 b.1 → (a.0 ≡ b.0) × (a.1 ≡ b.1)
  pub sent_before :
      Everywhere (λ x past. (r : Role) (t : List ℕ) → x ≡ r did accepts t → other r did sends t ∈ past) h.log

-- a nonce that was written by one end and read by the other was read as written
abbrev pub NoncesAsSent : List Entry → Type 0
NoncesAsSent log =
    (x : Role) (q n q' n' : List ℕ) → x did offers q n ∈ log → other x did reads q' n' ∈ log → n' ≡ n

-- the fob had proved, both were made with the same identities, and each read the label that the other wrote
pub record Met {C : Type 0} (f : Fob C) (x : Mixer C) (past : List Entry) : Type 0 where
  pub proved : AtFob did proves ∈ past
  pub same_fob : f.identities.fob ≡ x.identities.fob
  pub same_mixer : f.identities.mixer ≡ x.identities.mixer
  pub labels : (r : Role) → (q n n' : List ℕ) × (r did offers q n ∈ past) × (other r did reads q n' ∈ past)

-- an end holds MK, KE and KI
pub record Holds (s : SessionKeys) (mk ke ki : List ℕ) : Type 0 where
  pub same_mk : s.master ≡ mk
  pub same_ke : s.encryption ≡ ke
  pub same_ki : s.integrity ≡ ki

abbrev pub FobHolds : {C K : Type 0} → FobSide C K → (mk ke ki : List ℕ) → Type 0
FobHolds (FreshFob f k) mk ke ki = ⊥
FobHolds (InvitedFob i) mk ke ki = ⊥
FobHolds (ProvedFob p) mk ke ki = Holds p.session.keys mk ke ki
FobHolds (OpenFob x t) mk ke ki = Holds x.epoch.keys mk ke ki
FobHolds ClosedFob mk ke ki = ⊥

abbrev pub MixerHolds : {C K : Type 0} → MixerSide C K → (mk ke ki : List ℕ) → Type 0
MixerHolds (FreshMixer f k) mk ke ki = ⊥
MixerHolds (AnsweredMixer a) mk ke ki = Holds a.session.keys mk ke ki
MixerHolds (OpenMixer x t) mk ke ki = Holds x.epoch.keys mk ke ki
MixerHolds ClosedMixer mk ke ki = ⊥

-- all, or all but the last
abbrev pub UpToLast : List (List ℕ) → List (List ℕ) → Type 0
UpToLast got sent = (got ≡ sent) ⊎ ((p : List ℕ) × (sent ≡ p ∷ got))

-- packets of m and n octets, enciphered from the counters c and d on, have no counter block in common
abbrev pub NoBlockTwice : (c m d n : ℕ) → Type 0
NoBlockTwice c m d n = (i j : ℕ) → i < blocks m → j < blocks n → (c + i) % 2 ^ 128 ≢ (d + j) % 2 ^ 128

pub record Law {C K L : Type 0} (f : Fob C) (x : Mixer C) (h : History C K L) : Type 0 where
  -- agreement: where the fob opened, the mixer had opened before
  pub mixer_first : Everywhere (λ a past. a ≡ AtFob did opens → AtMixer did opens ∈ past) h.log
  -- where the mixer opened, the fob had proved before, and identities and labels agree
  pub met : Everywhere (λ a past. a ≡ AtMixer did opens → Met f x past) h.log
  -- and while neither has closed, both hold the same MK, KE and KI
  pub same_keys :
      AtMixer did opens ∈ h.log → h.fob ≢ ClosedFob → h.mixer ≢ ClosedMixer →
      (mk ke ki : List ℕ) × FobHolds h.fob mk ke ki × MixerHolds h.mixer mk ke ki
  -- order: the payloads unsealed at each end are those sealed at the other, all, or all but the last
  pub payloads : NoncesAsSent h.log → (r : Role) → UpToLast (unsealed r h.log) (sealed (other r) h.log)
  -- freshness: no counter block enciphers two packets of either end
  pub counters :
      NoncesAsSent h.log →
      Everywhere (λ a past. (r s : Role) (k c l d : ℕ) (p q : List ℕ) → a ≡ r did seals k c p → s did seals l d q ∈ past →
      NoBlockTwice c (length p) d (length q)) h.log

-- an end is made with two identities of ten octets
pub record Named {C : Type 0} (f : Fob C) (x : Mixer C) : Type 0 where
  pub fob_10 : length f.identities.fob ≡ 10
  pub mixer_10 : length f.identities.mixer ≡ 10
  pub fob_10' : length x.identities.fob ≡ 10
  pub mixer_10' : length x.identities.mixer ≡ 10

-- for every cipher meaning, all key lookups with own labels of 25 octets, all identities and every list of calls
abbrev pub LawOfRuns : (C K L : Type 0) → Type 0
LawOfRuns C K L =
    (pid : ℕ) (e : List ℕ → List ℕ → List ℕ) (u : Lookups K L) (f : Fob C) (k : K) (x : Mixer C) (l : L)
    → Named f x → length (u.fob_own k) ≡ 25 → length (u.mixer_own l) ≡ 25
    → (calls : List Call) → NoLuckyTag e (history pid e u f k x l calls) → Law f x (history pid e u f k x l calls)
