-- What the proof keeps of an end: what its keys come from, how far it has come, and the steps that it can take.
use Rattle.std.proofs.Common.{◌≡◌, ℕ, ◌+◌, ◌%◌, ◌<◌, ◌≤◌, List, [], ◌∷◌, length}
use Rattle.keyed.specs.Told.{Identities}
use Rattle.keyed.specs.Derivation.{seed, master_string, master_key, encryption_key, integrity_string, integrity_key, first_counter, derivation_results}
use Rattle.keyed.specs.Strings.{confirmation, packet}
use Rattle.keyed.specs.Keystream.{xored, moved}
use Rattle.keyed.specs.Xcbc.{tag}
use Rattle.ends.specs.declared.Role.{Role}
use Rattle.ends.specs.declared.Role.TheVariants.{Fob as AtFob, Mixer as AtMixer}
use Rattle.channel.specs.declared.Fob.{Fob}
use Rattle.channel.specs.declared.Mixer.{Mixer}
use Rattle.runs.specs.History.{Event, offers, reads, proves, opens, sends, accepts, seals, unseals, Keyed, Lookups}
use Rattle.runs.specs.Law.{Named}

abbrev pub Octets : Type 0
Octets = List ℕ

-- what an end's keys come from: the identities that it was made with, labels and nonces, its own and those that it read, and the secret
pub record Inputs : Type 0 where
  pub identities : Identities
  pub qa : Octets
  pub qb : Octets
  pub na : Octets
  pub nb : Octets
  pub z : Octets
  pub ida_10 : length identities.fob ≡ 10
  pub idb_10 : length identities.mixer ≡ 10
  pub qa_25 : length qa ≡ 25

-- what stays the same in a history: the cipher's meaning and the key lookups', both ends as they were made, each with its key, and the
-- keyed results of the whole history, of which no two have the same tag
pub record Setting (C K L : Type 0) : Type 1 where
  pub pid : ℕ
  pub cipher : Octets → Octets → Octets
  pub lookups : Lookups K L
  pub fob : Fob C
  pub fob_key : K
  pub mixer : Mixer C
  pub mixer_key : L
  pub named : Named fob mixer
  pub label_25 : length (lookups.fob_own fob_key) ≡ 25
  pub Worked : Keyed → Type 0
  pub apart :
      (a b : Keyed) → Worked a → Worked b → tag cipher a.0 a.1 ≡ tag cipher b.0 b.1 → (a.0 ≡ b.0) × (a.1 ≡ b.1)

-- how far an end has come, had it not closed
pub data Ghost : Type 0 where
  fresh : Ghost
  invited : (nonce : Octets) → Ghost
  holding : Inputs → Ghost
  opened : Inputs → (number counter : ℕ) → Ghost

-- the last number, and the rest modulo 2 of the numbers at which an end seals
abbrev pub last_number : ℕ
last_number = 16777215

abbrev pub parity : Role → ℕ
parity AtFob = 0
parity AtMixer = 1

module _ {C K L : Type 0} (m : Setting C K L) where
  -- the fob's own label
  abbrev pub label : Octets
  label = m.lookups.fob_own m.fob_key

  -- SKEYSEED, the keys and the first counter, and the strings of MK and KI
  abbrev pub seeded : Inputs → Octets
  seeded s = seed m.cipher s.na s.nb s.z

  abbrev pub mk : Inputs → Octets
  mk s = master_key m.cipher s.na s.nb s.identities.fob s.identities.mixer s.z

  abbrev pub ke : Inputs → Octets
  ke s = encryption_key m.cipher s.na s.nb s.identities.fob s.identities.mixer s.z

  abbrev pub ki : Inputs → Octets
  ki s = integrity_key m.cipher s.na s.nb s.identities.fob s.identities.mixer s.z

  abbrev pub iv : Inputs → ℕ
  iv s = first_counter m.cipher s.na s.nb s.identities.fob s.identities.mixer s.z

  abbrev pub mk_string : Inputs → Octets
  mk_string s = master_string s.na s.nb s.identities.fob s.identities.mixer

  abbrev pub ki_string : Inputs → Octets
  ki_string s = integrity_string (ke s) s.na s.nb s.identities.fob s.identities.mixer

  abbrev pub results : Inputs → List Keyed
  results s = derivation_results m.cipher s.na s.nb s.identities.fob s.identities.mixer s.z

  -- the string of an end's confirmation
  abbrev pub proof : Role → Inputs → Octets
  proof AtFob s = confirmation m.pid AtFob s.identities.fob s.identities.mixer s.qa s.qb s.na s.nb
  proof AtMixer s = confirmation m.pid AtMixer s.identities.fob s.identities.mixer s.qa s.qb s.na s.nb

  abbrev pub tagged : Octets → Octets → Octets
  tagged k t = tag m.cipher k t

  abbrev pub crypt : Octets → ℕ → Octets → Octets
  crypt k c d = xored m.cipher k c d

  -- the steps of an end: from one stage to another, with events and keyed results
  pub data Step : Role → Ghost → Ghost → List Event → List Keyed → Type 0 where
    nothing : {x : Role} {g : Ghost} (ks : List Keyed) → Step x g g [] ks
    inviting : (na : Octets) → Step AtFob fresh (invited na) (offers (label) na ∷ []) []
    answering :
        (s : Inputs) → s.identities ≡ m.mixer.identities →
        Step AtMixer fresh (holding s) (offers s.qb s.nb ∷ reads s.qa s.na ∷ []) (results s)
    proving :
        (na : Octets) (s : Inputs) → s.identities ≡ m.fob.identities → s.na ≡ na → s.qa ≡ label →
        Step AtFob (invited na) (holding s) (sends (tagged (mk s) (proof AtFob s)) ∷ proves ∷ reads s.qb s.nb ∷ [])
        ((mk s, proof AtFob s) ∷ results s)
    confirming :
        (s : Inputs) (t : Octets) → t ≡ tagged (mk s) (proof AtFob s) →
        Step AtMixer (holding s) (opened s 0 (iv s)) (sends (tagged (mk s) (proof AtMixer s)) ∷ opens ∷ accepts t ∷ [])
        ((mk s, proof AtMixer s) ∷ (mk s, proof AtFob s) ∷ [])
    finishing : (s : Inputs) (t : Octets) (ks : List Keyed) → Step AtFob (holding s) (opened s 0 (iv s)) (opens ∷ accepts t ∷ []) ks
    sealing :
        {x : Role} (s : Inputs) (n c : ℕ) (p : Octets) → length p ≤ 4096 → n < last_number → n % 2 ≡ parity x →
        Step x (opened s n c) (opened s (n + 1) (moved c (length p)))
        (sends (tagged (ki s) (packet (n + 1) (crypt (ke s) c p))) ∷ seals (n + 1) c p ∷ []) ((ki s, packet (n + 1) (crypt (ke s) c p)) ∷ [])
    unsealing :
        {x : Role} (s : Inputs) (n c k size : ℕ) (d t out : Octets) → n < last_number → k ≡ n + 1 → size ≡ length d →
        t ≡ tagged (ki s) (packet k d) → out ≡ crypt (ke s) c d →
        Step x (opened s n c) (opened s (n + 1) (moved c size)) (unseals k out ∷ accepts t ∷ []) ((ki s, packet k d) ∷ [])
