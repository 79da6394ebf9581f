-- The unaltered session: two ends that are given each other's messages in turn open, and get every payload back up to the last number.
use Rattle.std.specs.Prelude.{◌≡◌, ℕ, ◌+◌, ◌≤◌, List, [], ◌∷◌, length, take, Ok, Err}
use Rattle.fault.specs.declared.HostCause.TheVariants.{LastNumber}
use Rattle.fault.specs.Faults.{host_fault}
use Rattle.ends.specs.declared.Role.{Role}
use Rattle.ends.specs.declared.Role.TheVariants.{Fob as AtFob, Mixer as AtMixer}
use Rattle.channel.specs.declared.Nonce.{Nonce}
use Rattle.channel.specs.declared.Fob.{Fob}
use Rattle.channel.specs.declared.Mixer.{Mixer}
use Rattle.channel.specs.declared.Invited.{Invited}
use Rattle.channel.specs.declared.Answered.{Answered}
use Rattle.channel.specs.declared.Proved.{Proved}
use Rattle.channel.specs.declared.Open.{Open}
use Rattle.channel.specs.Handshake.{ticket, invited, invite_output, answered, answer_output, proven, prove_output, confirmed, confirm_output, finished}
use Rattle.channel.specs.Packets.{advanced_end, seal_check, seal_output, unseal_check, unseal_output}
use Rattle.runs.specs.History.{Lookups}

-- a cipher gives blocks of sixteen octets
abbrev pub Blocks : (List ℕ → List ℕ → List ℕ) → Type 0
Blocks e = (k x : List ℕ) → length (e k x) ≡ 16

-- two key lookups, with own labels of 25 octets, that answer each other's label with one secret
pub record Paired {K L : Type 0} (u : Lookups K L) (k : K) (l : L) : Type 0 where
  pub fob_25 : length (u.fob_own k) ≡ 25
  pub mixer_25 : length (u.mixer_own l) ≡ 25
  pub secret : List ℕ
  pub fob_secret : u.fob_replies k (u.mixer_own l) ≡ Ok secret
  pub mixer_secret : u.mixer_replies l (u.fob_own k) ≡ Ok secret

-- the buffers that the five calls of a handshake are lent, at least as large as needed
pub record Buffers : Type 0 where
  pub invite_out : List ℕ
  pub answer_workspace : List ℕ
  pub answer_out : List ℕ
  pub prove_workspace : List ℕ
  pub prove_out : List ℕ
  pub confirm_workspace : List ℕ
  pub confirm_out : List ℕ
  pub finish_workspace : List ℕ
  pub invite_room : 40 ≤ length invite_out
  pub answer_space : 256 ≤ length answer_workspace
  pub answer_room : 40 ≤ length answer_out
  pub prove_space : 256 ≤ length prove_workspace
  pub prove_room : 15 ≤ length prove_out
  pub confirm_space : 256 ≤ length confirm_workspace
  pub confirm_room : 15 ≤ length confirm_out
  pub finish_space : 256 ≤ length finish_workspace

module _ {C K L : Type 0} (pid : ℕ) (e : List ℕ → List ℕ → List ℕ) (u : Lookups K L) where
  -- every call of the handshake is accepted, given what the other end wrote, and both open at number 0 with the same keys and counter
  pub record Opened (f : Fob C) (k : K) (na : Nonce) (x : Mixer C) (l : L) (nb : Nonce) (b : Buffers) : Type 0 where
    pub waiting : Invited C K
    pub answering : Answered C L
    pub proved : Proved C K
    pub fob : Open C K
    pub mixer : Open C L
    pub invites : invited f k na b.invite_out ≡ Ok waiting
    pub answers :
        answered pid e u.mixer_own u.mixer_replies x l nb (take 40 (invite_output pid u.fob_own k na b.invite_out))
        b.answer_workspace b.answer_out ≡ Ok answering
    pub proves :
        proven pid e u.fob_own u.fob_replies waiting
        (take 40 (answer_output pid e u.mixer_own u.mixer_replies x l nb (take 40 (invite_output pid u.fob_own k na b.invite_out))
        b.answer_workspace b.answer_out))
        b.prove_workspace b.prove_out ≡ Ok proved
    pub confirms :
        confirmed pid e answering
        (take 15 (prove_output pid e u.fob_own u.fob_replies waiting
        (take 40 (answer_output pid e u.mixer_own u.mixer_replies x l nb (take 40 (invite_output pid u.fob_own k na b.invite_out))
        b.answer_workspace b.answer_out))
        b.prove_workspace b.prove_out))
        b.confirm_workspace b.confirm_out ≡ Ok (mixer, ticket)
    pub finishes :
        finished pid e proved
        (take 15 (confirm_output pid e answering
        (take 15 (prove_output pid e u.fob_own u.fob_replies waiting
        (take 40 (answer_output pid e u.mixer_own u.mixer_replies x l nb (take 40 (invite_output pid u.fob_own k na b.invite_out))
        b.answer_workspace b.answer_out))
        b.prove_workspace b.prove_out))
        b.confirm_workspace b.confirm_out))
        b.finish_workspace ≡ Ok (fob, ticket)
    pub fob_role : fob.role ≡ AtFob
    pub mixer_role : mixer.role ≡ AtMixer
    pub same_epoch : fob.epoch ≡ mixer.epoch
    pub at_zero : fob.epoch.number ≡ 0

-- for every cipher meaning, any nonces, equal identities and lookups that answer each other with one secret
abbrev pub OpensUnaltered : (C K L : Type 0) → Type 0
OpensUnaltered C K L =
    (pid : ℕ) (e : List ℕ → List ℕ → List ℕ) (u : Lookups K L) (f : Fob C) (k : K) (na : Nonce) (x : Mixer C) (l : L) (nb : Nonce) (b : Buffers)
    → Blocks e → f.identities ≡ x.identities → Paired u k l → length na.octets ≡ 12 → length nb.octets ≡ 12
    → Opened pid e u f k na x l nb b

-- one end seals a payload, and the other unseals what was written: the payload comes out, with its number
pub record Passed {C A B : Type 0} (pid : ℕ) (e : List ℕ → List ℕ → List ℕ) (s : Open C A) (r : Open C B) (p w o w' o' : List ℕ) : Type 0 where
  pub seals : seal_check s p w o ≡ Ok (21 + length p)
  pub unseals : unseal_check pid e r (take (21 + length p) (seal_output pid e s p w o)) w' o' ≡ Ok (length p, s.epoch.number + 1)
  pub payload : take (length p) (unseal_output pid e r (take (21 + length p) (seal_output pid e s p w o)) w' o') ≡ p

-- with any buffers of full size
abbrev pub PassesOne : {C A B : Type 0} (pid : ℕ) (e : List ℕ → List ℕ → List ℕ) → Open C A → Open C B → List ℕ → Type 0
PassesOne pid e s r p =
    (w o w' o' : List ℕ) → 256 ≤ length w → 21 + length p ≤ length o → 256 ≤ length w' → 4096 ≤ length o' → Passed pid e s r p w o w' o'

-- payloads sealed in turn, beginning with the end whose turn it is; after them both ends have the number of the last
abbrev pub Passes : {C K L : Type 0} (pid : ℕ) (e : List ℕ → List ℕ → List ℕ) → Role → Open C K → Open C L → ℕ → List (List ℕ) → Type 0
Passes pid e turn f x n [] = (f.epoch.number ≡ n) × (x.epoch.number ≡ n)
Passes pid e AtFob f x n (p ∷ ps) =
    PassesOne pid e f x p × Passes pid e AtMixer (advanced_end f (length p)) (advanced_end x (length p)) (n + 1) ps
Passes pid e AtMixer f x n (p ∷ ps) =
    PassesOne pid e x f p × Passes pid e AtFob (advanced_end f (length p)) (advanced_end x (length p)) (n + 1) ps

-- each payload has at most 4,096 octets
abbrev pub Small : List (List ℕ) → Type 0
Small [] = Unit {0}
Small (p ∷ ps) = (length p ≤ 4096) × Small ps

-- every list of at most 16,777,215 payloads comes out whole
abbrev pub PassesUnaltered : (C K L : Type 0) → Type 0
PassesUnaltered C K L =
    (pid : ℕ) (e : List ℕ → List ℕ → List ℕ) (f : Open C K) (x : Open C L)
    → Blocks e → f.role ≡ AtFob → x.role ≡ AtMixer → f.epoch ≡ x.epoch → f.epoch.number ≡ 0
    → (ps : List (List ℕ)) → length ps ≤ 16777215 → Small ps → Passes pid e AtFob f x 0 ps

-- at number 16,777,215 seal and unseal get 4, at either end
abbrev pub EndsAtLast : (C K : Type 0) → Type 0
EndsAtLast C K =
    (pid : ℕ) (e : List ℕ → List ℕ → List ℕ) (x : Open C K) → x.epoch.number ≡ 16777215
    → (p m w o : List ℕ) → length p ≤ 4096 → 256 ≤ length w → 4117 ≤ length o
    → (seal_check x p w o ≡ Err (host_fault LastNumber)) × (unseal_check pid e x m w o ≡ Err (host_fault LastNumber))

-- an unaltered handshake whose ends keep the keys that they were given
pub record OpenedWith {C K L : Type 0} (pid : ℕ) (e : List ℕ → List ℕ → List ℕ) (u : Lookups K L) (f : Fob C) (k : K) (na : Nonce) (x : Mixer C) (l : L) (nb : Nonce) (b : Buffers) : Type 0 where
  pub opened : Opened pid e u f k na x l nb b
  pub fob_key : opened.fob.key ≡ k
  pub mixer_key : opened.mixer.key ≡ l

-- both ends have the same keys and counter, and the number n
pub record Level {C K L : Type 0} (f : Open C K) (x : Open C L) (n : ℕ) : Type 0 where
  pub fob_role : f.role ≡ AtFob
  pub mixer_role : x.role ≡ AtMixer
  pub same : f.epoch ≡ x.epoch
  pub at : f.epoch.number ≡ n
