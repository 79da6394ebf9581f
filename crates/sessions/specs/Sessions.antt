-- What comes of a fob and a mixer that are given each other's messages.
use Rattle.std.specs.Prelude.{◌≡◌, ℕ, ◌+◌, ◌%◌, ◌<◌, ◌≤◌, Bool, true, false, cond, List, [], ◌∷◌, map, length, replicate, Ok, Err, Result, ◌==◌}
use Rattle.std.specs.Borrow.{Bor}
use Rattle.std.specs.Str.{bytes_eq}
use Rattle.fault.specs.declared.Fault.{Fault}
use Rattle.channel.specs.declared.Open.{Open}
use Rattle.channel.specs.Steps.{and_then}
use Rattle.channel.specs.Packets.{seals_at, advanced_end, data_in, crypted, sealed_packet, seal_end, unseal_end}
use Rattle.channel.specs.Within.{seal_within, unseal_within}
use Rattle.sessions.specs.declared.unaltered.Pair.{Pair}
use Rattle.runs.specs.Law.{other}

-- a buffer of n octets
unfoldable pub zeros : ℕ → List ℕ
zeros n = replicate n 0

-- what sealing a payload answers, with a buffer for the longest packet; and the end after it
abbrev pub sealing : {C A : Type 0} → Open C A → List ℕ → Result ℕ Fault
sealing s p = seal_within s p (zeros 4117)

abbrev pub sealer_after : {C A : Type 0} → Open C A → List ℕ → Open C A
sealer_after s p = seal_end s p (sealing s p)

module _ {C A B : Type 0} (pid : ℕ) (e : List ℕ → List ℕ → List ℕ) where
  -- what unsealing its packet answers at the other end, with a buffer for the longest payload; and that end after it
  abbrev pub unsealing : Open C A → Open C B → List ℕ → Result (ℕ × ℕ) Fault
  unsealing s r p = unseal_within pid e r (sealed_packet e pid s.epoch p) (zeros 4096)

  abbrev pub unsealer_after : Open C A → Open C B → List ℕ → Open C B
  unsealer_after s r p = unseal_end r (and_then (sealing s p) (unsealing s r p))

  -- whether the payload that comes out is the one that went in
  abbrev pub came_out : Open C A → Open C B → List ℕ → Bool
  came_out s r p = bytes_eq (crypted e r.epoch (data_in (sealed_packet e pid s.epoch p))) p

  -- the first refusal, or whether the same payload came out
  abbrev pub passing : Open C A → Open C B → List ℕ → Result Bool Fault
  passing s r p = and_then (sealing s p) (and_then (unsealing s r p) (Ok (came_out s r p)))

-- two ends with the same keys, counter and number, below the last, and a payload that is not too long: s seals, r unseals
pub record Ready {C A B : Type 0} (s : Open C A) (r : Open C B) (p : List ℕ) : Type 0 where
  pub same : s.epoch ≡ r.epoch
  pub below : s.epoch.number < 16777215
  pub roles : r.role ≡ other s.role
  pub turn : seals_at s.role s.epoch.number ≡ true
  pub small : length p ≤ 4096

-- the payload came through, and both ends moved on by one packet
pub record Through {C A B : Type 0} (s s' : Open C A) (r r' : Open C B) (p : List ℕ) (answer : Result Bool Fault) : Type 0 where
  pub came : answer ≡ Ok true
  pub sealer : s' ≡ advanced_end s (length p)
  pub unsealer : r' ≡ advanced_end r (length p)

-- whether a payload came through: not where one of the ends refused
abbrev pub through : Result Bool Fault → Bool
through (Ok b) = b
through (Err f) = false

-- at an even number the fob seals, at an odd one the mixer
abbrev pub fobs_turn : {C K L : Type 0} → Pair C K L → Bool
fobs_turn x = x.fob.epoch.number % 2 == 0

module _ {C K L : Type 0} (pid : ℕ) (e : List ℕ → List ℕ → List ℕ) where
  abbrev pub fob_passes : Pair C K L → List ℕ → Pair C K L
  fob_passes x p = record {
    fob = sealer_after x.fob p;
    fob_ticket = x.fob_ticket;
    mixer = unsealer_after pid e x.fob x.mixer p;
    mixer_ticket = x.mixer_ticket;
  }

  abbrev pub mixer_passes : Pair C K L → List ℕ → Pair C K L
  mixer_passes x p = record {
    fob = unsealer_after pid e x.mixer x.fob p;
    fob_ticket = x.fob_ticket;
    mixer = sealer_after x.mixer p;
    mixer_ticket = x.mixer_ticket;
  }

  -- both ends after a payload in turn, and whether it came through
  abbrev pub pair_after : Pair C K L → List ℕ → Pair C K L
  pair_after x p = cond (fobs_turn x) (fob_passes x p) (mixer_passes x p)

  abbrev pub comes_through : Pair C K L → List ℕ → Bool
  comes_through x p = through (cond (fobs_turn x) (passing pid e x.fob x.mixer p) (passing pid e x.mixer x.fob p))

  -- payloads in turn up to the first that does not come through: how many come through, and both ends after them
  abbrev pub how_many : Pair C K L → List (List ℕ) → ℕ
  how_many x [] = 0
  how_many x (p ∷ ps) = cond (comes_through x p) (1 + how_many (pair_after x p) ps) 0

  abbrev pub pair_after_all : Pair C K L → List (List ℕ) → Pair C K L
  pair_after_all x [] = x
  pair_after_all x (p ∷ ps) = cond (comes_through x p) (pair_after_all (pair_after x p) ps) (pair_after x p)

-- what borrowed payloads hold
abbrev pub held : List (Bor (List ℕ)) → List (List ℕ)
held ps = map (λ (p : Bor (List ℕ)). p.now) ps
