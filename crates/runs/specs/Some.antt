-- The law of runs speaks of something: in some history without a lucky tag both ends open and payloads go both ways. And its condition on
-- the nonces is needed: where one is altered on the way, another payload can come out.
use Rattle.std.specs.Prelude.{◌≡◌, ℕ, ◌≢◌, List, [], ◌∷◌, length}
use Rattle.ends.specs.declared.Role.TheVariants.{Fob as AtFob, Mixer as AtMixer}
use Rattle.channel.specs.declared.Fob.{Fob}
use Rattle.channel.specs.declared.Mixer.{Mixer}
use Rattle.runs.specs.History.{Call, opens, unseals, ◌did◌, History, Lookups, history}
use Rattle.runs.specs.Law.{◌∈◌, sealed, unsealed, NoLuckyTag, NoncesAsSent, Named}
use Rattle.runs.specs.Unaltered.{Blocks}

-- all that a history depends on, with the premises of the law of runs, and a cipher of sixteen octets
pub record Run : Type 0 where
  pub pid : ℕ
  pub cipher : List ℕ → List ℕ → List ℕ
  pub lookups : Lookups (Unit {0}) (Unit {0})
  pub fob : Fob (Unit {0})
  pub mixer : Mixer (Unit {0})
  pub calls : List Call
  pub blocks : Blocks cipher
  pub named : Named fob mixer
  pub fob_25 : length (lookups.fob_own tt) ≡ 25
  pub mixer_25 : length (lookups.mixer_own tt) ≡ 25

abbrev pub ran : Run → History (Unit {0}) (Unit {0}) (Unit {0})
ran r = history r.pid r.cipher r.lookups r.fob tt r.mixer tt r.calls

-- both ends open, and a payload comes out at each
pub record SomeRun : Type 0 where
  pub run : Run
  pub no_lucky_tag : NoLuckyTag run.cipher (ran run)
  pub nonces_as_sent : NoncesAsSent (ran run).log
  pub mixer_opens : AtMixer did opens ∈ (ran run).log
  pub fob_opens : AtFob did opens ∈ (ran run).log
  pub to_mixer : AtMixer did unseals 1 (9 ∷ 8 ∷ []) ∈ (ran run).log
  pub to_fob : AtFob did unseals 2 (7 ∷ 6 ∷ 5 ∷ []) ∈ (ran run).log

-- both ends open, and at the mixer another payload comes out than the fob sealed
pub record SomeRunAltered : Type 0 where
  pub run : Run
  pub payload : List ℕ
  pub other_payload : List ℕ
  pub no_lucky_tag : NoLuckyTag run.cipher (ran run)
  pub mixer_opens : AtMixer did opens ∈ (ran run).log
  pub fob_opens : AtFob did opens ∈ (ran run).log
  pub sealed_so : sealed AtFob (ran run).log ≡ payload ∷ []
  pub unsealed_so : unsealed AtMixer (ran run).log ≡ other_payload ∷ []
  pub not_the_same : other_payload ≢ payload
