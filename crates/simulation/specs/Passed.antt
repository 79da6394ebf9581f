-- Packets that are passed between two open ends and are not recorded.
use Rattle.std.specs.Prelude.{ℕ, List}
use Rattle.channel.specs.declared.Open.{Open}
use Rattle.channel.specs.declared.Ticket.{Ticket}
use Rattle.runs.specs.declared.FobSide.{FobSide}
use Rattle.runs.specs.declared.FobSide.TheVariants.{Fresh as FreshFob, Invited as InvitedFob, Proved as ProvedFob, Open as OpenFob, Closed as ClosedFob}
use Rattle.runs.specs.declared.MixerSide.{MixerSide}
use Rattle.runs.specs.declared.MixerSide.TheVariants.{Fresh as FreshMixer, Answered as AnsweredMixer, Open as OpenMixer, Closed as ClosedMixer}
use Rattle.sessions.specs.declared.unaltered.Pair.{Pair}
use Rattle.sessions.specs.Sessions.{how_many, pair_after_all}

-- both ends, and how many payloads came through
pub record Passed (C K L : Type 0) : Type 0 where
  pub fob : FobSide C K
  pub mixer : MixerSide C L
  pub count : ℕ

-- ends that are not both open stay as they are
abbrev pub unpassed : {C K L : Type 0} → FobSide C K → MixerSide C L → Passed C K L
unpassed f x = record { fob = f; mixer = x; count = 0 }

abbrev pub pair_of : {C K L : Type 0} → Open C K → Ticket → Open C L → Ticket → Pair C K L
pair_of f t x u = record { fob = f; fob_ticket = t; mixer = x; mixer_ticket = u }

module _ {C K L : Type 0} (pid : ℕ) (e : List ℕ → List ℕ → List ℕ) where
  abbrev pub passed_with : Open C K → Ticket → MixerSide C L → List (List ℕ) → Passed C K L
  passed_with f t (OpenMixer x u) ps = record {
    fob = OpenFob (pair_after_all pid e (pair_of f t x u) ps).fob (pair_after_all pid e (pair_of f t x u) ps).fob_ticket;
    mixer = OpenMixer (pair_after_all pid e (pair_of f t x u) ps).mixer (pair_after_all pid e (pair_of f t x u) ps).mixer_ticket;
    count = how_many pid e (pair_of f t x u) ps;
  }
  passed_with f t (FreshMixer x k) ps = unpassed (OpenFob f t) (FreshMixer x k)
  passed_with f t (AnsweredMixer a) ps = unpassed (OpenFob f t) (AnsweredMixer a)
  passed_with f t ClosedMixer ps = unpassed (OpenFob f t) ClosedMixer

  -- payloads in turn between a fob and a mixer, wherever their sessions are
  abbrev pub passed_between : FobSide C K → MixerSide C L → List (List ℕ) → Passed C K L
  passed_between (OpenFob f t) x ps = passed_with f t x ps
  passed_between (FreshFob f k) x ps = unpassed (FreshFob f k) x
  passed_between (InvitedFob i) x ps = unpassed (InvitedFob i) x
  passed_between (ProvedFob p) x ps = unpassed (ProvedFob p) x
  passed_between ClosedFob x ps = unpassed ClosedFob x
