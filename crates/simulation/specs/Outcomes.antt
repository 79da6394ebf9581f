-- What a call came to, as it is told: whether it was allowed and accepted, and the message that it wrote.
use Rattle.std.specs.Prelude.{ℕ, ◌+◌, List, length, take, Ok, Err, vec_items, Result}
use Rattle.fault.specs.declared.Fault.{Fault}
use Rattle.lookup.specs.Replies.{Reply}
use Rattle.ends.specs.declared.Role.TheVariants.{Fob as AtFob, Mixer as AtMixer}
use Rattle.channel.specs.declared.Open.{Open}
use Rattle.channel.specs.declared.NotStarted.{NotStarted}
use Rattle.channel.specs.declared.Refused.{Refused}
use Rattle.channel.specs.Handshake.{invited, invite_output, answered, answer_output, proven, prove_output, confirmed, confirm_output, finished}
use Rattle.channel.specs.Packets.{seal_check, seal_output, unseal_check}
use Rattle.runs.specs.declared.FobSide.{FobSide}
use Rattle.runs.specs.declared.FobSide.TheVariants.{Fresh as FreshFob, Invited as InvitedFob, Proved as ProvedFob, Open as OpenFob, Closed as ClosedFob}
use Rattle.runs.specs.declared.MixerSide.{MixerSide}
use Rattle.runs.specs.declared.MixerSide.TheVariants.{Fresh as FreshMixer, Answered as AnsweredMixer, Open as OpenMixer, Closed as ClosedMixer}
use Rattle.simulation.specs.declared.record.Outcome.{Outcome}
use Rattle.simulation.specs.declared.record.Outcome.TheVariants.{NotAllowed, Refused as WasRefused, Sent, Done as WasDone}
use Rattle.runs.specs.History.{Call, invite, answer, prove, confirm, finish, seal, unseal, close, Lookups}

-- not allowed in the end's state, refused, or accepted, with a message or without
pub data Came : Type 0 where
  not_allowed : Came
  refused : Fault → Came
  sent : List ℕ → Came
  done : Came

abbrev pub outcome_in : Outcome → Came
outcome_in NotAllowed = not_allowed
outcome_in (WasRefused f) = refused f
outcome_in (Sent v) = sent (vec_items v)
outcome_in WasDone = done

-- an accepted call is told, or the fault of a refused one
abbrev pub told : {W : Type 0} → Came → Result W Fault → Came
told c (Ok w) = c
told c (Err f) = refused f

abbrev pub told_start : {F E K : Type 0} → Came → Result F (NotStarted E K) → Came
told_start c (Ok w) = c
told_start c (Err r) = refused r.fault

abbrev pub told_move : {F E : Type 0} → Came → Result F (Refused E) → Came
told_move c (Ok w) = c
told_move c (Err r) = refused r.fault

module _ {C K : Type 0} (pid : ℕ) (own : K → List ℕ) where
  abbrev pub invite_came : FobSide C K → (nonce output : List ℕ) → Came
  invite_came (FreshFob f k) n o = told_start (sent (take 40 (invite_output pid own k (record { octets = n }) o))) (invited f k (record { octets = n }) o)
  invite_came (InvitedFob i) n o = not_allowed
  invite_came (ProvedFob p) n o = not_allowed
  invite_came (OpenFob x t) n o = not_allowed
  invite_came ClosedFob n o = not_allowed

module _ {C K : Type 0} (pid : ℕ) (e : List ℕ → List ℕ → List ℕ) (own : K → List ℕ) (replies : K → List ℕ → Reply) where
  abbrev pub answer_came : MixerSide C K → (nonce message workspace output : List ℕ) → Came
  answer_came (FreshMixer x k) n m w o =
      told_start (sent (take 40 (answer_output pid e own replies x k (record { octets = n }) m w o))) (answered pid e own replies x k (record { octets = n }) m w o)
  answer_came (AnsweredMixer a) n m w o = not_allowed
  answer_came (OpenMixer x t) n m w o = not_allowed
  answer_came ClosedMixer n m w o = not_allowed

  abbrev pub prove_came : FobSide C K → (message workspace output : List ℕ) → Came
  prove_came (FreshFob f k) m w o = not_allowed
  prove_came (InvitedFob i) m w o = told_move (sent (take 15 (prove_output pid e own replies i m w o))) (proven pid e own replies i m w o)
  prove_came (ProvedFob p) m w o = not_allowed
  prove_came (OpenFob x t) m w o = not_allowed
  prove_came ClosedFob m w o = not_allowed

module _ {C K : Type 0} (pid : ℕ) (e : List ℕ → List ℕ → List ℕ) where
  abbrev pub confirm_came : MixerSide C K → (message workspace output : List ℕ) → Came
  confirm_came (FreshMixer x k) m w o = not_allowed
  confirm_came (AnsweredMixer a) m w o = told_move (sent (take 15 (confirm_output pid e a m w o))) (confirmed pid e a m w o)
  confirm_came (OpenMixer x t) m w o = not_allowed
  confirm_came ClosedMixer m w o = not_allowed

  abbrev pub finish_came : FobSide C K → (message workspace : List ℕ) → Came
  finish_came (FreshFob f k) m w = not_allowed
  finish_came (InvitedFob i) m w = not_allowed
  finish_came (ProvedFob p) m w = told_move done (finished pid e p m w)
  finish_came (OpenFob x t) m w = not_allowed
  finish_came ClosedFob m w = not_allowed

  abbrev pub seal_came : Open C K → (payload workspace output : List ℕ) → Came
  seal_came x p w o = told (sent (take (21 + length p) (seal_output pid e x p w o))) (seal_check x p w o)

  abbrev pub unseal_came : Open C K → (message workspace output : List ℕ) → Came
  unseal_came x m w o = told done (unseal_check pid e x m w o)

-- at an open end; and closing, once
module _ {C K : Type 0} where
  abbrev pub open_fob_came : (Open C K → Came) → FobSide C K → Came
  open_fob_came f (FreshFob x k) = not_allowed
  open_fob_came f (InvitedFob i) = not_allowed
  open_fob_came f (ProvedFob p) = not_allowed
  open_fob_came f (OpenFob x t) = f x
  open_fob_came f ClosedFob = not_allowed

  abbrev pub open_mixer_came : (Open C K → Came) → MixerSide C K → Came
  open_mixer_came f (FreshMixer x k) = not_allowed
  open_mixer_came f (AnsweredMixer a) = not_allowed
  open_mixer_came f (OpenMixer x t) = f x
  open_mixer_came f ClosedMixer = not_allowed

  abbrev pub close_fob_came : FobSide C K → Came
  close_fob_came (FreshFob x k) = done
  close_fob_came (InvitedFob i) = done
  close_fob_came (ProvedFob p) = done
  close_fob_came (OpenFob x t) = done
  close_fob_came ClosedFob = not_allowed

  abbrev pub close_mixer_came : MixerSide C K → Came
  close_mixer_came (FreshMixer x k) = done
  close_mixer_came (AnsweredMixer a) = done
  close_mixer_came (OpenMixer x t) = done
  close_mixer_came ClosedMixer = not_allowed

-- of any call, at the two ends as they are
module _ {C K L : Type 0} (pid : ℕ) (e : List ℕ → List ℕ → List ℕ) (u : Lookups K L) where
  abbrev pub came : FobSide C K → MixerSide C L → Call → Came
  came f x (invite n o) = invite_came pid u.fob_own f n o
  came f x (answer n m w o) = answer_came pid e u.mixer_own u.mixer_replies x n m w o
  came f x (prove m w o) = prove_came pid e u.fob_own u.fob_replies f m w o
  came f x (confirm m w o) = confirm_came pid e x m w o
  came f x (finish m w) = finish_came pid e f m w
  came f x (seal AtFob p w o) = open_fob_came (λ y. seal_came pid e y p w o) f
  came f x (seal AtMixer p w o) = open_mixer_came (λ y. seal_came pid e y p w o) x
  came f x (unseal AtFob m w o) = open_fob_came (λ y. unseal_came pid e y m w o) f
  came f x (unseal AtMixer m w o) = open_mixer_came (λ y. unseal_came pid e y m w o) x
  came f x (close AtFob) = close_fob_came f
  came f x (close AtMixer) = close_mixer_came x
