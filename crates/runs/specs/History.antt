-- Histories: what a list of calls makes of a fob and a mixer. Each call has the outcome that its own definition gives.
use Rattle.std.specs.Prelude.{ℕ, ◌+◌, List, [], ◌∷◌, ◌++◌, take, Ok, Err, fold, Result}
use Rattle.fault.specs.declared.Fault.{Fault}
use Rattle.fault.specs.declared.Layer.{Layer}
use Rattle.fault.specs.declared.Layer.TheVariants.{Host, Message, Handshake, Channel}
use Rattle.fault.specs.declared.HandshakeCause.TheVariants.{Tag as HandshakeTag, Label}
use Rattle.fault.specs.declared.ChannelCause.TheVariants.{Stale, Ahead, Tag as ChannelTag}
use Rattle.keyed.specs.Derivation.{derivation_results}
use Rattle.keyed.specs.Strings.{packet}
use Rattle.lookup.specs.Replies.{Reply}
use Rattle.message.specs.Layout.{number_at}
use Rattle.ends.specs.declared.Role.{Role}
use Rattle.ends.specs.declared.Role.TheVariants.{Fob as AtFob, Mixer as AtMixer}
use Rattle.channel.specs.declared.Fob.{Fob}
use Rattle.channel.specs.declared.Mixer.{Mixer}
use Rattle.channel.specs.declared.Invited.{Invited}
use Rattle.channel.specs.declared.Answered.{Answered}
use Rattle.channel.specs.declared.Proved.{Proved}
use Rattle.channel.specs.declared.Session.{Session}
use Rattle.channel.specs.declared.Open.{Open}
use Rattle.channel.specs.declared.Ticket.{Ticket}
use Rattle.channel.specs.declared.NotStarted.{NotStarted}
use Rattle.channel.specs.declared.Refused.{Refused}
use Rattle.channel.specs.Steps.{label_in, nonce_in, tag_in}
use Rattle.channel.specs.Handshake.{invited, answered, proven, confirmation_of, confirmation_tag, confirm_check, confirmed, finish_check, finished}
use Rattle.channel.specs.Packets.{data_in, tag_of, crypted, packet_tag, seal_check, seal_end, unseal_check, unseal_end, unseal_output}
use Rattle.runs.specs.declared.FobSide.{FobSide}
use Rattle.runs.specs.declared.FobSide.TheVariants.{Fresh as FreshFob, Invited as InvitedFob, Proved as ProvedFob, Open as OpenFob, Closed as ClosedFob}
use Rattle.runs.specs.declared.MixerSide.{MixerSide}
use Rattle.runs.specs.declared.MixerSide.TheVariants.{Fresh as FreshMixer, Answered as AnsweredMixer, Open as OpenMixer, Closed as ClosedMixer}

-- a call, with all that is handed to it and lent to it
pub data Call : Type 0 where
  invite : (nonce output : List ℕ) → Call
  answer : (nonce message workspace output : List ℕ) → Call
  prove : (message workspace output : List ℕ) → Call
  confirm : (message workspace output : List ℕ) → Call
  finish : (message workspace : List ℕ) → Call
  seal : (by : Role) (payload workspace output : List ℕ) → Call
  unseal : (by : Role) (message workspace output : List ℕ) → Call
  close : (by : Role) → Call

-- what an accepted call did
pub data Event : Type 0 where
  -- a label and a nonce written into a message, and read in one
  offers reads : (label nonce : List ℕ) → Event
  -- the fob's proof, and the opening of an end
  proves opens : Event
  -- a tag put into a message, and one accepted in a message
  sends accepts : (tag : List ℕ) → Event
  -- a payload sealed, with its packet's number and counter, and one unsealed
  seals : (number counter : ℕ) (payload : List ℕ) → Event
  unseals : (number : ℕ) (payload : List ℕ) → Event

infix 70 ◌did◌
pub data Entry : Type 0 where
  ◌did◌ : Role → Event → Entry

-- a key, and a string of which the result under that key is worked out
abbrev pub Keyed : Type 0
Keyed = List ℕ × List ℕ

-- what a call made of an end: its next state, the events, the latest first, and the keyed results that it worked out
pub record Done (S : Type 0) : Type 0 where
  pub next : S
  pub events : List Event
  pub worked : List Keyed

-- a call that the state does not allow, or that is refused before any tag was checked
abbrev pub idle : {S : Type 0} → S → Done S
idle s = record { next = s; events = []; worked = [] }

-- the octets of a secret
abbrev pub secret_in : Reply → List ℕ
secret_in (Ok z) = z
secret_in (Err x) = []

-- a tag was checked where the call was accepted, or refused for the tag
abbrev pub for_tag : Layer → List Keyed → List Keyed
for_tag (Host c) ks = []
for_tag (Message c) ks = []
for_tag (Handshake HandshakeTag) ks = ks
for_tag (Handshake Label) ks = []
for_tag (Channel Stale) ks = []
for_tag (Channel Ahead) ks = []
for_tag (Channel ChannelTag) ks = ks

abbrev pub checked_tag : {W : Type 0} → Result W Fault → List Keyed → List Keyed
checked_tag (Ok w) ks = ks
checked_tag (Err f) ks = for_tag f.layer ks

-- the calls, by the meaning of the cipher (pid and e) and of an end's key lookup (own label and replies)
module _ {C K : Type 0} (own : K → List ℕ) where
  -- invite puts the own label and the nonce on the air
  abbrev pub after_invite : Result (Invited C K) (NotStarted (Fob C) K) → Done (FobSide C K)
  after_invite (Ok i) = record { next = InvitedFob i; events = offers (own i.key) i.nonce.octets ∷ []; worked = [] }
  after_invite (Err r) = idle (FreshFob r.end r.key)

  abbrev pub invite_at : FobSide C K → (nonce output : List ℕ) → Done (FobSide C K)
  invite_at (FreshFob f k) n o = after_invite (invited f k (record { octets = n }) o)
  invite_at (InvitedFob i) n o = idle (InvitedFob i)
  invite_at (ProvedFob p) n o = idle (ProvedFob p)
  invite_at (OpenFob x t) n o = idle (OpenFob x t)
  invite_at ClosedFob n o = idle ClosedFob

-- the keyed results of a derivation
abbrev pub derivation : {K : Type 0} → (List ℕ → List ℕ → List ℕ) → Session K → List ℕ → List Keyed
derivation e s z = derivation_results e s.nonces.fob s.nonces.mixer s.identities.fob s.identities.mixer z

-- the keyed results behind the two confirmations
abbrev pub fob_confirmation : {K : Type 0} → ℕ → Session K → Keyed
fob_confirmation pid s = (s.keys.master, confirmation_of pid AtFob s)

abbrev pub mixer_confirmation : {K : Type 0} → ℕ → Session K → Keyed
mixer_confirmation pid s = (s.keys.master, confirmation_of pid AtMixer s)

module _ {C K : Type 0} (pid : ℕ) (e : List ℕ → List ℕ → List ℕ) (own : K → List ℕ) (replies : K → List ℕ → Reply) where
  -- answer reads a label and a nonce, derives, and puts its own on the air
  abbrev pub after_answer : List ℕ → Result (Answered C K) (NotStarted (Mixer C) K) → Done (MixerSide C K)
  after_answer m (Ok a) = record {
    next = AnsweredMixer a;
    events = offers (own a.session.key) a.session.nonces.mixer ∷ reads (label_in m) (nonce_in m) ∷ [];
    worked = derivation e a.session (secret_in (replies a.session.key (label_in m)));
  }
  after_answer m (Err r) = idle (FreshMixer r.end r.key)

  abbrev pub answer_at : MixerSide C K → (nonce message workspace output : List ℕ) → Done (MixerSide C K)
  answer_at (FreshMixer x k) n m w o = after_answer m (answered pid e own replies x k (record { octets = n }) m w o)
  answer_at (AnsweredMixer a) n m w o = idle (AnsweredMixer a)
  answer_at (OpenMixer x t) n m w o = idle (OpenMixer x t)
  answer_at ClosedMixer n m w o = idle ClosedMixer

  -- prove reads a label and a nonce, derives, and sends the fob's confirmation
  abbrev pub after_prove : List ℕ → Result (Proved C K) (Refused (Invited C K)) → Done (FobSide C K)
  after_prove m (Ok p) = record {
    next = ProvedFob p;
    events = sends (confirmation_tag pid e AtFob p.session) ∷ proves ∷ reads (label_in m) (nonce_in m) ∷ [];
    worked = fob_confirmation pid p.session ∷ derivation e p.session (secret_in (replies p.session.key (label_in m)));
  }
  after_prove m (Err r) = idle (InvitedFob r.end)

  abbrev pub prove_at : FobSide C K → (message workspace output : List ℕ) → Done (FobSide C K)
  prove_at (FreshFob f k) m w o = idle (FreshFob f k)
  prove_at (InvitedFob i) m w o = after_prove m (proven pid e own replies i m w o)
  prove_at (ProvedFob p) m w o = idle (ProvedFob p)
  prove_at (OpenFob x t) m w o = idle (OpenFob x t)
  prove_at ClosedFob m w o = idle ClosedFob

module _ {C K : Type 0} (pid : ℕ) (e : List ℕ → List ℕ → List ℕ) where
  -- confirm checks the fob's tag, sends the mixer's confirmation and opens
  abbrev pub after_confirm : Answered C K → List ℕ → Result (List ℕ) Fault → Result (Open C K × Ticket) (Refused (Answered C K)) → Done (MixerSide C K)
  after_confirm a m c (Ok r) = record {
    next = OpenMixer r.0 r.1;
    events = sends (confirmation_tag pid e AtMixer a.session) ∷ opens ∷ accepts (tag_in m) ∷ [];
    worked = mixer_confirmation pid a.session ∷ checked_tag c (fob_confirmation pid a.session ∷ []);
  }
  after_confirm a m c (Err r) = record { next = AnsweredMixer r.end; events = []; worked = checked_tag c (fob_confirmation pid a.session ∷ []) }

  abbrev pub confirm_at : MixerSide C K → (message workspace output : List ℕ) → Done (MixerSide C K)
  confirm_at (FreshMixer x k) m w o = idle (FreshMixer x k)
  confirm_at (AnsweredMixer a) m w o = after_confirm a m (confirm_check pid e a m w o) (confirmed pid e a m w o)
  confirm_at (OpenMixer x t) m w o = idle (OpenMixer x t)
  confirm_at ClosedMixer m w o = idle ClosedMixer

  -- finish checks the mixer's tag and opens
  abbrev pub after_finish : Proved C K → List ℕ → Result (Unit {0}) Fault → Result (Open C K × Ticket) (Refused (Proved C K)) → Done (FobSide C K)
  after_finish p m c (Ok r) = record {
    next = OpenFob r.0 r.1;
    events = opens ∷ accepts (tag_in m) ∷ [];
    worked = checked_tag c (mixer_confirmation pid p.session ∷ []);
  }
  after_finish p m c (Err r) = record { next = ProvedFob r.end; events = []; worked = checked_tag c (mixer_confirmation pid p.session ∷ []) }

  abbrev pub finish_at : FobSide C K → (message workspace : List ℕ) → Done (FobSide C K)
  finish_at (FreshFob f k) m w = idle (FreshFob f k)
  finish_at (InvitedFob i) m w = idle (InvitedFob i)
  finish_at (ProvedFob p) m w = after_finish p m (finish_check pid e p m w) (finished pid e p m w)
  finish_at (OpenFob x t) m w = idle (OpenFob x t)
  finish_at ClosedFob m w = idle ClosedFob

  -- seal sends a packet from the end's counter on
  abbrev pub sealed_by : Open C K → List ℕ → Result ℕ Fault → Done (Open C K)
  sealed_by x p (Ok n) = record {
    next = seal_end x p (Ok n);
    events = sends (packet_tag e x.epoch (x.epoch.number + 1) (crypted e x.epoch p)) ∷ seals (x.epoch.number + 1) x.epoch.keys.counter p ∷ [];
    worked = (x.epoch.keys.integrity, packet (x.epoch.number + 1) (crypted e x.epoch p)) ∷ [];
  }
  sealed_by x p (Err f) = idle (seal_end x p (Err f))

  -- unseal checks a packet's tag once its number has passed; the payload is as many first octets of the output as it answers
  abbrev pub unsealed_by : Open C K → (message workspace output : List ℕ) → Result (ℕ × ℕ) Fault → Done (Open C K)
  unsealed_by x m w o (Ok r) = record {
    next = unseal_end x (Ok r);
    events = unseals r.1 (take r.0 (unseal_output pid e x m w o)) ∷ accepts (tag_of m) ∷ [];
    worked = (x.epoch.keys.integrity, packet (number_at m 3) (data_in m)) ∷ [];
  }
  unsealed_by x m w o (Err f) = record {
    next = unseal_end x (Err f);
    events = [];
    worked = for_tag f.layer ((x.epoch.keys.integrity, packet (number_at m 3) (data_in m)) ∷ []);
  }

-- what is done at an open end is done at its side
abbrev pub at_fob : {C K : Type 0} → Ticket → Done (Open C K) → Done (FobSide C K)
at_fob t d = record { next = OpenFob d.next t; events = d.events; worked = d.worked }

abbrev pub at_mixer : {C K : Type 0} → Ticket → Done (Open C K) → Done (MixerSide C K)
at_mixer t d = record { next = OpenMixer d.next t; events = d.events; worked = d.worked }

abbrev pub open_fob_does : {C K : Type 0} → (Open C K → Done (Open C K)) → FobSide C K → Done (FobSide C K)
open_fob_does f (FreshFob x k) = idle (FreshFob x k)
open_fob_does f (InvitedFob i) = idle (InvitedFob i)
open_fob_does f (ProvedFob p) = idle (ProvedFob p)
open_fob_does f (OpenFob x t) = at_fob t (f x)
open_fob_does f ClosedFob = idle ClosedFob

abbrev pub open_mixer_does : {C K : Type 0} → (Open C K → Done (Open C K)) → MixerSide C K → Done (MixerSide C K)
open_mixer_does f (FreshMixer x k) = idle (FreshMixer x k)
open_mixer_does f (AnsweredMixer a) = idle (AnsweredMixer a)
open_mixer_does f (OpenMixer x t) = at_mixer t (f x)
open_mixer_does f ClosedMixer = idle ClosedMixer

-- both ends after some calls, all events, the latest first, and all keyed results
pub record History (C K L : Type 0) : Type 0 where
  pub fob : FobSide C K
  pub mixer : MixerSide C L
  pub log : List Entry
  pub worked : List Keyed

abbrev pub logged : Role → List Event → List Entry → List Entry
logged x [] log = log
logged x (k ∷ ks) log = x did k ∷ logged x ks log

abbrev pub fob_did : {C K L : Type 0} → History C K L → Done (FobSide C K) → History C K L
fob_did h d = record { fob = d.next; mixer = h.mixer; log = logged AtFob d.events h.log; worked = d.worked ++ h.worked }

abbrev pub mixer_did : {C K L : Type 0} → History C K L → Done (MixerSide C L) → History C K L
mixer_did h d = record { fob = h.fob; mixer = d.next; log = logged AtMixer d.events h.log; worked = d.worked ++ h.worked }

-- what two key lookups mean
pub record Lookups (K L : Type 0) : Type 0 where
  pub fob_own : K → List ℕ
  pub fob_replies : K → List ℕ → Reply
  pub mixer_own : L → List ℕ
  pub mixer_replies : L → List ℕ → Reply

abbrev pub lookups : {K L : Type 0} → (K → List ℕ) → (K → List ℕ → Reply) → (L → List ℕ) → (L → List ℕ → Reply) → Lookups K L
lookups fob-label fob-reply mixer-label mixer-reply = record {
  fob_own = fob-label;
  fob_replies = fob-reply;
  mixer_own = mixer-label;
  mixer_replies = mixer-reply;
}

-- nothing called yet
abbrev pub start : {C K L : Type 0} → Fob C → K → Mixer C → L → History C K L
start f k x l = record { fob = FreshFob f k; mixer = FreshMixer x l; log = []; worked = [] }

module _ {C K L : Type 0} (pid : ℕ) (e : List ℕ → List ℕ → List ℕ) (u : Lookups K L) where
  -- the history after one call more; closing an end that is not open is giving it up
  abbrev pub step : History C K L → Call → History C K L
  step h (invite n o) = fob_did h (invite_at u.fob_own h.fob n o)
  step h (answer n m w o) = mixer_did h (answer_at pid e u.mixer_own u.mixer_replies h.mixer n m w o)
  step h (prove m w o) = fob_did h (prove_at pid e u.fob_own u.fob_replies h.fob m w o)
  step h (confirm m w o) = mixer_did h (confirm_at pid e h.mixer m w o)
  step h (finish m w) = fob_did h (finish_at pid e h.fob m w)
  step h (seal AtFob p w o) = fob_did h (open_fob_does (λ x. sealed_by pid e x p (seal_check x p w o)) h.fob)
  step h (seal AtMixer p w o) = mixer_did h (open_mixer_does (λ x. sealed_by pid e x p (seal_check x p w o)) h.mixer)
  step h (unseal AtFob m w o) = fob_did h (open_fob_does (λ x. unsealed_by pid e x m w o (unseal_check pid e x m w o)) h.fob)
  step h (unseal AtMixer m w o) = mixer_did h (open_mixer_does (λ x. unsealed_by pid e x m w o (unseal_check pid e x m w o)) h.mixer)
  step h (close AtFob) = fob_did h (idle ClosedFob)
  step h (close AtMixer) = mixer_did h (idle ClosedMixer)

  -- the history of a list of calls, the first first
  unfoldable pub history : Fob C → K → Mixer C → L → List Call → History C K L
  history f k x l calls = fold step (start f k x l) calls
