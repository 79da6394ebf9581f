-- What the calls of the handshake make of an end, by the meaning of the cipher (its protocol identifier pid and its function e)
-- and of the key lookup (own label and replies).
use Rattle.std.specs.Prelude.{ℕ, cond, List, Ok, Err, Result}
use Rattle.std.specs.Str.{bytes_eq}
use Rattle.fault.specs.declared.Fault.{Fault}
use Rattle.fault.specs.declared.HandshakeCause.TheVariants.{Tag}
use Rattle.fault.specs.Faults.{handshake_fault}
use Rattle.keyed.specs.declared.derivation.SessionKeys.{SessionKeys}
use Rattle.ends.specs.declared.Role.{Role}
use Rattle.keyed.specs.Derivation.{derived}
use Rattle.keyed.specs.Strings.{confirmation}
use Rattle.keyed.specs.Xcbc.{tag}
use Rattle.lookup.specs.Replies.{Reply}
use Rattle.message.specs.Reading.{checked}
use Rattle.message.specs.Writing.{octets_of, act, verify}
use Rattle.channel.specs.declared.Nonce.{Nonce}
use Rattle.ends.specs.declared.Role.TheVariants.{Fob as FobRole, Mixer as MixerRole}
use Rattle.channel.specs.declared.Fob.{Fob}
use Rattle.channel.specs.declared.Invited.{Invited}
use Rattle.channel.specs.declared.Proved.{Proved}
use Rattle.channel.specs.declared.Mixer.{Mixer}
use Rattle.channel.specs.declared.Answered.{Answered}
use Rattle.channel.specs.declared.Session.{Session}
use Rattle.channel.specs.declared.Proof.{Proof}
use Rattle.channel.specs.declared.Open.{Open}
use Rattle.channel.specs.declared.Ticket.{Ticket}
use Rattle.channel.specs.declared.NotStarted.{NotStarted}
use Rattle.channel.specs.declared.Refused.{Refused}
use Rattle.channel.specs.Steps.{sized, and_then, secret_or, settled, started, written, label_in, nonce_in, tag_in}

-- the ticket that opening hands out
abbrev pub ticket : Ticket
ticket = record { spent = tt }

-- invite: the output has 40 octets; ACT_REQ with the own label and the nonce
abbrev pub invite_check : List ℕ → Result (Unit {0}) Fault
invite_check o = sized 40 o (Ok tt)

abbrev pub to_invited : {C K : Type 0} → Fob C → K → Nonce → Invited C K
to_invited f k n = record { identities = f.identities; key = k; nonce = n; cipher = f.cipher }

abbrev pub invited : {C K : Type 0} → Fob C → K → Nonce → List ℕ → Result (Invited C K) (NotStarted (Fob C) K)
invited f k n o = started f k n (λ u. to_invited f k n) (invite_check o)

abbrev pub invite_output : {K : Type 0} → ℕ → (K → List ℕ) → K → Nonce → List ℕ → List ℕ
invite_output pid own k n o = written 40 (λ u. octets_of 1 pid (act (own k) n.octets)) (invite_check o) o

module _ {C K : Type 0} (pid : ℕ) (e : List ℕ → List ℕ → List ℕ) (own : K → List ℕ) (replies : K → List ℕ → Reply) where
  -- answer: workspace, output of 40 octets, the check for kind 1, the label; ACT_RES with the own label and the nonce
  abbrev pub answer_check : Mixer C → K → Nonce → (message workspace output : List ℕ) → Result SessionKeys Fault
  answer_check x k n m w o =
      sized 256 w (sized 40 o (and_then (checked 1 pid m)
      (secret_or (replies k (label_in m)) λ z. Ok (derived e (nonce_in m) n.octets x.identities.fob x.identities.mixer z))))

  abbrev pub to_answered : Mixer C → K → Nonce → List ℕ → SessionKeys → Answered C K
  to_answered x k n m s = record {
    session = record {
      identities = x.identities;
      key = k;
      labels = record { fob = label_in m; mixer = own k };
      nonces = record { fob = nonce_in m; mixer = n.octets };
      keys = s;
    };
    cipher = x.cipher;
  }

  abbrev pub answered : Mixer C → K → Nonce → (message workspace output : List ℕ) → Result (Answered C K) (NotStarted (Mixer C) K)
  answered x k n m w o = started x k n (to_answered x k n m) (answer_check x k n m w o)

  abbrev pub answer_output : Mixer C → K → Nonce → (message workspace output : List ℕ) → List ℕ
  answer_output x k n m w o = written 40 (λ s. octets_of 2 pid (act (own k) n.octets)) (answer_check x k n m w o) o

  -- prove: workspace, output of 15 octets, the check for kind 2, the label; VFY_REQ with the fob's confirmation
  abbrev pub proof_of : Invited C K → List ℕ → SessionKeys → Proof
  proof_of i m s = record {
    keys = s;
    tag = tag e s.master
        (confirmation pid FobRole i.identities.fob i.identities.mixer (own i.key) (label_in m) i.nonce.octets (nonce_in m));
  }

  abbrev pub prove_check : Invited C K → (message workspace output : List ℕ) → Result Proof Fault
  prove_check i m w o =
      sized 256 w (sized 15 o (and_then (checked 2 pid m)
      (secret_or (replies i.key (label_in m)) λ z.
      Ok (proof_of i m (derived e i.nonce.octets (nonce_in m) i.identities.fob i.identities.mixer z)))))

  abbrev pub to_proved : Invited C K → List ℕ → Proof → Proved C K
  to_proved i m p = record {
    session = record {
      identities = i.identities;
      key = i.key;
      labels = record { fob = own i.key; mixer = label_in m };
      nonces = record { fob = i.nonce.octets; mixer = nonce_in m };
      keys = p.keys;
    };
    cipher = i.cipher;
  }

  abbrev pub proven : Invited C K → (message workspace output : List ℕ) → Result (Proved C K) (Refused (Invited C K))
  proven i m w o = settled i (to_proved i m) (prove_check i m w o)

  abbrev pub prove_output : Invited C K → (message workspace output : List ℕ) → List ℕ
  prove_output i m w o = written 15 (λ p. octets_of 3 pid (verify p.tag)) (prove_check i m w o) o

-- an end opens at number 0, with the first counter
abbrev pub open_mixer : {C K : Type 0} → Answered C K → Open C K
open_mixer a = record { role = MixerRole; key = a.session.key; epoch = record { keys = a.session.keys; number = 0 }; cipher = a.cipher }

abbrev pub open_fob : {C K : Type 0} → Proved C K → Open C K
open_fob p = record { role = FobRole; key = p.session.key; epoch = record { keys = p.session.keys; number = 0 }; cipher = p.cipher }

module _ {K : Type 0} (pid : ℕ) where
  -- the string of the fob's or the mixer's confirmation
  abbrev pub confirmation_of : Role → Session K → List ℕ
  confirmation_of which s =
      confirmation pid which s.identities.fob s.identities.mixer s.labels.fob s.labels.mixer s.nonces.fob s.nonces.mixer

  -- and its tag under MK
  abbrev pub confirmation_tag : (List ℕ → List ℕ → List ℕ) → Role → Session K → List ℕ
  confirmation_tag e which s = tag e s.keys.master (confirmation_of which s)

module _ {C K : Type 0} (pid : ℕ) (e : List ℕ → List ℕ → List ℕ) where
  -- confirm: workspace, output of 15 octets, the check for kind 3, the fob's tag; VFY_RES with the mixer's confirmation
  abbrev pub confirm_check : Answered C K → (message workspace output : List ℕ) → Result (List ℕ) Fault
  confirm_check a m w o =
      sized 256 w (sized 15 o (and_then (checked 3 pid m)
      (cond (bytes_eq (confirmation_tag pid e FobRole a.session) (tag_in m)) (Ok (confirmation_tag pid e MixerRole a.session)) (Err (handshake_fault Tag 3)))))

  abbrev pub confirmed : Answered C K → (message workspace output : List ℕ) → Result (Open C K × Ticket) (Refused (Answered C K))
  confirmed a m w o = settled a (λ t. (open_mixer a, ticket)) (confirm_check a m w o)

  abbrev pub confirm_output : Answered C K → (message workspace output : List ℕ) → List ℕ
  confirm_output a m w o = written 15 (λ t. octets_of 4 pid (verify t)) (confirm_check a m w o) o

  -- finish: workspace, the check for kind 4, the mixer's tag
  abbrev pub finish_check : Proved C K → (message workspace : List ℕ) → Result (Unit {0}) Fault
  finish_check p m w =
      sized 256 w (and_then (checked 4 pid m)
      (cond (bytes_eq (confirmation_tag pid e MixerRole p.session) (tag_in m)) (Ok tt) (Err (handshake_fault Tag 3))))

  abbrev pub finished : Proved C K → (message workspace : List ℕ) → Result (Open C K × Ticket) (Refused (Proved C K))
  finished p m w = settled p (λ u. (open_fob p, ticket)) (finish_check p m w)
