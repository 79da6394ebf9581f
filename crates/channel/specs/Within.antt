-- The part of each call's check that comes after the size of its workspace was tested, and what a packet that fits is.
use Rattle.std.specs.Prelude.{◌≡◌, ℕ, ◌+◌, ◌≤◌, cond, not, List, length, Ok, Err, Result, nat_le, nat_lt}
use Rattle.std.specs.Str.{bytes_eq}
use Rattle.fault.specs.declared.Fault.{Fault}
use Rattle.fault.specs.declared.HostCause.TheVariants.{PayloadLength, Turn, LastNumber}
use Rattle.fault.specs.declared.HandshakeCause.TheVariants.{Tag as HandshakeTag}
use Rattle.fault.specs.declared.ChannelCause.TheVariants.{Stale, Ahead, Tag}
use Rattle.fault.specs.Faults.{host_fault, handshake_fault, channel_fault}
use Rattle.keyed.specs.declared.derivation.SessionKeys.{SessionKeys}
use Rattle.ends.specs.declared.Role.TheVariants.{Fob as FobRole, Mixer as MixerRole}
use Rattle.keyed.specs.Derivation.{derived}
use Rattle.lookup.specs.Replies.{Reply}
use Rattle.message.specs.Layout.{number_at}
use Rattle.message.specs.Reading.{checked}
use Rattle.channel.specs.declared.Nonce.{Nonce}
use Rattle.channel.specs.declared.Invited.{Invited}
use Rattle.channel.specs.declared.Proved.{Proved}
use Rattle.channel.specs.declared.Mixer.{Mixer}
use Rattle.channel.specs.declared.Answered.{Answered}
use Rattle.channel.specs.declared.Proof.{Proof}
use Rattle.channel.specs.declared.Epoch.{Epoch}
use Rattle.channel.specs.declared.Open.{Open}
use Rattle.channel.specs.Steps.{sized, unless, and_then, secret_or, label_in, nonce_in, tag_in}
use Rattle.channel.specs.Handshake.{proof_of, confirmation_tag}
use Rattle.channel.specs.Packets.{seals_at, data_in, tag_of, packet_tag}

module _ {C K : Type 0} (pid : ℕ) (e : List ℕ → List ℕ → List ℕ) (own : K → List ℕ) (replies : K → List ℕ → Reply) where
  -- answer, in a workspace that is large enough
  abbrev pub answer_within : Mixer C → K → Nonce → (message output : List ℕ) → Result SessionKeys Fault
  answer_within x k n m o =
      sized 40 o (and_then (checked 1 pid m)
      (secret_or (replies k (label_in m)) λ z. Ok (derived e (nonce_in m) n.octets x.identities.fob x.identities.mixer z)))

  -- prove, in a workspace that is large enough
  abbrev pub prove_within : Invited C K → (message output : List ℕ) → Result Proof Fault
  prove_within i m o =
      sized 15 o (and_then (checked 2 pid m)
      (secret_or (replies i.key (label_in m)) λ z.
      Ok (proof_of pid e own replies i m (derived e i.nonce.octets (nonce_in m) i.identities.fob i.identities.mixer z))))

module _ {C K : Type 0} (pid : ℕ) (e : List ℕ → List ℕ → List ℕ) where
  -- confirm, in a workspace that is large enough
  abbrev pub confirm_within : Answered C K → (message output : List ℕ) → Result (List ℕ) Fault
  confirm_within a m o =
      sized 15 o (and_then (checked 3 pid m)
      (cond (bytes_eq (confirmation_tag pid e FobRole a.session) (tag_in m)) (Ok (confirmation_tag pid e MixerRole a.session))
      (Err (handshake_fault HandshakeTag 3))))

  -- finish, in a workspace that is large enough
  abbrev pub finish_within : Proved C K → (message : List ℕ) → Result (Unit {0}) Fault
  finish_within p m =
      and_then (checked 4 pid m)
      (cond (bytes_eq (confirmation_tag pid e MixerRole p.session) (tag_in m)) (Ok tt) (Err (handshake_fault HandshakeTag 3)))

-- seal, in a workspace that is large enough
abbrev pub seal_within : {C K : Type 0} → Open C K → (payload output : List ℕ) → Result ℕ Fault
seal_within x p o =
    unless (nat_lt 4096 (length p)) (host_fault PayloadLength) (sized (21 + length p) o
    (unless (nat_le 16777215 x.epoch.number) (host_fault LastNumber)
    (unless (not (seals_at x.role x.epoch.number)) (host_fault Turn) (Ok (21 + length p)))))

-- a packet that comes in: the check for kind 5, the number, the tag
abbrev pub packet_check : (List ℕ → List ℕ → List ℕ) → ℕ → Epoch → List ℕ → Result (ℕ × ℕ) Fault
packet_check e pid p m =
    and_then (checked 5 pid m)
    (unless (nat_le (number_at m 3) p.number) (channel_fault Stale 3)
    (unless (nat_lt (p.number + 1) (number_at m 3)) (channel_fault Ahead 3)
    (cond (bytes_eq (packet_tag e p (number_at m 3) (data_in m)) (tag_of m)) (Ok (number_at m 6, number_at m 3))
    (Err (channel_fault Tag (9 + number_at m 6))))))

-- unseal, in a workspace that is large enough
abbrev pub unseal_within : {C K : Type 0} → ℕ → (List ℕ → List ℕ → List ℕ) → Open C K → (message output : List ℕ) → Result (ℕ × ℕ) Fault
unseal_within pid e x m o =
    sized 4096 o
    (unless (nat_le 16777215 x.epoch.number) (host_fault LastNumber)
    (unless (seals_at x.role x.epoch.number) (host_fault Turn) (packet_check e pid x.epoch m)))

-- number and counter after a packet, by the counter that its keystream ended at
abbrev pub advanced_to : Epoch → ℕ → Epoch
advanced_to p counter = record {
  keys = record {
    master = p.keys.master;
    encryption = p.keys.encryption;
    integrity = p.keys.integrity;
    counter = counter;
  };
  number = p.number + 1;
}

-- a packet with a payload of n octets
pub record Fits (m : List ℕ) (n : ℕ) : Type 0 where
  pub field : n ≡ number_at m 6
  pub small : n ≤ 4096
  pub whole : length m ≡ 21 + n
