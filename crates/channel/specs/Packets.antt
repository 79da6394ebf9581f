-- What the calls of an open end make of it, by the meaning of the cipher: its protocol identifier pid and its function e.
use Rattle.std.specs.Prelude.{ℕ, ◌+◌, ◌%◌, Bool, cond, not, List, ◌++◌, length, take, drop, Ok, Err, Result, ◌==◌, nat_le, nat_lt}
use Rattle.std.specs.Str.{bytes_eq}
use Rattle.fault.specs.declared.Fault.{Fault}
use Rattle.fault.specs.declared.HostCause.TheVariants.{PayloadLength, Turn, LastNumber}
use Rattle.fault.specs.declared.ChannelCause.TheVariants.{Stale, Ahead, Tag}
use Rattle.fault.specs.Faults.{host_fault, channel_fault}
use Rattle.keyed.specs.Keystream.{xored, moved}
use Rattle.keyed.specs.Strings.{packet}
use Rattle.keyed.specs.Xcbc.{tag}
use Rattle.message.specs.Layout.{number_at}
use Rattle.message.specs.Reading.{checked}
use Rattle.message.specs.Writing.{octets_of, enc}
use Rattle.ends.specs.declared.Role.{Role}
use Rattle.ends.specs.declared.Role.TheVariants.{Fob, Mixer}
use Rattle.channel.specs.declared.Epoch.{Epoch}
use Rattle.channel.specs.declared.Open.{Open}
use Rattle.channel.specs.Steps.{sized, unless, and_then, written}

-- odd numbers are the fob's packets, even ones the mixer's: at an even own number the fob seals, at an odd one the mixer
abbrev pub seals_at : Role → ℕ → Bool
seals_at Fob n = n % 2 == 0
seals_at Mixer n = n % 2 == 1

-- number and counter after a packet of n octets
abbrev pub advanced : Epoch → ℕ → Epoch
advanced p n = record {
  keys = record {
    master = p.keys.master;
    encryption = p.keys.encryption;
    integrity = p.keys.integrity;
    counter = moved p.keys.counter n;
  };
  number = p.number + 1;
}

-- an end after a packet of n octets
abbrev pub advanced_end : {C K : Type 0} → Open C K → ℕ → Open C K
advanced_end x n = record { role = x.role; key = x.key; epoch = advanced x.epoch n; cipher = x.cipher }

-- the fields of a packet
abbrev pub data_in : List ℕ → List ℕ
data_in m = take (number_at m 6) (drop 9 m)

abbrev pub tag_of : List ℕ → List ℕ
tag_of m = take 12 (drop (9 + number_at m 6) m)

module _ (e : List ℕ → List ℕ → List ℕ) where
  -- data under the keystream from the end's counter on, and the tag of a packet
  abbrev pub crypted : Epoch → List ℕ → List ℕ
  crypted p d = xored e p.keys.encryption p.keys.counter d

  abbrev pub packet_tag : Epoch → ℕ → List ℕ → List ℕ
  packet_tag p number d = tag e p.keys.integrity (packet number d)

  -- the packet that seal writes
  abbrev pub sealed_packet : ℕ → Epoch → List ℕ → List ℕ
  sealed_packet pid p payload = octets_of 5 pid (enc (p.number + 1) (crypted p payload) (packet_tag p (p.number + 1) (crypted p payload)))

-- seal: workspace, payload, output, last number, turn; answers how many octets the packet has
abbrev pub seal_check : {C K : Type 0} → Open C K → (payload workspace output : List ℕ) → Result ℕ Fault
seal_check x p w o =
    sized 256 w (unless (nat_lt 4096 (length p)) (host_fault PayloadLength) (sized (21 + length p) o
    (unless (nat_le 16777215 x.epoch.number) (host_fault LastNumber)
    (unless (not (seals_at x.role x.epoch.number)) (host_fault Turn) (Ok (21 + length p))))))

abbrev pub seal_end : {C K : Type 0} → Open C K → List ℕ → Result ℕ Fault → Open C K
seal_end x p (Ok n) = advanced_end x (length p)
seal_end x p (Err f) = x

abbrev pub unseal_end : {C K : Type 0} → Open C K → Result (ℕ × ℕ) Fault → Open C K
unseal_end x (Ok r) = advanced_end x r.0
unseal_end x (Err f) = x

module _ {C K : Type 0} (pid : ℕ) (e : List ℕ → List ℕ → List ℕ) where
  abbrev pub seal_output : Open C K → (payload workspace output : List ℕ) → List ℕ
  seal_output x p w o = written (21 + length p) (λ n. sealed_packet e pid x.epoch p) (seal_check x p w o) o

  -- unseal: workspace, output, last number, turn, the check for kind 5, the number, the tag; answers the payload's length and its number
  abbrev pub unseal_check : Open C K → (message workspace output : List ℕ) → Result (ℕ × ℕ) Fault
  unseal_check x m w o =
      sized 256 w (sized 4096 o
      (unless (nat_le 16777215 x.epoch.number) (host_fault LastNumber)
      (unless (seals_at x.role x.epoch.number) (host_fault Turn)
      (and_then (checked 5 pid m)
      (unless (nat_le (number_at m 3) x.epoch.number) (channel_fault Stale 3)
      (unless (nat_lt (x.epoch.number + 1) (number_at m 3)) (channel_fault Ahead 3)
      (cond (bytes_eq (packet_tag e x.epoch (number_at m 3) (data_in m)) (tag_of m)) (Ok (number_at m 6, number_at m 3))
      (Err (channel_fault Tag (9 + number_at m 6))))))))))

  abbrev pub unseal_output : Open C K → (message workspace output : List ℕ) → List ℕ
  unseal_output x m w o = written (number_at m 6) (λ r. crypted e x.epoch (data_in m)) (unseal_check x m w o) o

-- close gives back the own key and the last number
abbrev pub closed : {C K : Type 0} → Open C K → K × ℕ
closed x = (x.key, x.epoch.number)
