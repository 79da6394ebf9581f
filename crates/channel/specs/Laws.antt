-- What a refused call keeps, and what an accepted packet has passed and moved.
use Rattle.std.specs.Prelude.{◌≡◌, ℕ, ◌+◌, ◌/◌, ◌%◌, ◌^◌, ◌<◌, ◌≤◌, true, List, length, Ok, Err}
use Rattle.std.specs.Str.{bytes_eq}
use Rattle.fault.specs.declared.Fault.{Fault}
use Rattle.lookup.specs.Replies.{Reply}
use Rattle.message.specs.Layout.{number_at}
use Rattle.message.specs.Reading.{checked}
use Rattle.channel.specs.declared.Nonce.{Nonce}
use Rattle.channel.specs.declared.Fob.{Fob}
use Rattle.channel.specs.declared.Invited.{Invited}
use Rattle.channel.specs.declared.Proved.{Proved}
use Rattle.channel.specs.declared.Mixer.{Mixer}
use Rattle.channel.specs.declared.Answered.{Answered}
use Rattle.channel.specs.declared.Open.{Open}
use Rattle.channel.specs.Handshake.{invite_check, invited, invite_output, answer_check, answered, answer_output, prove_check, proven, prove_output, confirm_check, confirmed, confirm_output, finish_check, finished}
use Rattle.channel.specs.Packets.{seals_at, data_in, tag_of, packet_tag, seal_check, seal_end, seal_output, unseal_check, unseal_end, unseal_output}

-- a refused call hands back the very same end, key and nonce, and leaves the output as it was
pub record RefusalsKeep (C K : Type 0) (pid : ℕ) (e : List ℕ → List ℕ → List ℕ) (own : K → List ℕ) (replies : K → List ℕ → Reply) (z : Fault) : Type 0 where
  pub invite :
      (f : Fob C) (k : K) (n : Nonce) (o : List ℕ) → invite_check o ≡ Err z →
      (invited f k n o ≡ Err (record { end = f; key = k; nonce = n; fault = z })) × (invite_output pid own k n o ≡ o)
  pub answer :
      (x : Mixer C) (k : K) (n : Nonce) (m w o : List ℕ) → answer_check pid e own replies x k n m w o ≡ Err z →
      (answered pid e own replies x k n m w o ≡ Err (record { end = x; key = k; nonce = n; fault = z })) × (answer_output pid e own replies x k n m w o ≡ o)
  pub prove :
      (i : Invited C K) (m w o : List ℕ) → prove_check pid e own replies i m w o ≡ Err z →
      (proven pid e own replies i m w o ≡ Err (record { end = i; fault = z })) × (prove_output pid e own replies i m w o ≡ o)
  pub confirm :
      (a : Answered C K) (m w o : List ℕ) → confirm_check pid e a m w o ≡ Err z →
      (confirmed pid e a m w o ≡ Err (record { end = a; fault = z })) × (confirm_output pid e a m w o ≡ o)
  pub finish :
      (p : Proved C K) (m w : List ℕ) → finish_check pid e p m w ≡ Err z → finished pid e p m w ≡ Err (record { end = p; fault = z })
  pub seal :
      (x : Open C K) (p w o : List ℕ) → seal_check x p w o ≡ Err z → (seal_end x p (seal_check x p w o) ≡ x) × (seal_output pid e x p w o ≡ o)
  pub unseal :
      (x : Open C K) (m w o : List ℕ) → unseal_check pid e x m w o ≡ Err z → (unseal_end x (unseal_check pid e x m w o) ≡ x) × (unseal_output pid e x m w o ≡ o)

-- an accepted packet moves the number by one and the counter by one block for each begun 16 octets, and keeps the keys
pub record Moved {C K : Type 0} (before after : Open C K) (n : ℕ) : Type 0 where
  pub number : after.epoch.number ≡ before.epoch.number + 1
  pub counter : after.epoch.keys.counter ≡ (before.epoch.keys.counter + (n + 15) / 16) % 2 ^ 128
  pub master : after.epoch.keys.master ≡ before.epoch.keys.master
  pub encryption : after.epoch.keys.encryption ≡ before.epoch.keys.encryption
  pub integrity : after.epoch.keys.integrity ≡ before.epoch.keys.integrity

-- what seal accepts: at the end's own turn, before the last number
pub record Sealed {C K : Type 0} (x : Open C K) (p w o : List ℕ) (n : ℕ) : Type 0 where
  pub turn : seals_at x.role x.epoch.number ≡ true
  pub early : x.epoch.number < 16777215
  pub small : length p ≤ 4096
  pub size : n ≡ 21 + length p
  pub moved : Moved x (seal_end x p (seal_check x p w o)) (length p)

-- what unseal accepts: a message of good form, with the number after its own and the right tag, and only then is anything decrypted
pub record Unsealed {C K : Type 0} (pid : ℕ) (e : List ℕ → List ℕ → List ℕ) (x : Open C K) (m w o : List ℕ) (r : ℕ × ℕ) : Type 0 where
  pub early : x.epoch.number < 16777215
  pub form : checked 5 pid m ≡ Ok tt
  pub number : number_at m 3 ≡ x.epoch.number + 1
  pub tag : bytes_eq (packet_tag e x.epoch (number_at m 3) (data_in m)) (tag_of m) ≡ true
  pub answer : r ≡ (number_at m 6, number_at m 3)
  pub moved : Moved x (unseal_end x (unseal_check pid e x m w o)) (number_at m 6)

abbrev pub OutcomeLaws : (C K : Type 0) → Type 0
OutcomeLaws C K =
    (pid : ℕ) (e : List ℕ → List ℕ → List ℕ) →
    ((own : K → List ℕ) (replies : K → List ℕ → Reply) (z : Fault) → RefusalsKeep C K pid e own replies z)
    × ((x : Open C K) (p w o : List ℕ) (n : ℕ) → seal_check x p w o ≡ Ok n → Sealed x p w o n)
    × ((x : Open C K) (m w o : List ℕ) (r : ℕ × ℕ) → unseal_check pid e x m w o ≡ Ok r → Unsealed pid e x m w o r)
