-- Worked examples of the definitions.
use Rattle.std.specs.Prelude.{◌≡◌, ℕ, ◌+◌, ◌%◌, ◌^◌, ◌<◌, ◌≤◌, false, List, [], length, replicate, Ok, Err, slice_index}
use Rattle.std.specs.Int.Digits.{number_from_digits}
use Rattle.fault.specs.declared.HostCause.TheVariants.{PayloadLength, LastNumber, OwnKey}
use Rattle.fault.specs.declared.MessageCause.TheVariants.{Length}
use Rattle.fault.specs.Faults.{host_fault, message_fault, number_of}
use Rattle.aes.specs.Field.{product}
use Rattle.aes.specs.Sbox.{sbox}
use Rattle.keyed.specs.Keystream.{counter_block, moved}
use Rattle.lookup.specs.Bench.{is_private, power_of, label_of, padded, reply_to}
use Rattle.message.specs.Reading.{checked}
use Rattle.ends.specs.declared.Role.TheVariants.{Fob}
use Rattle.channel.specs.declared.Open.{Open}
use Rattle.channel.specs.Packets.{seal_check, seal_end}

-- a fob whose turn it is, at a number before the last, with buffers of full size
pub record Ready {C K : Type 0} (x : Open C K) (w o : List ℕ) : Type 0 where
  pub fob : x.role ≡ Fob
  pub even : x.epoch.number % 2 ≡ 0
  pub early : x.epoch.number < 16777215
  pub space : 256 ≤ length w
  pub room : 4117 ≤ length o

pub record Examples (C K : Type 0) : Type 0 where
  -- hex 57 times 83 in the field of AES is C1
  pub field_product : product 0x57 0x83 ≡ 0xC1
  -- the S-box maps hex 53 to ED
  pub sbox_entry : sbox 0x53 ≡ 0xED
  -- a counter of sixteen octets FF, moved by the block that one octet begins, is sixteen octets 00
  pub counter_wraps : counter_block (moved (number_from_digits 256 (replicate 16 0xFF)) 1) ≡ replicate 16 0
  -- the private number 2 has the value 49
  pub bench_value : power_of 7 2 ≡ 49
  -- the private numbers 2 and 3 share 117,649: each gives the other's label that secret
  pub bench_shared : reply_to 2 (label_of (power_of 7 3)) ≡ Ok (padded 117649)
  pub bench_shared_back : reply_to 3 (label_of (power_of 7 2)) ≡ Ok (padded 117649)
  -- 0 is no private number, so a key of it is refused with 5
  pub bench_zero : (is_private 0 ≡ false) × (number_of (host_fault OwnKey).layer ≡ 5)
  -- an empty payload gives 21 octets and an unmoved counter; 17 octets move it by 2
  pub seal_empty : (x : Open C K) (w o : List ℕ) → Ready x w o → seal_check x [] w o ≡ Ok 21
  pub counter_unmoved : (c : ℕ) → c < 2 ^ 128 → moved c 0 ≡ c
  pub counter_by_two : (c : ℕ) → moved c 17 ≡ (c + 2) % 2 ^ 128
  -- a payload of 4,096 octets passes, 4,097 give 2
  pub seal_full : (x : Open C K) (p w o : List ℕ) → Ready x w o → length p ≡ 4096 → seal_check x p w o ≡ Ok 4117
  pub seal_over : (x : Open C K) (p w o : List ℕ) → Ready x w o → length p ≡ 4097 → seal_check x p w o ≡ Err (host_fault PayloadLength)
  -- the fob at 16,777,214 seals 16,777,215, and then gets 4
  pub seal_last :
      (x : Open C K) (p w o : List ℕ) → Ready x w o → length p ≤ 4096 → x.epoch.number ≡ 16777214 →
      ((seal_end x p (seal_check x p w o)).epoch.number ≡ 16777215)
      × (seal_check (seal_end x p (seal_check x p w o)) p w o ≡ Err (host_fault LastNumber)) × (number_of (host_fault LastNumber).layer ≡ 4)
  -- an ACT_REQ of 39 octets gives 6, at place 39
  pub short_act :
      (pid : ℕ) (m : List ℕ) → length m ≡ 39 → slice_index m 0 ≡ 1 → slice_index m 1 ≡ pid → slice_index m 2 ≡ 3 →
      checked 1 pid m ≡ Err (message_fault Length 39)
