-- Which octets are a message, and which fields it has.
use Rattle.std.specs.Prelude.{◌≡◌, ℕ, ◌+◌, ◌≤◌, cond, ◌&&◌, List, length, take, drop, Ok, Err, Result, ◌==◌, nat_le, nat_lt, slice_index}
use Rattle.fault.specs.declared.MessageCause.{MessageCause}
use Rattle.fault.specs.declared.MessageCause.TheVariants.{Length, Kind as WrongKind, Protocol, Map, DataLength}
use Rattle.fault.specs.declared.Fault.{Fault}
use Rattle.fault.specs.Faults.{message_fault}
use Rattle.message.specs.declared.Kind.{Kind}
use Rattle.message.specs.declared.Kind.TheVariants.{Act as ActKind, Verify as VerifyKind, Enc as EncKind}
use Rattle.message.specs.declared.Message.{Message}
use Rattle.message.specs.declared.Message.TheVariants.{Act, Verify, Enc}
use Rattle.message.specs.Layout.{known, map_of, number_at}
use Rattle.message.specs.Writing.{Fields, act, verify, enc}

abbrev pub refused : MessageCause → ℕ → Fault
refused c i = message_fault c i

-- the lengths, where kind, protocol identifier and map are right
abbrev pub shaped : ℕ → List ℕ → Result (Unit {0}) Fault
shaped k o =
    cond (nat_le k 2) (cond (length o == 40) (Ok tt) (Err (refused Length (length o))))
    (cond (nat_le k 4) (cond (length o == 15) (Ok tt) (Err (refused Length (length o))))
    (cond (nat_lt (length o) 9) (Err (refused Length (length o)))
    (cond (nat_lt 4096 (number_at o 6)) (Err (refused DataLength 6))
    (cond (length o == 21 + number_at o 6) (Ok tt) (Err (refused Length (length o)))))))

-- whether o is a message of the awaited kind k under the protocol identifier p, or the first rule that it breaks
abbrev pub checked : ℕ → ℕ → List ℕ → Result (Unit {0}) Fault
checked k p o =
    cond (nat_lt (length o) 3) (Err (refused Length (length o)))
    (cond (known k && slice_index o 0 == k)
    (cond (slice_index o 1 == p)
    (cond (slice_index o 2 == map_of k) (shaped k o)
    (Err (refused Map 2)))
    (Err (refused Protocol 1)))
    (Err (refused WrongKind 0)))

-- where the fields of a message stand
abbrev pub fields_at : Kind → List ℕ → Fields
fields_at (ActKind d) o = act (take 25 (drop 3 o)) (take 12 (drop 28 o))
fields_at (VerifyKind d) o = verify (take 12 (drop 3 o))
fields_at EncKind o = enc (number_at o 3) (take (number_at o 6) (drop 9 o)) (take 12 (drop (9 + number_at o 6) o))

-- what the cases of the reader's answer stand for: the octets that each part holds
abbrev pub viewed : Message → Fields
viewed (Act l n) = act l.now n.now
viewed (Verify t) = verify t.now
viewed (Enc k d t) = enc k d.now t.now

-- how long each part is
abbrev pub Sized : Message → Type 0
Sized (Act l n) = (length l.now ≡ 25) × (length n.now ≡ 12)
Sized (Verify t) = length t.now ≡ 12
Sized (Enc k d t) = (k ≤ 16777215) × (length d.now ≤ 4096) × (length t.now ≡ 12)
