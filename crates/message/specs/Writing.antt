-- The octets of a message, and what a writer leaves in an output.
use Rattle.std.specs.Prelude.{ℕ, ◌+◌, cond, List, ◌∷◌, ◌++◌, length, drop, Ok, Err, Result, nat_lt}
use Rattle.fault.specs.declared.HostCause.TheVariants.{Size, PayloadLength}
use Rattle.fault.specs.declared.Fault.{Fault}
use Rattle.fault.specs.Faults.{host_fault}
use Rattle.message.specs.Layout.{three_octets}

-- the fields of a message: label and nonce; a tag; number, data and tag
pub data Fields : Type 0 where
  act : List ℕ → List ℕ → Fields
  verify : List ℕ → Fields
  enc : ℕ → List ℕ → List ℕ → Fields

-- what stands before the data of a packet
abbrev pub head_octets : ℕ → ℕ → ℕ → List ℕ
head_octets p m n = 5 ∷ p ∷ 28 ∷ (three_octets m ++ three_octets n)

-- the octets of a message of kind number k under the protocol identifier p
abbrev pub octets_of : ℕ → ℕ → Fields → List ℕ
octets_of k p (act l n) = k ∷ p ∷ 3 ∷ (l ++ n)
octets_of k p (verify t) = k ∷ p ∷ 16 ∷ t
octets_of k p (enc m d t) = k ∷ p ∷ 28 ∷ (three_octets m ++ (three_octets (length d) ++ (d ++ t)))

-- the answer of a writer of n octets: how many it wrote, or 1 where the output o is shorter
abbrev pub wrote : ℕ → List ℕ → Result ℕ Fault
wrote n o = cond (nat_lt (length o) n) (Err (host_fault Size)) (Ok n)

-- the answer of a writer of a packet with the data d: 2 where there is too much of it
abbrev pub wrote_enc : List ℕ → List ℕ → Result ℕ Fault
wrote_enc d o = cond (nat_lt 4096 (length d)) (Err (host_fault PayloadLength)) (wrote (21 + length d) o)

-- what an output o holds after an answer: the octets w and then what stood there, or all that stood there
abbrev pub after : Result ℕ Fault → List ℕ → List ℕ → List ℕ
after (Ok n) w o = w ++ drop n o
after (Err f) w o = o
