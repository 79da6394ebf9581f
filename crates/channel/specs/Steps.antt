-- How the checks of a call follow one another, and what a call leaves in its buffers.
use Rattle.std.specs.Prelude.{ℕ, Bool, cond, List, ◌++◌, length, take, drop, Ok, Err, Result, nat_lt}
use Rattle.fault.specs.declared.Fault.{Fault}
use Rattle.fault.specs.declared.HostCause.TheVariants.{Size}
use Rattle.fault.specs.declared.HandshakeCause.TheVariants.{Label}
use Rattle.fault.specs.Faults.{host_fault, handshake_fault}
use Rattle.lookup.specs.Replies.{Reply}
use Rattle.channel.specs.declared.Nonce.{Nonce}
use Rattle.channel.specs.declared.NotStarted.{NotStarted}
use Rattle.channel.specs.declared.Refused.{Refused}

-- a buffer under n octets is refused
abbrev pub sized : {W : Type 0} → ℕ → List ℕ → Result W Fault → Result W Fault
sized n b r = cond (nat_lt (length b) n) (Err (host_fault Size)) r

-- a test that must hold, or the call is refused
abbrev pub unless : {W : Type 0} → Bool → Fault → Result W Fault → Result W Fault
unless bad f r = cond bad (Err f) r

-- one check and then another: the first refusal decides
abbrev pub and_then : {V W : Type 0} → Result V Fault → Result W Fault → Result W Fault
and_then (Ok v) r = r
and_then (Err f) r = Err f

-- the secret of a reply; an invalid label is refused at its place
abbrev pub secret_or : {W : Type 0} → Reply → (List ℕ → Result W Fault) → Result W Fault
secret_or (Ok z) f = f z
secret_or (Err x) f = Err (handshake_fault Label 3)

-- an accepted call moves the end on; a refused one hands the same end back
abbrev pub settled : {E F W : Type 0} → E → (W → F) → Result W Fault → Result F (Refused E)
settled end next (Ok w) = Ok (next w)
settled end next (Err f) = Err (record { end = end; fault = f })

-- the same of a call that takes over a key and a nonce
abbrev pub started : {E F K W : Type 0} → E → K → Nonce → (W → F) → Result W Fault → Result F (NotStarted E K)
started end key nonce next (Ok w) = Ok (next w)
started end key nonce next (Err f) = Err (record { end = end; key = key; nonce = nonce; fault = f })

-- an accepted call writes n octets at the start of the output; a refused one leaves it as it was
abbrev pub written : {W : Type 0} → ℕ → (W → List ℕ) → Result W Fault → List ℕ → List ℕ
written n octets (Ok w) o = octets w ++ drop n o
written n octets (Err f) o = o

-- the fields of a message of the handshake: label and nonce, or tag
abbrev pub label_in : List ℕ → List ℕ
label_in m = take 25 (drop 3 m)

abbrev pub nonce_in : List ℕ → List ℕ
nonce_in m = take 12 (drop 28 m)

abbrev pub tag_in : List ℕ → List ℕ
tag_in m = take 12 (drop 3 m)
