-- The strings of which a handshake and a packet carry the tag.
use Rattle.std.specs.Prelude.{ℕ, ◌/◌, ◌%◌, List, [], ◌∷◌, ◌++◌, length}
use Rattle.ends.specs.declared.Role.{Role}
use Rattle.ends.specs.declared.Role.TheVariants.{Fob, Mixer}

-- the string of a confirmation, by all that it may depend on: the protocol identifier, whose it is, the identities, the labels and the nonces;
-- the fob's is 03, IDA, IDB, QA, QB and the mixer's is 02, IDB, IDA, QB, QA, under every protocol identifier and with any nonces
unfoldable pub confirmation : ℕ → Role → List ℕ → List ℕ → List ℕ → List ℕ → List ℕ → List ℕ → List ℕ
confirmation pid Fob ida idb qa qb na nb = (3 ∷ []) ++ ida ++ idb ++ qa ++ qb
confirmation pid Mixer ida idb qa qb na nb = (2 ∷ []) ++ idb ++ ida ++ qb ++ qa

-- a number as three octets, the highest first
unfoldable pub three : ℕ → List ℕ
three n = n / 65536 % 256 ∷ n / 256 % 256 ∷ n % 256 ∷ []

-- the string of a packet: its number, the length of its data, and the data
unfoldable pub packet : ℕ → List ℕ → List ℕ
packet n d = three n ++ three (length d) ++ d
