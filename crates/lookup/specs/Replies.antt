-- What a key lookup replies.
use Rattle.std.specs.Prelude.{◌≡◌, ℕ, List, length, Ok, Err, Result}
use Rattle.lookup.specs.declared.Invalid.{Invalid}

-- the octets z that are shared with the peer, as Ok z, or why there are none
abbrev pub Reply : Type 0
Reply = Result (List ℕ) Invalid

-- a secret has 24 octets
abbrev pub SecretSize : Reply → Type 0
SecretSize (Ok z) = length z ≡ 24
SecretSize (Err x) = Unit {0}
