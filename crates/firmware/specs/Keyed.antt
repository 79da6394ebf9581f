-- What C is told of a tag or a keystream under AES, and what the output then holds.
use Rattle.std.specs.Prelude.{ℕ, cond, not, ◌||◌, List, ◌++◌, length, drop, ◌==◌, nat_lt}
use Rattle.std.specs.Int.Digits.{number_from_digits}
use Rattle.aes.specs.Rounds.{cipher}
use Rattle.aes.specs.Schedule.{key_expansion}
use Rattle.cipher.specs.Cipher.{E}
use Rattle.keyed.specs.Keystream.{xored}
use Rattle.keyed.specs.Xcbc.{tag}

-- the block cipher AES-128
abbrev pub aes : List ℕ → List ℕ → List ℕ
aes k x = E key_expansion cipher k x

-- 0, or 1 where the key has not 16 octets, the workspace is under 256 or the output under 12
abbrev pub tag_number : (key workspace output : List ℕ) → ℕ
tag_number k w o = cond (nat_lt (length w) 256 || not (length k == 16) || nat_lt (length o) 12) 1 0

-- the tag and then what stood there; an output of a refused call stays as it was
abbrev pub tag_output : ℕ → (key text output : List ℕ) → List ℕ
tag_output r k d o = cond (r == 0) (tag aes k d ++ drop 12 o) o

-- 0, or 1 where key or counter has not 16 octets, the workspace is under 256 or the output under the data
abbrev pub stream_number : (key counter text workspace output : List ℕ) → ℕ
stream_number k c d w o = cond (nat_lt (length w) 256 || not (length k == 16) || not (length c == 16) || nat_lt (length o) (length d)) 1 0

-- the data under the keystream from the counter on, and then what stood there
abbrev pub stream_output : ℕ → (key counter text output : List ℕ) → List ℕ
stream_output r k c d o = cond (r == 0) (xored aes k (number_from_digits 256 c) d ++ drop (length d) o) o
