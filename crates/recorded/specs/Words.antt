-- What single words of a recorded session give.
use Rattle.std.specs.Prelude.{ℕ, ◌+◌, ◌^◌, Bool, cond, ◌&&◌, List, length, take, drop, Some, None, Ok, Err, codes, Option, Result, ◌==◌, nat_le, nat_lt}
use Rattle.std.specs.List.{prefix_len}
use Rattle.std.specs.Str.{bytes_eq}
use Prim.Native.String.{String}
use Rattle.text.specs.Words.{digit, decimal_value, octets_in}
use Rattle.recorded.specs.declared.words.Problem.{Problem}
use Rattle.recorded.specs.declared.words.Problem.TheVariants.{Octets, Length, Number, Cipher, Short}
use Rattle.recorded.specs.declared.words.Suite.{Suite}
use Rattle.recorded.specs.declared.words.Suite.TheVariants.{Aes, Speck}

-- the first part, then what goes on with it; the first problem ends it
abbrev pub and_then : {A B : Type 0} → Result A Problem → (A → Result B Problem) → Result B Problem
and_then (Ok a) f = f a
and_then (Err p) f = Err p

-- what was read, made into one thing
abbrev pub into : {A B : Type 0} → (A → B) → Result A Problem → Result B Problem
into f (Ok a) = Ok (f a)
into f (Err p) = Err p

-- what stands there, or the problem that it does not
abbrev pub expect : {A : Type 0} → Problem → Option A → Result A Problem
expect p None = Err p
expect p (Some a) = Ok a

-- whether a word is this one
abbrev pub is_word : String → List ℕ → Bool
is_word name w = bytes_eq w (codes name)

-- aes or speck
abbrev pub suite_of : List ℕ → Result Suite Problem
suite_of w = cond (is_word "aes" w) (Ok Aes) (cond (is_word "speck" w) (Ok Speck) (Err Cipher))

-- the octets of a word
abbrev pub octets_of : List ℕ → Result (List ℕ) Problem
octets_of w = expect Octets (octets_in w)

-- the octets of a word that has n of them
abbrev pub fixed_of : ℕ → List ℕ → Result (List ℕ) Problem
fixed_of n w = and_then (octets_of w) (λ o. cond (length o == n) (Ok o) (Err Length))

-- the n octets of a message from a place on
abbrev pub part_of : ℕ → List ℕ → ℕ → Result (List ℕ) Problem
part_of n m p = cond (nat_le (p + n) (length m)) (Ok (take n (drop p m))) (Err Short)

-- the value of decimal digits, where it is below 2 to the 32; no digits are 0
abbrev pub value_of : List ℕ → Option ℕ
value_of w = cond (prefix_len digit w == length w && nat_lt (decimal_value w) (2 ^ 32)) (Some (decimal_value w)) None

-- the value of decimal digits, or the problem that it is none
abbrev pub decimal_of : List ℕ → Result ℕ Problem
decimal_of w = expect Number (value_of w)
