-- The parts that statements are made of. Each takes the text from its first word on.
use Rattle.std.specs.Prelude.{ℕ, Bool, cond, List, length, Some, None, Ok, Err, codes, Option, Result, ◌==◌}
use Prim.Native.String.{String}
use Rattle.std.specs.Str.{bytes_eq}
use Rattle.text.specs.Words.{word_of, rest_of, number_of, octets_in}
use Rattle.script.specs.declared.Problem.{Problem}
use Rattle.script.specs.declared.Problem.TheVariants.{Cipher, Who as NoWho, Source, Payload, Key, Number, Octets, End}
use Rattle.script.specs.declared.Who.{Who}
use Rattle.script.specs.declared.Who.TheVariants.{Fob, Mixer}
use Rattle.script.specs.declared.CipherName.{CipherName}
use Rattle.script.specs.declared.CipherName.TheVariants.{Aes, Speck}
use Rattle.script.specs.Views.{SourceView, last, message, given, PayloadView, these, count, KeyView, bench, chip}

-- the first part, then what goes on with it; the first problem ends it
abbrev pub and_then : {A B : Type 0} → Result A Problem → (A → Result B Problem) → Result B Problem
and_then (Ok a) f = f a
and_then (Err p) f = Err p

-- what stands there, or the problem that it does not
abbrev pub expect : {A : Type 0} → Problem → Option A → Result A Problem
expect p None = Err p
expect p (Some a) = Ok a

-- what was read, made into one thing
abbrev pub into : {A B : Type 0} → (A → B) → Result A Problem → Result B Problem
into f (Ok a) = Ok (f a)
into f (Err p) = Err p

-- whether a word is this one
abbrev pub is_word : String → List ℕ → Bool
is_word name w = bytes_eq w (codes name)

-- what was read, where no word follows
abbrev pub ended : {A : Type 0} → List ℕ → A → Result A Problem
ended s a = cond (length (word_of s) == 0) (Ok a) (Err End)

-- NUMBER, and no word after it
abbrev pub last_number : List ℕ → Result ℕ Problem
last_number s = and_then (expect Number (number_of (word_of s))) (ended (rest_of s))

-- HEX, and no word after it
abbrev pub last_octets : List ℕ → Result (List ℕ) Problem
last_octets s = and_then (expect Octets (octets_in (word_of s))) (ended (rest_of s))

-- HEX of n octets, in a word of its own
abbrev pub sized_octets : ℕ → Problem → List ℕ → Result (List ℕ) Problem
sized_octets n p w = and_then (expect Octets (octets_in w)) (λ o. cond (length o == n) (Ok o) (Err p))

-- HEX of n octets, and no word after it
abbrev pub last_sized : ℕ → Problem → List ℕ → Result (List ℕ) Problem
last_sized n p s = and_then (sized_octets n p (word_of s)) (ended (rest_of s))

-- fob or mixer, in a word of its own
abbrev pub who_in : List ℕ → Result Who Problem
who_in w =
    cond (is_word "fob" w) (Ok Fob)
    (cond (is_word "mixer" w) (Ok Mixer)
    (Err NoWho))

-- aes or speck, in a word of its own
abbrev pub cipher_in : List ℕ → Result CipherName Problem
cipher_in w =
    cond (is_word "aes" w) (Ok Aes)
    (cond (is_word "speck" w) (Ok Speck)
    (Err Cipher))

-- aes or speck, and no word after it
abbrev pub last_cipher : List ℕ → Result CipherName Problem
last_cipher s = and_then (cipher_in (word_of s)) (ended (rest_of s))

-- last, message NUMBER or octets HEX
abbrev pub last_source : List ℕ → Result SourceView Problem
last_source s =
    cond (is_word "last" (word_of s)) (ended (rest_of s) last)
    (cond (is_word "message" (word_of s)) (into message (last_number (rest_of s)))
    (cond (is_word "octets" (word_of s)) (into given (last_octets (rest_of s)))
    (Err Source)))

-- octets HEX or count NUMBER
abbrev pub last_payload : List ℕ → Result PayloadView Problem
last_payload s =
    cond (is_word "octets" (word_of s)) (into these (last_octets (rest_of s)))
    (cond (is_word "count" (word_of s)) (into count (last_number (rest_of s)))
    (Err Payload))

-- bench NUMBER or chip HEX
abbrev pub last_key : List ℕ → Result KeyView Problem
last_key s =
    cond (is_word "bench" (word_of s)) (into bench (last_number (rest_of s)))
    (cond (is_word "chip" (word_of s)) (into chip (last_octets (rest_of s)))
    (Err Key))
