-- What a line of recorded sessions holds.
use Rattle.std.specs.Prelude.{ℕ, cond, ◌||◌, List, length, Some, None, Ok, Err, Option, Result, vec_items, ◌==◌, slice_index}
use Rattle.text.specs.Words.{word_of, rest_of}
use Rattle.keyed.specs.Told.{Identities, Nonces}
use Rattle.recorded.specs.declared.words.Problem.{Problem}
use Rattle.recorded.specs.declared.words.Problem.TheVariants.{Name as NoName}
use Rattle.recorded.specs.declared.words.Suite.{Suite}
use Rattle.recorded.specs.declared.key.OwnKey.{OwnKey}
use Rattle.recorded.specs.declared.key.OwnKey.TheVariants.{Bench, Chip}
use Rattle.recorded.specs.declared.line.Handshake.{Handshake}
use Rattle.recorded.specs.declared.line.Handshake.TheVariants.{ActReq, ActRes, VfyReq, VfyRes}
use Rattle.recorded.specs.declared.line.Derived.{Derived}
use Rattle.recorded.specs.declared.line.Derived.TheVariants.{Master, Encryption, Integrity, Counter as FirstCounter}
use Rattle.recorded.specs.declared.line.Line.{Line}
use Rattle.recorded.specs.declared.line.Line.TheVariants.{Cipher, Identities as BothIdentities, FobKey, MixerKey, Nonces as BothNonces, Secret, Derived as DerivedKey, Message, Payload, Packet, Counter}
use Rattle.recorded.specs.declared.line.Name.{Name}
use Rattle.recorded.specs.declared.line.Name.TheVariants as name
use Rattle.recorded.specs.Words.{and_then, into, is_word, suite_of, octets_of, fixed_of, decimal_of}

-- the names of what is derived
abbrev pub derived_of : List ℕ → Result Derived Problem
derived_of w =
    cond (is_word "MK" w) (Ok Master)
    (cond (is_word "KE" w) (Ok Encryption)
    (cond (is_word "KI" w) (Ok Integrity)
    (cond (is_word "IV" w) (Ok FirstCounter)
    (Err NoName))))

-- the names of the messages of a handshake
abbrev pub handshake_of : List ℕ → Result Handshake Problem
handshake_of w =
    cond (is_word "ACT_REQ" w) (Ok ActReq)
    (cond (is_word "ACT_RES" w) (Ok ActRes)
    (cond (is_word "VFY_REQ" w) (Ok VfyReq)
    (cond (is_word "VFY_RES" w) (Ok VfyRes)
    (Err NoName))))

-- the first that gives something
abbrev pub or_else : {A : Type 0} → Result A Problem → Result A Problem → Result A Problem
or_else (Ok a) r = Ok a
or_else (Err p) r = r

-- the names of which each is one word for one figure
abbrev pub single_name_of : List ℕ → Result Name Problem
single_name_of w =
    cond (is_word "cipher" w) (Ok name.Cipher)
    (cond (is_word "identities" w) (Ok name.Identities)
    (cond (is_word "key" w) (Ok name.Key)
    (cond (is_word "nonces" w) (Ok name.Nonces)
    (cond (is_word "secret" w) (Ok name.Secret)
    (cond (is_word "payload" w) (Ok name.Payload)
    (cond (is_word "ENC" w) (Ok name.Packet)
    (cond (is_word "counter" w) (Ok name.Counter)
    (Err NoName))))))))

-- the first word of a line
abbrev pub name_of : List ℕ → Result Name Problem
name_of w = or_else (single_name_of w) (or_else (into name.Derived (derived_of w)) (into name.Message (handshake_of w)))

-- what an own key is made of, with octets as a list
pub data KeyView : Type 0 where
  bench : ℕ → KeyView
  chip : List ℕ → KeyView

abbrev pub key_view : OwnKey → KeyView
key_view (Bench d) = bench d
key_view (Chip o) = chip (vec_items o)

-- of the sort chip a record, of any other a private number
abbrev pub key_in : List ℕ → List ℕ → Result KeyView Problem
key_in sort w = cond (is_word "chip" sort) (into chip (octets_of w)) (into bench (decimal_of w))

-- a sort of key, and the key
abbrev pub key_of : List ℕ → Result KeyView Problem
key_of s = key_in (word_of s) (word_of (rest_of s))

-- what a line holds, with octets as lists
pub data LineView : Type 0 where
  cipher : Suite → LineView
  identities : Identities → LineView
  fob_key : KeyView → LineView
  mixer_key : KeyView → LineView
  nonces : Nonces → LineView
  secret : List ℕ → LineView
  derived : Derived → List ℕ → LineView
  message : Handshake → List ℕ → LineView
  payload : ℕ → List ℕ → LineView
  packet : List ℕ → LineView
  counter : List ℕ → LineView

abbrev pub line_view : Line → LineView
line_view (Cipher c) = cipher c
line_view (BothIdentities i) = identities i
line_view (FobKey k) = fob_key (key_view k)
line_view (MixerKey k) = mixer_key (key_view k)
line_view (BothNonces n) = nonces n
line_view (Secret z) = secret z
line_view (DerivedKey d k) = derived d k
line_view (Message h m) = message h (vec_items m)
line_view (Payload n o) = payload n (vec_items o)
line_view (Packet m) = packet (vec_items m)
line_view (Counter c) = counter c

-- an end's own key: of the fob, or by any other word of the mixer
abbrev pub of_end : List ℕ → Result KeyView Problem → Result LineView Problem
of_end end k = into (cond (is_word "fob" end) fob_key mixer_key) k

-- whose own key, and the key
abbrev pub end_key_of : List ℕ → Result LineView Problem
end_key_of s = of_end (word_of s) (key_of (rest_of s))

-- what follows the name of a line
abbrev pub form_of : Name → List ℕ → Result LineView Problem
form_of name.Cipher s = into cipher (suite_of (word_of s))
form_of name.Identities s =
    and_then (fixed_of 10 (word_of s)) (λ f.
    into (λ m. identities (record { fob = f; mixer = m })) (fixed_of 10 (word_of (rest_of s))))
form_of name.Key s = end_key_of s
form_of name.Nonces s =
    and_then (fixed_of 12 (word_of s)) (λ f.
    into (λ m. nonces (record { fob = f; mixer = m })) (fixed_of 12 (word_of (rest_of s))))
form_of name.Secret s = into secret (fixed_of 24 (word_of s))
form_of (name.Derived d) s = into (derived d) (fixed_of 16 (word_of s))
form_of (name.Message h) s = into (message h) (octets_of (word_of s))
form_of name.Payload s = and_then (decimal_of (word_of s)) (λ n. into (payload n) (octets_of (word_of (rest_of s))))
form_of name.Packet s = into packet (octets_of (word_of s))
form_of name.Counter s = into counter (fixed_of 16 (word_of s))

-- a name, and what follows it; an empty line and a remark hold nothing
abbrev pub line_in : List ℕ → List ℕ → Result (Option LineView) Problem
line_in name s =
    cond (length name == 0 || slice_index name 0 == 35) (Ok None)
    (into Some (and_then (name_of name) (λ n. form_of n s)))

-- a whole line: its first word is its name
abbrev pub line_of : List ℕ → Result (Option LineView) Problem
line_of s = line_in (word_of s) (rest_of s)
