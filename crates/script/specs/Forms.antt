-- The statements, each with its own form.
use Rattle.std.specs.Prelude.{ℕ, cond, List, Ok, Err, Result, slice_index}
use Rattle.text.specs.Words.{word_of, rest_of, number_of}
use Rattle.script.specs.declared.Problem.{Problem}
use Rattle.script.specs.declared.Problem.TheVariants.{Verb as NoVerb, Number, OneOctet, TenOctets, TwelveOctets}
use Rattle.script.specs.declared.Who.TheVariants.{Fob as TheFob, Mixer as TheMixer}
use Rattle.script.specs.declared.forms.Verb.{Verb}
use Rattle.script.specs.declared.forms.Verb.TheVariants.{Cipher, Identities, Key, Nonce, Cut, Alter, Append, Workspace, Output, Fob, Mixer, Lose, Pass}
use Rattle.script.specs.Views.{StatementView, cipher, identities, key, nonce, cut, alter, append, workspace, output, call, lose, pass}
use Rattle.script.specs.Parts.{and_then, into, expect, is_word, ended, last_number, last_octets, sized_octets, last_sized, who_in, last_cipher, last_key}
use Rattle.script.specs.Calls.{fob_call, mixer_call}

-- the first word of a statement
abbrev pub verb_in : List ℕ → Result Verb Problem
verb_in w =
    cond (is_word "cipher" w) (Ok Cipher)
    (cond (is_word "identities" w) (Ok Identities)
    (cond (is_word "key" w) (Ok Key)
    (cond (is_word "nonce" w) (Ok Nonce)
    (cond (is_word "cut" w) (Ok Cut)
    (cond (is_word "alter" w) (Ok Alter)
    (cond (is_word "append" w) (Ok Append)
    (cond (is_word "workspace" w) (Ok Workspace)
    (cond (is_word "output" w) (Ok Output)
    (cond (is_word "fob" w) (Ok Fob)
    (cond (is_word "mixer" w) (Ok Mixer)
    (cond (is_word "lose" w) (Ok Lose)
    (cond (is_word "pass" w) (Ok Pass)
    (Err NoVerb)))))))))))))

-- WHO HEX HEX, ten octets each
abbrev pub identities_in : List ℕ → Result StatementView Problem
identities_in s =
    and_then (who_in (word_of s)) (λ w.
    and_then (sized_octets 10 TenOctets (word_of (rest_of s))) (λ f.
    into (identities w f) (last_sized 10 TenOctets (rest_of (rest_of s)))))

-- WHO and a key
abbrev pub key_in : List ℕ → Result StatementView Problem
key_in s = and_then (who_in (word_of s)) (λ w. into (key w) (last_key (rest_of s)))

-- WHO HEX, twelve octets
abbrev pub nonce_in : List ℕ → Result StatementView Problem
nonce_in s = and_then (who_in (word_of s)) (λ w. into (nonce w) (last_sized 12 TwelveOctets (rest_of s)))

-- PLACE HEX, one octet
abbrev pub alter_in : List ℕ → Result StatementView Problem
alter_in s =
    and_then (expect Number (number_of (word_of s))) (λ p.
    into (λ o. alter p (slice_index o 0)) (last_sized 1 OneOctet (rest_of s)))

-- COUNT SIZE
abbrev pub pass_in : List ℕ → Result StatementView Problem
pass_in s = and_then (expect Number (number_of (word_of s))) (λ n. into (pass n) (last_number (rest_of s)))

-- what follows the first word
abbrev pub form_of : Verb → List ℕ → Result StatementView Problem
form_of Cipher s = into cipher (last_cipher s)
form_of Identities s = identities_in s
form_of Key s = key_in s
form_of Nonce s = nonce_in s
form_of Cut s = into cut (last_number s)
form_of Alter s = alter_in s
form_of Append s = into append (last_octets s)
form_of Workspace s = into workspace (last_number s)
form_of Output s = into output (last_number s)
form_of Fob s = into (call TheFob) (fob_call s)
form_of Mixer s = into (call TheMixer) (mixer_call s)
form_of Lose s = ended s lose
form_of Pass s = pass_in s

-- the first word, then what follows it
abbrev pub statement_in : List ℕ → List ℕ → Result StatementView Problem
statement_in w s = and_then (verb_in w) (λ v. form_of v s)
