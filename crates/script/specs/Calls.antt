-- The calls that each end has, from the call's name on.
use Rattle.std.specs.Prelude.{ℕ, cond, List, Err, Result}
use Rattle.text.specs.Words.{word_of, rest_of}
use Rattle.script.specs.declared.Problem.{Problem}
use Rattle.script.specs.declared.Problem.TheVariants.{Call}
use Rattle.script.specs.Views.{CallView, invite, answer, prove, confirm, finish, seal, unseal, close}
use Rattle.script.specs.Parts.{into, is_word, ended, last_source, last_payload}

-- calls of both ends: seal PAYLOAD, unseal SOURCE or close
abbrev pub packet_call : List ℕ → Result CallView Problem
packet_call s =
    cond (is_word "seal" (word_of s)) (into seal (last_payload (rest_of s)))
    (cond (is_word "unseal" (word_of s)) (into unseal (last_source (rest_of s)))
    (cond (is_word "close" (word_of s)) (ended (rest_of s) close)
    (Err Call)))

-- the fob's: invite, prove SOURCE, finish SOURCE or a call of both ends
abbrev pub fob_call : List ℕ → Result CallView Problem
fob_call s =
    cond (is_word "invite" (word_of s)) (ended (rest_of s) invite)
    (cond (is_word "prove" (word_of s)) (into prove (last_source (rest_of s)))
    (cond (is_word "finish" (word_of s)) (into finish (last_source (rest_of s)))
    (packet_call s)))

-- the mixer's: answer SOURCE, confirm SOURCE or a call of both ends
abbrev pub mixer_call : List ℕ → Result CallView Problem
mixer_call s =
    cond (is_word "answer" (word_of s)) (into answer (last_source (rest_of s)))
    (cond (is_word "confirm" (word_of s)) (into confirm (last_source (rest_of s)))
    (packet_call s))
