-- What a line of captured text means.
use Rattle.std.specs.Prelude.{ℕ, Bool, cond, ◌||◌, List, length, Some, None, Ok, Err, vec_items, Option, Result, ◌==◌, slice_index}
use Rattle.text.specs.Words.{word_of, rest_of, number_of, octets_in}
use Rattle.capture.specs.declared.Captured.{Captured}
use Rattle.capture.specs.declared.Problem.{Problem}
use Rattle.capture.specs.declared.Problem.TheVariants.{Kind, Protocol, Octets, More}

-- a message: the awaited kind, the protocol identifier and the octets
pub data Message : Type 0 where
  message : ℕ → ℕ → List ℕ → Message

abbrev pub viewed : Captured → Message
viewed m = message m.awaited m.pid (vec_items m.octets)

-- the message of three words and the end of the line, or the first problem
abbrev pub readable : Option ℕ → Option ℕ → Option (List ℕ) → Bool → Result (Option Message) Problem
readable None p o end = Err Kind
readable (Some k) None o end = Err Protocol
readable (Some k) (Some p) None end = Err Octets
readable (Some k) (Some p) (Some o) end = cond end (Ok (Some (message k p o))) (Err More)

-- kind, protocol identifier and octets, and no fourth word; an empty line and a comment hold no message
abbrev pub meaning : List ℕ → Result (Option Message) Problem
meaning s =
    cond (length (word_of s) == 0 || slice_index (word_of s) 0 == 35) (Ok None)
    (readable (number_of (word_of s)) (number_of (word_of (rest_of s))) (octets_in (word_of (rest_of (rest_of s))))
    (length (word_of (rest_of (rest_of (rest_of s)))) == 0))
