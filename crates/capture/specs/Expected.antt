-- What a line should have had where it cannot be read, in words for people.
use Rattle.std.specs.Prelude.{ℕ, List, codes}
use Rattle.capture.specs.declared.Problem.{Problem}
use Rattle.capture.specs.declared.Problem.TheVariants.{Kind, Protocol, Octets, More}

abbrev pub words_of : Problem → List ℕ
words_of Kind = codes "the first word is the awaited kind, one to nine decimal digits"
words_of Protocol = codes "the second word is the protocol identifier, one to nine decimal digits"
words_of Octets = codes "the third word is the octets, pairs of hexadecimal digits, or - for none"
words_of More = codes "a line has three words"
