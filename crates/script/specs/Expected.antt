-- What was expected where a line cannot be read, in words for people.
use Rattle.std.specs.Prelude.{ℕ, List, codes}
use Rattle.script.specs.declared.Problem.{Problem}
use Rattle.script.specs.declared.Problem.TheVariants.{Verb, Cipher, Who, Call, Source, Payload, Key, Number, Octets, OneOctet, TenOctets, TwelveOctets, End}

abbrev pub words_of : Problem → List ℕ
words_of Verb = codes "cipher, identities, key, nonce, cut, alter, append, workspace, output, fob, mixer, lose or pass"
words_of Cipher = codes "aes or speck"
words_of Who = codes "fob or mixer"
words_of Call = codes "a call of this end"
words_of Source = codes "last, message or octets"
words_of Payload = codes "octets or count"
words_of Key = codes "bench or chip"
words_of Number = codes "a number of one to nine decimal digits"
words_of Octets = codes "octets, as pairs of hexadecimal digits, or - for none"
words_of OneOctet = codes "one octet"
words_of TenOctets = codes "ten octets"
words_of TwelveOctets = codes "twelve octets"
words_of End = codes "the end of the line"
