-- An arm knows the length and each octet of its word. For the longer words that has to be said.
use Rattle.std.proofs.Common.{sym, ap, codes, arith, rules}
use Rattle.std.proofs.lemmas.Slice.Eq.{text_from_reads}
use Rattle.recorded.specs.Lines.{single_name_of}
use Rattle.recorded.proofs.line.single_name.Goals as goal

pub returns-in-cipher : goal.returns-in-cipher
returns-in-cipher c = record { value = ap single_name_of (sym (text_from_reads c.args.word.now (codes "cipher") (omega arith) (search rules))) }

pub returns-in-identities : goal.returns-in-identities
returns-in-identities c = record { value = ap single_name_of (sym (text_from_reads c.args.word.now (codes "identities") (omega arith) (search rules))) }

pub returns-in-nonces : goal.returns-in-nonces
returns-in-nonces c = record { value = ap single_name_of (sym (text_from_reads c.args.word.now (codes "nonces") (omega arith) (search rules))) }

pub returns-in-secret : goal.returns-in-secret
returns-in-secret c = record { value = ap single_name_of (sym (text_from_reads c.args.word.now (codes "secret") (omega arith) (search rules))) }

pub returns-in-payload : goal.returns-in-payload
returns-in-payload c = record { value = ap single_name_of (sym (text_from_reads c.args.word.now (codes "payload") (omega arith) (search rules))) }

pub returns-in-counter : goal.returns-in-counter
returns-in-counter c = record { value = ap single_name_of (sym (text_from_reads c.args.word.now (codes "counter") (omega arith) (search rules))) }
