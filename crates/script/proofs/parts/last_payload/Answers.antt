-- An arm knows the length and each octet of its word.
use Rattle.std.proofs.Common.{codes, arith, rules}
use Rattle.std.proofs.lemmas.Slice.Eq.{text_from_reads}
use Rattle.script.proofs.parts.last_payload.Goals as goal

pub returns-in_err-last_number-in-count : goal.returns-in_err-last_number-in-count
returns-in_err-last_number-in-count c = search (rules, text_from_reads c.split_word.result.0.now (codes "count") (omega arith) (search rules))

pub returns-in_ok-last_number-in-count : goal.returns-in_ok-last_number-in-count
returns-in_ok-last_number-in-count c = search (rules, text_from_reads c.split_word.result.0.now (codes "count") (omega arith) (search rules))

pub returns-in_err-last_octets-in-octets : goal.returns-in_err-last_octets-in-octets
returns-in_err-last_octets-in-octets c = search (rules, text_from_reads c.split_word.result.0.now (codes "octets") (omega arith) (search rules))

pub returns-in_ok-last_octets-in-octets : goal.returns-in_ok-last_octets-in-octets
returns-in_ok-last_octets-in-octets c = search (rules, text_from_reads c.split_word.result.0.now (codes "octets") (omega arith) (search rules))
