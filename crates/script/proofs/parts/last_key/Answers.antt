-- An arm knows the length and each octet of its word.
use Rattle.std.proofs.Common.{codes, arith, rules}
use Rattle.std.proofs.lemmas.Slice.Eq.{text_from_reads}
use Rattle.script.proofs.parts.last_key.Goals as goal

pub returns-in_err-last_number-in-bench : goal.returns-in_err-last_number-in-bench
returns-in_err-last_number-in-bench c = search (rules, text_from_reads c.split_word.result.0.now (codes "bench") (omega arith) (search rules))

pub returns-in_ok-last_octets-in-chip : goal.returns-in_ok-last_octets-in-chip
returns-in_ok-last_octets-in-chip c = search (rules, text_from_reads c.split_word.result.0.now (codes "chip") (omega arith) (search rules))

pub returns-in_ok-last_number-in-bench : goal.returns-in_ok-last_number-in-bench
returns-in_ok-last_number-in-bench c = search (rules, text_from_reads c.split_word.result.0.now (codes "bench") (omega arith) (search rules))
