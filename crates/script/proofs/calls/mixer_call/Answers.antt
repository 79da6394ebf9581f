-- An arm knows the length and each octet of its word.
use Rattle.std.proofs.Common.{codes, arith, rules}
use Rattle.std.proofs.lemmas.Slice.Eq.{text_from_reads}
use Rattle.script.proofs.calls.mixer_call.Goals as goal

pub returns-in_err-last_source-in-answer : goal.returns-in_err-last_source-in-answer
returns-in_err-last_source-in-answer c = search (rules, text_from_reads c.split_word.result.0.now (codes "answer") (omega arith) (search rules))

pub returns-in_err-last_source-in-confirm : goal.returns-in_err-last_source-in-confirm
returns-in_err-last_source-in-confirm c = search (rules, text_from_reads c.split_word.result.0.now (codes "confirm") (omega arith) (search rules))

pub returns-in_ok-last_source-in-answer : goal.returns-in_ok-last_source-in-answer
returns-in_ok-last_source-in-answer c = search (rules, text_from_reads c.split_word.result.0.now (codes "answer") (omega arith) (search rules))

pub returns-in_ok-last_source-in-confirm : goal.returns-in_ok-last_source-in-confirm
returns-in_ok-last_source-in-confirm c = search (rules, text_from_reads c.split_word.result.0.now (codes "confirm") (omega arith) (search rules))
