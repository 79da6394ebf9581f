-- An arm knows the length and each octet of its word.
use Rattle.std.proofs.Common.{codes, arith, rules}
use Rattle.std.proofs.lemmas.Slice.Eq.{text_from_reads}
use Rattle.script.proofs.calls.packet_call.Goals as goal

pub returns-in_err-last_payload-in-seal : goal.returns-in_err-last_payload-in-seal
returns-in_err-last_payload-in-seal c = search (rules, text_from_reads c.split_word.result.0.now (codes "seal") (omega arith) (search rules))

pub returns-in_err-end-in-close : goal.returns-in_err-end-in-close
returns-in_err-end-in-close c = search (rules, text_from_reads c.split_word.result.0.now (codes "close") (omega arith) (search rules))

pub returns-in_err-last_source-in-unseal : goal.returns-in_err-last_source-in-unseal
returns-in_err-last_source-in-unseal c = search (rules, text_from_reads c.split_word.result.0.now (codes "unseal") (omega arith) (search rules))

pub returns-in_ok-last_payload-in-seal : goal.returns-in_ok-last_payload-in-seal
returns-in_ok-last_payload-in-seal c = search (rules, text_from_reads c.split_word.result.0.now (codes "seal") (omega arith) (search rules))

pub returns-in_ok-end-in-close : goal.returns-in_ok-end-in-close
returns-in_ok-end-in-close c = search (rules, text_from_reads c.split_word.result.0.now (codes "close") (omega arith) (search rules))

pub returns-in_ok-last_source-in-unseal : goal.returns-in_ok-last_source-in-unseal
returns-in_ok-last_source-in-unseal c = search (rules, text_from_reads c.split_word.result.0.now (codes "unseal") (omega arith) (search rules))
