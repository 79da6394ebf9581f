-- An arm knows the length and each octet of its word. For the longer words that has to be said.
use Rattle.std.proofs.Common.{sym, ap, codes, arith, rules}
use Rattle.std.proofs.lemmas.Slice.Eq.{text_from_reads}
use Rattle.script.specs.Forms.{verb_in}
use Rattle.script.proofs.forms.VerbTryFromRefSliceU8.try_from.Goals as goal

pub returns-in-cipher : goal.returns-in-cipher
returns-in-cipher c = ap verb_in (sym (text_from_reads c.args.word.now (codes "cipher") (omega arith) (search rules)))

pub returns-in-append : goal.returns-in-append
returns-in-append c = ap verb_in (sym (text_from_reads c.args.word.now (codes "append") (omega arith) (search rules)))

pub returns-in-output : goal.returns-in-output
returns-in-output c = ap verb_in (sym (text_from_reads c.args.word.now (codes "output") (omega arith) (search rules)))

pub returns-in-workspace : goal.returns-in-workspace
returns-in-workspace c = ap verb_in (sym (text_from_reads c.args.word.now (codes "workspace") (omega arith) (search rules)))

pub returns-in-identities : goal.returns-in-identities
returns-in-identities c = ap verb_in (sym (text_from_reads c.args.word.now (codes "identities") (omega arith) (search rules)))
