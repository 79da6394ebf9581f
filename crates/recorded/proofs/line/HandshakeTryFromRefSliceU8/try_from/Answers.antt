-- An arm knows the length and each octet of its word, which has to be said. An arm is named by the first octet of its word.
use Rattle.std.proofs.Common.{sym, ap, codes, arith, rules}
use Rattle.std.proofs.lemmas.Slice.Eq.{text_from_reads}
use Rattle.recorded.specs.Lines.{handshake_of}
use Rattle.recorded.proofs.line.HandshakeTryFromRefSliceU8.try_from.Goals as goal

pub returns-in-65 : goal.returns-in-65
returns-in-65 c = ap handshake_of (sym (text_from_reads c.args.word.now (codes "ACT_REQ") (omega arith) (search rules)))

pub returns-in-65-2 : goal.returns-in-65-2
returns-in-65-2 c = ap handshake_of (sym (text_from_reads c.args.word.now (codes "ACT_RES") (omega arith) (search rules)))

pub returns-in-86 : goal.returns-in-86
returns-in-86 c = ap handshake_of (sym (text_from_reads c.args.word.now (codes "VFY_REQ") (omega arith) (search rules)))

pub returns-in-86-2 : goal.returns-in-86-2
returns-in-86-2 c = ap handshake_of (sym (text_from_reads c.args.word.now (codes "VFY_RES") (omega arith) (search rules)))
