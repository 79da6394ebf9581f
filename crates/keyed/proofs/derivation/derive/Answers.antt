-- The results are the keys and the first counter.
use Rattle.std.proofs.Common.{◌∙◌, rules}
use Rattle.cipher.specs.Cipher.{E}
use Rattle.keyed.proofs.Keys.{derived-is}
use Rattle.keyed.proofs.derivation.derive.Goals as goal

pub returns : goal.returns
returns g c = record {
  value =
      derived-is (E g.C.BlockCipher.schedule g.C.BlockCipher.worked) c.args.nonces.now.fob c.args.nonces.now.mixer c.args.identities.now.fob c.args.identities.now.mixer
      c.args.secret.now c.from_be_bytes.result
      c.split_nonces-s.ensures.value c.result-seed.ensures.value c.next_key-master.ensures.value c.next_key-encryption.ensures.value
      c.next_key-integrity.ensures.value c.first_block-first.ensures.value (search rules) c.from_be_bytes.ensures;
  workspace =
      c.first_block-first.ensures.workspace ∙ c.next_key-integrity.ensures.workspace ∙ c.next_key-encryption.ensures.workspace
      ∙ c.next_key-master.ensures.workspace ∙ c.result-seed.ensures.workspace;
}
