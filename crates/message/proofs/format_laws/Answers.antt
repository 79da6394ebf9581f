use Rattle.message.proofs.Again.{written-again, by_the_map}
use Rattle.message.proofs.Back.{act_back, verify_back, enc_back}
use Rattle.message.proofs.format_laws.Goals as goal

pub returns : goal.returns
returns c = record { act = act_back; verify = verify_back; enc = enc_back; again = written-again; map = by_the_map }
