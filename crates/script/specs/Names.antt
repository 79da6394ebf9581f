-- The names that a script and what is shown of it have for the ends and their calls.
use Rattle.std.specs.Prelude.{ℕ, List, codes}
use Rattle.script.specs.declared.Who.{Who}
use Rattle.script.specs.declared.Who.TheVariants.{Fob, Mixer}
use Rattle.script.specs.declared.Call.{Call}
use Rattle.script.specs.declared.Call.TheVariants.{Invite, Answer, Prove, Confirm, Finish, Seal, Unseal, Close}

abbrev pub who_name : Who → List ℕ
who_name Fob = codes "fob"
who_name Mixer = codes "mixer"

abbrev pub call_name : Call → List ℕ
call_name Invite = codes "invite"
call_name (Answer s) = codes "answer"
call_name (Prove s) = codes "prove"
call_name (Confirm s) = codes "confirm"
call_name (Finish s) = codes "finish"
call_name (Seal p) = codes "seal"
call_name (Unseal s) = codes "unseal"
call_name Close = codes "close"
