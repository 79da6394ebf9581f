-- What the callers here give.
use Rattle.std.specs.Prelude.{ℕ, List, Some, None, Option, Ok, Err}
use Rattle.lookup.specs.Replies.{Reply}

-- the secret in a reply, if there is one
abbrev pub secret_in : Reply → Option (List ℕ)
secret_in (Ok z) = Some z
secret_in (Err x) = None
