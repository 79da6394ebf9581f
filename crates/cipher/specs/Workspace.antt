-- What a call leaves of the workspace that it was lent.
use Rattle.std.specs.Prelude.{ℕ, cond, List, ◌++◌, length, drop, replicate, nat_lt}

-- the first 256 octets zero, and the rest as it stood
unfoldable pub cleared : List ℕ → List ℕ
cleared w = replicate 256 0 ++ drop 256 w

-- a workspace of full size is cleared, a shorter one untouched
abbrev pub left : List ℕ → List ℕ
left w = cond (nat_lt (length w) 256) w (cleared w)
