-- A key of either sort answers as the key within.
use Rattle.std.specs.Prelude.{ℕ, List}
use Rattle.lookup.specs.Replies.{Reply}
use Rattle.lookup.specs.Bench.{label_of, reply_to}
use Rattle.lookup.specs.Chip.{reply_in}
use Rattle.lookup.specs.declared.either.EitherKey.{EitherKey}
use Rattle.lookup.specs.declared.either.EitherKey.TheVariants.{Bench, Chip}

-- its own label
abbrev pub own_of : EitherKey → List ℕ
own_of (Bench k) = label_of k.value
own_of (Chip c) = c.label

-- its replies
abbrev pub replies_of : EitherKey → List ℕ → Reply
replies_of (Bench k) peer = reply_to k.d peer
replies_of (Chip c) peer = reply_in c.rows.now peer
