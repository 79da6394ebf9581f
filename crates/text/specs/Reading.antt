-- What is promised of whatever reads a text.
use Rattle.std.specs.Prelude.{◌≡◌, Ok, Err, Result}
use Rattle.text.specs.declared.ParseError.{ParseError}
use Rattle.text.specs.declared.ParseError.TheVariants.{Memory, Unreadable}

-- what was read is what is meant, part or problem; nothing is said where there was no memory
abbrev pub Reads : {A B P : Type 0} → (A → B) → Result A (ParseError P) → Result B P → Type 0
Reads view (Ok a) m = m ≡ Ok (view a)
Reads view (Err (Unreadable p)) m = m ≡ Err p
Reads view (Err (Memory e)) m = Unit {0}
