-- What a line of a script means.
use Rattle.std.specs.Prelude.{ℕ, cond, ◌||◌, List, length, Some, None, Ok, Option, Result, ◌==◌, slice_index}
use Rattle.text.specs.Words.{word_of, rest_of}
use Rattle.script.specs.declared.Problem.{Problem}
use Rattle.script.specs.Views.{StatementView}
use Rattle.script.specs.Parts.{into}
use Rattle.script.specs.Forms.{statement_in}

-- a statement; an empty line and a comment hold nothing
abbrev pub meaning : List ℕ → Result (Option StatementView) Problem
meaning s =
    cond (length (word_of s) == 0 || slice_index (word_of s) 0 == 35) (Ok None)
    (into Some (statement_in (word_of s) (rest_of s)))
