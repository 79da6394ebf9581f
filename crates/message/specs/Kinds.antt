-- What a number is read as.
use Rattle.std.specs.Prelude.{◌≡◌, ℕ, false, Some, None, Result, MatchResult}
use Rattle.message.specs.declared.Kind.{Kind}
use Rattle.message.specs.declared.UnknownKind.{UnknownKind}
use Rattle.message.specs.Layout.{kind_number, known, of_kind}

-- the kind of number n, where there is one, and else that n is the number of none
abbrev pub KindOf : ℕ → Result Kind UnknownKind → Type 0
KindOf n r =
    MatchResult r
    (λ k. (of_kind n ≡ Some k) × (kind_number k ≡ n))
    (λ e. (of_kind n ≡ None) × (known n ≡ false) × (e.0 ≡ n))
