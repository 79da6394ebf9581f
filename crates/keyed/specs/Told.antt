-- What an end confirms.
use Rattle.std.specs.Prelude.{ℕ, List}
use Rattle.ends.specs.declared.Both.{Both}
use Rattle.ends.specs.declared.Role.{Role}
use Rattle.keyed.specs.declared.confirm.Told.{Told}
use Rattle.keyed.specs.Strings.{confirmation}

-- the identities, the nonces and the labels of both ends
abbrev pub Identities : Type 0
Identities = Both (List ℕ)

abbrev pub Nonces : Type 0
Nonces = Both (List ℕ)

abbrev pub Labels : Type 0
Labels = Both (List ℕ)

-- the string of an end's confirmation of what both ends told each other
abbrev pub confirmed_by : ℕ → Role → Told → List ℕ
confirmed_by pid which t =
    confirmation pid which t.identities.now.fob t.identities.now.mixer t.labels.now.fob t.labels.now.mixer t.nonces.now.fob t.nonces.now.mixer
