-- The kinds of messages, their numbers, names and maps, and numbers of three octets.
use Rattle.std.specs.Prelude.{ℕ, ◌+◌, ◌*◌, ◌/◌, ◌%◌, Bool, cond, ◌&&◌, List, [], ◌∷◌, Some, None, codes, Option, ◌==◌, nat_le, slice_index}
use Rattle.message.specs.declared.Direction.TheVariants.{Request, Response}
use Rattle.message.specs.declared.Kind.{Kind}
use Rattle.message.specs.declared.Kind.TheVariants.{Act, Verify, Enc}

-- the number of a kind, which stands in octet 0
abbrev pub kind_number : Kind → ℕ
kind_number (Act Request) = 1
kind_number (Act Response) = 2
kind_number (Verify Request) = 3
kind_number (Verify Response) = 4
kind_number Enc = 5

-- the kind of a number
abbrev pub of_kind : ℕ → Option Kind
of_kind k =
    cond (k == 1) (Some (Act Request)) (cond (k == 2) (Some (Act Response))
    (cond (k == 3) (Some (Verify Request)) (cond (k == 4) (Some (Verify Response))
    (cond (k == 5) (Some Enc) None))))

-- the name of a kind
abbrev pub kind_name : Kind → List ℕ
kind_name (Act Request) = codes "ACT_REQ"
kind_name (Act Response) = codes "ACT_RES"
kind_name (Verify Request) = codes "VFY_REQ"
kind_name (Verify Response) = codes "VFY_RES"
kind_name Enc = codes "ENC"

-- there are the kinds 1 to 5
abbrev pub known : ℕ → Bool
known k = nat_le 1 k && nat_le k 5

-- the map of the fields of kinds 1 and 2, 3 and 4, and 5
abbrev pub map_of : ℕ → ℕ
map_of k = cond (nat_le k 2) 3 (cond (nat_le k 4) 16 28)

-- the number that the three octets at i hold, the highest first
abbrev pub number_at : List ℕ → ℕ → ℕ
number_at o i = slice_index o i * 65536 + slice_index o (i + 1) * 256 + slice_index o (i + 2)

-- a number in three octets, the highest first
abbrev pub three_octets : ℕ → List ℕ
three_octets m = m / 65536 ∷ m / 256 % 256 ∷ m % 256 ∷ []
