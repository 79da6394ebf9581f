-- The bench group: powers modulo p = 2147483647, and the labels and secrets made of them.
use Rattle.std.specs.Prelude.{ℕ, ◌+◌, ◌*◌, ◌/◌, ◌%◌, ◌^◌, Bool, cond, ◌&&◌, List, [], ◌∷◌, ◌++◌, replicate, Some, None, Option, Ok, Err, ◌==◌, nat_le, slice_index}
use Rattle.std.specs.Str.{bytes_eq}
use Rattle.lookup.specs.declared.Invalid.TheVariants.{Label}
use Rattle.lookup.specs.Replies.{Reply}

-- b to the n, mod p
unfoldable pub power_of : ℕ → ℕ → ℕ
power_of b n = b ^ n % 2147483647

-- a value: 2 to p - 2
abbrev pub is_value : ℕ → Bool
is_value v = nat_le 2 v && nat_le v 2147483645

-- a private number: 1 to p - 2, with a power of 7 that is a value
abbrev pub is_private : ℕ → Bool
is_private d = nat_le 1 d && (nat_le d 2147483645 && is_value (power_of 7 d))

-- a number in 4 octets, highest first
abbrev pub octets_of : ℕ → List ℕ
octets_of v = (v / 16777216 % 256) ∷ (v / 65536 % 256) ∷ (v / 256 % 256) ∷ (v % 256) ∷ []

-- a number in 24 octets: twenty zeros, then those of the number
unfoldable pub padded : ℕ → List ℕ
padded v = replicate 20 0 ++ octets_of v

-- the label of a value
unfoldable pub label_of : ℕ → List ℕ
label_of v = 2 ∷ padded v

-- the number in the last 4 octets of a label
abbrev pub number_in : List ℕ → ℕ
number_in label = slice_index label 21 * 16777216 + slice_index label 22 * 65536 + slice_index label 23 * 256 + slice_index label 24

-- the value whose label this is, if any
abbrev pub value_of : List ℕ → Option ℕ
value_of label =
    let v : ℕ = number_in label in
    cond (is_value v && bytes_eq label (label_of v)) (Some v) None

-- the reply by a power that is shared: 1 is invalid
abbrev pub power_reply : ℕ → Reply
power_reply z = cond (z == 1) (Err Label) (Ok (padded z))

-- the reply with the private number d to a peer's value, if there is one
abbrev pub value_reply : ℕ → Option ℕ → Reply
value_reply d None = Err Label
value_reply d (Some v) = power_reply (power_of v d)

-- the reply with the private number d to a peer's label
abbrev pub reply_to : ℕ → List ℕ → Reply
reply_to d peer = value_reply d (value_of peer)
