-- Words parted by blanks, decimal numbers, and octets in hexadecimal.
use Rattle.std.specs.Prelude.{◌≡◌, ℕ, ◌+◌, ◌-◌, ◌*◌, ◌/◌, ◌%◌, Bool, cond, not, ◌&&◌, ◌||◌, List, [], map, length, take, drop, Some, None, fold, Option, ◌==◌, nat_le, slice_index}
use Rattle.std.specs.List.{range_with_len, prefix_len}

-- space, tab and carriage return part words
abbrev pub blank : ℕ → Bool
blank b = b == 32 || b == 9 || b == 13

-- 0 to 9
abbrev pub digit : ℕ → Bool
digit b = nat_le 48 b && nat_le b 57

-- 0 to 9, A to F, a to f
abbrev pub hex_digit : ℕ → Bool
hex_digit b = digit b || (nat_le 65 b && nat_le b 70) || (nat_le 97 b && nat_le b 102)

-- what calls return of a character is what `sort` says of it
abbrev pub Tests : (ℕ → Bool → Type 0) → (ℕ → Bool) → Type 0
Tests post sort = (b : ℕ) (r : Bool) → post b r → r ≡ sort b

-- what is no blank belongs to a word
abbrev pub no_blank : ℕ → Bool
no_blank b = not (blank b)

-- every character of the word passes the test
abbrev pub all_in : (ℕ → Bool) → List ℕ → Bool
all_in test w = prefix_len test w == length w

-- a text after the blanks at its start
abbrev pub trimmed : List ℕ → List ℕ
trimmed s = drop (prefix_len blank s) s

-- the first word, and what comes after it
abbrev pub word_of : List ℕ → List ℕ
word_of s = take (prefix_len no_blank (trimmed s)) (trimmed s)

abbrev pub rest_of : List ℕ → List ℕ
rest_of s = drop (prefix_len no_blank (trimmed s)) (trimmed s)

-- the value of decimal digits
abbrev pub decimal_value : List ℕ → ℕ
decimal_value w = fold (λ a b. a * 10 + (b - 48)) 0 w

-- a number is one to nine decimal digits
abbrev pub number_of : List ℕ → Option ℕ
number_of w = cond (nat_le 1 (length w) && nat_le (length w) 9 && all_in digit w) (Some (decimal_value w)) None

-- the value of a hexadecimal digit
abbrev pub hex_value : ℕ → ℕ
hex_value b = cond (nat_le b 57) (b - 48) (cond (nat_le b 70) (b - 55) (b - 87))

-- the octets of n pairs of hexadecimal digits
abbrev pub pairs : List ℕ → ℕ → List ℕ
pairs w n = map (λ i. hex_value (slice_index w (2 * i)) * 16 + hex_value (slice_index w (2 * i + 1))) (range_with_len 0 n)

-- the octets of a word: none for a hyphen, else one for each pair of digits
abbrev pub octets_in : List ℕ → Option (List ℕ)
octets_in w =
    cond (length w == 1 && slice_index w 0 == 45) (Some [])
    (cond (nat_le 1 (length w) && length w % 2 == 0 && all_in hex_digit w) (Some (pairs w (length w / 2))) None)
