-- A chip record: an own label of 25 octets, then rows of 50: a peer's label (25), its validity (1) and its secret (24).
use Rattle.std.specs.Prelude.{ℕ, zero, suc, ◌-◌, ◌/◌, ◌%◌, Bool, cond, ◌&&◌, List, [], ◌∷◌, length, take, drop, Some, None, Option, Ok, Err, ◌==◌, nat_le, slice_index}
use Rattle.std.specs.Option.{option_or, unwrap_or}
use Rattle.std.specs.Str.{bytes_eq}
use Rattle.lookup.specs.declared.Invalid.TheVariants.{Label}
use Rattle.lookup.specs.Replies.{Reply}

-- the lengths of records: a label and 0 to 64 whole rows
abbrev pub is_length : ℕ → Bool
is_length n = nat_le 25 n && (nat_le (n - 25) 3200 && (n - 25) % 50 == 0)

-- the first n rows
abbrev pub cut : ℕ → List ℕ → List (List ℕ)
cut zero xs = []
cut (suc n) xs = take 50 xs ∷ cut n (drop 50 xs)

-- all whole rows
unfoldable pub rows_of : List ℕ → List (List ℕ)
rows_of xs = cut (length xs / 50) xs

-- the reply of a row: its secret, if its validity is 1
abbrev pub row_reply : List ℕ → Reply
row_reply row = cond (slice_index row 25 == 1) (Ok (take 24 (drop 26 row))) (Err Label)

-- the reply of a row, if it has the peer's label
abbrev pub matching_reply : List ℕ → List ℕ → Option Reply
matching_reply peer row = cond (bytes_eq (take 25 row) peer) (Some (row_reply row)) None

-- the reply of the row that decides: the first with the peer's label
unfoldable pub deciding_reply : List ℕ → List (List ℕ) → Option Reply
deciding_reply peer [] = None
deciding_reply peer (row ∷ rows) = option_or (matching_reply peer row) (deciding_reply peer rows)

-- the reply to a peer's label: invalid, if no row has it
abbrev pub reply_in : List ℕ → List ℕ → Reply
reply_in rows peer = unwrap_or (deciding_reply peer (rows_of rows)) (Err Label)
