-- What is written reads back equal, and what is read is written again octet for octet.
use Rattle.std.specs.Prelude.{◌≡◌, ℕ, ◌/◌, ◌%◌, ◌^◌, ◌<◌, ◌≤◌, cond, List, [], ◌∷◌, ◌++◌, length, Ok, ◌==◌, slice_index}
use Rattle.message.specs.declared.Direction.{Direction}
use Rattle.message.specs.declared.Kind.{Kind}
use Rattle.message.specs.declared.Kind.TheVariants.{Act, Verify, Enc}
use Rattle.message.specs.Layout.{kind_number, map_of, three_octets}
use Rattle.message.specs.Reading.{checked, fields_at}
use Rattle.message.specs.Writing.{Fields, act, verify, enc, octets_of}

-- the octets o are a message of kind k under p, and its fields are f
abbrev pub Reads : Kind → ℕ → List ℕ → Fields → Type 0
Reads k p o f = (checked (kind_number k) p o ≡ Ok tt) × (fields_at k o ≡ f)

-- every label and nonce
abbrev pub ActBack : Type 0
ActBack = (d : Direction) (p : ℕ) (l n : List ℕ) → length l ≡ 25 → length n ≡ 12
    → Reads (Act d) p (octets_of (kind_number (Act d)) p (act l n)) (act l n)

-- every tag
abbrev pub VerifyBack : Type 0
VerifyBack = (d : Direction) (p : ℕ) (t : List ℕ) → length t ≡ 12
    → Reads (Verify d) p (octets_of (kind_number (Verify d)) p (verify t)) (verify t)

-- every number of three octets, data up to 4,096 octets and tag
abbrev pub EncBack : Type 0
EncBack = (p m : ℕ) (d t : List ℕ) → m < 2 ^ 24 → length d ≤ 4096 → length t ≡ 12
    → Reads Enc p (octets_of 5 p (enc m d t)) (enc m d t)

-- each element is an octet
abbrev pub Octets : List ℕ → Type 0
Octets o = (i : ℕ) → i < length o → slice_index o i < 256

-- a message that is read, written again from its fields, is the same octets
abbrev pub WrittenAgain : Type 0
WrittenAgain = (k : Kind) (p : ℕ) (o : List ℕ) → Octets o → checked (kind_number k) p o ≡ Ok tt
    → octets_of (kind_number k) p (fields_at k o) ≡ o

-- a field stands in a message where its bit stands in the map
abbrev pub field : ℕ → ℕ → List ℕ → List ℕ
field m i x = cond (m / 2 ^ i % 2 == 1) x []

-- the fields whose bits stand in the map, lowest bit first: label, nonce, number, length and data, tag
abbrev pub by_map : ℕ → List ℕ → List ℕ → ℕ → List ℕ → List ℕ → List ℕ
by_map m l n k d t =
    field m 0 l ++ (field m 1 n ++ (field m 2 (three_octets k) ++ (field m 3 (three_octets (length d) ++ d) ++ field m 4 t)))

-- the octets of a message of kind k: kind, protocol identifier, map, and the fields by that map
abbrev pub mapped : Kind → ℕ → List ℕ → List ℕ → ℕ → List ℕ → List ℕ → List ℕ
mapped k p l n m d t = kind_number k ∷ p ∷ map_of (kind_number k) ∷ by_map (map_of (kind_number k)) l n m d t

-- the octets of each kind follow its map, which leaves the other fields out
abbrev pub ByTheMap : Type 0
ByTheMap = (w : Direction) (p m : ℕ) (l n d t : List ℕ)
    → (octets_of (kind_number (Act w)) p (act l n) ≡ mapped (Act w) p l n m d t)
    × (octets_of (kind_number (Verify w)) p (verify t) ≡ mapped (Verify w) p l n m d t)
    × (octets_of (kind_number Enc) p (enc m d t) ≡ mapped Enc p l n m d t)
