-- The keys and the first counter of a session, by the cipher e, the nonces na and nb, the identities ida and idb and the secret z.
use Rattle.std.specs.Prelude.{ℕ, List, [], ◌∷◌, ◌++◌, take}
use Rattle.std.specs.Int.Digits.{number_from_digits}
use Rattle.keyed.specs.Xcbc.{keyed_result}
use Rattle.keyed.specs.declared.derivation.SessionKeys.{SessionKeys}

-- S: the first eight octets of each nonce
unfoldable pub split : List ℕ → List ℕ → List ℕ
split na nb = take 8 na ++ take 8 nb

-- SKEYSEED = result(S, Z)
unfoldable pub seed : (List ℕ → List ℕ → List ℕ) → List ℕ → List ℕ → List ℕ → List ℕ
seed e na nb z = keyed_result e (split na nb) z

-- the string of MK: S, IDA, IDB, 01
unfoldable pub master_string : List ℕ → List ℕ → List ℕ → List ℕ → List ℕ
master_string na nb ida idb = split na nb ++ ida ++ idb ++ 1 ∷ []

-- MK, by SKEYSEED
unfoldable pub master_key : (List ℕ → List ℕ → List ℕ) → List ℕ → List ℕ → List ℕ → List ℕ → List ℕ → List ℕ
master_key e na nb ida idb z = keyed_result e (seed e na nb z) (master_string na nb ida idb)

-- the string of KE: MK, S, IDA, IDB, 02
unfoldable pub encryption_string : List ℕ → List ℕ → List ℕ → List ℕ → List ℕ → List ℕ
encryption_string mk na nb ida idb = mk ++ split na nb ++ ida ++ idb ++ 2 ∷ []

-- KE, by SKEYSEED
unfoldable pub encryption_key : (List ℕ → List ℕ → List ℕ) → List ℕ → List ℕ → List ℕ → List ℕ → List ℕ → List ℕ
encryption_key e na nb ida idb z = keyed_result e (seed e na nb z) (encryption_string (master_key e na nb ida idb z) na nb ida idb)

-- the string of KI: KE, S, IDA, IDB, 03
unfoldable pub integrity_string : List ℕ → List ℕ → List ℕ → List ℕ → List ℕ → List ℕ
integrity_string ke na nb ida idb = ke ++ split na nb ++ ida ++ idb ++ 3 ∷ []

-- KI, by SKEYSEED
unfoldable pub integrity_key : (List ℕ → List ℕ → List ℕ) → List ℕ → List ℕ → List ℕ → List ℕ → List ℕ → List ℕ
integrity_key e na nb ida idb z = keyed_result e (seed e na nb z) (integrity_string (encryption_key e na nb ida idb z) na nb ida idb)

-- the string of the first counter: KI, both nonces whole, 04
unfoldable pub counter_string : List ℕ → List ℕ → List ℕ → List ℕ
counter_string ki na nb = ki ++ na ++ nb ++ 4 ∷ []

-- the first counter, by MK: sixteen octets read as a number, the highest first
unfoldable pub first_counter : (List ℕ → List ℕ → List ℕ) → List ℕ → List ℕ → List ℕ → List ℕ → List ℕ → ℕ
first_counter e na nb ida idb z = number_from_digits 256 (keyed_result e (master_key e na nb ida idb z) (counter_string (integrity_key e na nb ida idb z) na nb))

-- what a session starts with
abbrev pub derived : (List ℕ → List ℕ → List ℕ) → List ℕ → List ℕ → List ℕ → List ℕ → List ℕ → SessionKeys
derived e na nb ida idb z = record {
  master = master_key e na nb ida idb z;
  encryption = encryption_key e na nb ida idb z;
  integrity = integrity_key e na nb ida idb z;
  counter = first_counter e na nb ida idb z;
}

-- each key and string of which the derivation works out the result: SKEYSEED, MK, KE, KI and the first counter
abbrev pub derivation_results : (List ℕ → List ℕ → List ℕ) → List ℕ → List ℕ → List ℕ → List ℕ → List ℕ → List (List ℕ × List ℕ)
derivation_results e na nb ida idb z =
    (split na nb, z)
    ∷ (seed e na nb z, master_string na nb ida idb)
    ∷ (seed e na nb z, encryption_string (master_key e na nb ida idb z) na nb ida idb)
    ∷ (seed e na nb z, integrity_string (encryption_key e na nb ida idb z) na nb ida idb)
    ∷ (master_key e na nb ida idb z, counter_string (integrity_key e na nb ida idb z) na nb)
    ∷ []
