-- Own keys, made of what the file has.
use Rattle.std.specs.Prelude.{◌≡◌, ℕ, true, false, List, length, take, drop, Some, None, Option, Ok, Err, Result, vec_items}
use Rattle.fault.specs.Faults.{host_fault}
use Rattle.fault.specs.declared.Fault.{Fault}
use Rattle.fault.specs.declared.HostCause.TheVariants.{OwnKey as NoOwnKey}
use Rattle.lookup.specs.Bench.{power_of, is_private, label_of, reply_to}
use Rattle.lookup.specs.Chip.{is_length, reply_in}
use Rattle.recorded.specs.declared.key.OwnKey.{OwnKey}
use Rattle.recorded.specs.declared.key.OwnKey.TheVariants as given
use Rattle.lookup.specs.declared.either.EitherKey.{EitherKey}
use Rattle.lookup.specs.declared.either.EitherKey.TheVariants as made

-- the key of a private number, or of a chip record, where it can be made
abbrev pub Makes : OwnKey → Result EitherKey Fault → Type 0
Makes (given.Bench d) (Ok (made.Bench k)) = (is_private d ≡ true) × (k.d ≡ d) × (k.value ≡ power_of 7 d)
Makes (given.Bench d) (Ok (made.Chip c)) = ⊥
Makes (given.Bench d) (Err e) = (is_private d ≡ false) × (e ≡ host_fault NoOwnKey)
Makes (given.Chip o) (Ok (made.Bench k)) = ⊥
Makes (given.Chip o) (Ok (made.Chip c)) = (is_length (length (vec_items o)) ≡ true) × (c.label ≡ take 25 (vec_items o)) × (c.rows.now ≡ drop 25 (vec_items o))
Makes (given.Chip o) (Err e) = (is_length (length (vec_items o)) ≡ false) × (e ≡ host_fault NoOwnKey)

-- what an own key is made of has this label, and gives the peer's label this secret
abbrev pub Gives : OwnKey → List ℕ → List ℕ → List ℕ → Type 0
Gives (given.Bench d) own peer z = (is_private d ≡ true) × (label_of (power_of 7 d) ≡ own) × (reply_to d peer ≡ Ok z)
Gives (given.Chip o) own peer z = (is_length (length (vec_items o)) ≡ true) × (take 25 (vec_items o) ≡ own) × (reply_in (drop 25 (vec_items o)) peer ≡ Ok z)

-- likewise, where there is an own key
abbrev pub GivenBy : Option OwnKey → List ℕ → List ℕ → List ℕ → Type 0
GivenBy None own peer z = ⊥
GivenBy (Some k) own peer z = Gives k own peer z
