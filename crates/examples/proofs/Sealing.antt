-- What seal answers a fob whose turn it is, and the check of a message that is an octet short.
use Rattle.std.proofs.Common.{◌≡◌, ℕ, ◌+◌, ◌%◌, ◌^◌, ◌<◌, ◌≤◌, true, false, eqb, ltb, leb, List, length, get_or, Ok, Err, refl, ap, ◌∙◌, arith}
use Rattle.std.proofs.lemmas.Bool.{lt-ltb, le-ltb, le-leb, lt-leb, eq-eqb}
use Rattle.fault.specs.declared.HostCause.TheVariants.{PayloadLength, LastNumber}
use Rattle.fault.specs.declared.MessageCause.TheVariants.{Length}
use Rattle.fault.specs.Faults.{host_fault, message_fault}
use Rattle.keyed.specs.Keystream.{moved}
use Rattle.message.specs.Reading.{checked}
use Rattle.channel.specs.declared.Open.{Open}
use Rattle.channel.specs.Packets.{seals_at, seal_check}
use Rattle.examples.specs.Examples.{Ready}

module _ {C K : Type 0} (x : Open C K) (p w o : List ℕ) (r : Ready x w o) where
  -- a payload that is not too long is sealed
  pub sealed : length p ≤ 4096 → seal_check x p w o ≡ Ok (21 + length p)
  sealed h =
      let a : ltb (length w) 256 ≡ false = le-ltb (length w) 256 r.space in
      let b : ltb 4096 (length p) ≡ false = le-ltb 4096 (length p) h in
      let c : ltb (length o) (21 + length p) ≡ false = le-ltb (length o) (21 + length p) (omega (arith, r.room)) in
      let d : leb 16777215 x.epoch.number ≡ false = lt-leb 16777215 x.epoch.number r.early in
      let t : seals_at x.role x.epoch.number ≡ true =
      ap (λ q. seals_at q x.epoch.number) r.fob ∙ eq-eqb (x.epoch.number % 2) 0 r.even in
      simp (a, b, c, d, t)

  -- one that is too long gets 2
  pub too_long : 4096 < length p → seal_check x p w o ≡ Err (host_fault PayloadLength)
  too_long h =
      let a : ltb (length w) 256 ≡ false = le-ltb (length w) 256 r.space in
      let b : ltb 4096 (length p) ≡ true = lt-ltb 4096 (length p) h in
      simp (a, b)

  -- at the last number seal gets 4, whatever the turn
  pub at_last : (y : Open C K) → length p ≤ 4096 → y.epoch.number ≡ 16777215 → seal_check y p w o ≡ Err (host_fault LastNumber)
  at_last y h e =
      let a : ltb (length w) 256 ≡ false = le-ltb (length w) 256 r.space in
      let b : ltb 4096 (length p) ≡ false = le-ltb 4096 (length p) h in
      let c : ltb (length o) (21 + length p) ≡ false = le-ltb (length o) (21 + length p) (omega (arith, r.room)) in
      let d : leb 16777215 y.epoch.number ≡ true = le-leb 16777215 y.epoch.number (omega (arith, e)) in
      simp (a, b, c, d)

pub unmoved : (c : ℕ) → c < 2 ^ 128 → moved c 0 ≡ c
unmoved c h = omega arith

pub by_two : (c : ℕ) → moved c 17 ≡ (c + 2) % 2 ^ 128
by_two c = refl

pub short : (pid : ℕ) (m : List ℕ) → length m ≡ 39 → get_or m 0 0 ≡ 1 → get_or m 1 0 ≡ pid → get_or m 2 0 ≡ 3
    → checked 1 pid m ≡ Err (message_fault Length 39)
short pid m l k p f =
    let e : eqb (get_or m 1 0) pid ≡ true = eq-eqb (get_or m 1 0) pid p in
    simp (l, k, e, f)
