-- Checks that pass, and what an accepted call writes.
use Rattle.std.proofs.Common.{◌≡◌, ℕ, ◌≤◌, Bool, true, false, cond, eqb, ltb, List, [], ◌∷◌, length, take, drop, Ok, Err, Result, sym, refl, ap, ◌∙◌, arith}
use Rattle.std.specs.Str.{bytes_eq}
use Rattle.std.proofs.lemmas.List.{take_at}
use Rattle.std.proofs.lemmas.Bool.{le-ltb, eq-eqb, and_from, cond-false, cond-true}
use Rattle.fault.specs.declared.Fault.{Fault}
use Rattle.fault.specs.declared.HostCause.TheVariants.{Size}
use Rattle.fault.specs.Faults.{host_fault}
use Rattle.lookup.specs.Replies.{Reply}
use Rattle.channel.specs.Steps.{sized, unless, and_then, secret_or, written}

pub sized-passes : {W : Type 0} (n : ℕ) (b : List ℕ) (r : Result W Fault) → n ≤ length b → sized n b r ≡ r
sized-passes n b r h = cond-false (ltb (length b) n) (Err (host_fault Size)) r (le-ltb (length b) n h)

pub unless-passes : {W : Type 0} (t : Bool) (f : Fault) (r : Result W Fault) → t ≡ false → unless t f r ≡ r
unless-passes t f r e = cond-false t (Err f) r e

pub unless-refuses : {W : Type 0} (t : Bool) (f : Fault) (r : Result W Fault) → t ≡ true → unless t f r ≡ Err f
unless-refuses t f r e = cond-true t (Err f) r e

pub and_then-passes : {V W : Type 0} (c : Result V Fault) (v : V) (r : Result W Fault) → c ≡ Ok v → and_then c r ≡ r
and_then-passes c v r e = ap (λ x. and_then x r) e

pub secret_or-passes : {W : Type 0} (y : Reply) (z : List ℕ) (f : List ℕ → Result W Fault) → y ≡ Ok z → secret_or y f ≡ f z
secret_or-passes y z f e = ap (λ x. secret_or x f) e

bytes_eq-self : (a : List ℕ) → bytes_eq a a ≡ true
bytes_eq-self [] = refl
bytes_eq-self (x ∷ xs) = and_from (eqb x x) (bytes_eq xs xs) (eq-eqb x x refl) (bytes_eq-self xs)

-- a tag that is compared with an equal one
pub tag_passes : {W : Type 0} (a b : List ℕ) (r s : Result W Fault) → a ≡ b → cond (bytes_eq a b) r s ≡ r
tag_passes a b r s e = cond-true (bytes_eq a b) r s (ap (bytes_eq a) (sym e) ∙ bytes_eq-self a)

-- the n octets that an accepted call wrote
pub written-take :
    {W : Type 0} {r : Result W Fault} {w : W} (n : ℕ) (f : W → List ℕ) (o : List ℕ) → r ≡ Ok w → length (f w) ≡ n → take n (written n f r o) ≡ f w
written-take {w = w} n f o e h = ap (λ x. take n (written n f x o)) e ∙ take_at (f w) (drop n o) n h

-- what was accepted after a check passed that check
pub after_check : {W : Type 0} (v : Result (Unit {0}) Fault) (r : Result W Fault) {w : W} → and_then v r ≡ Ok w → (v ≡ Ok tt) × (r ≡ Ok w)
after_check (Ok u) r e = (refl, e)
after_check (Err f) r e = let z : ◌≡◌ {A = ℕ} 0 1 = cc in absurd (omega arith)

-- what was accepted with the secret of a reply had one
pub with_secret : {W : Type 0} (y : Reply) (f : List ℕ → Result W Fault) {w : W} → secret_or y f ≡ Ok w → (z : List ℕ) × (f z ≡ Ok w)
with_secret (Ok z) f e = (z, e)
with_secret (Err x) f e = let z : ◌≡◌ {A = ℕ} 0 1 = cc in absurd (omega arith)
