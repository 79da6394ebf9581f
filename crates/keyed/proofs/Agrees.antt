-- Octets of one length are the same just where no bit is gathered in comparing them.
use Rattle.std.proofs.Common.{◌≡◌, ℕ, eqb, List, [], ◌∷◌, length, Decides, refl, sym, ap, ◌∙◌, arith}
use lib.Bits.{bit_or, bit_xor, or_add_and, and_le_l, and_le_r, xor_self, xor_zero_l, xor_zero_r, xor_assoc}
use Rattle.std.specs.Str.{bytes_eq}
use Rattle.std.proofs.lemmas.Bool.{eqb-true, eq-eqb}
use Rattle.std.proofs.lemmas.Bool.Decides.{same_from_decides}
use Rattle.std.proofs.lemmas.Slice.Eq.{bytes_eq-Decides}
use Rattle.keyed.specs.Compared.{gathered}

or_none_l : (x y : ℕ) → bit_or x y ≡ 0 → x ≡ 0
or_none_l x y e = omega (arith, or_add_and x y, and_le_r x y)

or_none_r : (x y : ℕ) → bit_or x y ≡ 0 → y ≡ 0
or_none_r x y e = omega (arith, or_add_and x y, and_le_l x y)

xor-none : (x y : ℕ) → bit_xor x y ≡ 0 → x ≡ y
xor-none x y e = sym (xor_zero_r x) ∙ ap (bit_xor x) (sym (xor_self y)) ∙ sym (xor_assoc x y y) ∙ ap (λ z. bit_xor z y) e ∙ xor_zero_l y

-- none were gathered: there were none at first, and the octets are the same
none : (d : ℕ) (a b : List ℕ) → length a ≡ length b → gathered d a b ≡ 0 → (d ≡ 0) × (a ≡ b)
none d [] [] l e = (e, refl)
none d [] (y ∷ b) l e = absurd (omega arith)
none d (x ∷ a) [] l e = absurd (omega arith)
none d (x ∷ a) (y ∷ b) l e =
    let h : (bit_or d (bit_xor x y) ≡ 0) × (a ≡ b) = none (bit_or d (bit_xor x y)) a b (omega arith) e in
    (or_none_l d (bit_xor x y) h.0, ap (λ z. z ∷ a) (xor-none x y (or_none_r d (bit_xor x y) h.0)) ∙ ap (λ t. y ∷ t) h.1)

-- octets compared with themselves
itself : (a : List ℕ) → gathered 0 a a ≡ 0
itself [] = refl
itself (x ∷ a) = ap (λ d. gathered (bit_or 0 d) a a) (xor_self x) ∙ itself a

-- so the comparison tells whether they are the same
pub agreed : (a b : List ℕ) → length a ≡ length b → eqb (gathered 0 a b) 0 ≡ bytes_eq a b
agreed a b l =
    let r : Decides (eqb (gathered 0 a b) 0) (a ≡ b) = (
      (λ t. (none 0 a b l (eqb-true (gathered 0 a b) 0 t)).1),
      (λ s. eq-eqb (gathered 0 a b) 0 (ap (gathered 0 a) (sym s) ∙ itself a)),
    ) in
    same_from_decides (eqb (gathered 0 a b) 0) (bytes_eq a b) r (bytes_eq-Decides a b)
