-- What is written reads back equal, and what is read is written again.
use Rattle.std.proofs.Common.{◌≡◌, ℕ, ◌+◌, ◌*◌, ◌/◌, ◌%◌, true, false, eqb, ltb, List, ◌++◌, length, take, drop, sym, refl, ap, ◌∙◌, arith}
use Rattle.std.proofs.lemmas.List.{take_at, drop_at, drop-drop, length-append, take_all}
use Rattle.std.proofs.lemmas.Bool.{eq-eqb, le-ltb}
use Rattle.message.specs.declared.Direction.TheVariants.{Request, Response}
use Rattle.message.specs.Writing.{octets_of, enc}
use Rattle.message.specs.Laws.{ActBack, VerifyBack, EncBack}

act_parts : (l n : List ℕ) → length l ≡ 25 → length n ≡ 12
    → (length (l ++ n) ≡ 37) × (take 25 (l ++ n) ≡ l) × (take 12 (drop 25 (l ++ n)) ≡ n)
act_parts l n h g =
    (omega (arith, length-append l n), take_at l n 25 h, ap (take 12) (drop_at l n 25 h) ∙ take_all 12 n (omega arith))

pub act_back : ActBack
act_back Request p l n h g =
    let q = act_parts l n h g in
    let t : eqb p p ≡ true = eq-eqb p p refl in
    (simp (q.0, t), simp (q.1, q.2))
act_back Response p l n h g =
    let q = act_parts l n h g in
    let t : eqb p p ≡ true = eq-eqb p p refl in
    (simp (q.0, t), simp (q.1, q.2))

pub verify_back : VerifyBack
verify_back Request p t h =
    let e : eqb p p ≡ true = eq-eqb p p refl in
    let z : take 12 t ≡ t = take_all 12 t (omega arith) in
    (simp (h, e), simp z)
verify_back Response p t h =
    let e : eqb p p ≡ true = eq-eqb p p refl in
    let z : take 12 t ≡ t = take_all 12 t (omega arith) in
    (simp (h, e), simp z)

three : (m : ℕ) → m / 65536 * 65536 + m / 256 % 256 * 256 + m % 256 ≡ m
three m = omega arith

pub enc_back : EncBack
enc_back p m d t a b h =
    let o : List ℕ = octets_of 5 p (enc m d t) in
    let e : length o ≡ 21 + length d = omega (arith, length-append d t) in
    let u : ltb (length o) 3 ≡ false = le-ltb (length o) 3 (omega arith) in
    let v : ltb (length o) 9 ≡ false = le-ltb (length o) 9 (omega arith) in
    let w : ltb 4096 (length d) ≡ false = le-ltb 4096 (length d) b in
    let q : eqb (length o) (21 + length d) ≡ true = eq-eqb (length o) (21 + length d) e in
    let t5 : eqb p p ≡ true = eq-eqb p p refl in
    let x : take (length d) (d ++ t) ≡ d = take_at d t (length d) refl in
    let y : drop (9 + length d) o ≡ t = sym (drop-drop (length d) 9 o) ∙ drop_at d t (length d) refl in
    let z : take 12 t ≡ t = take_all 12 t (omega arith) in
    (simp (three, u, v, w, q, t5), simp (three, x, y, z))
