-- A message that is read, written again from its fields, is the same octets.
use Rattle.std.proofs.Common.{◌≡◌, ℕ, suc, ◌+◌, ◌*◌, ◌/◌, ◌%◌, ◌<◌, ◌≤◌, Bool, true, false, cond, ◌&&◌, eqb, ltb, List, [], ◌∷◌, ◌++◌, length, get_or, take, drop, Ok, Err, Result, sym, refl, ap, ◌∙◌, arith, drop-cons}
use Rattle.std.proofs.lemmas.List.{take-append-drop, drop-drop, length-drop, length-take-le, take_all, append-nil}
use Rattle.std.proofs.lemmas.Bool.{ltb-false, eqb-true, and_parts}
use Rattle.fault.specs.declared.Fault.{Fault}
use Rattle.message.specs.declared.Direction.TheVariants.{Request, Response}
use Rattle.message.specs.declared.Kind.TheVariants.{Act, Verify, Enc}
use Rattle.message.specs.Layout.{known, map_of, number_at, three_octets}
use Rattle.message.specs.Reading.{checked, shaped}
use Rattle.message.specs.Laws.{WrittenAgain, ByTheMap}

-- an answer that is Ok came by the way that does not refuse
module _ {W : Type 0} where
  pub passed : (b : Bool) (x : Result W Fault) (f : Fault) {w : W} → cond b x (Err f) ≡ Ok w → (b ≡ true) × (x ≡ Ok w)
  passed true x f e = (refl, e)
  passed false x f e = let z : ◌≡◌ {A = ℕ} 0 1 = cc in absurd (omega arith)

  pub went_on : (b : Bool) (x : Result W Fault) (f : Fault) {w : W} → cond b (Err f) x ≡ Ok w → (b ≡ false) × (x ≡ Ok w)
  went_on true x f e = let z : ◌≡◌ {A = ℕ} 0 1 = cc in absurd (omega arith)
  went_on false x f e = (refl, e)

-- what the check says of the first three octets and the rest
pub record Checked (k p : ℕ) (o : List ℕ) : Type 0 where
  pub long : 3 ≤ length o
  pub kind : get_or o 0 0 ≡ k
  pub protocol : get_or o 1 0 ≡ p
  pub map : get_or o 2 0 ≡ map_of k
  pub lengths : shaped k o ≡ Ok tt

pub was_checked : (k p : ℕ) (o : List ℕ) → checked k p o ≡ Ok tt → Checked k p o
was_checked k p o e =
    let a = went_on (ltb (length o) 3) _ _ e in
    let b = passed (known k && eqb (get_or o 0 0) k) _ _ a.1 in
    let c = passed (eqb (get_or o 1 0) p) _ _ b.1 in
    let d = passed (eqb (get_or o 2 0) (map_of k)) _ _ c.1 in
    record {
      long = ltb-false (length o) 3 a.0;
      kind = eqb-true (get_or o 0 0) k (and_parts (known k) (eqb (get_or o 0 0) k) b.0).1;
      protocol = eqb-true (get_or o 1 0) p c.0;
      map = eqb-true (get_or o 2 0) (map_of k) d.0;
      lengths = d.1;
    }

-- the three octets from i on, and the rest
pub three_at : (o : List ℕ) (i : ℕ) → i + 3 ≤ length o → drop i o ≡ get_or o i 0 ∷ get_or o (i + 1) 0 ∷ get_or o (i + 2) 0 ∷ drop (i + 3) o
three_at o i h =
    let p : suc i ≡ i + 1 = omega arith in
    let q : suc (i + 1) ≡ i + 2 = omega arith in
    let r : suc (i + 2) ≡ i + 3 = omega arith in
    let a : drop i o ≡ get_or o i 0 ∷ drop (suc i) o = drop-cons o i 0 (omega arith) in
    let b : drop (i + 1) o ≡ get_or o (i + 1) 0 ∷ drop (suc (i + 1)) o = drop-cons o (i + 1) 0 (omega arith) in
    let c : drop (i + 2) o ≡ get_or o (i + 2) 0 ∷ drop (suc (i + 2)) o = drop-cons o (i + 2) 0 (omega arith) in
    cc

-- a number of three octets, written again
three_again : (a b c : ℕ) → b < 256 → c < 256 → three_octets (a * 65536 + b * 256 + c) ≡ a ∷ b ∷ c ∷ []
three_again a b c h g =
    let x : (a * 65536 + b * 256 + c) / 65536 ≡ a = omega arith in
    let y : (a * 65536 + b * 256 + c) / 256 % 256 ≡ b = omega arith in
    let z : (a * 65536 + b * 256 + c) % 256 ≡ c = omega arith in
    simp (x, y, z)

head_again : (k p : ℕ) (o : List ℕ) → Checked k p o → o ≡ k ∷ p ∷ map_of k ∷ drop 3 o
head_again k p o h = three_at o 0 h.long ∙ simp (h.kind, h.protocol, h.map)

-- a part of n octets and the last 12
last_part : (o : List ℕ) (i n : ℕ) → length o ≡ i + n + 12 → take n (drop i o) ++ take 12 (drop (i + n) o) ≡ drop i o
last_part o i n h =
    let e : take 12 (drop (i + n) o) ≡ drop (i + n) o = take_all 12 (drop (i + n) o) (omega (arith, length-drop (i + n) o)) in
    simp e (ap (λ v. take n (drop i o) ++ v) (sym (drop-drop n i o)) ∙ take-append-drop n (drop i o))

pub written-again : WrittenAgain
written-again (Act Request) p o b e =
    let h = was_checked 1 p o e in
    let l = eqb-true (length o) 40 (passed (eqb (length o) 40) _ _ h.lengths).0 in
    sym (head_again 1 p o h ∙ ap (λ v. 1 ∷ p ∷ 3 ∷ v) (sym (last_part o 3 25 l)))
written-again (Act Response) p o b e =
    let h = was_checked 2 p o e in
    let l = eqb-true (length o) 40 (passed (eqb (length o) 40) _ _ h.lengths).0 in
    sym (head_again 2 p o h ∙ ap (λ v. 2 ∷ p ∷ 3 ∷ v) (sym (last_part o 3 25 l)))
written-again (Verify Request) p o b e =
    let h = was_checked 3 p o e in
    let l = eqb-true (length o) 15 (passed (eqb (length o) 15) _ _ h.lengths).0 in
    sym (head_again 3 p o h ∙ ap (λ v. 3 ∷ p ∷ 16 ∷ v) (sym (last_part o 3 0 l)))
written-again (Verify Response) p o b e =
    let h = was_checked 4 p o e in
    let l = eqb-true (length o) 15 (passed (eqb (length o) 15) _ _ h.lengths).0 in
    sym (head_again 4 p o h ∙ ap (λ v. 4 ∷ p ∷ 16 ∷ v) (sym (last_part o 3 0 l)))
written-again Enc p o b e =
    let h = was_checked 5 p o e in
    let n : ℕ = number_at o 6 in
    let q = went_on (ltb (length o) 9) _ _ h.lengths in
    let r = went_on (ltb 4096 n) _ _ q.1 in
    let l : length o ≡ 21 + n = eqb-true (length o) (21 + n) (passed (eqb (length o) (21 + n)) _ _ r.1).0 in
    let m : three_octets (number_at o 3) ≡ get_or o 3 0 ∷ get_or o 4 0 ∷ get_or o 5 0 ∷ [] =
    three_again (get_or o 3 0) (get_or o 4 0) (get_or o 5 0) (b 4 (omega arith)) (b 5 (omega arith)) in
    let s : length (take n (drop 9 o)) ≡ n = length-take-le n (drop 9 o) (omega (arith, length-drop 9 o)) in
    let t : three_octets n ≡ get_or o 6 0 ∷ get_or o 7 0 ∷ get_or o 8 0 ∷ [] =
    three_again (get_or o 6 0) (get_or o 7 0) (get_or o 8 0) (b 7 (omega arith)) (b 8 (omega arith)) in
    let u : drop 3 o ≡ get_or o 3 0 ∷ get_or o 4 0 ∷ get_or o 5 0 ∷ drop 6 o = three_at o 3 (omega arith) in
    let v : drop 6 o ≡ get_or o 6 0 ∷ get_or o 7 0 ∷ get_or o 8 0 ∷ drop 9 o = three_at o 6 (omega arith) in
    let w : take n (drop 9 o) ++ take 12 (drop (9 + n) o) ≡ drop 9 o = last_part o 9 n (omega arith) in
    let x = head_again 5 p o h in
    cc

pub by_the_map : ByTheMap
by_the_map Request p m l n d t = (ap (λ v. 1 ∷ p ∷ 3 ∷ (l ++ v)) (sym (append-nil n)), refl, refl)
by_the_map Response p m l n d t = (ap (λ v. 2 ∷ p ∷ 3 ∷ (l ++ v)) (sym (append-nil n)), refl, refl)
