-- Parts written one after another: the step of the loop, and its bounds.
use Rattle.std.proofs.Common.{◌≡◌, ℕ, ◌+◌, ◌<◌, ◌≤◌, List, [], ◌∷◌, ◌++◌, length, get_or, take, drop, sym, refl, ap, ◌∙◌, arith, length-append, Bor}
use borrow.Rule.Slice.PartMut.{put_mid}
use Rattle.std.proofs.lemmas.List.{append_assoc, append-nil, drop_all, drop_at, drop-drop, take_at, take_more, take-append-drop, take_all}
use Rattle.keyed.specs.Parts.{joined}

-- what the code reads past the last part
abbrev pub nothing : Bor (List ℕ)
nothing = record { ref_ptr = (0, 0); now = [] }

joined-append : (ps qs : List (Bor (List ℕ))) → joined (ps ++ qs) ≡ joined ps ++ joined qs
joined-append [] qs = refl
joined-append (p ∷ ps) qs = ap (λ t. p.now ++ t) (joined-append ps qs) ∙ sym (append_assoc p.now (joined ps) (joined qs))

pub joined-more : (ps : List (Bor (List ℕ))) (i : ℕ) (d : Bor (List ℕ)) → i < length ps → joined (take (i + 1) ps) ≡ joined (take i ps) ++ (get_or ps i d).now
joined-more ps i d h =
    ap joined (take_more ps i d h) ∙ joined-append (take i ps) (get_or ps i d ∷ []) ∙ ap (λ t. joined (take i ps) ++ t) (append-nil (get_or ps i d).now)

-- the next part still has room where the whole has
pub joined-room : (ps : List (Bor (List ℕ))) (i a : ℕ) (d : Bor (List ℕ)) → i < length ps → a ≡ length (joined (take i ps)) → a + length (get_or ps i d).now ≤ length (joined ps)
joined-room ps i a d h e =
    let m = ap length (joined-more ps i d h) ∙ length-append (joined (take i ps)) (get_or ps i d).now in
    let w = ap (λ v. length (joined v)) (take-append-drop (i + 1) ps) in
    let p = ap length (joined-append (take (i + 1) ps) (drop (i + 1) ps)) ∙ length-append (joined (take (i + 1) ps)) (joined (drop (i + 1) ps)) in
    omega arith

-- a part x written right after what was written
put_next : (w x o : List ℕ) (a k j : ℕ) → a ≡ length w → k ≡ length x → j ≡ k → put_mid a j (w ++ drop a o) x ≡ w ++ x ++ drop (a + k) o
put_next w x o a k j ea ek ej =
    let e1 : take a (w ++ drop a o) ≡ w = take_at w (drop a o) a (sym ea) in
    let e2 : drop a (w ++ drop a o) ≡ drop a o = drop_at w (drop a o) a (sym ea) in
    let e3 : drop k (drop a o) ≡ drop (a + k) o = drop-drop k a o in
    rw (e1, e2, ej, e3) (sym (append_assoc w x (drop (a + k) o)))

pub write_step :
    (ps : List (Bor (List ℕ))) (i a : ℕ) (d : Bor (List ℕ)) (s o x : List ℕ) (j : ℕ) →
    i < length ps → a ≡ length (joined (take i ps)) → s ≡ joined (take i ps) ++ drop a o → x ≡ (get_or ps i d).now → j ≡ length (get_or ps i d).now →
    (a + length (get_or ps i d).now ≡ length (joined (take (i + 1) ps))) × (put_mid a j s x ≡ joined (take (i + 1) ps) ++ drop (a + length (get_or ps i d).now) o)
write_step ps i a d s o x j h ea es ex ej =
    let m = joined-more ps i d h in (
      (let l = ap length m ∙ length-append (joined (take i ps)) (get_or ps i d).now in omega arith),
      rw (es, ex, m) (put_next (joined (take i ps)) (get_or ps i d).now o a (length (get_or ps i d).now) j ea refl ej),
    )

pub at_all : (ps : List (Bor (List ℕ))) (i a : ℕ) → i ≡ length ps → a ≡ length (joined (take i ps)) → a ≡ length (joined ps)
at_all ps i a ei ea = ea ∙ ap (λ v. length (joined v)) (take_all i ps (omega arith))

pub write_all : (ps : List (Bor (List ℕ))) (i a : ℕ) (s o : List ℕ) → i ≡ length ps → a ≡ length (joined (take i ps)) → s ≡ joined (take i ps) ++ drop a o → s ≡ joined ps ++ drop (length (joined ps)) o
write_all ps i a s o ei ea es =
    let t : take i ps ≡ ps = take_all i ps (omega arith) in
    rw (t) at (es ∙ ap (λ n. joined (take i ps) ++ drop n o) ea)

-- parts that fill the string
pub fills : (p o : List ℕ) {s : List ℕ} → length o ≤ length p → s ≡ p ++ drop (length p) o → s ≡ p
fills p o h e = e ∙ ap (λ t. p ++ t) (drop_all (length p) o h) ∙ append-nil p

-- an octet and four parts of seventy octets in all fill a string of seventy-one
pub fills_confirmation :
    (x : ℕ) (a b p q o : List ℕ) {s : List ℕ} → length o ≡ 71 → length a ≡ 10 → length b ≡ 10 → length p ≡ 25 → length q ≡ 25 →
    s ≡ (x ∷ (a ++ (b ++ (p ++ (q ++ []))))) ++ drop (length (x ∷ (a ++ (b ++ (p ++ (q ++ [])))))) o → s ≡ (x ∷ []) ++ a ++ b ++ p ++ q
fills_confirmation x a b p q o ho ha hb hp hq e = fills (x ∷ (a ++ (b ++ (p ++ (q ++ []))))) o (simp length-append (omega arith)) e ∙ simp (append_assoc, append-nil)
