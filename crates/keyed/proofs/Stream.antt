-- The keystream octet by octet, and its laws.
use Rattle.std.proofs.Common.{◌≡◌, ℕ, ◌+◌, ◌-◌, ◌/◌, ◌%◌, ◌^◌, ◌<◌, List, [], ◌∷◌, ◌++◌, map, length, get_or, take, drop, set, sym, refl, ap, ◌∙◌, arith}
use lib.Bits.{bit_xor, xor_assoc, xor_self, xor_zero_r}
use Rattle.std.specs.List.{range_with_len}
use Rattle.std.proofs.lemmas.List.FromFn.{get_or-map-range_with_len, length-map-range_with_len, map-range_with_len_more}
use Rattle.std.proofs.lemmas.List.{append_assoc, set_at, drop_more, length-take, get_or-take, ext_get_or}
use Rattle.keyed.specs.Keystream.{counter_block, streamed, xored, moved, over, GivesBack, KeepsLength}

-- the first n octets of the data under the keystream, where f enciphers under the key
unfoldable pub masked : (List ℕ → List ℕ) → ℕ → List ℕ → ℕ → List ℕ
masked f c d n = map (λ i. bit_xor (get_or d i 0) (streamed f c i)) (range_with_len 0 n)

length-masked : (f : List ℕ → List ℕ) (c : ℕ) (d : List ℕ) (n : ℕ) → length (masked f c d n) ≡ n
unfolding masked
length-masked f c d n = length-map-range_with_len (λ i. bit_xor (get_or d i 0) (streamed f c i)) 0 n

get_or-masked : (f : List ℕ → List ℕ) (c : ℕ) (d : List ℕ) (n k : ℕ) → k < n → get_or (masked f c d n) k 0 ≡ bit_xor (get_or d k 0) (streamed f c k)
unfolding masked
get_or-masked f c d n k h = get_or-map-range_with_len (λ i. bit_xor (get_or d i 0) (streamed f c i)) 0 n k k 0 h (omega arith)

masked-more : (f : List ℕ → List ℕ) (c : ℕ) (d : List ℕ) (n : ℕ) → masked f c d (n + 1) ≡ masked f c d n ++ bit_xor (get_or d n 0) (streamed f c n) ∷ []
unfolding masked
masked-more f c d n = map-range_with_len_more (λ i. bit_xor (get_or d i 0) (streamed f c i)) 0 n n (omega arith)

-- the octets of a counter, one by one
abbrev octets : ℕ → List ℕ
octets n =
    n / 2 ^ 120 % 256 ∷ n / 2 ^ 112 % 256 ∷ n / 2 ^ 104 % 256 ∷ n / 2 ^ 96 % 256 ∷ n / 2 ^ 88 % 256 ∷ n / 2 ^ 80 % 256 ∷ n / 2 ^ 72 % 256 ∷ n / 2 ^ 64 % 256
    ∷ n / 2 ^ 56 % 256 ∷ n / 2 ^ 48 % 256 ∷ n / 2 ^ 40 % 256 ∷ n / 2 ^ 32 % 256 ∷ n / 2 ^ 24 % 256 ∷ n / 2 ^ 16 % 256 ∷ n / 2 ^ 8 % 256 ∷ n % 256 ∷ []

octets_block : (n : ℕ) → octets n ≡ counter_block n
unfolding counter_block
octets_block n = let e : n / 1 ≡ n = omega arith in rw e refl

-- where a block is due, the next counter is its counter
pub due_block : (f : List ℕ → List ℕ) (c i n : ℕ) {x b : List ℕ} → i % 16 ≡ 0 → n ≡ moved c i → x ≡ octets n → b ≡ f x → b ≡ f (counter_block ((c + i / 16) % 2 ^ 128))
due_block f c i n z en ex eb =
    let q : (i + 15) / 16 ≡ i / 16 = omega arith in
    eb ∙ ap f (ex ∙ octets_block n ∙ ap counter_block (en ∙ ap (λ j. (c + j) % 2 ^ 128) q))

pub due_moved : (c i n m : ℕ) → i % 16 ≡ 0 → n ≡ moved c i → m ≡ (n + 1) % 2 ^ 128 → m ≡ moved c (i + 1)
due_moved c i n m z en em = omega arith

-- where none is due, the block in hand serves on
pub same_block : (f : List ℕ → List ℕ) (c i : ℕ) {b : List ℕ} → (i % 16 ≡ 0 → ⊥) → (0 < i → b ≡ f (counter_block ((c + (i - 1) / 16) % 2 ^ 128))) → b ≡ f (counter_block ((c + i / 16) % 2 ^ 128))
same_block f c i z h =
    let p : 0 < i = omega arith in
    let q : (i - 1) / 16 ≡ i / 16 = omega arith in
    h p ∙ ap (λ j. f (counter_block ((c + j) % 2 ^ 128))) q

pub same_moved : (c i n : ℕ) → (i % 16 ≡ 0 → ⊥) → n ≡ moved c i → n ≡ moved c (i + 1)
same_moved c i n z en = omega arith

-- an octet more
pub masked-step :
    (f : List ℕ → List ℕ) (c : ℕ) (d old : List ℕ) (i : ℕ) {b o : List ℕ} → i < length old →
    b ≡ f (counter_block ((c + i / 16) % 2 ^ 128)) → o ≡ masked f c d i ++ drop i old →
    set o i (bit_xor (get_or d i 0) (get_or b (i % 16) 0)) ≡ masked f c d (i + 1) ++ drop (i + 1) old
unfolding streamed
masked-step f c d old i {b} {o} h eb eo =
    let m : List ℕ = masked f c d i in
    let r : List ℕ = drop (i + 1) old in
    let v : ℕ = bit_xor (get_or d i 0) (get_or b (i % 16) 0) in
    let e1 : drop i old ≡ get_or old i 0 ∷ r = drop_more old i 0 h in
    let e2 : set (m ++ get_or old i 0 ∷ r) i v ≡ m ++ v ∷ r = set_at m (get_or old i 0) r v i (length-masked f c d i) in
    let e3 : (m ++ v ∷ []) ++ r ≡ m ++ v ∷ r = append_assoc m (v ∷ []) r in
    let e4 : get_or b (i % 16) 0 ≡ streamed f c i = ap (λ x. get_or x (i % 16) 0) eb in
    let e5 = masked-more f c d i in
    ap (λ x. set x i v) (eo ∙ ap (λ x. m ++ x) e1) ∙ e2 ∙ sym e3 ∙ ap (λ x. (m ++ bit_xor (get_or d i 0) x ∷ []) ++ r) e4 ∙ ap (λ x. x ++ r) (sym e5)

xored-masked : (e : List ℕ → List ℕ → List ℕ) (k : List ℕ) (c : ℕ) (d : List ℕ) → xored e k c d ≡ masked (e k) c d (length d)
unfolding masked xored
xored-masked e k c d = refl

pub keeps_length : KeepsLength
keeps_length e k c d = ap length (xored-masked e k c d) ∙ length-masked (e k) c d (length d)

get_or-xored : (e : List ℕ → List ℕ → List ℕ) (k : List ℕ) (c : ℕ) (d : List ℕ) (i : ℕ) → i < length d → get_or (xored e k c d) i 0 ≡ bit_xor (get_or d i 0) (streamed (e k) c i)
get_or-xored e k c d i h = ap (λ x. get_or x i 0) (xored-masked e k c d) ∙ get_or-masked (e k) c d (length d) i h

pub gives_back : GivesBack
gives_back e k c d =
    let n = keeps_length e k c d in
    let m = keeps_length e k c (xored e k c d) in
    ext_get_or 0 (xored e k c (xored e k c d)) d (m ∙ n)
    (λ i h.
    let x : ℕ = get_or d i 0 in
    let s : ℕ = streamed (e k) c i in
    get_or-xored e k c (xored e k c d) i (omega arith) ∙ ap (λ y. bit_xor y s) (get_or-xored e k c d i (omega arith))
    ∙ xor_assoc x s s ∙ ap (bit_xor x) (xor_self s) ∙ xor_zero_r x)

-- the octets that both have, at the loop's end
pub masked-all :
    (e : List ℕ → List ℕ → List ℕ) (k : List ℕ) (f : List ℕ → List ℕ) (c : ℕ) (d old : List ℕ) (n : ℕ) {o : List ℕ} →
    f ≡ e k → n ≡ length (take (length old) d) → o ≡ masked f c d n ++ drop n old → o ≡ over (xored e k c (take (length old) d)) old
masked-all e k f c d old n ef en eo =
    let t : List ℕ = take (length old) d in
    let l = length-take (length old) d in
    let z : length (masked (e k) c d n) ≡ length (xored e k c t) = length-masked (e k) c d n ∙ en ∙ sym (keeps_length e k c t) in
    let w : masked (e k) c d n ≡ xored e k c t =
    ext_get_or 0 (masked (e k) c d n) (xored e k c t) z
    (λ i h.
    let hn : i < n = omega (arith, length-masked (e k) c d n) in
    get_or-masked (e k) c d n i hn ∙ ap (λ y. bit_xor y (streamed (e k) c i)) (sym (get_or-take (length old) d i 0 (omega arith))) ∙ sym (get_or-xored e k c t i (omega arith))) in
    eo ∙ ap (λ g. masked g c d n ++ drop n old) ef ∙ ap (λ x. x ++ drop n old) w ∙ ap (λ j. xored e k c t ++ drop j old) (en ∙ sym (keeps_length e k c t))
