-- The steps of the two loops: one round more, and one round key more.
use Rattle.std.proofs.Common.{◌≡◌, ℕ, zero, suc, ◌+◌, ◌*◌, ◌≤◌, List, ◌++◌, length, take, drop, sym, refl, ◌∙◌, mul-suc, add-one, arith, length-append}
use borrow.Rule.Slice.PartMut.{put_mid}
use Rattle.std.proofs.lemmas.List.{take_at, drop_at, drop-drop, append_assoc}
use Rattle.cipher.specs.Cipher.{prepared}
use Rattle.cipher.proofs.Prepared.{prepared-full}
use Rattle.speck.specs.declared.Words.{Words}
use Rattle.speck.specs.Speck.{octets, round, rounds, words, round_key, round_keys, schedule}

-- one round more
pub rounds_more : (key : ℕ → ℕ) (i k : ℕ) (w v r : Words) → v ≡ rounds key i w → k ≡ key i → r ≡ round k v → r ≡ rounds key (i + 1) w
unfolding rounds
rounds_more key i k w v r ev ek er = rw (add-one i) (cc)

length-octets : (v : ℕ) → length (octets v) ≡ 8
unfolding octets
length-octets v = refl

length-keys : (w : Words) (i : ℕ) → length (round_keys w i) ≡ 8 * i
unfolding round_keys octets
length-keys w zero = refl
length-keys w (suc i) = let l = length-keys w i in simp length-append (omega (arith, l, mul-suc 8 i))

-- one part more, right after what was written
written-more : (f g old : List ℕ) (a n : ℕ) → length f ≡ a → length g ≡ n → put_mid a n (f ++ drop a old) g ≡ (f ++ g) ++ drop (a + n) old
written-more f g old a n ef eg =
    let front : take a (f ++ drop a old) ≡ f = take_at f (drop a old) a ef in
    let back : drop a (f ++ drop a old) ≡ drop a old = drop_at f (drop a old) a ef in
    let rest : drop n (drop a old) ≡ drop (a + n) old = drop-drop n a old in
    rw (front, back, rest) (sym (append_assoc f g _))

-- one round key more
pub keys_more : (w v : Words) (i n : ℕ) (old s g : List ℕ) → v ≡ rounds (λ j. j) i w → s ≡ round_keys w i ++ drop (8 * i) old → g ≡ octets v.y → n ≡ 8 → put_mid (8 * i) n s g ≡ round_keys w (i + 1) ++ drop (8 * (i + 1)) old
unfolding round_keys round_key
keys_more w v i n old s g ev es eg en =
    let more = written-more (round_keys w i) (octets (rounds (λ j. j) i w).y) old (8 * i) 8 (length-keys w i) (length-octets _) in
    let at : 8 * (i + 1) ≡ 8 * i + 8 = omega arith in
    rw (at, add-one i, es, eg, ev, en) more

-- all round keys, in a workspace of full size
pub keys_all : (key old s : List ℕ) (i : ℕ) (w : Words) → 256 ≤ length old → w ≡ words key → s ≡ round_keys w i ++ drop (8 * i) old → i ≡ 32 → s ≡ prepared (schedule key) old
unfolding schedule
keys_all key old s i w h ew es ei =
    let full : s ≡ schedule key ++ drop (length (schedule key)) old = rw (length-keys (words key) 32, es, ei, ew) refl in
    full ∙ sym (prepared-full (schedule key) old h)
