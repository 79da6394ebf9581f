-- A packet that is written in place: head, data under the keystream, and the tag over what stands from the number on.
use Rattle.std.proofs.Common.{◌≡◌, ℕ, ◌+◌, ◌*◌, ◌/◌, ◌%◌, ◌<◌, ◌≤◌, List, [], ◌∷◌, ◌++◌, length, get_or, take, drop, sym, refl, ap, ◌∙◌, arith}
use borrow.Rule.Slice.PartMut.{put_mid}
use Rattle.std.proofs.lemmas.List.{take_at, take_all, drop_all, append-nil, length-drop, length-take-le, take-append-drop}
use Rattle.keyed.specs.Keystream.{xored, over}
use Rattle.keyed.specs.Strings.{three, packet}
use Rattle.keyed.specs.Xcbc.{tag}
use Rattle.message.specs.Layout.{number_at, three_octets}
use Rattle.message.specs.Writing.{octets_of, enc, head_octets}
use Rattle.message.proofs.Again.{three_at}
use Rattle.message.proofs.Laid.{put_next, laid}
use Rattle.keyed.proofs.Stream.{keeps_length}
use Rattle.channel.specs.Packets.{data_in}

-- a number under 2 ^ 24 in three octets
pub three_octets_lem : (n : ℕ) → n ≤ 16777215 → three n ≡ three_octets n
unfolding three
three_octets_lem n h = let e : n / 65536 % 256 ≡ n / 65536 = omega arith in simp e

-- the string of a packet is what stands in it from the number on
pub packet_octets : (m n : ℕ) (d : List ℕ) → m ≤ 16777215 → length d ≡ n → n ≤ 4096 → packet m d ≡ three_octets m ++ (three_octets n ++ d)
unfolding packet three
packet_octets m n d h l s =
    ap (λ v. v ++ (three (length d) ++ d)) (three_octets_lem m h) ∙ ap (λ v. three_octets m ++ (three v ++ d)) l ∙ ap (λ v. three_octets m ++ (v ++ d)) (three_octets_lem n (omega arith))

-- data written under the keystream into a part that is as long
pub filled : (e : List ℕ → List ℕ → List ℕ) (k : List ℕ) (c : ℕ) (p old new : List ℕ) → length old ≡ length p
    → new ≡ over (xored e k c (take (length old) p)) old → new ≡ xored e k c p
filled e k c p old new l q =
    let t : take (length old) p ≡ p = take_all (length old) p (omega arith) in
    let n : length (xored e k c p) ≡ length p = keeps_length e k c p in
    let r : drop (length (xored e k c p)) old ≡ [] = drop_all (length (xored e k c p)) old (omega arith) in
    q ∙ ap (λ v. over (xored e k c v) old) t ∙ ap (λ v. xored e k c p ++ v) r ∙ append-nil (xored e k c p)

-- what stands from the number to the end of the data
tagged_part : (pid m n k : ℕ) (d rest : List ℕ) → m ≤ 16777215 → length d ≡ n → n ≤ 4096 → k ≡ 6 + n
    → take k (drop 3 ((head_octets pid m n ++ d) ++ rest)) ≡ packet m d
tagged_part pid m n k d rest h l s q =
    take_at (three_octets m ++ (three_octets n ++ d)) rest k (omega arith) ∙ sym (packet_octets m n d h l s)

-- xs is the head, ys the data and zs the tag as they were left by their writes into o
module _ (e : List ℕ → List ℕ → List ℕ) (pid m n : ℕ) (ki d o : List ℕ) {xs ys : List ℕ} (i k : ℕ)
    (small : m ≤ 16777215) (long : length d ≡ n) (short : n ≤ 4096) (head : xs ≡ head_octets pid m n) (body : ys ≡ d) (nine : i ≡ 9) (all : k ≡ n) where
  before_tag : put_mid 9 k (xs ++ drop i o) ys ≡ (head_octets pid m n ++ d) ++ drop (9 + n) o
  before_tag = simp (head, body, nine, all) (put_next (head_octets pid m n) d o 9 n refl)

  pub tagged : {t : List ℕ} (q : ℕ) → q ≡ 6 + n → t ≡ tag e ki (take q (drop 3 (put_mid 9 k (xs ++ drop i o) ys))) → t ≡ tag e ki (packet m d)
  tagged q f g = g ∙ ap (λ v. tag e ki (take q (drop 3 v))) before_tag ∙ ap (tag e ki) (tagged_part pid m n q d (drop (9 + n) o) small long short f)

  pub packed : {t zs : List ℕ} (j : ℕ) → t ≡ tag e ki (packet m d) → zs ≡ t → j ≡ 12
      → put_mid (9 + n) j (put_mid 9 k (xs ++ drop i o) ys) zs ≡ octets_of 5 pid (enc m d (tag e ki (packet m d))) ++ drop (21 + n) o
  packed j a b f =
      laid (head_octets pid m n) d (tag e ki (packet m d)) o 9 i k (9 + n) j (21 + n) head body (b ∙ a) refl nine (long ∙ sym all) (omega arith) (omega arith)
      ∙ ap (λ v. (head_octets pid m v ++ (d ++ tag e ki (packet m d))) ++ drop (21 + n) o) (sym long)

-- three octets are the number that they hold
three_in : (a b c : ℕ) → a < 256 → b < 256 → c < 256 → three (a * 65536 + b * 256 + c) ≡ a ∷ b ∷ c ∷ []
unfolding three
three_in a b c h g f =
    let x : (a * 65536 + b * 256 + c) / 65536 % 256 ≡ a = omega arith in
    let y : (a * 65536 + b * 256 + c) / 256 % 256 ≡ b = omega arith in
    let z : (a * 65536 + b * 256 + c) % 256 ≡ c = omega arith in
    simp (x, y, z)

-- what stands in a packet of good form from the number to the end of the data is the string of its tag
pub packet_in : (m : List ℕ) (q : ℕ) → length m ≡ 21 + number_at m 6 → q ≡ 6 + number_at m 6
    → get_or m 3 0 < 256 → get_or m 4 0 < 256 → get_or m 5 0 < 256 → get_or m 6 0 < 256 → get_or m 7 0 < 256 → get_or m 8 0 < 256
    → take q (drop 3 m) ≡ packet (number_at m 3) (data_in m)
unfolding packet three
packet_in m q h f b3 b4 b5 b6 b7 b8 =
    let n : ℕ = number_at m 6 in
    let number : List ℕ = get_or m 3 0 ∷ get_or m 4 0 ∷ get_or m 5 0 ∷ [] in
    let size : List ℕ = get_or m 6 0 ∷ get_or m 7 0 ∷ get_or m 8 0 ∷ [] in
    let long : length (data_in m) ≡ n = length-take-le n (drop 9 m) (omega (arith, length-drop 9 m)) in
    let u : drop 3 m ≡ number ++ drop 6 m = three_at m 3 (omega arith) in
    let v : drop 6 m ≡ size ++ drop 9 m = three_at m 6 (omega arith) in
    let w : data_in m ++ drop n (drop 9 m) ≡ drop 9 m = take-append-drop n (drop 9 m) in
    let all : drop 3 m ≡ (number ++ (size ++ data_in m)) ++ drop n (drop 9 m) = u ∙ ap (λ t. number ++ t) v ∙ ap (λ t. number ++ (size ++ t)) (sym w) in
    ap (take q) all ∙ take_at (number ++ (size ++ data_in m)) (drop n (drop 9 m)) q (omega arith)
    ∙ ap (λ t. t ++ (size ++ data_in m)) (sym (three_in (get_or m 3 0) (get_or m 4 0) (get_or m 5 0) b3 b4 b5))
    ∙ ap (λ t. three (number_at m 3) ++ (t ++ data_in m)) (sym (three_in (get_or m 6 0) (get_or m 7 0) (get_or m 8 0) b6 b7 b8))
    ∙ ap (λ t. three (number_at m 3) ++ (three t ++ data_in m)) (sym long)
