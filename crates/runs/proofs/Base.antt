-- Small facts on lists, strings, roles and counters.
use Rattle.std.proofs.Common.{◌≡◌, ℕ, ◌+◌, ◌/◌, ◌%◌, ◌^◌, ◌<◌, ◌≤◌, ◌≢◌, List, [], ◌∷◌, ◌++◌, length, sym, refl, ap, ◌∙◌, inr, append_assoc, arith, length-append}
use Rattle.std.proofs.lemmas.List.{same_from_push}
use Rattle.keyed.specs.Derivation.{split, master_string, encryption_string, integrity_string}
use Rattle.keyed.specs.Keystream.{blocks, moved}
use Rattle.keyed.specs.Strings.{three, packet}
use Rattle.ends.specs.declared.Role.{Role}
use Rattle.ends.specs.declared.Role.TheVariants.{Fob as AtFob, Mixer as AtMixer}
use Rattle.runs.specs.Law.{other, ◌∈◌, when}
use Rattle.runs.proofs.Model.{Octets, parity}

pub zero_one : {A : Type 0} → ◌≡◌ {A = ℕ} 0 1 → A
zero_one e = absurd (omega arith)

pub fob_mixer : {A : Type 0} → AtFob ≡ AtMixer → A
fob_mixer e = zero_one (ap parity e)

pub mixer_fob : {A : Type 0} → AtMixer ≡ AtFob → A
mixer_fob e = fob_mixer (sym e)

pub data Opposite : Role → Role → Type 0 where
  fm : Opposite AtFob AtMixer
  mf : Opposite AtMixer AtFob

pub opposite : (x : Role) → Opposite x (other x)
opposite AtFob = fm
opposite AtMixer = mf

pub swap : {x y : Role} → Opposite x y → Opposite y x
swap fm = mf
swap mf = fm

pub when_own : (x : Role) (ps : List Octets) → when x x ps ≡ ps
when_own AtFob ps = refl
when_own AtMixer ps = refl

pub when_other : {x y : Role} → Opposite x y → (ps : List Octets) → when x y ps ≡ []
when_other fm ps = refl
when_other mf ps = refl

pub when_none : (x y : Role) → when x y [] ≡ []
when_none AtFob AtFob = refl
when_none AtFob AtMixer = refl
when_none AtMixer AtFob = refl
when_none AtMixer AtMixer = refl

pub parities : {x y : Role} → Opposite x y → parity x + parity y ≡ 1
parities fm = refl
parities mf = refl

pub in_append : {A : Type 0} (ks l : List A) (a : A) → a ∈ l → a ∈ (ks ++ l)
in_append [] l a h = h
in_append (k ∷ ks) l a h = inr (in_append ks l a h)

heads : {a b : ℕ} {x y : Octets} → a ∷ x ≡ b ∷ y → a ≡ b
heads h = cc

tails : {a b : ℕ} {x y : Octets} → a ∷ x ≡ b ∷ y → x ≡ y
tails h = cc

pub parts : (a b : Octets) {x y : Octets} → length a ≡ length b → a ++ x ≡ b ++ y → (a ≡ b) × (x ≡ y)
parts [] [] e h = (refl, h)
parts [] (b ∷ b') e h = absurd (omega arith)
parts (a ∷ a') [] e h = absurd (omega arith)
parts (a ∷ a') (b ∷ b') {x} {y} e h =
    let r : (a' ≡ b') × (x ≡ y) = parts a' b' (omega arith) (tails h) in
    let q : a ≡ b = heads h in
    let q' : a' ≡ b' = r.0 in
    (cc, r.1)

pub three_same : (a b : ℕ) {x y : Octets} → a < 2 ^ 24 → b < 2 ^ 24 → three a ++ x ≡ three b ++ y → (a ≡ b) × (x ≡ y)
unfolding three
three_same a b {x} {y} ha hb h =
    let p : a / 65536 % 256 ≡ b / 65536 % 256 = heads h in
    let q : a / 256 % 256 ≡ b / 256 % 256 = heads (tails h) in
    let r : a % 256 ≡ b % 256 = heads (tails (tails h)) in
    (omega arith, tails (tails (tails h)))

pub packet_same :
    (a b : ℕ) (x y : Octets) → a < 2 ^ 24 → b < 2 ^ 24 → packet a x ≡ packet b y → (a ≡ b) × (x ≡ y)
unfolding packet three
packet_same a b x y ha hb h =
    let r : (a ≡ b) × (three (length x) ++ x ≡ three (length y) ++ y) = three_same a b ha hb h in
    (r.0, (parts (three (length x)) (three (length y)) refl r.1).1)

-- the strings of a derivation: where those of MK are the same, so are those of KE and KI; that of KI is no string of MK
pub masters_same :
    (na nb ida idb na' nb' ida' idb' : Octets) → master_string na nb ida idb ≡ master_string na' nb' ida' idb' →
    split na nb ++ ida ++ idb ≡ split na' nb' ++ ida' ++ idb'
unfolding master_string
masters_same na nb ida idb na' nb' ida' idb' h = (same_from_push (split na nb ++ ida ++ idb) (split na' nb' ++ ida' ++ idb') 1 1 h).0

regroup : (k a b c : Octets) → k ++ a ++ b ++ c ≡ k ++ (a ++ b ++ c)
regroup k a b c = ap (λ (l : Octets). l ++ c) (append_assoc k a b) ∙ append_assoc k (a ++ b) c

strings_same :
    (k k' a b c a' b' c' : Octets) (n : ℕ) → k ≡ k' → a ++ b ++ c ≡ a' ++ b' ++ c' → k ++ a ++ b ++ c ++ n ∷ [] ≡ k' ++ a' ++ b' ++ c' ++ n ∷ []
strings_same k k' a b c a' b' c' n e h =
    let x : k ++ a ++ b ++ c ≡ k ++ (a ++ b ++ c) = regroup k a b c in
    let y : k' ++ a' ++ b' ++ c' ≡ k' ++ (a' ++ b' ++ c') = regroup k' a' b' c' in
    cc

pub encryptions_same :
    (mk mk' na nb ida idb na' nb' ida' idb' : Octets) → mk ≡ mk' → split na nb ++ ida ++ idb ≡ split na' nb' ++ ida' ++ idb' →
    encryption_string mk na nb ida idb ≡ encryption_string mk' na' nb' ida' idb'
unfolding encryption_string
encryptions_same mk mk' na nb ida idb na' nb' ida' idb' e h = strings_same mk mk' (split na nb) ida idb (split na' nb') ida' idb' 2 e h

pub integrities_same :
    (ke ke' na nb ida idb na' nb' ida' idb' : Octets) → ke ≡ ke' → split na nb ++ ida ++ idb ≡ split na' nb' ++ ida' ++ idb' →
    integrity_string ke na nb ida idb ≡ integrity_string ke' na' nb' ida' idb'
unfolding integrity_string
integrities_same ke ke' na nb ida idb na' nb' ida' idb' e h = strings_same ke ke' (split na nb) ida idb (split na' nb') ida' idb' 3 e h

pub integrity_no_master :
    (ke na nb ida idb na' nb' ida' idb' : Octets) {A : Type 0} → integrity_string ke na nb ida idb ≡ master_string na' nb' ida' idb' → A
unfolding integrity_string master_string
integrity_no_master ke na nb ida idb na' nb' ida' idb' h =
    let e : ◌≡◌ {A = ℕ} 3 1 = (same_from_push (ke ++ split na nb ++ ida ++ idb) (split na' nb' ++ ida' ++ idb') 3 1 h).1 in absurd (omega arith)

-- counters: blocks at two places of one stream
pub blocks_small : (n : ℕ) → n ≤ 4096 → blocks n ≤ 256
blocks_small n h = omega arith

pub counters_apart :
    (v t u c d i j k : ℕ) → c % 2 ^ 128 ≡ (v + t) % 2 ^ 128 → d % 2 ^ 128 ≡ (v + u) % 2 ^ 128 → u + k ≤ t → j < k → t + i < 2 ^ 128 →
    (c + i) % 2 ^ 128 ≢ (d + j) % 2 ^ 128
counters_apart v t u c d i j k hc hd le lt small h = absurd (omega arith)

pub counter-moved :
    (v t c n : ℕ) → c % 2 ^ 128 ≡ (v + t) % 2 ^ 128 → moved c n % 2 ^ 128 ≡ (v + (t + blocks n)) % 2 ^ 128
counter-moved v t c n h = omega arith

pub four :
    (a b c d a' b' c' d' : Octets) → length a ≡ length a' → length b ≡ length b' → length c ≡ length c' →
    a ++ b ++ c ++ d ≡ a' ++ b' ++ c' ++ d' → (a ≡ a') × (b ≡ b') × (c ≡ c') × (d ≡ d')
four a b c d a' b' c' d' ha hb hc h =
    let l₂ : length (a ++ b) ≡ length (a' ++ b') = simp length-append (omega arith) in
    let l₃ : length (a ++ b ++ c) ≡ length (a' ++ b' ++ c') = simp length-append (omega arith) in
    let r₃ : (a ++ b ++ c ≡ a' ++ b' ++ c') × (d ≡ d') = parts (a ++ b ++ c) (a' ++ b' ++ c') l₃ h in
    let r₂ : (a ++ b ≡ a' ++ b') × (c ≡ c') = parts (a ++ b) (a' ++ b') l₂ r₃.0 in
    let r₁ : (a ≡ a') × (b ≡ b') = parts a a' ha r₂.0 in
    (r₁.0, r₁.1, r₂.1, r₃.1)

pub tail_same : {a : ℕ} {x y : Octets} → a ∷ x ≡ a ∷ y → x ≡ y
tail_same h = tails h
