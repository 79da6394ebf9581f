-- Tests that compute: a history that passes them has no lucky tag, and its nonces arrive as sent.
use Rattle.std.proofs.Common.{◌≡◌, ℕ, Bool, true, false, not, ◌&&◌, ◌||◌, ◌⊎◌, List, [], ◌∷◌, refl, ap, ◌∙◌, subst, inl, inr, ⊎_elim}
use Rattle.std.specs.Str.{bytes_eq}
use Rattle.std.proofs.lemmas.Slice.Eq.{bytes_eq-Decides}
use Rattle.std.proofs.lemmas.Bool.{false≢true, both_ways, not-true, and_parts, or_cases}
use Rattle.keyed.specs.Xcbc.{tag}
use Rattle.ends.specs.declared.Role.{Role}
use Rattle.ends.specs.declared.Role.TheVariants.{Fob as AtFob, Mixer as AtMixer}
use Rattle.runs.specs.History.{offers, reads, proves, opens, sends, accepts, seals, unseals, Entry, ◌did◌, Keyed, History}
use Rattle.runs.specs.Law.{other, ◌∈◌, Everywhere, NoLuckyTag, NoncesAsSent}
use Rattle.runs.proofs.Model.{Octets}

-- every element, and some element, passes a test
abbrev every : {A : Type 0} → (A → Bool) → List A → Bool
every p [] = true
every p (x ∷ xs) = p x && every p xs

abbrev some : {A : Type 0} → (A → Bool) → List A → Bool
some p [] = false
some p (x ∷ xs) = p x || some p xs

every_in : {A : Type 0} (p : A → Bool) (l : List A) (a : A) → every p l ≡ true → a ∈ l → p a ≡ true
every_in p [] a t i = absurd i
every_in p (x ∷ xs) a t (inl e) = ap p e ∙ (and_parts (p x) (every p xs) t).0
every_in p (x ∷ xs) a t (inr i) = every_in p xs a (and_parts (p x) (every p xs) t).1 i

same_bytes : (a b : Octets) → bytes_eq a b ≡ true → a ≡ b
same_bytes a b h = (bytes_eq-Decides a b).0 h

abbrev same_role : Role → Role → Bool
same_role AtFob AtFob = true
same_role AtFob AtMixer = false
same_role AtMixer AtFob = false
same_role AtMixer AtMixer = true

same_role_lem : (x y : Role) → same_role x y ≡ true → x ≡ y
same_role_lem AtFob AtFob h = refl
same_role_lem AtFob AtMixer h = absurd (false≢true h)
same_role_lem AtMixer AtFob h = absurd (false≢true h)
same_role_lem AtMixer AtMixer h = refl

same_self : (x : Role) → same_role x x ≡ true
same_self AtFob = refl
same_self AtMixer = refl

-- keyed results, each with its tag
record Tagged : Type 0 where
  key : Octets
  string : Octets
  first_12 : Octets

module _ (e : Octets → Octets → Octets) where
  abbrev with_tag : Keyed → Tagged
  with_tag a = record { key = a.0; string = a.1; first_12 = tag e a.0 a.1 }

  abbrev with_tags : List Keyed → List Tagged
  with_tags [] = []
  with_tags (a ∷ l) = with_tag a ∷ with_tags l

  in_tags : (l : List Keyed) (a : Keyed) → a ∈ l → with_tag a ∈ with_tags l
  in_tags [] a i = absurd i
  in_tags (b ∷ bs) a (inl q) = inl (ap with_tag q)
  in_tags (b ∷ bs) a (inr i) = inr (in_tags bs a i)

-- equal tags come of equal keys and strings
abbrev apart_test : Tagged → Tagged → Bool
apart_test a b = not (bytes_eq a.first_12 b.first_12) || (bytes_eq a.key b.key && bytes_eq a.string b.string)

abbrev apart_tests : List Tagged → Bool
apart_tests l = every (λ a. every (apart_test a) l) l

apart_tested : (a b : Tagged) → apart_test a b ≡ true → a.first_12 ≡ b.first_12 → (a.key ≡ b.key) × (a.string ≡ b.string)
apart_tested a b h q =
    go (or_cases (not (bytes_eq a.first_12 b.first_12)) (bytes_eq a.key b.key && bytes_eq a.string b.string) h)
  where
    go :
        (not (bytes_eq a.first_12 b.first_12) ≡ true) ⊎ ((bytes_eq a.key b.key && bytes_eq a.string b.string) ≡ true) →
        (a.key ≡ b.key) × (a.string ≡ b.string)
    go (inl n) =
        absurd (both_ways (bytes_eq a.first_12 b.first_12) (not-true (bytes_eq a.first_12 b.first_12) n)
        ((bytes_eq-Decides a.first_12 b.first_12).1 q))
    go (inr s) =
        let r = and_parts (bytes_eq a.key b.key) (bytes_eq a.string b.string) s in
        (same_bytes a.key b.key r.0, same_bytes a.string b.string r.1)

-- an accepted tag was sent before
abbrev is_send : Role → Octets → Entry → Bool
is_send x t (y did offers q n) = false
is_send x t (y did reads q n) = false
is_send x t (y did proves) = false
is_send x t (y did opens) = false
is_send x t (y did sends u) = same_role x y && bytes_eq t u
is_send x t (y did accepts u) = false
is_send x t (y did seals n c p) = false
is_send x t (y did unseals n p) = false

is_sent : (x : Role) (t : Octets) (a : Entry) → is_send x t a ≡ true → x did sends t ≡ a
is_sent x t (y did offers q n) h = absurd (false≢true h)
is_sent x t (y did reads q n) h = absurd (false≢true h)
is_sent x t (y did proves) h = absurd (false≢true h)
is_sent x t (y did opens) h = absurd (false≢true h)
is_sent x t (y did sends u) h =
    let r = and_parts (same_role x y) (bytes_eq t u) h in
    let p : x ≡ y = same_role_lem x y r.0 in
    let q : t ≡ u = same_bytes t u r.1 in
    cc
is_sent x t (y did accepts u) h = absurd (false≢true h)
is_sent x t (y did seals n c p) h = absurd (false≢true h)
is_sent x t (y did unseals n p) h = absurd (false≢true h)

sent_in : (x : Role) (t : Octets) (log : List Entry) → some (is_send x t) log ≡ true → x did sends t ∈ log
sent_in x t [] h = absurd (false≢true h)
sent_in x t (a ∷ log) h =
    ⊎_elim (λ q. inl (is_sent x t a q)) (λ q. inr (sent_in x t log q)) (or_cases (is_send x t a) (some (is_send x t) log) h)

abbrev sent_test : Entry → List Entry → Bool
sent_test (y did offers q n) past = true
sent_test (y did reads q n) past = true
sent_test (y did proves) past = true
sent_test (y did opens) past = true
sent_test (y did sends u) past = true
sent_test (y did accepts u) past = some (is_send (other y) u) past
sent_test (y did seals n c p) past = true
sent_test (y did unseals n p) past = true

abbrev sent_tests : List Entry → Bool
sent_tests [] = true
sent_tests (a ∷ past) = sent_test a past && sent_tests past

sent_tested :
    (log : List Entry) → sent_tests log ≡ true →
    Everywhere (λ x past. (r : Role) (t : List ℕ) → x ≡ r did accepts t → other r did sends t ∈ past) log
sent_tested [] h = tt
sent_tested (a ∷ past) h =
    let s = and_parts (sent_test a past) (sent_tests past) h in
    ((λ r t q. sent_in (other r) t past (subst (λ (b : Entry). sent_test b past ≡ true) q s.0)), sent_tested past s.1)

pub no_lucky_tag :
    {C K L : Type 0} (e : Octets → Octets → Octets) (h : History C K L) → apart_tests (with_tags e h.worked) ≡ true → sent_tests h.log ≡ true →
    NoLuckyTag e h
no_lucky_tag e h ha hs =
    let l : List Tagged = with_tags e h.worked in
    record {
      apart =
          λ a b i j q.
          apart_tested (with_tag e a) (with_tag e b)
          (every_in (apart_test (with_tag e a)) l (with_tag e b)
          (every_in (λ c. every (apart_test c) l) l (with_tag e a) ha (in_tags e h.worked a i)) (in_tags e h.worked b j)) q;
      sent_before = sent_tested h.log hs;
    }

-- a nonce is read as it was written
abbrev read_test : Role → Octets → Entry → Bool
read_test x n (y did offers q k) = true
read_test x n (y did reads q k) = not (same_role x y) || bytes_eq k n
read_test x n (y did proves) = true
read_test x n (y did opens) = true
read_test x n (y did sends u) = true
read_test x n (y did accepts u) = true
read_test x n (y did seals k c p) = true
read_test x n (y did unseals k p) = true

abbrev nonce_test : List Entry → Entry → Bool
nonce_test log (y did offers q n) = every (read_test (other y) n) log
nonce_test log (y did reads q n) = true
nonce_test log (y did proves) = true
nonce_test log (y did opens) = true
nonce_test log (y did sends u) = true
nonce_test log (y did accepts u) = true
nonce_test log (y did seals n c p) = true
nonce_test log (y did unseals n p) = true

read_so : (x : Role) (k n : Octets) → (not (same_role x x) || bytes_eq k n) ≡ true → k ≡ n
read_so AtFob k n h = same_bytes k n h
read_so AtMixer k n h = same_bytes k n h

pub nonces_as_sent : (log : List Entry) → every (nonce_test log) log ≡ true → NoncesAsSent log
nonces_as_sent log h x q n q' n' i j =
    read_so (other x) n' n (every_in (read_test (other x) n) log (other x did reads q' n') (every_in (nonce_test log) log (x did offers q n) h i) j)
