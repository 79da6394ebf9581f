-- The packets of an open channel: both ends stand level, or one is a packet ahead.
use Rattle.std.proofs.Common.{◌≡◌, ℕ, ◌+◌, ◌*◌, ◌%◌, ◌^◌, ◌<◌, ◌≤◌, List, [], ◌∷◌, ◌++◌, length, sym, refl, ap, ◌∙◌, subst, inl, inr, arith}
use Rattle.keyed.specs.Keystream.{blocks, moved}
use Rattle.ends.specs.declared.Role.{Role}
use Rattle.runs.specs.History.{Event, offers, reads, proves, opens, sends, accepts, seals, unseals, Entry, ◌did◌, logged}
use Rattle.runs.specs.Law.{◌∈◌, when, sealed_in, unsealed_in, sealed, unsealed, NoBlockTwice, UpToLast}
use Rattle.runs.proofs.Model.{Octets, parity, last_number}
use Rattle.runs.proofs.Base.{Opposite, swap, when_own, when_other, when_none, parities, counters_apart, counter-moved, blocks_small}

-- of each entry of a log
abbrev pub All : (Role → Event → Type 0) → List Entry → Type 0
All P [] = Unit {0}
All P (x did d ∷ log) = P x d × All P log

pub all_in : (P : Role → Event → Type 0) (log : List Entry) → All P log → (x : Role) (d : Event) → x did d ∈ log → P x d
all_in P [] h x d i = absurd i
all_in P (y did e ∷ log) h x d (inl q) =
    let a : x ≡ y = cc in
    let b : d ≡ e = cc in
    subst (λ (z : Role). P z d) (sym a) (subst (λ (z : Event). P y z) (sym b) h.0)
all_in P (y did e ∷ log) h x d (inr i) = all_in P log h.1 x d i

pub all_map :
    (P Q : Role → Event → Type 0) → ((x : Role) (d : Event) → P x d → Q x d) → (log : List Entry) → All P log → All Q log
all_map P Q f [] h = tt
all_map P Q f (y did e ∷ log) h = (f y e h.0, all_map P Q f log h.1)

-- of each seal
abbrev pub IfSeal : (Role → ℕ → ℕ → Octets → Type 0) → Role → Event → Type 0
IfSeal P x (offers q n) = Unit {0}
IfSeal P x (reads q n) = Unit {0}
IfSeal P x proves = Unit {0}
IfSeal P x opens = Unit {0}
IfSeal P x (sends t) = Unit {0}
IfSeal P x (accepts t) = Unit {0}
IfSeal P x (seals n c p) = P x n c p
IfSeal P x (unseals n p) = Unit {0}

if_seal_map :
    (P Q : Role → ℕ → ℕ → Octets → Type 0) → ((x : Role) (n c : ℕ) (p : Octets) → P x n c p → Q x n c p) →
    (x : Role) (k : Event) → IfSeal P x k → IfSeal Q x k
if_seal_map P Q f x (offers q n) h = tt
if_seal_map P Q f x (reads q n) h = tt
if_seal_map P Q f x proves h = tt
if_seal_map P Q f x opens h = tt
if_seal_map P Q f x (sends t) h = tt
if_seal_map P Q f x (accepts t) h = tt
if_seal_map P Q f x (seals n c p) h = f x n c p h
if_seal_map P Q f x (unseals n p) h = tt

abbrev pub AllSeals : (Role → ℕ → ℕ → Octets → Type 0) → List Entry → Type 0
AllSeals P log = All (IfSeal P) log

pub seals_map :
    (P Q : Role → ℕ → ℕ → Octets → Type 0) →
    ((x : Role) (n c : ℕ) (p : Octets) → P x n c p → Q x n c p) →
    (log : List Entry) → AllSeals P log → AllSeals Q log
seals_map P Q f log h = all_map (IfSeal P) (IfSeal Q) (if_seal_map P Q f) log h

-- a seal below the number n, over blocks below the place t of the stream that begins at v
pub record Old (v n t : ℕ) (x : Role) (number counter : ℕ) (payload : Octets) : Type 0 where
  pub below : number ≤ n
  pub place : ℕ
  pub stands : counter % 2 ^ 128 ≡ (v + place) % 2 ^ 128
  pub ends : place + blocks (length payload) ≤ t

pub old_more : (v n t n' t' : ℕ) → n ≤ n' → t ≤ t' → (x : Role) (k c : ℕ) (p : Octets) → Old v n t x k c p → Old v n' t' x k c p
old_more v n t n' t' hn ht x k c p o =
    record { below = omega arith; place = o.place; stands = o.stands; ends = omega arith }

-- both ends at the number n and the counter c
pub record Level (v : ℕ) (x y : Role) (log : List Entry) (n c : ℕ) : Type 0 where
  pub t : ℕ
  pub stands : c % 2 ^ 128 ≡ (v + t) % 2 ^ 128
  pub small : t ≤ 256 * n
  pub from_x : sealed x log ≡ unsealed y log
  pub from_y : sealed y log ≡ unsealed x log
  pub seals_old : AllSeals (Old v n t) log

-- x at the number n and the counter c, one packet ahead of y, at the number k and the counter d
pub record Ahead (v : ℕ) (x y : Role) (log : List Entry) (n c k d : ℕ) : Type 0 where
  pub t : ℕ
  pub p : Octets
  pub next : n ≡ k + 1
  pub turn : k % 2 ≡ parity x
  pub counted : c ≡ moved d (length p)
  pub fits : length p ≤ 4096
  pub stands : d % 2 ^ 128 ≡ (v + t) % 2 ^ 128
  pub small : t ≤ 256 * k
  pub from_x : sealed x log ≡ p ∷ unsealed y log
  pub from_y : sealed y log ≡ unsealed x log
  pub seals_old : AllSeals (Old v n (t + blocks (length p))) log
  pub latest : AllSeals (λ z n' c' p'. n' ≡ n → (c' ≡ d) × (p' ≡ p)) log

pub data Flow (v : ℕ) (x y : Role) (log : List Entry) (n c k d : ℕ) : Type 0 where
  level : n ≡ k → c ≡ d → Level v x y log n c → Flow v x y log n c k d
  ahead : Ahead v x y log n c k d → Flow v x y log n c k d
  behind : Ahead v y x log k d n c → Flow v x y log n c k d

pub flow_swap : {v : ℕ} {x y : Role} {log : List Entry} {n c k d : ℕ} → Flow v x y log n c k d → Flow v y x log k d n c
flow_swap {v} {x} {y} {log} {n} {c} {k} {d} (level a b l) =
    let l' : Level v x y log k d = subst (λ (i : ℕ). Level v x y log i d) a (subst (λ (i : ℕ). Level v x y log n i) b l) in
    level (sym a) (sym b)
    record { t = l'.t; stands = l'.stands; small = l'.small; from_x = l'.from_y; from_y = l'.from_x; seals_old = l'.seals_old }
flow_swap (ahead a) = behind a
flow_swap (behind a) = ahead a

pub flow_up_to_last :
    {v : ℕ} {x y : Role} {log : List Entry} {n c k d : ℕ} → Flow v x y log n c k d → UpToLast (unsealed x log) (sealed y log)
flow_up_to_last (level a b l) = inl (sym l.from_y)
flow_up_to_last (ahead a) = inl (sym a.from_y)
flow_up_to_last (behind a) = inr (a.p, a.from_x)

-- an event that neither seals nor unseals
abbrev pub Still : Event → Type 1
Still d = (sealed_in d ≡ []) × (unsealed_in d ≡ []) × ((P : Role → ℕ → ℕ → Octets → Type 0) (x : Role) → IfSeal P x d)

pub sealed_still : (x z : Role) (d : Event) (log : List Entry) → sealed_in d ≡ [] → sealed x (z did d ∷ log) ≡ sealed x log
sealed_still x z d log e = ap (λ (l : List Octets). when x z l ++ sealed x log) e ∙ ap (λ (l : List Octets). l ++ sealed x log) (when_none x z)

pub unsealed_still : (x z : Role) (d : Event) (log : List Entry) → unsealed_in d ≡ [] → unsealed x (z did d ∷ log) ≡ unsealed x log
unsealed_still x z d log e = ap (λ (l : List Octets). when x z l ++ unsealed x log) e ∙ ap (λ (l : List Octets). l ++ unsealed x log) (when_none x z)

module _ {v : ℕ} {x y : Role} {log : List Entry} (z : Role) (e : Event) (q : Still e) where
  ahead_still : {n c k d : ℕ} → Ahead v x y log n c k d → Ahead v x y (z did e ∷ log) n c k d
  ahead_still {n} {c} {k} {d} a =
      record {
        t = a.t;
        p = a.p;
        next = a.next;
        turn = a.turn;
        counted = a.counted;
        fits = a.fits;
        stands = a.stands;
        small = a.small;
        from_x = sealed_still x z e log q.0 ∙ a.from_x ∙ ap (λ (l : List Octets). a.p ∷ l) (sym (unsealed_still y z e log q.1));
        from_y = sealed_still y z e log q.0 ∙ a.from_y ∙ sym (unsealed_still x z e log q.1);
        seals_old = (q.2 (Old v n (a.t + blocks (length a.p))) z, a.seals_old);
        latest = (q.2 (λ z' n' c' p'. n' ≡ n → (c' ≡ d) × (p' ≡ a.p)) z, a.latest);
      }

  level_still : {n c : ℕ} → Level v x y log n c → Level v x y (z did e ∷ log) n c
  level_still {n} {c} a =
      record {
        t = a.t;
        stands = a.stands;
        small = a.small;
        from_x = sealed_still x z e log q.0 ∙ a.from_x ∙ sym (unsealed_still y z e log q.1);
        from_y = sealed_still y z e log q.0 ∙ a.from_y ∙ sym (unsealed_still x z e log q.1);
        seals_old = (q.2 (Old v n a.t) z, a.seals_old);
      }

abbrev pub Stills : List Event → Type 1
Stills [] = Unit {1}
Stills (e ∷ es) = Still e × Stills es

pub flow_still :
    {v : ℕ} {x y : Role} {log : List Entry} {n c k d : ℕ} (z : Role) (e : Event) → Still e → Flow v x y log n c k d →
    Flow v x y (z did e ∷ log) n c k d
flow_still z e q (level a b l) = level a b (level_still z e q l)
flow_still z e q (ahead a) = ahead (ahead_still z e q a)
flow_still z e q (behind a) = behind (ahead_still z e q a)

pub flow_stills : {v : ℕ} {x y : Role} {n c k d : ℕ} (log : List Entry) (z : Role) (es : List Event) → Stills es → Flow v x y log n c k d → Flow v x y (logged z es log) n c k d
flow_stills log z [] q h = h
flow_stills log z (e ∷ es) q h = flow_still z e q.0 (flow_stills log z es q.1 h)

-- where both stand level, the blocks of the next packet are new
new_blocks :
    {v : ℕ} {x y : Role} {log : List Entry} {n c : ℕ} (p : Octets) → n < last_number → length p ≤ 4096 → (l : Level v x y log n c) →
    (z : Role) (k d : ℕ) (q : Octets) → z did seals k d q ∈ log → NoBlockTwice c (length p) d (length q)
new_blocks {v} {x} {y} {log} {n} {c} p small fits l z k d q h i j hi hj =
    let o : Old v n l.t z k d q = all_in (IfSeal (Old v n l.t)) log l.seals_old z (seals k d q) h in
    let w : blocks (length p) ≤ 256 = blocks_small (length p) fits in
    let u : l.t ≤ 256 * n = l.small in
    counters_apart v l.t o.place c d i j (blocks (length q)) l.stands o.stands o.ends hj (omega arith)

-- a seal by x
module _ {v : ℕ} {x y : Role} (opp : Opposite x y) {log : List Entry} {n c k d : ℕ} (p : Octets) where
  not_ahead : Ahead v x y log n c k d → n % 2 ≡ parity x → ⊥
  not_ahead a h =
      let e : n ≡ k + 1 = a.next in
      let f : k % 2 ≡ parity x = a.turn in
      omega arith

  not_behind : Ahead v y x log k d n c → n % 2 ≡ parity x → ⊥
  not_behind a h =
      let f : n % 2 ≡ parity y = a.turn in
      let g : parity x + parity y ≡ 1 = parities opp in
      omega arith

  seal_level :
      n % 2 ≡ parity x → length p ≤ 4096 → n ≡ k → c ≡ d → Level v x y log n c →
      Ahead v x y (x did seals (n + 1) c p ∷ log) (n + 1) (moved c (length p)) k d
  seal_level h fits a b l =
      let P : Role → ℕ → ℕ → Octets → Type 0 = Old v n l.t in
      let Q : Role → ℕ → ℕ → Octets → Type 0 = Old v (n + 1) (l.t + blocks (length p)) in
      let R : Role → ℕ → ℕ → Octets → Type 0 = λ z n' c' p'. n' ≡ n + 1 → (c' ≡ d) × (p' ≡ p) in
      record {
        t = l.t;
        p = p;
        next = omega arith;
        turn = subst (λ (i : ℕ). i % 2 ≡ parity x) a h;
        counted = ap (λ (i : ℕ). moved i (length p)) b;
        fits = fits;
        stands = subst (λ (i : ℕ). i % 2 ^ 128 ≡ (v + l.t) % 2 ^ 128) b l.stands;
        small = subst (λ (i : ℕ). l.t ≤ 256 * i) a l.small;
        from_x =
            ap (λ (r : List Octets). r ++ sealed x log) (when_own x (p ∷ [])) ∙ ap (λ (r : List Octets). p ∷ r) l.from_x
            ∙ ap (λ (r : List Octets). p ∷ r) (sym (unsealed_still y x (seals (n + 1) c p) log refl));
        from_y =
            ap (λ (r : List Octets). r ++ sealed y log) (when_other (swap opp) (p ∷ [])) ∙ l.from_y
            ∙ sym (unsealed_still x x (seals (n + 1) c p) log refl);
        seals_old = (
          record { below = omega arith; place = l.t; stands = l.stands; ends = omega arith },
          seals_map P Q (old_more v n l.t (n + 1) (l.t + blocks (length p)) (omega arith) (omega arith)) log l.seals_old,
        );
        latest = (
          (λ e. (b, refl)),
          seals_map P R (λ z n' c' p' o e. absurd (omega (arith, o.below))) log l.seals_old,
        );
      }

  pub flow_seal :
      n % 2 ≡ parity x → length p ≤ 4096 → Flow v x y log n c k d →
      Flow v x y (x did seals (n + 1) c p ∷ log) (n + 1) (moved c (length p)) k d
  flow_seal h fits (level a b l) = ahead (seal_level h fits a b l)
  flow_seal h fits (ahead a) = absurd (not_ahead a h)
  flow_seal h fits (behind a) = absurd (not_behind a h)

  pub flow_seal_apart :
      n % 2 ≡ parity x → n < last_number → length p ≤ 4096 → Flow v x y log n c k d →
      (z : Role) (j e : ℕ) (q : Octets) → z did seals j e q ∈ log → NoBlockTwice c (length p) e (length q)
  flow_seal_apart h small fits (level a b l) = new_blocks p small fits l
  flow_seal_apart h small fits (ahead a) = absurd (not_ahead a h)
  flow_seal_apart h small fits (behind a) = absurd (not_behind a h)

-- an unsealing by x, of a packet that y sealed
module _
    {v : ℕ} {x y : Role} (opp : Opposite x y) {log : List Entry} {n c k d : ℕ} (out : Octets) (size c' : ℕ)
    (p' : Octets) (sealed_so : y did seals (n + 1) c' p' ∈ log) (long : size ≡ length p') (right : c' ≡ c → out ≡ p')
  where
    unseal_behind : (a : Ahead v y x log k d n c) → Level v x y (x did unseals (n + 1) out ∷ log) (n + 1) (moved c size) × (moved c size ≡ d)
    unseal_behind a =
        let R : Role → ℕ → ℕ → Octets → Type 0 = λ z n' c' p'. n' ≡ k → (c' ≡ c) × (p' ≡ a.p) in
        let nk : k ≡ n + 1 = a.next in
        let same : (c' ≡ c) × (p' ≡ a.p) = all_in (IfSeal R) log a.latest y (seals (n + 1) c' p') sealed_so (sym nk) in
        let len : size ≡ length a.p = long ∙ ap length same.1 in
        let t' : ℕ = a.t + blocks (length a.p) in
        let u : a.t ≤ 256 * n = a.small in
        let f : blocks (length a.p) ≤ 256 = blocks_small (length a.p) a.fits in
        let fit : out ≡ a.p = right same.0 ∙ same.1 in
        let e : Event = unseals (n + 1) out in (
          record {
            t = t';
            stands = ap (λ (i : ℕ). moved c i % 2 ^ 128) len ∙ counter-moved v a.t c (length a.p) a.stands;
            small = omega arith;
            from_x =
                sealed_still x x e log refl ∙ a.from_y
                ∙ sym (ap (λ (r : List Octets). r ++ unsealed y log) (when_other (swap opp) (out ∷ [])));
            from_y =
                sealed_still y x e log refl ∙ a.from_x ∙ ap (λ (o : Octets). o ∷ unsealed x log) (sym fit)
                ∙ sym (ap (λ (r : List Octets). r ++ unsealed x log) (when_own x (out ∷ [])));
            seals_old = (
              tt,
              seals_map (Old v k t') (Old v (n + 1) t') (old_more v k t' (n + 1) t' (omega arith) (omega arith)) log a.seals_old,
            );
          },
          ap (moved c) len ∙ sym a.counted,
        )

    pub flow_unseal :
        Flow v x y log n c k d → Flow v x y (x did unseals (n + 1) out ∷ log) (n + 1) (moved c size) k d
    flow_unseal (level a b l) =
        let o : Old v n l.t y (n + 1) c' p' = all_in (IfSeal (Old v n l.t)) log l.seals_old y (seals (n + 1) c' p') sealed_so in
        absurd (omega (arith, o.below))
    flow_unseal (ahead a) =
        let t' : ℕ = a.t + blocks (length a.p) in
        let o : Old v n t' y (n + 1) c' p' = all_in (IfSeal (Old v n t')) log a.seals_old y (seals (n + 1) c' p') sealed_so in
        absurd (omega (arith, o.below))
    flow_unseal (behind a) =
        let r : Level v x y (x did unseals (n + 1) out ∷ log) (n + 1) (moved c size) × (moved c size ≡ d) = unseal_behind a in
        level (sym a.next) r.1 r.0
