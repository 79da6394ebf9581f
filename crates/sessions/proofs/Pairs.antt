-- Payloads in turn between two ends that have the same keys, counter and number.
use Rattle.std.proofs.Common.{◌≡◌, ℕ, zero, suc, ◌+◌, ◌-◌, ◌%◌, ◌<◌, ◌≤◌, min, Bool, true, false, cond, eqb, ltb, leb, List, [], ◌∷◌, length, get_or, take, drop, replicate, Ok, Err, sym, refl, ap, ◌∙◌, inl, inr, arith, Bor}
use native.Mathlib.Nat.{sub-zero, min-eq_left, min-eq_right}
use Rattle.std.specs.Str.{bytes_eq}
use Rattle.std.proofs.lemmas.List.{drop_more, drop_all}
use Rattle.std.proofs.lemmas.Bool.{le-ltb, le-leb, eq-eqb, ne_eqb, and_from, cond-true, cond-false, cases_eq, cases_lt}
use Rattle.fault.specs.declared.Fault.{Fault}
use Rattle.fault.specs.declared.HostCause.TheVariants.{LastNumber}
use Rattle.fault.specs.Faults.{host_fault}
use Rattle.channel.specs.declared.Epoch.{Epoch}
use Rattle.channel.specs.declared.Open.{Open}
use Rattle.channel.specs.Steps.{and_then}
use Rattle.channel.specs.Packets.{seals_at, seal_end, seal_output, unseal_end, unseal_output}
use Rattle.channel.proofs.Checks.{sized-passes, unless-passes, unless-refuses}
use Rattle.sessions.specs.declared.unaltered.Pair.{Pair}
use Rattle.runs.specs.Law.{other}
use Rattle.runs.specs.Unaltered.{Blocks, Small, Level}
use Rattle.sessions.specs.Sessions.{zeros, sealing, sealer_after, unsealing, unsealer_after, came_out, passing, Ready, Through, through, fobs_turn, fob_passes, mixer_passes, pair_after, comes_through, how_many, pair_after_all}
use Rattle.runs.proofs.Passing.{turn_other, passes_one, level_next, turn_at}
use Rattle.sessions.proofs.Payloads.{zeros_length, sealing_is, seal_refused, unsealed_answer, came-out}

-- what the code reads past the last payload
abbrev pub nothing : Bor (List ℕ)
nothing = record { ref_ptr = (0, 0); now = [] }

bytes_eq-self : (a : List ℕ) → bytes_eq a a ≡ true
bytes_eq-self [] = refl
bytes_eq-self (x ∷ xs) = and_from (eqb x x) (bytes_eq xs xs) (eq-eqb x x refl) (bytes_eq-self xs)

-- one payload between two ends that are ready for it
module _ {C A B : Type 0} (pid : ℕ) (e : List ℕ → List ℕ → List ℕ) (whole : Blocks e) (s : Open C A) (r : Open C B) (p : List ℕ) (ready : Ready s r p) where
  pub ready_through : Through s (sealer_after s p) r (unsealer_after pid e s r p) p (passing pid e s r p)
  ready_through =
      let q : length p ≤ 4096 = ready.small in
      let n : ℕ = 21 + length p in
      let hw : length (zeros 256) ≡ 256 = zeros_length 256 in
      let ho : length (zeros 4117) ≡ 4117 = zeros_length 4117 in
      let hp : length (zeros 4096) ≡ 4096 = zeros_length 4096 in
      let waits : seals_at r.role s.epoch.number ≡ false =
      ap (λ v. seals_at v s.epoch.number) ready.roles ∙ turn_other s.role s.epoch.number ready.turn in
      let one = passes_one pid e whole s r p ready.same ready.below ready.turn waits ready.small (zeros 256) (zeros 4117) (zeros 256) (zeros 4096)
      (omega arith) (omega arith) (omega arith) (omega arith) in
      let sealed : sealing s p ≡ Ok n = sym (sealing_is s p (zeros 256) (zeros 4117) hw ho) ∙ one.seals in
      let m : List ℕ = take n (seal_output pid e s p (zeros 256) (zeros 4117)) in
      let cut : m ≡ take (n - 0) (seal_output pid e s p (zeros 256) (zeros 4117)) =
      ap (λ v. take v (seal_output pid e s p (zeros 256) (zeros 4117))) (sym (sub-zero n)) in
      let unsealed : unsealing pid e s r p ≡ Ok (length p, s.epoch.number + 1) =
      sym (unsealed_answer pid e whole s r p (zeros 256) (zeros 4117) n hw ho one.seals m (zeros 256) (zeros 4096) cut hw hp) ∙ one.unseals in
      let came : came_out pid e s r p ≡ true =
      sym (came-out pid e whole s r p (zeros 256) (zeros 4117) n hw ho one.seals m (zeros 256) (zeros 4096) cut hw hp (length p) (s.epoch.number + 1) one.unseals)
      ∙ ap (λ v. bytes_eq (take v (unseal_output pid e r m (zeros 256) (zeros 4096))) p) (sub-zero (length p))
      ∙ ap (λ v. bytes_eq v p) one.payload ∙ bytes_eq-self p in
      record {
        came =
            ap (λ q. and_then q (and_then (unsealing pid e s r p) (Ok (came_out pid e s r p)))) sealed
            ∙ ap (λ q. and_then q (Ok (came_out pid e s r p))) unsealed ∙ ap Ok came;
        sealer = ap (seal_end s p) sealed;
        unsealer = ap (λ q. unseal_end r (and_then q (unsealing pid e s r p))) sealed ∙ ap (unseal_end r) unsealed;
      }

-- at the last number the payload is refused
sealing_ends : {C A : Type 0} (s : Open C A) (p : List ℕ) → 16777215 ≤ s.epoch.number → length p ≤ 4096 → sealing s p ≡ Err (host_fault LastNumber)
sealing_ends s p h q =
    let ho : length (zeros 4117) ≡ 4117 = zeros_length 4117 in
    unless-passes (ltb 4096 (length p)) _ _ (le-ltb 4096 (length p) q) ∙ sized-passes (21 + length p) (zeros 4117) _ (omega arith)
    ∙ unless-refuses (leb 16777215 s.epoch.number) _ _ (le-leb 16777215 s.epoch.number h)

level_as :
    {C K L : Type 0} {f f' : Open C K} {x x' : Open C L} {n : ℕ} → f ≡ f' → x ≡ x' → Level f' x' n → Level f x n
level_as a b h = record {
  fob_role = ap (λ v. v.role) a ∙ h.fob_role;
  mixer_role = ap (λ v. v.role) b ∙ h.mixer_role;
  same = ap (λ v. v.epoch) a ∙ h.same ∙ sym (ap (λ v. v.epoch) b);
  at = ap (λ v. v.epoch.number) a ∙ h.at;
}

pub level_mixer : {C K L : Type 0} {f : Open C K} {x : Open C L} {n : ℕ} → Level f x n → x.epoch.number ≡ n
level_mixer h = ap (λ (v : Epoch). v.number) (sym h.same) ∙ h.at

level_at : {C K L : Type 0} {f : Open C K} {x : Open C L} {n m : ℕ} → n ≡ m → Level f x n → Level f x m
level_at e h = record { fob_role = h.fob_role; mixer_role = h.mixer_role; same = h.same; at = h.at ∙ e }

mod_two : (n : ℕ) → (n % 2 ≡ 0 → ⊥) → n % 2 ≡ 1
mod_two n h = elim (cases_eq (n % 2) 1) [ inl z ↦ z | inr z ↦ absurd (h (omega arith)) ]

min_next : (k n : ℕ) → n < 16777215 → 1 + min k (16777215 - (n + 1)) ≡ min (suc k) (16777215 - n)
min_next k n h = elim (cases_lt k (16777215 - n)) [
  | inl l ↦
      let a : k ≤ 16777215 - (n + 1) = omega arith in
      let b : suc k ≤ 16777215 - n = omega arith in
      ap (λ v. 1 + v) (min-eq_left a) ∙ omega arith ∙ sym (min-eq_left b)
  | inr l ↦
      let a : 16777215 - (n + 1) ≤ k = omega arith in
      let b : 16777215 - n ≤ suc k = omega arith in
      ap (λ v. 1 + v) (min-eq_right a) ∙ omega arith ∙ sym (min-eq_right b)
]

-- a field that both ways leave as it was
pub field : {A B : Type 0} (b : Bool) {p q : A} {r : B} (f : A → B) → f p ≡ r → f q ≡ r → f (cond b p q) ≡ r
field true f a b = a
field false f a b = b

either_way : {A : Type 0} (b : Bool) {p q r : A} → p ≡ r → q ≡ r → cond b p q ≡ r
either_way true a b = a
either_way false a b = b

module _ {C K L : Type 0} (pid : ℕ) (e : List ℕ → List ℕ → List ℕ) (whole : Blocks e) where
  -- both ends are level, and the payload goes from the one whose turn it is
  module _ (x : Pair C K L) (n : ℕ) (p : List ℕ) (h : Level x.fob x.mixer n) (small : length p ≤ 4096) where
    fob_goes :
        n < 16777215 → n % 2 ≡ 0 →
        (comes_through pid e x p ≡ true) × Level (pair_after pid e x p).fob (pair_after pid e x p).mixer (n + 1)
    fob_goes below even =
        let a : x.fob.epoch.number ≡ n = h.at in
        let turn : fobs_turn x ≡ true = ap (λ v. eqb (v % 2) 0) a ∙ eq-eqb (n % 2) 0 even in
        let ready : Ready x.fob x.mixer p = record {
          same = h.same;
          below = omega arith;
          roles = h.mixer_role ∙ sym (ap other h.fob_role);
          turn = turn_at true h.fob_role a (eq-eqb (n % 2) 0 even);
          small = small;
        } in
        let t = ready_through pid e whole x.fob x.mixer p ready in
        let after : pair_after pid e x p ≡ fob_passes pid e x p = ap (λ b. cond b (fob_passes pid e x p) (mixer_passes pid e x p)) turn in (
          ap (λ b. through (cond b (passing pid e x.fob x.mixer p) (passing pid e x.mixer x.fob p))) turn ∙ ap through t.came,
          level_as (ap (λ (y : Pair C K L). y.fob) after ∙ t.sealer) (ap (λ (y : Pair C K L). y.mixer) after ∙ t.unsealer)
              (level_next x.fob x.mixer n (length p) h),
        )

    mixer_goes :
        n < 16777215 → n % 2 ≡ 1 →
        (comes_through pid e x p ≡ true) × Level (pair_after pid e x p).fob (pair_after pid e x p).mixer (n + 1)
    mixer_goes below odd =
        let a : x.mixer.epoch.number ≡ n = level_mixer h in
        let turn : fobs_turn x ≡ false = ap (λ v. eqb (v % 2) 0) h.at ∙ ne_eqb (n % 2) 0 (λ z. omega arith) in
        let ready : Ready x.mixer x.fob p = record {
          same = sym h.same;
          below = omega arith;
          roles = h.fob_role ∙ sym (ap other h.mixer_role);
          turn = turn_at true h.mixer_role a (eq-eqb (n % 2) 1 odd);
          small = small;
        } in
        let t = ready_through pid e whole x.mixer x.fob p ready in
        let after : pair_after pid e x p ≡ mixer_passes pid e x p = ap (λ b. cond b (fob_passes pid e x p) (mixer_passes pid e x p)) turn in (
          ap (λ b. through (cond b (passing pid e x.fob x.mixer p) (passing pid e x.mixer x.fob p))) turn ∙ ap through t.came,
          level_as (ap (λ (y : Pair C K L). y.fob) after ∙ t.unsealer) (ap (λ (y : Pair C K L). y.mixer) after ∙ t.sealer)
              (level_next x.fob x.mixer n (length p) h),
        )

    pub level_goes :
        n < 16777215 → (comes_through pid e x p ≡ true) × Level (pair_after pid e x p).fob (pair_after pid e x p).mixer (n + 1)
    level_goes below = elim (cases_eq (n % 2) 0) [ inl z ↦ fob_goes below z | inr z ↦ mixer_goes below (let o = mod_two n z in o) ]

    pub level_ends :
        16777215 ≤ n → (comes_through pid e x p ≡ false) × Level (pair_after pid e x p).fob (pair_after pid e x p).mixer n
    level_ends last =
        let f : Fault = host_fault LastNumber in
        let a : x.fob.epoch.number ≡ n = h.at in
        let b : x.mixer.epoch.number ≡ n = level_mixer h in
        let sf : sealing x.fob p ≡ Err f = sealing_ends x.fob p (omega arith) small in
        let sm : sealing x.mixer p ≡ Err f = sealing_ends x.mixer p (omega arith) small in
        let kf = seal_refused pid e x.fob x.mixer p f sf in
        let km = seal_refused pid e x.mixer x.fob p f sm in
        let ff : (pair_after pid e x p).fob ≡ x.fob =
        field (fobs_turn x) (λ (y : Pair C K L). y.fob) (ap (seal_end x.fob p) sf) km.1 in
        let mm : (pair_after pid e x p).mixer ≡ x.mixer =
        field (fobs_turn x) (λ (y : Pair C K L). y.mixer) kf.1 (ap (seal_end x.mixer p) sm) in
        (ap through (either_way (fobs_turn x) kf.0 km.0), level_as ff mm h)

  -- all payloads, up to the last number
  pub levels :
      (x : Pair C K L) (ps : List (List ℕ)) (n : ℕ) → Level x.fob x.mixer n → Small ps →
      (how_many pid e x ps ≡ min (length ps) (16777215 - n))
      × Level (pair_after_all pid e x ps).fob (pair_after_all pid e x ps).mixer (n + how_many pid e x ps)
  levels x [] n h s = (sym (min-eq_left (omega arith)), level_at (omega arith) h)
  levels x (p ∷ ps) n h s = elim (cases_lt n 16777215) [
    | inl below ↦
        let g = level_goes x n p h s.0 below in
        let k = levels (pair_after pid e x p) ps (n + 1) g.1 s.1 in
        let m : how_many pid e x (p ∷ ps) ≡ 1 + how_many pid e (pair_after pid e x p) ps = cond-true (comes_through pid e x p) _ _ g.0 in
        let y : pair_after_all pid e x (p ∷ ps) ≡ pair_after_all pid e (pair_after pid e x p) ps = cond-true (comes_through pid e x p) _ _ g.0 in (
          m ∙ ap (λ v. 1 + v) k.0 ∙ min_next (length ps) n below,
          level_as (ap (λ (z : Pair C K L). z.fob) y) (ap (λ (z : Pair C K L). z.mixer) y) (level_at (omega arith) k.1),
        )
    | inr last ↦
        let g = level_ends x n p h s.0 last in
        let m : how_many pid e x (p ∷ ps) ≡ 0 = cond-false (comes_through pid e x p) _ _ g.0 in
        let y : pair_after_all pid e x (p ∷ ps) ≡ pair_after pid e x p = cond-false (comes_through pid e x p) _ _ g.0 in (
          m ∙ sym (min-eq_right (omega arith) ∙ omega arith),
          level_as (ap (λ (z : Pair C K L). z.fob) y) (ap (λ (z : Pair C K L). z.mixer) y) (level_at (omega arith) g.1),
        )
  ]

-- a loop over payloads: i of them came through, and x is where the ends are then
pub record Going {C K L : Type 0} (pid : ℕ) (e : List ℕ → List ℕ → List ℕ) (start x : Pair C K L) (ps : List (List ℕ)) (i : ℕ) : Type 0 where
  pub many : how_many pid e start ps ≡ i + how_many pid e x (drop i ps)
  pub after : pair_after_all pid e start ps ≡ pair_after_all pid e x (drop i ps)

module _ {C K L : Type 0} (pid : ℕ) (e : List ℕ → List ℕ → List ℕ) (start x : Pair C K L) (ps : List (List ℕ)) (i : ℕ) (h : Going pid e start x ps i) where
  pub going_next :
      (y : Pair C K L) (p : List ℕ) → i < length ps → get_or ps i [] ≡ p → y ≡ pair_after pid e x p → comes_through pid e x p ≡ true → Going pid e start y ps (i + 1)
  going_next y p l is moved t =
      let d : drop i ps ≡ p ∷ drop (i + 1) ps = drop_more ps i [] l ∙ ap (λ v. v ∷ drop (i + 1) ps) is in
      let m : how_many pid e x (p ∷ drop (i + 1) ps) ≡ 1 + how_many pid e y (drop (i + 1) ps) =
      cond-true (comes_through pid e x p) _ _ t ∙ ap (λ z. 1 + how_many pid e z (drop (i + 1) ps)) (sym moved) in
      let k : how_many pid e x (drop i ps) ≡ how_many pid e x (p ∷ drop (i + 1) ps) = ap (how_many pid e x) d in
      let q : how_many pid e start ps ≡ i + how_many pid e x (drop i ps) = h.many in
      record {
        many = omega arith;
        after =
            h.after ∙ ap (pair_after_all pid e x) d ∙ cond-true (comes_through pid e x p) _ _ t
            ∙ ap (λ z. pair_after_all pid e z (drop (i + 1) ps)) (sym moved);
      }

  pub going_stops :
      (y : Pair C K L) (p : List ℕ) → i < length ps → get_or ps i [] ≡ p → y ≡ pair_after pid e x p → comes_through pid e x p ≡ false →
      (i ≡ how_many pid e start ps) × (y ≡ pair_after_all pid e start ps)
  going_stops y p l is moved t =
      let d : drop i ps ≡ p ∷ drop (i + 1) ps = drop_more ps i [] l ∙ ap (λ v. v ∷ drop (i + 1) ps) is in
      let m : how_many pid e x (p ∷ drop (i + 1) ps) ≡ 0 = cond-false (comes_through pid e x p) _ _ t in
      let k : how_many pid e x (drop i ps) ≡ how_many pid e x (p ∷ drop (i + 1) ps) = ap (how_many pid e x) d in
      let q : how_many pid e start ps ≡ i + how_many pid e x (drop i ps) = h.many in (
        omega arith,
        moved ∙ sym (h.after ∙ ap (pair_after_all pid e x) d ∙ cond-false (comes_through pid e x p) _ _ t),
      )

  pub going_done : (k : ℕ) → length ps ≡ k → k ≤ i → i ≤ k → (k ≡ how_many pid e start ps) × (x ≡ pair_after_all pid e start ps)
  going_done n l a b =
      let d : drop i ps ≡ [] = drop_all i ps (omega arith) in
      let k : how_many pid e x (drop i ps) ≡ 0 = ap (how_many pid e x) d in
      let q : how_many pid e start ps ≡ i + how_many pid e x (drop i ps) = h.many in
      (omega arith, sym (h.after ∙ ap (pair_after_all pid e x) d))

-- what honest ends make of all payloads, by what was answered
pub honest_all :
    {C K L : Type 0} (pid : ℕ) (e : List ℕ → List ℕ → List ℕ) → Blocks e → (start x : Pair C K L) (ps : List (List ℕ)) (k r : ℕ) →
    length ps ≡ k → (r ≡ how_many pid e start ps) × (x ≡ pair_after_all pid e start ps) → (n : ℕ) → Level start.fob start.mixer n → Small ps →
    (r ≡ min k (16777215 - n)) × Level x.fob x.mixer (n + r)
honest_all pid e whole start x ps k r l (v, w) n h s =
    let t = levels pid e whole start ps n h s in (
      v ∙ t.0 ∙ ap (λ m. min m (16777215 - n)) l,
      level_as (ap (λ y. y.fob) w) (ap (λ y. y.mixer) w) (level_at (ap (λ m. n + m) (sym v)) t.1),
    )

pub small_replicate : (n : ℕ) (p : List ℕ) → length p ≤ 4096 → Small (replicate n p)
small_replicate zero p h = tt
small_replicate (suc n) p h = (h, small_replicate n p h)
