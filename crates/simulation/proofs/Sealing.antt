-- What an accepted seal or unseal wrote and read is what the history says that it did.
use Rattle.std.proofs.Common.{◌≡◌, ℕ, ◌+◌, ◌<◌, ◌≤◌, not, eqb, ltb, leb, List, [], ◌∷◌, length, take, drop, Ok, Result, sym, ap, ◌∙◌, arith}
use Rattle.std.specs.Str.{bytes_eq}
use Rattle.std.proofs.lemmas.Bool.{leb-false, ltb-false, eqb-true}
use Rattle.fault.specs.declared.Fault.{Fault}
use Rattle.keyed.proofs.Stream.{keeps_length}
use Rattle.message.specs.Layout.{number_at}
use Rattle.message.specs.Reading.{checked}
use Rattle.message.proofs.Again.{passed, went_on, was_checked}
use Rattle.channel.specs.declared.Open.{Open}
use Rattle.channel.specs.Packets.{seals_at, data_in, tag_of, crypted, packet_tag, seal_check, seal_end, seal_output, unseal_check, unseal_end, unseal_output}
use Rattle.simulation.specs.Outcomes.{sent, told, seal_came}
use Rattle.runs.specs.History.{sends, accepts, seals, unseals, sealed_by, unsealed_by}
use Rattle.runs.specs.Unaltered.{Blocks}
use Rattle.channel.proofs.Checks.{after_check}
use Rattle.runs.proofs.Fields.{tag_12, Packs, written-packs}

-- how many octets a packet has that passed the check
pub packet_long : (p : ℕ) (m : List ℕ) → checked 5 p m ≡ Ok tt → (number_at m 6 ≤ 4096) × (length m ≡ 21 + number_at m 6)
packet_long p m h =
    let a = went_on (ltb (length m) 9) _ _ (was_checked 5 p m h).lengths in
    let b = went_on (ltb 4096 (number_at m 6)) _ _ a.1 in
    let c = passed (eqb (length m) (21 + number_at m 6)) _ _ b.1 in
    (ltb-false 4096 (number_at m 6) b.0, eqb-true (length m) (21 + number_at m 6) c.0)

-- what seal accepts
pub record Sealed {C K : Type 0} (x : Open C K) (p : List ℕ) (n : ℕ) : Type 0 where
  pub early : x.epoch.number < 16777215
  pub small : length p ≤ 4096
  pub size : n ≡ 21 + length p

pub sealed_as : {C K : Type 0} (x : Open C K) (p w o : List ℕ) (n : ℕ) → seal_check x p w o ≡ Ok n → Sealed x p n
sealed_as x p w o n h =
    let a = went_on (ltb (length w) 256) _ _ h in
    let b = went_on (ltb 4096 (length p)) _ _ a.1 in
    let c = went_on (ltb (length o) (21 + length p)) _ _ b.1 in
    let d = went_on (leb 16777215 x.epoch.number) _ _ c.1 in
    let t = went_on (not (seals_at x.role x.epoch.number)) _ _ d.1 in
    record { early = leb-false 16777215 x.epoch.number d.0; small = ltb-false 4096 (length p) b.0; size = cc t.1 }

same_size : (a b c d : ℕ) → ◌≡◌ {A = Result (ℕ × ℕ) Fault} (Ok (a, b)) (Ok (c, d)) → c ≡ a
same_size a b c d h = let q : ◌≡◌ {A = ℕ × ℕ} (a, b) (c, d) = cc in ap (λ v. v.0) (sym q)

module _ {C K : Type 0} (pid : ℕ) (e : List ℕ → List ℕ → List ℕ) where
  pub seal_does :
      Blocks e → (x y : Open C K) (p w o out t : List ℕ) (size at number counter : ℕ) → Ok size ≡ seal_check x p w o → y ≡ seal_end x p (Ok size) →
      out ≡ take size (seal_output pid e x p w o) → at ≡ 9 + length p → (at + 12 ≤ length out → t ≡ take 12 (drop at out)) →
      number ≡ y.epoch.number → counter ≡ x.epoch.keys.counter →
      (y ≡ (sealed_by pid e x p (seal_check x p w o)).next) × (sends t ∷ seals number counter p ∷ [] ≡ (sealed_by pid e x p (seal_check x p w o)).events)
  seal_does blocks x y p w o out t size at number counter h ey eo ea ft en ec =
      let s : Sealed x p size = sealed_as x p w o size (sym h) in
      let d : List ℕ = crypted e x.epoch p in
      let tg : List ℕ = packet_tag e x.epoch (x.epoch.number + 1) d in
      let m : List ℕ = take (21 + length p) (seal_output pid e x p w o) in
      let dl : length d ≡ length p = keeps_length e x.epoch.keys.encryption x.epoch.keys.counter p in
      let a : Packs pid m (x.epoch.number + 1) d tg =
      written-packs pid (x.epoch.number + 1) (21 + length p) d tg o (sym h) (omega (arith, s.early)) (omega (arith, s.small)) (tag_12 e blocks _ _) (omega arith) in
      let om : out ≡ m = eo ∙ ap (λ v. take v (seal_output pid e x p w o)) s.size in
      let l : length m ≡ 21 + number_at m 6 = (packet_long pid m a.accepted).1 in
      let am : at ≡ 9 + number_at m 6 = omega (arith, a.long) in
      let tt : t ≡ tg =
      ft (omega (arith, ap length om)) ∙ ap (λ v. take 12 (drop at v)) om ∙ ap (λ v. take 12 (drop v m)) am ∙ a.tagged in
      let nn : number ≡ x.epoch.number + 1 = en ∙ ap (λ v. v.epoch.number) ey in
      let j : sealed_by pid e x p (seal_check x p w o) ≡ sealed_by pid e x p (Ok size) = ap (sealed_by pid e x p) (sym h) in (
        ey ∙ ap (λ v. v.next) (sym j),
        ap (λ v. sends v ∷ seals number counter p ∷ []) tt ∙ ap (λ v. sends tg ∷ seals v counter p ∷ []) nn
            ∙ ap (λ v. sends tg ∷ seals (x.epoch.number + 1) v p ∷ []) ec ∙ ap (λ v. v.events) (sym j),
      )

  pub seal_tells :
      (x : Open C K) (p w o out : List ℕ) (n : ℕ) → Ok n ≡ seal_check x p w o → out ≡ take n (seal_output pid e x p w o) → sent out ≡ seal_came pid e x p w o
  seal_tells x p w o out n h eo =
      ap sent (eo ∙ ap (λ v. take v (seal_output pid e x p w o)) (sealed_as x p w o n (sym h)).size)
      ∙ ap (told (sent (take (21 + length p) (seal_output pid e x p w o)))) h

  unsealed_as_lem : (x : Open C K) (m w o : List ℕ) (size number : ℕ) → Ok (size, number) ≡ unseal_check pid e x m w o → (size ≡ number_at m 6) × (checked 5 pid m ≡ Ok tt)
  unsealed_as_lem x m w o size number h =
      let a = went_on (ltb (length w) 256) _ _ (sym h) in
      let b = went_on (ltb (length o) 4096) _ _ a.1 in
      let c = went_on (leb 16777215 x.epoch.number) _ _ b.1 in
      let d = went_on (seals_at x.role x.epoch.number) _ _ c.1 in
      let f = after_check (checked 5 pid m) _ d.1 in
      let g = went_on (leb (number_at m 3) x.epoch.number) _ _ f.1 in
      let k = went_on (ltb (x.epoch.number + 1) (number_at m 3)) _ _ g.1 in
      let t = passed (bytes_eq (packet_tag e x.epoch (number_at m 3) (data_in m)) (tag_of m)) _ _ k.1 in
      (same_size (number_at m 6) (number_at m 3) size number t.1, f.0)

  pub unseal_does :
      (x y : Open C K) (m w o out t : List ℕ) (size number : ℕ) → Ok (size, number) ≡ unseal_check pid e x m w o → y ≡ unseal_end x (Ok (size, number)) →
      out ≡ take size (unseal_output pid e x m w o) → (9 + size + 12 ≤ length m → t ≡ take 12 (drop (9 + size) m)) →
      (y ≡ (unsealed_by pid e x m w o (unseal_check pid e x m w o)).next)
      × (unseals number out ∷ accepts t ∷ [] ≡ (unsealed_by pid e x m w o (unseal_check pid e x m w o)).events)
  unseal_does x y m w o out t size number h ey eo ft =
      let s = unsealed_as_lem x m w o size number h in
      let l = packet_long pid m s.1 in
      let q : t ≡ tag_of m = ft (omega (arith, l.1, s.0)) ∙ ap (λ v. take 12 (drop (9 + v) m)) s.0 in
      let j : unsealed_by pid e x m w o (unseal_check pid e x m w o) ≡ unsealed_by pid e x m w o (Ok (size, number)) = ap (unsealed_by pid e x m w o) (sym h) in (
        ey ∙ ap (λ v. v.next) (sym j),
        ap (λ v. unseals number v ∷ accepts t ∷ []) eo
            ∙ ap (λ v. unseals number (take size (unseal_output pid e x m w o)) ∷ accepts v ∷ []) q ∙ ap (λ v. v.events) (sym j),
      )
