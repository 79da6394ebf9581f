-- Packets that are sealed at one end and unsealed at the other, and the last number.
use Rattle.std.proofs.Common.{◌≡◌, ℕ, ◌+◌, ◌%◌, ◌<◌, ◌≤◌, Bool, true, false, not, ltb, leb, List, [], ◌∷◌, length, take, Ok, Result, sym, refl, ap, ◌∙◌, arith}
use Rattle.std.proofs.lemmas.Bool.{le-ltb, lt-leb, le-leb, eq-eqb, ne_eqb, eqb-true, not_from_true}
use Rattle.fault.specs.declared.Fault.{Fault}
use Rattle.message.specs.Layout.{number_at}
use Rattle.message.specs.Reading.{checked}
use Rattle.ends.specs.declared.Role.{Role}
use Rattle.ends.specs.declared.Role.TheVariants.{Fob as AtFob, Mixer as AtMixer}
use Rattle.channel.specs.declared.Epoch.{Epoch}
use Rattle.channel.specs.declared.Open.{Open}
use Rattle.channel.specs.Packets.{seals_at, advanced, advanced_end, data_in, tag_of, crypted, packet_tag, seal_check, seal_output, unseal_check, unseal_output}
use Rattle.runs.specs.Law.{other}
use Rattle.runs.specs.Unaltered.{Level, Blocks, PassesOne, Passes, Small, PassesUnaltered, EndsAtLast}
use Rattle.channel.proofs.Checks.{sized-passes, unless-passes, unless-refuses, and_then-passes, tag_passes, written-take}
use Rattle.runs.proofs.Fields.{tag_12, Packs, written-packs}
use Rattle.keyed.proofs.Stream.{keeps_length, gives_back}

-- where one end seals the other does not, and it does at the next number
pub turn_other : (r : Role) (n : ℕ) → seals_at r n ≡ true → seals_at (other r) n ≡ false
turn_other AtFob n h = ne_eqb (n % 2) 1 (λ z. omega (arith, eqb-true (n % 2) 0 h))
turn_other AtMixer n h = ne_eqb (n % 2) 0 (λ z. omega (arith, eqb-true (n % 2) 1 h))

pub turn_next : (r : Role) (n : ℕ) → seals_at r n ≡ true → seals_at (other r) (n + 1) ≡ true
turn_next AtFob n h = eq-eqb ((n + 1) % 2) 1 (omega (arith, eqb-true (n % 2) 0 h))
turn_next AtMixer n h = eq-eqb ((n + 1) % 2) 0 (omega (arith, eqb-true (n % 2) 1 h))

-- what unseal answers
abbrev pub unsealed_as : ℕ → ℕ → Result (ℕ × ℕ) Fault
unsealed_as n m = Ok (n, m)

-- s seals the payload p, and r, at the same keys, counter and number, unseals it
module _ {C A B : Type 0} (pid : ℕ) (e : List ℕ → List ℕ → List ℕ) (whole : Blocks e) (s : Open C A) (r : Open C B) (p : List ℕ)
    (same : s.epoch ≡ r.epoch) (below : s.epoch.number < 16777215) (turn : seals_at s.role s.epoch.number ≡ true)
    (waits : seals_at r.role s.epoch.number ≡ false) (small : length p ≤ 4096) where
  abbrev pub sealed_data : List ℕ
  sealed_data = crypted e s.epoch p

  abbrev pub sealed_tag : List ℕ
  sealed_tag = packet_tag e s.epoch (s.epoch.number + 1) sealed_data

  sealed_data_length : length sealed_data ≡ length p
  sealed_data_length = keeps_length e s.epoch.keys.encryption s.epoch.keys.counter p

  same_number : r.epoch.number ≡ s.epoch.number
  same_number = ap (λ (v : Epoch). v.number) (sym same)

  seal_passes : (w o : List ℕ) → 256 ≤ length w → 21 + length p ≤ length o → seal_check s p w o ≡ Ok (21 + length p)
  seal_passes w o hw ho =
      sized-passes 256 w _ hw ∙ unless-passes (ltb 4096 (length p)) _ _ (le-ltb 4096 (length p) small) ∙ sized-passes (21 + length p) o _ ho
      ∙ unless-passes (leb 16777215 s.epoch.number) _ _ (lt-leb 16777215 s.epoch.number below)
      ∙ unless-passes (not (seals_at s.role s.epoch.number)) _ _ (not_from_true (seals_at s.role s.epoch.number) turn)

  sealed_packs :
      (w o : List ℕ) → 256 ≤ length w → 21 + length p ≤ length o →
      Packs pid (take (21 + length p) (seal_output pid e s p w o)) (s.epoch.number + 1) sealed_data sealed_tag
  sealed_packs w o hw ho =
      written-packs pid (s.epoch.number + 1) (21 + length p) sealed_data sealed_tag o (seal_passes w o hw ho)
      (omega arith) (omega (arith, sealed_data_length)) (tag_12 e whole _ _) (omega (arith, sealed_data_length))

  module _ (m w o : List ℕ) (a : Packs pid m (s.epoch.number + 1) sealed_data sealed_tag) (hw : 256 ≤ length w) (ho : 4096 ≤ length o) where
    same_tag : packet_tag e r.epoch (number_at m 3) (data_in m) ≡ tag_of m
    same_tag =
        ap (λ v. packet_tag e v (number_at m 3) (data_in m)) (sym same) ∙ ap (λ v. packet_tag e s.epoch v (data_in m)) a.numbered
        ∙ ap (λ v. packet_tag e s.epoch (s.epoch.number + 1) v) a.holds ∙ sym a.tagged

    long : number_at m 6 ≡ length p
    long = a.long ∙ sealed_data_length

    unseal_passes : unseal_check pid e r m w o ≡ Ok (number_at m 6, number_at m 3)
    unseal_passes =
        let n : r.epoch.number ≡ s.epoch.number = same_number in
        let k : number_at m 3 ≡ s.epoch.number + 1 = a.numbered in
        sized-passes 256 w _ hw ∙ sized-passes 4096 o _ ho
        ∙ unless-passes (leb 16777215 r.epoch.number) _ _ (lt-leb 16777215 r.epoch.number (omega arith))
        ∙ unless-passes (seals_at r.role r.epoch.number) _ _ (ap (seals_at r.role) n ∙ waits)
        ∙ and_then-passes (checked 5 pid m) tt _ a.accepted
        ∙ unless-passes (leb (number_at m 3) r.epoch.number) _ _ (lt-leb (number_at m 3) r.epoch.number (omega arith))
        ∙ unless-passes (ltb (r.epoch.number + 1) (number_at m 3)) _ _ (le-ltb (r.epoch.number + 1) (number_at m 3) (omega arith))
        ∙ tag_passes (packet_tag e r.epoch (number_at m 3) (data_in m)) (tag_of m) _ _ same_tag

    unseal_answers : unseal_check pid e r m w o ≡ unsealed_as (length p) (s.epoch.number + 1)
    unseal_answers = unseal_passes ∙ ap (λ v. unsealed_as v (number_at m 3)) long ∙ ap (unsealed_as (length p)) a.numbered

    payload_back : crypted e r.epoch (data_in m) ≡ p
    payload_back =
        ap (λ v. crypted e v (data_in m)) (sym same) ∙ ap (crypted e s.epoch) a.holds
        ∙ gives_back e s.epoch.keys.encryption s.epoch.keys.counter p

    payload_out : take (length p) (unseal_output pid e r m w o) ≡ p
    payload_out =
        ap (λ v. take v (unseal_output pid e r m w o)) (sym long)
        ∙ written-take (number_at m 6) (λ v. crypted e r.epoch (data_in m)) o unseal_passes (ap length payload_back ∙ sym long)
        ∙ payload_back

  pub passes_one : PassesOne pid e s r p
  passes_one w o w' o' hw ho hw' ho' =
      let m : List ℕ = take (21 + length p) (seal_output pid e s p w o) in
      let a = sealed_packs w o hw ho in
      record { seals = seal_passes w o hw ho; unseals = unseal_answers m w' o' a hw' ho'; payload = payload_out m w' o' a hw' ho' }

-- both ends one packet on
pub level_next : {C K L : Type 0} (f : Open C K) (x : Open C L) (n m : ℕ) → Level f x n → Level (advanced_end f m) (advanced_end x m) (n + 1)
level_next f x n m h = record {
  fob_role = h.fob_role;
  mixer_role = h.mixer_role;
  same = ap (λ v. advanced v m) h.same;
  at = ap (λ v. v + 1) h.at;
}

-- whether an end seals, by its role and number
pub turn_at : {s r : Role} {k n : ℕ} (t : Bool) → s ≡ r → k ≡ n → seals_at r n ≡ t → seals_at s k ≡ t
turn_at {r = r} {k = k} t a b c = ap (λ v. seals_at v k) a ∙ ap (seals_at r) b ∙ c

-- payloads in turn, from any number on
module _ {C K L : Type 0} (pid : ℕ) (e : List ℕ → List ℕ → List ℕ) (whole : Blocks e) where
  passes :
      (turn : Role) (f : Open C K) (x : Open C L) (n : ℕ) → Level f x n → seals_at turn n ≡ true →
      (ps : List (List ℕ)) → n + length ps ≤ 16777215 → Small ps → Passes pid e turn f x n ps
  passes turn f x n h t [] b s = (h.at, ap (λ (v : Epoch). v.number) (sym h.same) ∙ h.at)
  passes AtFob f x n h t (p ∷ ps) b s =
      let a : f.epoch.number ≡ n = h.at in (
        passes_one pid e whole f x p h.same (omega arith) (turn_at true h.fob_role a t)
            (turn_at false h.mixer_role a (turn_other AtFob n t)) s.0,
        passes AtMixer (advanced_end f (length p)) (advanced_end x (length p)) (n + 1) (level_next f x n (length p) h) (turn_next AtFob n t) ps (omega arith) s.1,
      )
  passes AtMixer f x n h t (p ∷ ps) b s =
      let a : x.epoch.number ≡ n = ap (λ (v : Epoch). v.number) (sym h.same) ∙ h.at in (
        passes_one pid e whole x f p (sym h.same) (omega arith) (turn_at true h.mixer_role a t)
            (turn_at false h.fob_role a (turn_other AtMixer n t)) s.0,
        passes AtFob (advanced_end f (length p)) (advanced_end x (length p)) (n + 1) (level_next f x n (length p) h) (turn_next AtMixer n t) ps (omega arith) s.1,
      )

pub passes_unaltered : (C K L : Type 0) → PassesUnaltered C K L
passes_unaltered C K L pid e f x whole rf rx same zero ps b s =
    passes pid e whole AtFob f x 0 (record { fob_role = rf; mixer_role = rx; same = same; at = zero }) refl ps (omega arith) s

pub ends_at_last : (C K : Type 0) → EndsAtLast C K
ends_at_last C K pid e x h p m w o hp hw ho =
    let t : leb 16777215 x.epoch.number ≡ true = le-leb 16777215 x.epoch.number (omega arith) in (
      sized-passes 256 w _ hw ∙ unless-passes (ltb 4096 (length p)) _ _ (le-ltb 4096 (length p) hp) ∙ sized-passes (21 + length p) o _ (omega arith)
          ∙ unless-refuses (leb 16777215 x.epoch.number) _ _ t,
      sized-passes 256 w _ hw ∙ sized-passes 4096 o _ (omega arith) ∙ unless-refuses (leb 16777215 x.epoch.number) _ _ t,
    )
