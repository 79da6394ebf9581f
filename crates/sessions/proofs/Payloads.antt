-- A payload that one end seals and the other unseals.
use Rattle.std.proofs.Common.{◌≡◌, ℕ, ◌+◌, ◌-◌, ◌<◌, ◌≤◌, not, ltb, leb, List, length, take, Ok, Err, sym, ap, ◌∙◌, arith}
use native.Mathlib.Nat.{sub-zero}
use Rattle.std.specs.Str.{bytes_eq}
use Rattle.std.proofs.lemmas.List.{length-replicate, length-append}
use Rattle.std.proofs.lemmas.Bool.{ltb-false, leb-false}
use Rattle.fault.specs.declared.Fault.{Fault}
use Rattle.message.specs.Layout.{number_at}
use Rattle.message.specs.Reading.{checked}
use Rattle.message.specs.Writing.{octets_of, enc}
use Rattle.channel.specs.declared.Open.{Open}
use Rattle.channel.specs.Steps.{and_then}
use Rattle.channel.specs.Packets.{seals_at, data_in, tag_of, crypted, packet_tag, sealed_packet, seal_check, seal_end, seal_output, unseal_check, unseal_end, unseal_output}
use Rattle.channel.specs.Within.{seal_within, unseal_within}
use Rattle.runs.specs.Unaltered.{Blocks}
use Rattle.sessions.specs.Sessions.{zeros, sealing, sealer_after, unsealing, unsealer_after, came_out, passing}
use Rattle.message.proofs.Again.{passed, went_on}
use Rattle.channel.proofs.Checks.{sized-passes, written-take, after_check}
use Rattle.keyed.proofs.Stream.{keeps_length}
use Rattle.runs.proofs.Fields.{tag_12, Packs, written-packs}

pub zeros_length : (n : ℕ) → length (zeros n) ≡ n
unfolding zeros
zeros_length n = length-replicate n 0

-- only the lengths of the buffers count
pub sealing_is :
    {C A : Type 0} (s : Open C A) (p w o : List ℕ) → length w ≡ 256 → length o ≡ 4117 → seal_check s p w o ≡ sealing s p
sealing_is s p w o hw ho =
    let l : length o ≡ length (zeros 4117) = ho ∙ sym (zeros_length 4117) in
    let t : seal_within s p o ≡ seal_within s p (zeros 4117) = (cc) in
    sized-passes 256 w (seal_within s p o) (omega arith) ∙ t

module _ {C B : Type 0} (pid : ℕ) (e : List ℕ → List ℕ → List ℕ) where
  pub unsealing_is :
      (r : Open C B) (m w o : List ℕ) → length w ≡ 256 → length o ≡ 4096 → unseal_check pid e r m w o ≡ unseal_within pid e r m (zeros 4096)
  unsealing_is r m w o hw ho =
      let l : length o ≡ length (zeros 4096) = ho ∙ sym (zeros_length 4096) in
      let t : unseal_within pid e r m o ≡ unseal_within pid e r m (zeros 4096) = (cc) in
      sized-passes 256 w (unseal_within pid e r m o) (omega arith) ∙ t

-- an accepted seal, and an accepted unseal
pub record Accepted {C A : Type 0} (s : Open C A) (p : List ℕ) (n : ℕ) : Type 0 where
  pub small : length p ≤ 4096
  pub early : s.epoch.number < 16777215
  pub size : n ≡ 21 + length p

pub accepted : {C A : Type 0} (s : Open C A) (p o : List ℕ) (n : ℕ) → seal_within s p o ≡ Ok n → Accepted s p n
accepted s p o n e =
    let b = went_on (ltb 4096 (length p)) _ _ e in
    let c = went_on (ltb (length o) (21 + length p)) _ _ b.1 in
    let d = went_on (leb 16777215 s.epoch.number) _ _ c.1 in
    let t = went_on (not (seals_at s.role s.epoch.number)) _ _ d.1 in
    let g : Ok (21 + length p) ≡ Ok n = t.1 in
    record { small = ltb-false 4096 (length p) b.0; early = leb-false 16777215 s.epoch.number d.0; size = cc }

pub answers_length :
    {C B : Type 0} (pid : ℕ) (e : List ℕ → List ℕ → List ℕ) (r : Open C B) (m o : List ℕ) (v : ℕ × ℕ) →
    unseal_within pid e r m o ≡ Ok v → v.0 ≡ number_at m 6
answers_length pid e r m o v h =
    let c = went_on (leb 16777215 r.epoch.number) _ _ (went_on (ltb (length o) 4096) _ _ h).1 in
    let f = (after_check (checked 5 pid m) _ (went_on (seals_at r.role r.epoch.number) _ _ c.1).1).1 in
    let k = went_on (ltb (r.epoch.number + 1) (number_at m 3)) _ _ (went_on (leb (number_at m 3) r.epoch.number) _ _ f).1 in
    let t : Ok (number_at m 6, number_at m 3) ≡ Ok v = (passed (bytes_eq (packet_tag e r.epoch (number_at m 3) (data_in m)) (tag_of m)) _ _ k.1).1 in
    let g : (number_at m 6, number_at m 3) ≡ v = cc in
    ap (λ (x : ℕ × ℕ). x.0) (sym g)

-- the message is the packet, and the payload comes from its data
module _ {C A B : Type 0} (pid : ℕ) (e : List ℕ → List ℕ → List ℕ) (whole : Blocks e) (s : Open C A) (r : Open C B) (p w o : List ℕ) (n : ℕ)
    (hw : length w ≡ 256) (ho : length o ≡ 4117) (sealed : seal_check s p w o ≡ Ok n) where
  pub sealed_answer : sealing s p ≡ Ok n
  sealed_answer = sym (sealing_is s p w o hw ho) ∙ sealed

  a : Accepted s p n
  a = accepted s p (zeros 4117) n sealed_answer

  data_length : length (crypted e s.epoch p) ≡ length p
  data_length = keeps_length e s.epoch.keys.encryption s.epoch.keys.counter p

  tag_length : length (packet_tag e s.epoch (s.epoch.number + 1) (crypted e s.epoch p)) ≡ 12
  tag_length = tag_12 e whole _ _

  pub message_is : take n (seal_output pid e s p w o) ≡ sealed_packet e pid s.epoch p
  message_is =
      let d : List ℕ = crypted e s.epoch p in
      let t : List ℕ = packet_tag e s.epoch (s.epoch.number + 1) d in
      let l : length (octets_of 5 pid (enc (s.epoch.number + 1) d t)) ≡ 21 + length p = omega (arith, length-append d t, data_length, tag_length) in
      ap (λ v. take v (seal_output pid e s p w o)) a.size
      ∙ written-take (21 + length p) (λ v. octets_of 5 pid (enc (s.epoch.number + 1) d t)) o sealed l

  packed : Packs pid (take (21 + length p) (seal_output pid e s p w o)) (s.epoch.number + 1) (crypted e s.epoch p)
      (packet_tag e s.epoch (s.epoch.number + 1) (crypted e s.epoch p))
  packed =
      let u : s.epoch.number < 16777215 = a.early in
      let q : length p ≤ 4096 = a.small in
      written-packs pid (s.epoch.number + 1) (21 + length p) _ _ o sealed
      (omega arith) (omega (arith, data_length)) tag_length (omega (arith, data_length))

  -- what is made of a message that was cut from the output
  module _ (m w' o' : List ℕ) (cut : m ≡ take (n - 0) (seal_output pid e s p w o)) (hw' : length w' ≡ 256) (ho' : length o' ≡ 4096) where
    is_packet : m ≡ sealed_packet e pid s.epoch p
    is_packet = cut ∙ ap (λ x. take x (seal_output pid e s p w o)) (sub-zero n) ∙ message_is

    pub unsealed_answer : unseal_check pid e r m w' o' ≡ unsealing pid e s r p
    unsealed_answer = unsealing_is pid e r m w' o' hw' ho' ∙ ap (λ x. unseal_within pid e r x (zeros 4096)) is_packet

    whole_message : m ≡ take (21 + length p) (seal_output pid e s p w o)
    whole_message = cut ∙ ap (λ x. take x (seal_output pid e s p w o)) (sub-zero n ∙ a.size)

    module _ (k l : ℕ) (unsealed : unseal_check pid e r m w' o' ≡ Ok (k, l)) where
      is-length : k ≡ number_at m 6
      is-length = answers_length pid e r m o' (k, l) (sym (sized-passes 256 w' (unseal_within pid e r m o') (omega arith)) ∙ unsealed)

      pub fits : k ≤ 4096
      fits =
          let q : length p ≤ 4096 = a.small in
          let d : number_at m 6 ≡ length p = ap (λ x. number_at x 6) whole_message ∙ packed.long ∙ data_length in
          omega (arith, is-length)

      out-is : take k (unseal_output pid e r m w' o') ≡ crypted e r.epoch (data_in m)
      out-is =
          let long : length (data_in m) ≡ number_at m 6 =
          ap (λ x. length (data_in x)) whole_message ∙ ap length packed.holds ∙ sym packed.long ∙ ap (λ x. number_at x 6) (sym whole_message) in
          ap (λ x. take x (unseal_output pid e r m w' o')) is-length
          ∙ written-take (number_at m 6) (λ x. crypted e r.epoch (data_in m)) o' unsealed
          (keeps_length e r.epoch.keys.encryption r.epoch.keys.counter (data_in m) ∙ long)

      pub came-out : bytes_eq (take (k - 0) (unseal_output pid e r m w' o')) p ≡ came_out pid e s r p
      came-out =
          ap (λ x. bytes_eq (take x (unseal_output pid e r m w' o')) p) (sub-zero k) ∙ ap (λ x. bytes_eq x p) out-is
          ∙ ap (λ x. bytes_eq (crypted e r.epoch (data_in x)) p) is_packet

-- what the two answers come to
module _ {C A B : Type 0} (pid : ℕ) (e : List ℕ → List ℕ → List ℕ) (s : Open C A) (r : Open C B) (p : List ℕ) where
  pub seal_refused :
      (f : Fault) → sealing s p ≡ Err f →
      (passing pid e s r p ≡ Err f) × (unseal_end r (and_then (sealing s p) (unsealing pid e s r p)) ≡ r)
  seal_refused f h = (
    ap (λ q. and_then q (and_then (unsealing pid e s r p) (Ok (came_out pid e s r p)))) h,
    ap (λ q. unseal_end r (and_then q (unsealing pid e s r p))) h,
  )

  pub seal_accepted :
      (n : ℕ) → sealing s p ≡ Ok n →
      (passing pid e s r p ≡ and_then (unsealing pid e s r p) (Ok (came_out pid e s r p)))
      × (unseal_end r (and_then (sealing s p) (unsealing pid e s r p)) ≡ unseal_end r (unsealing pid e s r p))
  seal_accepted n h = (
    ap (λ q. and_then q (and_then (unsealing pid e s r p) (Ok (came_out pid e s r p)))) h,
    ap (λ q. unseal_end r (and_then q (unsealing pid e s r p))) h,
  )

-- a packet was sealed with buffers of full size and is unsealed with others
pub record PassedOn {C A B : Type 0} (pid : ℕ) (e : List ℕ → List ℕ → List ℕ) (s : Open C A) (r : Open C B) (p w o m w' o' : List ℕ) : Type 0 where
  pub sealer : seal_end s p (seal_check s p w o) ≡ sealer_after s p
  pub unsealer : unseal_end r (unseal_check pid e r m w' o') ≡ unsealer_after pid e s r p
  pub refused : (f : Fault) → unseal_check pid e r m w' o' ≡ Err f → Err f ≡ passing pid e s r p
  pub fits : (k l : ℕ) → unseal_check pid e r m w' o' ≡ Ok (k, l) → k ≤ 4096
  pub came :
      (k l : ℕ) → unseal_check pid e r m w' o' ≡ Ok (k, l) →
      Ok (bytes_eq (take (k - 0) (unseal_output pid e r m w' o')) p) ≡ passing pid e s r p

pub passed_on :
    {C A B : Type 0} (pid : ℕ) (e : List ℕ → List ℕ → List ℕ) → Blocks e → (s : Open C A) (r : Open C B) (p w o out w' o' : List ℕ) (n : ℕ) →
    length w ≡ 256 → length o ≡ 4117 → length w' ≡ 256 → length o' ≡ 4096 → seal_check s p w o ≡ Ok n → out ≡ seal_output pid e s p w o →
    PassedOn pid e s r p w o (take (n - 0) out) w' o'
passed_on pid e whole s r p w o out w' o' n hw ho hw' ho' ok written =
    let m : List ℕ = take (n - 0) out in
    let cut : m ≡ take (n - 0) (seal_output pid e s p w o) = ap (take (n - 0)) written in
    let k = seal_accepted pid e s r p n (sealed_answer pid e whole s r p w o n hw ho ok) in
    let t = unsealed_answer pid e whole s r p w o n hw ho ok m w' o' cut hw' ho' in
    record {
      sealer = ap (seal_end s p) (sealing_is s p w o hw ho);
      unsealer = ap (unseal_end r) t ∙ sym k.1;
      refused = λ f v. sym (k.0 ∙ ap (λ q. and_then q (Ok (came_out pid e s r p))) (sym t ∙ v));
      fits = λ x l v. fits pid e whole s r p w o n hw ho ok m w' o' cut hw' ho' x l v;
      came = λ x l v.
          ap Ok (came-out pid e whole s r p w o n hw ho ok m w' o' cut hw' ho' x l v)
          ∙ sym (k.0 ∙ ap (λ q. and_then q (Ok (came_out pid e s r p))) (sym t ∙ v));
    }
