-- The messages that an accepted call writes pass the check at the other end, and their fields read back.
use Rattle.std.proofs.Common.{◌≡◌, ℕ, ◌+◌, ◌*◌, ◌/◌, ◌%◌, ◌^◌, ◌<◌, ◌≤◌, List, length, take, Ok, Result, ap, ◌∙◌, arith}
use Rattle.std.proofs.lemmas.List.{length-append, length-take-le}
use Rattle.fault.specs.declared.Fault.{Fault}
use Rattle.keyed.specs.Xcbc.{keyed_result, tag}
use Rattle.message.specs.declared.Direction.{Direction}
use Rattle.message.specs.declared.Kind.TheVariants.{Act, Verify, Enc}
use Rattle.message.specs.Layout.{kind_number, number_at}
use Rattle.message.specs.Reading.{checked, fields_at}
use Rattle.message.specs.Writing.{octets_of, act, verify, enc}
use Rattle.message.proofs.Back.{act_back, verify_back, enc_back}
use Rattle.channel.specs.Steps.{written, label_in, nonce_in, tag_in}
use Rattle.channel.specs.Packets.{data_in, tag_of}
use Rattle.runs.specs.Unaltered.{Blocks}
use Rattle.channel.proofs.Checks.{written-take}

-- a cipher of whole blocks makes tags of twelve octets
result_16 : (e : List ℕ → List ℕ → List ℕ) → Blocks e → (k m : List ℕ) → length (keyed_result e k m) ≡ 16
unfolding keyed_result
result_16 e h k m = h _ _

pub tag_12 : (e : List ℕ → List ℕ → List ℕ) → Blocks e → (k m : List ℕ) → length (tag e k m) ≡ 12
unfolding tag
tag_12 e h k m = length-take-le 12 (keyed_result e k m) (omega (arith, result_16 e h k m))

-- m is accepted as a message of kind number k, and holds the label q and the nonce n
pub record Acts (k pid : ℕ) (m q n : List ℕ) : Type 0 where
  pub accepted : checked k pid m ≡ Ok tt
  pub label : label_in m ≡ q
  pub nonce : nonce_in m ≡ n

-- what is made of the label and the nonce in such a message
pub acts_ap : {A : Type 0} {k pid : ℕ} {m q n : List ℕ} (f : List ℕ → List ℕ → A) → Acts k pid m q n → f (label_in m) (nonce_in m) ≡ f q n
acts_ap {m = m} {q = q} f a = ap (λ x. f x (nonce_in m)) a.label ∙ ap (f q) a.nonce

-- m is accepted as a message of kind number k, and holds the tag t
pub record Verifies (k pid : ℕ) (m t : List ℕ) : Type 0 where
  pub accepted : checked k pid m ≡ Ok tt
  pub tagged : tag_in m ≡ t

pub verifies_as : {k pid : ℕ} {m t v : List ℕ} → Verifies k pid m t → t ≡ v → Verifies k pid m v
verifies_as h e = record { accepted = h.accepted; tagged = h.tagged ∙ e }

-- m is accepted as a packet, and holds the number n, the data d and the tag t
pub record Packs (pid : ℕ) (m : List ℕ) (n : ℕ) (d t : List ℕ) : Type 0 where
  pub accepted : checked 5 pid m ≡ Ok tt
  pub numbered : number_at m 3 ≡ n
  pub long : number_at m 6 ≡ length d
  pub holds : data_in m ≡ d
  pub tagged : tag_of m ≡ t

-- the message that an accepted call wrote
pub written-acts :
    {W : Type 0} {r : Result W Fault} {w : W} (d : Direction) (pid : ℕ) (q n o : List ℕ) → r ≡ Ok w → length q ≡ 25 → length n ≡ 12 →
    Acts (kind_number (Act d)) pid (take 40 (written 40 (λ v. octets_of (kind_number (Act d)) pid (act q n)) r o)) q n
written-acts {r = r} d pid q n o i hq hn =
    let k : ℕ = kind_number (Act d) in
    let m : List ℕ = take 40 (written 40 (λ v. octets_of k pid (act q n)) r o) in
    let l : length (octets_of k pid (act q n)) ≡ 40 = omega (arith, length-append q n) in
    let e : m ≡ octets_of k pid (act q n) = written-take 40 (λ v. octets_of k pid (act q n)) o i l in
    let h = act_back d pid q n hq hn in
    let g : act (label_in m) (nonce_in m) ≡ act q n = ap (λ v. fields_at (Act d) v) e ∙ h.1 in
    record { accepted = ap (λ v. checked k pid v) e ∙ h.0; label = (cc); nonce = (cc) }

pub written-verifies :
    {W : Type 0} {r : Result W Fault} {w : W} (d : Direction) (pid : ℕ) (o : List ℕ) → r ≡ Ok w → (f : W → List ℕ) → length (f w) ≡ 12 →
    Verifies (kind_number (Verify d)) pid (take 15 (written 15 (λ v. octets_of (kind_number (Verify d)) pid (verify (f v))) r o)) (f w)
written-verifies {r = r} {w = w} d pid o i f ht =
    let k : ℕ = kind_number (Verify d) in
    let m : List ℕ = take 15 (written 15 (λ v. octets_of k pid (verify (f v))) r o) in
    let l : length (octets_of k pid (verify (f w))) ≡ 15 = omega arith in
    let e : m ≡ octets_of k pid (verify (f w)) = written-take 15 (λ v. octets_of k pid (verify (f v))) o i l in
    let h = verify_back d pid (f w) ht in
    let g : verify (tag_in m) ≡ verify (f w) = ap (λ v. fields_at (Verify d) v) e ∙ h.1 in
    record { accepted = ap (λ v. checked k pid v) e ∙ h.0; tagged = (cc) }

three : (n : ℕ) → n / 65536 * 65536 + n / 256 % 256 * 256 + n % 256 ≡ n
three n = omega arith

pub written-packs :
    {W : Type 0} {r : Result W Fault} {w : W} (pid n s : ℕ) (d t o : List ℕ) →
    r ≡ Ok w → n < 2 ^ 24 → length d ≤ 4096 → length t ≡ 12 → s ≡ 21 + length d →
    Packs pid (take s (written s (λ v. octets_of 5 pid (enc n d t)) r o)) n d t
written-packs {r = r} pid n s d t o i hn hd ht hs =
    let m : List ℕ = take s (written s (λ v. octets_of 5 pid (enc n d t)) r o) in
    let l : length (octets_of 5 pid (enc n d t)) ≡ s = omega (arith, length-append d t) in
    let e : m ≡ octets_of 5 pid (enc n d t) = written-take s (λ v. octets_of 5 pid (enc n d t)) o i l in
    let h = enc_back pid n d t hn hd ht in
    let g : enc (number_at m 3) (data_in m) (tag_of m) ≡ enc n d t = ap (λ v. fields_at Enc v) e ∙ h.1 in
    record {
      accepted = ap (λ v. checked 5 pid v) e ∙ h.0;
      numbered = (cc);
      long = ap (λ v. number_at v 6) e ∙ three (length d);
      holds = (cc);
      tagged = (cc);
    }
