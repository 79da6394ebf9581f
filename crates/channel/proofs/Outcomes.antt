-- A refusal passes through what depends on it, and an acceptance came through every test.
use Rattle.std.proofs.Common.{◌≡◌, ℕ, ◌+◌, ◌<◌, ◌≤◌, not, ltb, leb, List, length, Ok, sym, ap, ◌∙◌, arith}
use Rattle.std.specs.Str.{bytes_eq}
use Rattle.std.proofs.lemmas.Bool.{ltb-false, leb-false, not-false}
use Rattle.message.specs.Layout.{number_at}
use Rattle.message.specs.Reading.{checked}
use Rattle.message.proofs.Again.{passed, went_on}
use Rattle.channel.proofs.Checks.{after_check}
use Rattle.message.specs.Writing.{octets_of, act, verify}
use Rattle.channel.specs.declared.Open.{Open}
use Rattle.channel.specs.Steps.{settled, started, written}
use Rattle.channel.specs.Handshake.{to_invited, to_answered, to_proved, open_mixer, open_fob, ticket}
use Rattle.channel.specs.Packets.{seals_at, data_in, tag_of, advanced_end, crypted, packet_tag, sealed_packet, seal_check, seal_end, unseal_check, unseal_end}
use Rattle.channel.specs.Laws.{Moved, Sealed, Unsealed, OutcomeLaws}

moves : {C K : Type 0} (x y : Open C K) (n : ℕ) → y ≡ advanced_end x n → Moved x y n
moves x y n e = record {
  number = ap (λ q. q.epoch.number) e;
  counter = ap (λ q. q.epoch.keys.counter) e;
  master = ap (λ q. q.epoch.keys.master) e;
  encryption = ap (λ q. q.epoch.keys.encryption) e;
  integrity = ap (λ q. q.epoch.keys.integrity) e;
}

seals : {C K : Type 0} (x : Open C K) (p w o : List ℕ) (n : ℕ) → seal_check x p w o ≡ Ok n → Sealed x p w o n
seals x p w o n e =
    let a = went_on (ltb (length w) 256) _ _ e in
    let b = went_on (ltb 4096 (length p)) _ _ a.1 in
    let c = went_on (ltb (length o) (21 + length p)) _ _ b.1 in
    let d = went_on (leb 16777215 x.epoch.number) _ _ c.1 in
    let t = went_on (not (seals_at x.role x.epoch.number)) _ _ d.1 in
    let s : Ok (21 + length p) ≡ Ok n = t.1 in
    record {
      turn = not-false (seals_at x.role x.epoch.number) t.0;
      early = leb-false 16777215 x.epoch.number d.0;
      small = ltb-false 4096 (length p) b.0;
      size = cc;
      moved = moves x _ (length p) (ap (seal_end x p) e);
    }

unseals : {C K : Type 0} (pid : ℕ) (e : List ℕ → List ℕ → List ℕ) (x : Open C K) (m w o : List ℕ) (r : ℕ × ℕ)
    → unseal_check pid e x m w o ≡ Ok r → Unsealed pid e x m w o r
unseals pid e x m w o r h =
    let a = went_on (ltb (length w) 256) _ _ h in
    let b = went_on (ltb (length o) 4096) _ _ a.1 in
    let c = went_on (leb 16777215 x.epoch.number) _ _ b.1 in
    let d = went_on (seals_at x.role x.epoch.number) _ _ c.1 in
    let f = after_check (checked 5 pid m) _ d.1 in
    let g = went_on (leb (number_at m 3) x.epoch.number) _ _ f.1 in
    let k = went_on (ltb (x.epoch.number + 1) (number_at m 3)) _ _ g.1 in
    let t = passed (bytes_eq (packet_tag e x.epoch (number_at m 3) (data_in m)) (tag_of m)) _ _ k.1 in
    let low : x.epoch.number < number_at m 3 = leb-false (number_at m 3) x.epoch.number g.0 in
    let high : number_at m 3 ≤ x.epoch.number + 1 = ltb-false (x.epoch.number + 1) (number_at m 3) k.0 in
    let s : Ok (number_at m 6, number_at m 3) ≡ Ok r = t.1 in
    record {
      early = leb-false 16777215 x.epoch.number c.0;
      form = f.0;
      number = omega arith;
      tag = t.0;
      answer = cc;
      moved = moves x _ (number_at m 6) (ap (unseal_end x) (h ∙ sym s));
    }

pub outcome_laws : (C K : Type 0) → OutcomeLaws C K
outcome_laws C K pid e = (
  (λ own replies z. record {
    invite = λ f k n o h. (
      ap (started f k n (λ u. to_invited f k n)) h,
      ap (λ q. written 40 (λ u. octets_of 1 pid (act (own k) n.octets)) q o) h,
    );
    answer = λ x k n m w o h. (
      ap (started x k n (to_answered pid e own replies x k n m)) h,
      ap (λ q. written 40 (λ s. octets_of 2 pid (act (own k) n.octets)) q o) h,
    );
    prove = λ i m w o h. (
      ap (settled i (to_proved pid e own replies i m)) h,
      ap (λ q. written 15 (λ p. octets_of 3 pid (verify p.tag)) q o) h,
    );
    confirm = λ a m w o h. (
      ap (settled a (λ t. (open_mixer a, ticket))) h,
      ap (λ q. written 15 (λ t. octets_of 4 pid (verify t)) q o) h,
    );
    finish = λ p m w h. ap (settled p (λ u. (open_fob p, ticket))) h;
    seal = λ x p w o h. (
      ap (seal_end x p) h,
      ap (λ q. written (21 + length p) (λ n. sealed_packet e pid x.epoch p) q o) h,
    );
    unseal = λ x m w o h. (
      ap (unseal_end x) h,
      ap (λ q. written (number_at m 6) (λ r. crypted e x.epoch (data_in m)) q o) h,
    );
  }),
  seals,
  unseals pid e,
)
