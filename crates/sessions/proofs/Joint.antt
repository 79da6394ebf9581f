-- The five calls of the handshake, with buffers of just the size that is needed.
use Rattle.std.proofs.Common.{◌≡◌, ℕ, ◌≤◌, ltb, List, [], ◌∷◌, ◌++◌, length, take, drop, Ok, Err, Result, sym, refl, ap, ◌∙◌, arith}
use native.Mathlib.Nat.{min-eq_left}
use Rattle.std.specs.Str.{bytes_eq}
use Rattle.std.proofs.lemmas.List.{take_all, length-append, length-drop}
use Rattle.fault.specs.declared.Fault.{Fault}
use Rattle.ends.specs.declared.Role.TheVariants.{Fob as AtFob, Mixer as AtMixer}
use Rattle.lookup.specs.Replies.{Reply}
use Rattle.message.specs.Reading.{checked}
use Rattle.message.specs.Writing.{octets_of, act, verify}
use Rattle.channel.specs.declared.Nonce.{Nonce}
use Rattle.channel.specs.declared.Fob.{Fob}
use Rattle.channel.specs.declared.Mixer.{Mixer}
use Rattle.channel.specs.declared.Answered.{Answered}
use Rattle.channel.specs.declared.Open.{Open}
use Rattle.channel.specs.Steps.{sized, and_then, secret_or, written, tag_in}
use Rattle.channel.specs.Handshake.{ticket, invite_check, invite_output, answer_check, answered, answer_output, prove_check, proven, prove_output}
use Rattle.channel.specs.Handshake.{confirmation_tag, confirm_check, confirmed, confirm_output, finished}
use Rattle.sessions.specs.declared.unaltered.Pair.{Pair}
use Rattle.sessions.specs.declared.unaltered.Ended.{Ended}
use Rattle.sessions.specs.declared.handshake.Unopened.{Unopened}
use Rattle.channel.specs.Packets.{seal_end, unseal_end}
use Rattle.runs.specs.History.{Lookups}
use Rattle.runs.specs.Unaltered.{Blocks, Buffers, Opened, OpenedWith, Small}
use Rattle.sessions.specs.Sessions.{zeros, fobs_turn, pair_after, comes_through, how_many, pair_after_all}
use Rattle.sessions.specs.Both.{Honest, then_finished, then_confirmed, then_proved, then_answered, then_invited, opened_both, Both, then_passed, ended_at}
use Rattle.runs.proofs.Fields.{tag_12}
use Rattle.runs.proofs.Opening.{opens_with}
use Rattle.sessions.proofs.Pairs.{field, levels, level_mixer}
use Rattle.message.proofs.Again.{passed, went_on}
use Rattle.channel.proofs.Checks.{after_check, with_secret}
use Rattle.sessions.proofs.Payloads.{zeros_length}

-- a message that fills its buffer is the whole buffer
whole_buffer :
    {W : Type 0} (n : ℕ) (f : W → List ℕ) (o : List ℕ) (r : Result W Fault) → length o ≡ n → ((w : W) → r ≡ Ok w → length (f w) ≡ n) →
    take n (written n f r o) ≡ written n f r o
whole_buffer n f o (Ok w) h g =
    let a : length (f w) ≡ n = g w refl in
    take_all n (f w ++ drop n o) (omega (arith, length-append (f w) (drop n o), length-drop n o))
whole_buffer n f o (Err z) h g = take_all n o (omega arith)

act_length : (k pid : ℕ) (q n : List ℕ) → length q ≡ 25 → length n ≡ 12 → length (octets_of k pid (act q n)) ≡ 40
act_length k pid q n hq hn = omega (arith, length-append q n)

verify_length : (k pid : ℕ) (t : List ℕ) → length t ≡ 12 → length (octets_of k pid (verify t)) ≡ 15
verify_length k pid t h = omega arith

-- the tags that accepted calls write have twelve octets
proof_12 :
    {P : Type 0} (pid : ℕ) (m w o : List ℕ) (y : Reply) (f : List ℕ → P) (t : P → List ℕ) (p : P) →
    sized 256 w (sized 15 o (and_then (checked 2 pid m) (secret_or y λ z. Ok (f z)))) ≡ Ok p → ((z : List ℕ) → length (t (f z)) ≡ 12) → length (t p) ≡ 12
proof_12 pid m w o y f t p h g =
    let a = went_on (ltb (length o) 15) _ _ (went_on (ltb (length w) 256) _ _ h).1 in
    let s = with_secret y _ (after_check (checked 2 pid m) _ a.1).1 in
    let q : Ok (f s.0) ≡ Ok p = s.1 in
    let d : f s.0 ≡ p = cc in
    ap (λ v. length (t v)) (sym d) ∙ g s.0

confirm_12 :
    {C K : Type 0} (pid : ℕ) (e : List ℕ → List ℕ → List ℕ) → Blocks e → (a : Answered C K) (m w o t : List ℕ) →
    confirm_check pid e a m w o ≡ Ok t → length t ≡ 12
confirm_12 pid e whole a m w o t h =
    let b = went_on (ltb (length o) 15) _ _ (went_on (ltb (length w) 256) _ _ h).1 in
    let q : Ok (confirmation_tag pid e AtMixer a.session) ≡ Ok t =
    (passed (bytes_eq (confirmation_tag pid e AtFob a.session) (tag_in m)) _ _ (after_check (checked 3 pid m) _ b.1).1).1 in
    let g : confirmation_tag pid e AtMixer a.session ≡ t = cc in
    ap length (sym g) ∙ tag_12 e whole _ _

abbrev pub buffers : Buffers
buffers =
    let a : length (zeros 40) ≡ 40 = zeros_length 40 in
    let b : length (zeros 256) ≡ 256 = zeros_length 256 in
    let c : length (zeros 15) ≡ 15 = zeros_length 15 in
    record {
      invite_out = zeros 40;
      answer_workspace = zeros 256;
      answer_out = zeros 40;
      prove_workspace = zeros 256;
      prove_out = zeros 15;
      confirm_workspace = zeros 256;
      confirm_out = zeros 15;
      finish_workspace = zeros 256;
      invite_room = omega arith;
      answer_space = omega arith;
      answer_room = omega arith;
      prove_space = omega arith;
      prove_room = omega arith;
      confirm_space = omega arith;
      confirm_room = omega arith;
      finish_space = omega arith;
    }

module _ {C K L : Type 0} (pid : ℕ) (e : List ℕ → List ℕ → List ℕ) (u : Lookups K L) (f : Fob C) (k : K) (na : Nonce) (x : Mixer C) (l : L) (nb : Nonce)
    (whole : Blocks e) (h : Honest u f k na x l nb) where
  pub kept : OpenedWith pid e u f k na x l nb buffers
  kept = opens_with pid e u f k na x l nb buffers whole h.identities h.paired h.fob_nonce h.mixer_nonce

  abbrev pub o : Opened pid e u f k na x l nb buffers
  o = kept.opened

  -- what each call wrote
  abbrev pub first : List ℕ
  first = invite_output pid u.fob_own k na (zeros 40)

  abbrev pub second : List ℕ
  second = answer_output pid e u.mixer_own u.mixer_replies x l nb (take 40 first) (zeros 256) (zeros 40)

  abbrev pub third : List ℕ
  third = prove_output pid e u.fob_own u.fob_replies o.waiting (take 40 second) (zeros 256) (zeros 15)

  abbrev pub fourth : List ℕ
  fourth = confirm_output pid e o.answering (take 15 third) (zeros 256) (zeros 15)

  first_whole : take 40 first ≡ first
  first_whole =
      whole_buffer 40 (λ v. octets_of 1 pid (act (u.fob_own k) na.octets)) (zeros 40) (invite_check (zeros 40)) (zeros_length 40)
      (λ v i. act_length 1 pid (u.fob_own k) na.octets h.paired.fob_25 h.fob_nonce)

  second_whole : take 40 second ≡ second
  second_whole =
      whole_buffer 40 (λ v. octets_of 2 pid (act (u.mixer_own l) nb.octets)) (zeros 40)
      (answer_check pid e u.mixer_own u.mixer_replies x l nb (take 40 first) (zeros 256) (zeros 40)) (zeros_length 40)
      (λ v i. act_length 2 pid (u.mixer_own l) nb.octets h.paired.mixer_25 h.mixer_nonce)

  third_whole : take 15 third ≡ third
  third_whole =
      whole_buffer 15 (λ v. octets_of 3 pid (verify v.tag)) (zeros 15)
      (prove_check pid e u.fob_own u.fob_replies o.waiting (take 40 second) (zeros 256) (zeros 15)) (zeros_length 15)
      (λ v i. verify_length 3 pid v.tag (proof_12 pid (take 40 second) (zeros 256) (zeros 15) _ _ (λ q. q.tag) v i (λ z. tag_12 e whole _ _)))

  fourth_whole : take 15 fourth ≡ fourth
  fourth_whole =
      whole_buffer 15 (λ v. octets_of 4 pid (verify v)) (zeros 15) (confirm_check pid e o.answering (take 15 third) (zeros 256) (zeros 15)) (zeros_length 15)
      (λ v i. verify_length 4 pid v (confirm_12 pid e whole o.answering (take 15 third) (zeros 256) (zeros 15) v i))

  abbrev pub pair : Pair C K L
  pair = record { fob = o.fob; fob_ticket = ticket; mixer = o.mixer; mixer_ticket = ticket }

  five_calls : opened_both pid e u f k na x l nb ≡ Ok pair
  five_calls =
      ap (then_invited pid e u x l nb first) o.invites
      ∙ ap (λ m. then_answered pid e u o.waiting (answer_output pid e u.mixer_own u.mixer_replies x l nb m (zeros 256) (zeros 40))
      (answered pid e u.mixer_own u.mixer_replies x l nb m (zeros 256) (zeros 40))) (sym first_whole)
      ∙ ap (then_answered pid e u o.waiting second) o.answers
      ∙ ap (λ m. then_proved pid e o.answering (prove_output pid e u.fob_own u.fob_replies o.waiting m (zeros 256) (zeros 15))
      (proven pid e u.fob_own u.fob_replies o.waiting m (zeros 256) (zeros 15))) (sym second_whole)
      ∙ ap (then_proved pid e o.answering third) o.proves
      ∙ ap (λ m. then_confirmed pid e o.proved (confirm_output pid e o.answering m (zeros 256) (zeros 15))
      (confirmed pid e o.answering m (zeros 256) (zeros 15))) (sym third_whole)
      ∙ ap (then_confirmed pid e o.proved fourth) o.confirms
      ∙ ap (λ m. then_finished o.mixer ticket (finished pid e o.proved m (zeros 256))) (sym fourth_whole)
      ∙ ap (then_finished o.mixer ticket) o.finishes

  pub both_open : {r : Result (Pair C K L) (Unopened K L)} → r ≡ opened_both pid e u f k na x l nb → Both k l r
  both_open v = record {
    pair = pair;
    opened = v ∙ five_calls;
    level = record { fob_role = o.fob_role; mixer_role = o.mixer_role; same = o.same_epoch; at = o.at_zero };
    fob_key = kept.fob_key;
    mixer_key = kept.mixer_key;
  }

-- passing payloads keeps the keys
sealer_key : {C A : Type 0} (s : Open C A) (p : List ℕ) (r : Result ℕ Fault) → (seal_end s p r).key ≡ s.key
sealer_key s p (Ok n) = refl
sealer_key s p (Err f) = refl

unsealer_key : {C A : Type 0} (s : Open C A) (r : Result (ℕ × ℕ) Fault) → (unseal_end s r).key ≡ s.key
unsealer_key s (Ok v) = refl
unsealer_key s (Err f) = refl

module _ {C K L : Type 0} (pid : ℕ) (e : List ℕ → List ℕ → List ℕ) where
  after_keys : (x : Pair C K L) (p : List ℕ) → ((pair_after pid e x p).fob.key ≡ x.fob.key) × ((pair_after pid e x p).mixer.key ≡ x.mixer.key)
  after_keys x p = (
    field (fobs_turn x) (λ (y : Pair C K L). y.fob.key) (sealer_key x.fob p _) (unsealer_key x.fob _),
    field (fobs_turn x) (λ (y : Pair C K L). y.mixer.key) (unsealer_key x.mixer _) (sealer_key x.mixer p _),
  )

  all_keys : (x : Pair C K L) (ps : List (List ℕ)) → ((pair_after_all pid e x ps).fob.key ≡ x.fob.key) × ((pair_after_all pid e x ps).mixer.key ≡ x.mixer.key)
  all_keys x [] = (refl, refl)
  all_keys x (p ∷ ps) =
      let a = after_keys x p in
      let b = all_keys (pair_after pid e x p) ps in (
        field (comes_through pid e x p) (λ (y : Pair C K L). y.fob.key) (b.0 ∙ a.0) a.0,
        field (comes_through pid e x p) (λ (y : Pair C K L). y.mixer.key) (b.1 ∙ a.1) a.1,
      )

  -- the whole session of honest ends
  pub session_ends :
      Blocks e → (k : K) (l : L) (q : Result (Pair C K L) (Unopened K L)) (ps : List (List ℕ)) (n : ℕ) (r : Result (Ended K L) (Unopened K L)) →
      Both k l q → Small ps → length ps ≡ n → n ≤ 16777215 → r ≡ then_passed pid e ps q → r ≡ Ok (ended_at n k l)
  session_ends whole k l q ps n r b s long most v =
      let x : Pair C K L = b.pair in
      let t = levels pid e whole x ps 0 b.level s in
      let w = all_keys x ps in
      let m : how_many pid e x ps ≡ n = t.0 ∙ min-eq_left (omega arith) ∙ long in
      let i : (pair_after_all pid e x ps).fob.epoch.number ≡ n = t.1.at ∙ omega arith in
      let j : (pair_after_all pid e x ps).mixer.epoch.number ≡ n = level_mixer t.1 ∙ omega arith in
      let y = w.0 ∙ b.fob_key in
      let z = w.1 ∙ b.mixer_key in
      v ∙ ap (then_passed pid e ps) b.opened ∙ (cc)
