-- The handshake of two ends that are given each other's messages.
use Rattle.std.proofs.Common.{◌≡◌, ℕ, ◌≤◌, List, length, take, Ok, Result, sym, refl, ap, ◌∙◌}
use Rattle.fault.specs.declared.Fault.{Fault}
use Rattle.keyed.specs.Told.{Identities}
use Rattle.keyed.specs.declared.derivation.SessionKeys.{SessionKeys}
use Rattle.ends.specs.declared.Role.{Role}
use Rattle.ends.specs.declared.Role.TheVariants.{Fob as AtFob, Mixer as AtMixer}
use Rattle.keyed.specs.Derivation.{derived}
use Rattle.keyed.specs.Strings.{confirmation}
use Rattle.keyed.specs.Xcbc.{tag}
use Rattle.lookup.specs.Replies.{Reply}
use Rattle.message.specs.declared.Direction.TheVariants.{Request, Response}
use Rattle.message.specs.Reading.{checked}
use Rattle.channel.specs.declared.Nonce.{Nonce}
use Rattle.channel.specs.declared.Fob.{Fob}
use Rattle.channel.specs.declared.Mixer.{Mixer}
use Rattle.channel.specs.declared.Invited.{Invited}
use Rattle.channel.specs.declared.Answered.{Answered}
use Rattle.channel.specs.declared.Proved.{Proved}
use Rattle.channel.specs.declared.Session.{Session}
use Rattle.channel.specs.declared.Epoch.{Epoch}
use Rattle.channel.specs.declared.NotStarted.{NotStarted}
use Rattle.channel.specs.declared.Refused.{Refused}
use Rattle.channel.specs.Steps.{settled, started, label_in, nonce_in, tag_in}
use Rattle.channel.specs.Handshake.{ticket, invite_check, to_invited, invite_output, open_mixer, open_fob}
use Rattle.channel.specs.Handshake.{answer_check, to_answered, answered, answer_output, proof_of, prove_check, to_proved, proven, prove_output}
use Rattle.channel.specs.Handshake.{confirmation_tag, confirm_check, confirm_output, finish_check}
use Rattle.runs.specs.History.{Lookups}
use Rattle.runs.specs.Unaltered.{Blocks, Paired, Buffers, Opened, OpenedWith, OpensUnaltered}
use Rattle.channel.proofs.Checks.{sized-passes, and_then-passes, secret_or-passes, tag_passes}
use Rattle.runs.proofs.Fields.{tag_12, Acts, acts_ap, Verifies, verifies_as, written-acts, written-verifies}

-- the keys that both ends derive, and the states after answer and prove
abbrev pub keys_of : (List ℕ → List ℕ → List ℕ) → (na nb z : List ℕ) → Identities → SessionKeys
keys_of e na nb z i = derived e na nb i.fob i.mixer z

abbrev pub session_of : {K : Type 0} → Identities → K → (qa qb na nb : List ℕ) → SessionKeys → Session K
session_of i k qa qb na nb s = record {
  identities = i;
  key = k;
  labels = record { fob = qa; mixer = qb };
  nonces = record { fob = na; mixer = nb };
  keys = s;
}

abbrev pub answering_of : {C K : Type 0} → Mixer C → K → (qa qb na nb : List ℕ) → SessionKeys → Answered C K
answering_of x k qa qb na nb s = record { session = session_of x.identities k qa qb na nb s; cipher = x.cipher }

abbrev pub proved_of : {C K : Type 0} → Invited C K → (qa qb na nb : List ℕ) → SessionKeys → Proved C K
proved_of i qa qb na nb s = record { session = session_of i.identities i.key qa qb na nb s; cipher = i.cipher }

-- each call, given a message that reads back: its check passes, and the end moves on
module _ {C K : Type 0} (pid : ℕ) (e : List ℕ → List ℕ → List ℕ) (own : K → List ℕ) (replies : K → List ℕ → Reply) where
  answer_passes :
      {m qa na z : List ℕ} (x : Mixer C) (k : K) (n : Nonce) (w o : List ℕ) → 256 ≤ length w → 40 ≤ length o → Acts 1 pid m qa na →
      replies k qa ≡ Ok z → answer_check pid e own replies x k n m w o ≡ Ok (keys_of e na n.octets z x.identities)
  answer_passes {m = m} {z = z} x k n w o hw ho a h =
      sized-passes 256 w _ hw ∙ sized-passes 40 o _ ho ∙ and_then-passes (checked 1 pid m) tt _ a.accepted
      ∙ secret_or-passes (replies k (label_in m)) z _ (ap (replies k) a.label ∙ h)
      ∙ acts_ap {A = Result SessionKeys Fault} (λ q v. Ok (keys_of e v n.octets z x.identities)) a

  answer_goes :
      {m qa na : List ℕ} {s : SessionKeys} (x : Mixer C) (k : K) (n : Nonce) (w o : List ℕ) → Acts 1 pid m qa na →
      answer_check pid e own replies x k n m w o ≡ Ok s →
      answered pid e own replies x k n m w o ≡ Ok (answering_of x k qa (own k) na n.octets s)
  answer_goes {m = m} {s = s} x k n w o a h =
      ap (λ v. started x k n (to_answered pid e own replies x k n m) v) h
      ∙ acts_ap {A = Result (Answered C K) (NotStarted (Mixer C) K)} (λ q v. Ok (answering_of x k q (own k) v n.octets s)) a

  prove_passes :
      {m qb nb z : List ℕ} (i : Invited C K) (w o : List ℕ) → 256 ≤ length w → 15 ≤ length o → Acts 2 pid m qb nb → replies i.key qb ≡ Ok z →
      prove_check pid e own replies i m w o ≡ Ok (proof_of pid e own replies i m (keys_of e i.nonce.octets (nonce_in m) z i.identities))
  prove_passes {m = m} {z = z} i w o hw ho a h =
      sized-passes 256 w _ hw ∙ sized-passes 15 o _ ho ∙ and_then-passes (checked 2 pid m) tt _ a.accepted
      ∙ secret_or-passes (replies i.key (label_in m)) z _ (ap (replies i.key) a.label ∙ h)

  prove_goes :
      {m qb nb : List ℕ} (i : Invited C K) (w o z : List ℕ) → Acts 2 pid m qb nb →
      prove_check pid e own replies i m w o ≡ Ok (proof_of pid e own replies i m (keys_of e i.nonce.octets (nonce_in m) z i.identities)) →
      proven pid e own replies i m w o ≡ Ok (proved_of i (own i.key) qb i.nonce.octets nb (keys_of e i.nonce.octets nb z i.identities))
  prove_goes {m = m} i w o z a h =
      ap (λ v. settled i (to_proved pid e own replies i m) v) h
      ∙ acts_ap {A = Result (Proved C K) (Refused (Invited C K))}
      (λ q v. Ok (proved_of i (own i.key) q i.nonce.octets v (keys_of e i.nonce.octets v z i.identities))) a

module _ {C K : Type 0} (pid : ℕ) (e : List ℕ → List ℕ → List ℕ) where
  confirm_passes :
      {m : List ℕ} (a : Answered C K) (w o : List ℕ) → 256 ≤ length w → 15 ≤ length o → Verifies 3 pid m (confirmation_tag pid e AtFob a.session) →
      confirm_check pid e a m w o ≡ Ok (confirmation_tag pid e AtMixer a.session)
  confirm_passes {m = m} a w o hw ho v =
      sized-passes 256 w _ hw ∙ sized-passes 15 o _ ho ∙ and_then-passes (checked 3 pid m) tt _ v.accepted
      ∙ tag_passes (confirmation_tag pid e AtFob a.session) (tag_in m) _ _ (sym v.tagged)

  finish_passes :
      {m : List ℕ} (p : Proved C K) (w : List ℕ) → 256 ≤ length w → Verifies 4 pid m (confirmation_tag pid e AtMixer p.session) →
      finish_check pid e p m w ≡ Ok tt
  finish_passes {m = m} p w hw v =
      sized-passes 256 w _ hw ∙ and_then-passes (checked 4 pid m) tt _ v.accepted
      ∙ tag_passes (confirmation_tag pid e AtMixer p.session) (tag_in m) _ _ (sym v.tagged)

-- the five calls, one after another
module _ {C K L : Type 0} (pid : ℕ) (e : List ℕ → List ℕ → List ℕ) (u : Lookups K L) (f : Fob C) (k : K) (na : Nonce) (x : Mixer C) (l : L) (nb : Nonce)
    (b : Buffers) (whole : Blocks e) (same : f.identities ≡ x.identities) (p : Paired u k l)
    (na-12 : length na.octets ≡ 12) (nb-12 : length nb.octets ≡ 12) where
  -- both labels; keys, confirmations and the first epoch, by the identities
  abbrev pub qa : List ℕ
  qa = u.fob_own k

  abbrev pub qb : List ℕ
  qb = u.mixer_own l

  abbrev pub keys_by : Identities → SessionKeys
  keys_by i = keys_of e na.octets nb.octets p.secret i

  abbrev pub tag_by : Role → (q n : List ℕ) → Identities → List ℕ
  tag_by c q n i = tag e (keys_of e na.octets n p.secret i).master (confirmation pid c i.fob i.mixer qa q na.octets n)

  abbrev pub epoch_by : Identities → Epoch
  epoch_by i = record { keys = keys_by i; number = 0 }

  -- the states and the messages
  abbrev pub waiting : Invited C K
  waiting = to_invited f k na

  abbrev pub answering : Answered C L
  answering = answering_of x l qa qb na.octets nb.octets (keys_by x.identities)

  abbrev pub proved : Proved C K
  proved = proved_of waiting qa qb na.octets nb.octets (keys_by f.identities)

  abbrev pub first : List ℕ
  first = take 40 (invite_output pid u.fob_own k na b.invite_out)

  abbrev pub second : List ℕ
  second = take 40 (answer_output pid e u.mixer_own u.mixer_replies x l nb first b.answer_workspace b.answer_out)

  abbrev pub third : List ℕ
  third = take 15 (prove_output pid e u.fob_own u.fob_replies waiting second b.prove_workspace b.prove_out)

  abbrev pub fourth : List ℕ
  fourth = take 15 (confirm_output pid e answering third b.confirm_workspace b.confirm_out)

  invite_checked : invite_check b.invite_out ≡ Ok tt
  invite_checked = sized-passes 40 b.invite_out (Ok tt) b.invite_room

  first_reads : Acts 1 pid first qa na.octets
  first_reads = written-acts Request pid qa na.octets b.invite_out invite_checked p.fob_25 na-12

  answer_checked :
      answer_check pid e u.mixer_own u.mixer_replies x l nb first b.answer_workspace b.answer_out ≡ Ok (keys_by x.identities)
  answer_checked =
      answer_passes pid e u.mixer_own u.mixer_replies x l nb b.answer_workspace b.answer_out
      b.answer_space b.answer_room first_reads p.mixer_secret

  second_reads : Acts 2 pid second qb nb.octets
  second_reads = written-acts Response pid qb nb.octets b.answer_out answer_checked p.mixer_25 nb-12

  prove_checked :
      prove_check pid e u.fob_own u.fob_replies waiting second b.prove_workspace b.prove_out
      ≡ Ok (proof_of pid e u.fob_own u.fob_replies waiting second (keys_of e na.octets (nonce_in second) p.secret f.identities))
  prove_checked =
      prove_passes pid e u.fob_own u.fob_replies waiting b.prove_workspace b.prove_out
      b.prove_space b.prove_room second_reads p.fob_secret

  -- each confirmation is the one that the other end works out
  third_reads : Verifies 3 pid third (tag_by AtFob qb nb.octets x.identities)
  third_reads =
      verifies_as (written-verifies Request pid b.prove_out prove_checked (λ v. v.tag) (tag_12 e whole _ _))
      (acts_ap (λ q n. tag_by AtFob q n f.identities) second_reads ∙ ap (tag_by AtFob qb nb.octets) same)

  confirm_checked : confirm_check pid e answering third b.confirm_workspace b.confirm_out ≡ Ok (tag_by AtMixer qb nb.octets x.identities)
  confirm_checked = confirm_passes pid e answering b.confirm_workspace b.confirm_out b.confirm_space b.confirm_room third_reads

  fourth_reads : Verifies 4 pid fourth (tag_by AtMixer qb nb.octets f.identities)
  fourth_reads =
      verifies_as (written-verifies Response pid b.confirm_out confirm_checked (λ v. v) (tag_12 e whole _ _))
      (ap (tag_by AtMixer qb nb.octets) (sym same))

  finish_checked : finish_check pid e proved fourth b.finish_workspace ≡ Ok tt
  finish_checked = finish_passes pid e proved b.finish_workspace b.finish_space fourth_reads

  opened : Opened pid e u f k na x l nb b
  opened = record {
    waiting = waiting;
    answering = answering;
    proved = proved;
    fob = open_fob proved;
    mixer = open_mixer answering;
    invites = ap (λ v. started f k na (λ t. waiting) v) invite_checked;
    answers =
        answer_goes pid e u.mixer_own u.mixer_replies x l nb b.answer_workspace b.answer_out first_reads answer_checked;
    proves =
        prove_goes pid e u.fob_own u.fob_replies waiting b.prove_workspace b.prove_out p.secret second_reads prove_checked;
    confirms = ap (λ v. settled answering (λ t. (open_mixer answering, ticket)) v) confirm_checked;
    finishes = ap (λ v. settled proved (λ t. (open_fob proved, ticket)) v) finish_checked;
    fob_role = refl;
    mixer_role = refl;
    same_epoch = ap epoch_by same;
    at_zero = refl;
  }

  opened_with : OpenedWith pid e u f k na x l nb b
  unfolding opened
  opened_with = record { opened = opened; fob_key = refl; mixer_key = refl }

pub opens_unaltered : (C K L : Type 0) → OpensUnaltered C K L
opens_unaltered C K L = opened

-- and the ends keep the keys that they were given
pub opens_with : {C K L : Type 0} (pid : ℕ) (e : List ℕ → List ℕ → List ℕ) (u : Lookups K L) (f : Fob C) (k : K) (na : Nonce) (x : Mixer C) (l : L) (nb : Nonce) (b : Buffers)
    → Blocks e → f.identities ≡ x.identities → Paired u k l → length na.octets ≡ 12 → length nb.octets ≡ 12
    → OpenedWith pid e u f k na x l nb b
opens_with = opened_with
