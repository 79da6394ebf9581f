-- What each call makes of an end is one of its steps.
use Rattle.std.proofs.Common.{◌≡◌, ℕ, ◌+◌, ◌%◌, Bool, false, cond, not, eqb, ltb, leb, ◌⊎◌, List, [], ◌∷◌, length, take, drop, Ok, Err, Result, sym, refl, ap, ◌∙◌, subst, inl, inr, arith}
use Rattle.std.specs.Str.{bytes_eq}
use Rattle.std.proofs.lemmas.Slice.Eq.{bytes_eq-Decides}
use Rattle.std.proofs.lemmas.List.{length-drop, length-take-le, take_at}
use Rattle.std.proofs.lemmas.Bool.{ltb-false, leb-false, eqb-true, not-false, cond_both}
use Rattle.fault.specs.declared.Fault.{Fault}
use Rattle.fault.specs.declared.HostCause.TheVariants.{Size}
use Rattle.fault.specs.declared.HandshakeCause.TheVariants.{Label, Tag}
use Rattle.fault.specs.Faults.{host_fault, handshake_fault}
use Rattle.keyed.specs.declared.derivation.SessionKeys.{SessionKeys}
use Rattle.keyed.specs.Keystream.{moved}
use Rattle.lookup.specs.Replies.{Reply}
use Rattle.message.specs.Layout.{number_at}
use Rattle.message.specs.Reading.{checked}
use Rattle.message.proofs.Again.{was_checked, passed, went_on}
use Rattle.ends.specs.declared.Role.{Role}
use Rattle.ends.specs.declared.Role.TheVariants.{Fob as AtFob, Mixer as AtMixer}
use Rattle.channel.specs.declared.Invited.{Invited}
use Rattle.channel.specs.declared.Answered.{Answered}
use Rattle.channel.specs.declared.Proved.{Proved}
use Rattle.channel.specs.declared.Refused.{Refused}
use Rattle.channel.specs.declared.Session.{Session}
use Rattle.channel.specs.declared.Open.{Open}
use Rattle.channel.specs.Steps.{sized, unless, and_then, secret_or, settled, started, written, label_in, nonce_in, tag_in}
use Rattle.channel.specs.Handshake.{ticket, to_invited, to_answered, to_proved, open_mixer, open_fob, confirmation_tag}
use Rattle.channel.specs.Packets.{seals_at, data_in, tag_of, crypted, packet_tag, seal_check, unseal_check, unseal_output}
use Rattle.runs.specs.declared.FobSide.{FobSide}
use Rattle.runs.specs.declared.FobSide.TheVariants.{Fresh as FreshFob, Invited as InvitedFob, Proved as ProvedFob, Open as OpenFob, Closed as ClosedFob}
use Rattle.runs.specs.declared.MixerSide.{MixerSide}
use Rattle.runs.specs.declared.MixerSide.TheVariants.{Fresh as FreshMixer, Answered as AnsweredMixer, Open as OpenMixer, Closed as ClosedMixer}
use Rattle.runs.specs.History.{Keyed, Done, idle, secret_in, for_tag, after_invite, invite_at, fob_confirmation, mixer_confirmation, after_answer, answer_at, after_prove, prove_at, after_confirm, confirm_at, after_finish, finish_at, sealed_by, unsealed_by, at_fob, at_mixer, open_fob_does, open_mixer_does}
use Rattle.runs.proofs.Model.{Octets, Inputs, Setting, Ghost, fresh, invited, holding, opened, parity, mk, ke, ki, iv, Step, nothing, inviting, answering, proving, confirming, finishing, sealing, unsealing}
use Rattle.keyed.proofs.Stream.{keeps_length}

-- a check, step by step: where every refusal will do, the rest needs to be shown only past the tests
module _ {W : Type 0} (P : Result W Fault → Type 0) (refuses : (f : Fault) → P (Err f)) where
  if_sized : (n : ℕ) (b : Octets) (r : Result W Fault) → P r → P (sized n b r)
  if_sized n b r h = cond_both (ltb (length b) n) (Err (host_fault Size)) r P (λ e. refuses (host_fault Size)) (λ e. h)

  if_not : (bad : Bool) (f : Fault) (r : Result W Fault) → (bad ≡ false → P r) → P (unless bad f r)
  if_not bad f r h = cond_both bad (Err f) r P (λ e. refuses f) h

  if_then : (c : Result (Unit {0}) Fault) (r : Result W Fault) → (c ≡ Ok tt → P r) → P (and_then c r)
  if_then (Ok v) r h = h refl
  if_then (Err f) r h = refuses f

  if_secret : (reply : Reply) (next : Octets → Result W Fault) → P (next (secret_in reply)) → P (secret_or reply next)
  if_secret (Ok z) next h = h
  if_secret (Err x) next h = refuses (handshake_fault Label 3)

  if_same : (a b : Octets) (w : W) (f : Fault) → (a ≡ b → P (Ok w)) → P (cond (bytes_eq a b) (Ok w) (Err f))
  if_same a b w f h = cond_both (bytes_eq a b) (Ok w) (Err f) P (λ e. h ((bytes_eq-Decides a b).0 e)) (λ e. refuses f)

-- a statement on the outcome of a call, as one on its check
abbrev through : {E F W : Type 0} → (Result F (Refused E) → Type 0) → E → (W → F) → Result W Fault → Type 0
through Q end next r = Q (settled end next r)

-- what a passed check says of lengths
label_length : (pid : ℕ) (o : Octets) → checked 1 pid o ≡ Ok tt → length (label_in o) ≡ 25
label_length pid o e =
    let h = was_checked 1 pid o e in
    let l : length o ≡ 40 = eqb-true (length o) 40 (passed (eqb (length o) 40) _ _ h.lengths).0 in
    length-take-le 25 (drop 3 o) (omega (arith, length-drop 3 o))

data_length : (pid : ℕ) (o : Octets) → checked 5 pid o ≡ Ok tt → length (data_in o) ≡ number_at o 6
data_length pid o e =
    let h = was_checked 5 pid o e in
    let n : ℕ = number_at o 6 in
    let q = went_on (ltb (length o) 9) _ _ h.lengths in
    let r = went_on (ltb 4096 n) _ _ q.1 in
    let l : length o ≡ 21 + n = eqb-true (length o) (21 + n) (passed (eqb (length o) (21 + n)) _ _ r.1).0 in
    length-take-le n (drop 9 o) (omega (arith, length-drop 9 o))

turn_of : (x : Role) (n : ℕ) → not (seals_at x n) ≡ false → n % 2 ≡ parity x
turn_of AtFob n h = eqb-true (n % 2) 0 (not-false (eqb (n % 2) 0) h)
turn_of AtMixer n h = eqb-true (n % 2) 1 (not-false (eqb (n % 2) 1) h)

next_number : (k n : ℕ) → leb k n ≡ false → ltb (n + 1) k ≡ false → k ≡ n + 1
next_number k n a b = omega (arith, leb-false k n a, ltb-false (n + 1) k b)

module _ {C K L : Type 0} (m : Setting C K L) where
  -- the end itself, at each stage
  abbrev keys_at : Inputs → ℕ → SessionKeys
  keys_at s c = record { master = mk m s; encryption = ke m s; integrity = ki m s; counter = c }

  abbrev session_of : {A : Type 0} → A → Inputs → Session A
  session_of k s = record {
    identities = s.identities;
    key = k;
    labels = record { fob = s.qa; mixer = s.qb };
    nonces = record { fob = s.na; mixer = s.nb };
    keys = keys_at s (iv m s);
  }

  abbrev open_at : {A : Type 0} → Role → Open C A → Inputs → ℕ → ℕ → Open C A
  open_at x b s n c = record { role = x; key = b.key; epoch = record { keys = keys_at s c; number = n }; cipher = b.cipher }

  abbrev proved_at : Inputs → Proved C K
  proved_at s = record { session = session_of m.fob_key s; cipher = m.fob.cipher }

  abbrev answered_at : Inputs → Answered C L
  answered_at s = record { session = session_of m.mixer_key s; cipher = m.mixer.cipher }

  abbrev pub shown_fob : Ghost → FobSide C K
  shown_fob fresh = FreshFob m.fob m.fob_key
  shown_fob (invited n) = InvitedFob (to_invited m.fob m.fob_key (record { octets = n }))
  shown_fob (holding s) = ProvedFob (proved_at s)
  shown_fob (opened s n c) = OpenFob (open_at AtFob (open_fob (proved_at s)) s n c) ticket

  abbrev pub shown_mixer : Ghost → MixerSide C L
  shown_mixer fresh = FreshMixer m.mixer m.mixer_key
  shown_mixer (invited n) = ClosedMixer
  shown_mixer (holding s) = AnsweredMixer (answered_at s)
  shown_mixer (opened s n c) = OpenMixer (open_at AtMixer (open_mixer (answered_at s)) s n c) ticket

  -- an end as its stage shows it, or closed since
  abbrev pub WasFob : Ghost → FobSide C K → Type 0
  WasFob g st = (st ≡ shown_fob g) ⊎ (st ≡ ClosedFob)

  abbrev pub WasMixer : Ghost → MixerSide C L → Type 0
  WasMixer g st = (st ≡ shown_mixer g) ⊎ (st ≡ ClosedMixer)

  -- what was done is a step
  pub record Moves {S : Type 0} (Was : Ghost → S → Type 0) (x : Role) (g : Ghost) (d : Done S) : Type 0 where
    pub next : Ghost
    pub step : Step m x g next d.events d.worked
    pub was : Was next d.next

  stay_fob : (g : Ghost) (ks : List Keyed) → Moves WasFob AtFob g (record { next = shown_fob g; events = []; worked = ks })
  stay_fob g ks = record { next = g; step = nothing ks; was = inl refl }

  stay_mixer : (g : Ghost) (ks : List Keyed) → Moves WasMixer AtMixer g (record { next = shown_mixer g; events = []; worked = ks })
  stay_mixer g ks = record { next = g; step = nothing ks; was = inl refl }

  -- the handshake
  at_invite : (n o : Octets) (g : Ghost) → Moves WasFob AtFob g (invite_at m.lookups.fob_own (shown_fob g) n o)
  at_invite n o fresh =
      if_sized
      (λ r. Moves WasFob AtFob fresh
      (after_invite m.lookups.fob_own (started m.fob m.fob_key (record { octets = n }) (λ v. to_invited m.fob m.fob_key (record { octets = n })) r)))
      (λ f. stay_fob fresh []) 40 o (Ok tt) (record { next = invited n; step = inviting n; was = inl refl })
  at_invite n o (invited k) = stay_fob (invited k) []
  at_invite n o (holding s) = stay_fob (holding s) []
  at_invite n o (opened s k c) = stay_fob (opened s k c) []

  at_answer :
      (n t w o : Octets) (g : Ghost) →
      Moves WasMixer AtMixer g (answer_at m.pid m.cipher m.lookups.mixer_own m.lookups.mixer_replies (shown_mixer g) n t w o)
  at_answer n t w o fresh =
      let own : L → Octets = m.lookups.mixer_own in
      let replies : L → Octets → Reply = m.lookups.mixer_replies in
      let P : Result SessionKeys Fault → Type 0 =
      λ r. Moves WasMixer AtMixer fresh
      (after_answer m.pid m.cipher own replies t
      (started m.mixer m.mixer_key (record { octets = n })
      (to_answered m.pid m.cipher own replies m.mixer m.mixer_key (record { octets = n }) t) r))
      in
      let no : (f : Fault) → P (Err f) = λ f. stay_mixer fresh [] in
      if_sized P no 256 w _ (if_sized P no 40 o _ (if_then P no (checked 1 m.pid t) _ λ ok. if_secret P no (replies m.mixer_key (label_in t)) _
      (let s : Inputs = record {
        identities = m.mixer.identities;
        qa = label_in t;
        qb = own m.mixer_key;
        na = nonce_in t;
        nb = n;
        z = secret_in (replies m.mixer_key (label_in t));
        ida_10 = m.named.fob_10';
        idb_10 = m.named.mixer_10';
        qa_25 = label_length m.pid t ok;
      } in
      record { next = holding s; step = answering s refl; was = inl refl })))
  at_answer n t w o (invited k) = stay_mixer (invited k) []
  at_answer n t w o (holding s) = stay_mixer (holding s) []
  at_answer n t w o (opened s k c) = stay_mixer (opened s k c) []

  at_prove :
      (t w o : Octets) (g : Ghost) →
      Moves WasFob AtFob g (prove_at m.pid m.cipher m.lookups.fob_own m.lookups.fob_replies (shown_fob g) t w o)
  at_prove t w o fresh = stay_fob fresh []
  at_prove t w o (invited n) =
      let own : K → Octets = m.lookups.fob_own in
      let replies : K → Octets → Reply = m.lookups.fob_replies in
      let i : Invited C K = to_invited m.fob m.fob_key (record { octets = n }) in
      let P =
      through (λ (r : Result (Proved C K) (Refused (Invited C K))). Moves WasFob AtFob (invited n) (after_prove m.pid m.cipher own replies t r)) i
      (to_proved m.pid m.cipher own replies i t)
      in
      let no : (f : Fault) → P (Err f) = λ f. stay_fob (invited n) [] in
      if_sized P no 256 w _ (if_sized P no 15 o _ (if_then P no (checked 2 m.pid t) _ λ ok. if_secret P no (replies m.fob_key (label_in t)) _
      (let s : Inputs = record {
        identities = m.fob.identities;
        qa = own m.fob_key;
        qb = label_in t;
        na = n;
        nb = nonce_in t;
        z = secret_in (replies m.fob_key (label_in t));
        ida_10 = m.named.fob_10;
        idb_10 = m.named.mixer_10;
        qa_25 = m.label_25;
      } in
      record { next = holding s; step = proving n s refl refl refl; was = inl refl })))
  at_prove t w o (holding s) = stay_fob (holding s) []
  at_prove t w o (opened s k c) = stay_fob (opened s k c) []

  at_confirm : (t w o : Octets) (g : Ghost) → Moves WasMixer AtMixer g (confirm_at m.pid m.cipher (shown_mixer g) t w o)
  at_confirm t w o fresh = stay_mixer fresh []
  at_confirm t w o (invited n) = stay_mixer (invited n) []
  at_confirm t w o (holding s) =
      let a : Answered C L = answered_at s in
      let P : Result Octets Fault → Type 0 =
      λ c. Moves WasMixer AtMixer (holding s) (after_confirm m.pid m.cipher a t c (settled a (λ v. (open_mixer a, ticket)) c))
      in
      let no : (f : Fault) → P (Err f) = λ f. stay_mixer (holding s) (for_tag f.layer (fob_confirmation m.pid a.session ∷ [])) in
      if_sized P no 256 w _ (if_sized P no 15 o _ (if_then P no (checked 3 m.pid t) _ λ ok.
      if_same P no (confirmation_tag m.pid m.cipher AtFob a.session) (tag_in t) _ (handshake_fault Tag 3) λ e.
      record { next = opened s 0 (iv m s); step = confirming s (tag_in t) (sym e); was = inl refl }))
  at_confirm t w o (opened s k c) = stay_mixer (opened s k c) []

  at_finish : (t w : Octets) (g : Ghost) → Moves WasFob AtFob g (finish_at m.pid m.cipher (shown_fob g) t w)
  at_finish t w fresh = stay_fob fresh []
  at_finish t w (invited n) = stay_fob (invited n) []
  at_finish t w (holding s) =
      let p : Proved C K = proved_at s in
      let P : Result (Unit {0}) Fault → Type 0 =
      λ c. Moves WasFob AtFob (holding s) (after_finish m.pid m.cipher p t c (settled p (λ v. (open_fob p, ticket)) c))
      in
      let no : (f : Fault) → P (Err f) = λ f. stay_fob (holding s) (for_tag f.layer (mixer_confirmation m.pid p.session ∷ [])) in
      if_sized P no 256 w _ (if_then P no (checked 4 m.pid t) _ λ ok.
      if_same P no (confirmation_tag m.pid m.cipher AtMixer p.session) (tag_in t) tt (handshake_fault Tag 3) λ e.
      record { next = opened s 0 (iv m s); step = finishing s (tag_in t) (mixer_confirmation m.pid p.session ∷ []); was = inl refl })
  at_finish t w (opened s k c) = stay_fob (opened s k c) []

  -- an open end stays open, with the same keys
  record StaysOpen {A : Type 0} (x : Role) (b : Open C A) (s : Inputs) (n c : ℕ) (d : Done (Open C A)) : Type 0 where
    number : ℕ
    counter : ℕ
    step : Step m x (opened s n c) (opened s number counter) d.events d.worked
    was : d.next ≡ open_at x b s number counter

  seals_on :
      {A : Type 0} (x : Role) (b : Open C A) (s : Inputs) (n c : ℕ) (p w o : Octets) →
      StaysOpen x b s n c (sealed_by m.pid m.cipher (open_at x b s n c) p (seal_check (open_at x b s n c) p w o))
  seals_on {A} x b s n c p w o =
      let P : Result ℕ Fault → Type 0 = λ r. StaysOpen x b s n c (sealed_by m.pid m.cipher (open_at x b s n c) p r) in
      let no : (f : Fault) → P (Err f) = λ f. record { number = n; counter = c; step = nothing []; was = refl } in
      if_sized P no 256 w _ (if_not P no (ltb 4096 (length p)) _ _ λ fits. if_sized P no (21 + length p) o _
      (if_not P no (leb 16777215 n) _ _ λ small. if_not P no (not (seals_at x n)) _ _ λ turn.
      record {
        number = n + 1;
        counter = moved c (length p);
        step = sealing s n c p (ltb-false 4096 (length p) fits) (leb-false 16777215 n small) (turn_of x n turn);
        was = refl;
      }))

  unseals_on :
      {A : Type 0} (x : Role) (b : Open C A) (s : Inputs) (n c : ℕ) (t w o : Octets) →
      StaysOpen x b s n c (unsealed_by m.pid m.cipher (open_at x b s n c) t w o (unseal_check m.pid m.cipher (open_at x b s n c) t w o))
  unseals_on {A} x b s n c t w o =
      let y : Open C A = open_at x b s n c in
      let size : ℕ = number_at t 6 in
      let P : Result (ℕ × ℕ) Fault → Type 0 =
      λ r. unseal_check m.pid m.cipher y t w o ≡ r → StaysOpen x b s n c (unsealed_by m.pid m.cipher y t w o r)
      in
      let no : (f : Fault) → P (Err f) =
      λ f q. record { number = n; counter = c; step = nothing (for_tag f.layer _); was = refl }
      in
      if_sized P no 256 w _ (if_sized P no 4096 o _ (if_not P no (leb 16777215 n) _ _ λ small. if_not P no (seals_at x n) _ _ λ turn.
      if_then P no (checked 5 m.pid t) _ λ ok. if_not P no (leb (number_at t 3) n) _ _ λ stale.
      if_not P no (ltb (n + 1) (number_at t 3)) _ _ λ ahead.
      if_same P no (packet_tag m.cipher y.epoch (number_at t 3) (data_in t)) (tag_of t) (size, number_at t 3) _ λ same q.
      let long : length (data_in t) ≡ size = data_length m.pid t ok in
      record {
        number = n + 1;
        counter = moved c size;
        step =
            unsealing s n c (number_at t 3) size (data_in t) (tag_of t) (take size (unseal_output m.pid m.cipher y t w o))
            (leb-false 16777215 n small) (next_number (number_at t 3) n stale ahead) (sym long) (sym same)
            (ap (λ r. take size (written size (λ v. crypted m.cipher y.epoch (data_in t)) r o)) q
            ∙ take_at (crypted m.cipher y.epoch (data_in t)) (drop size o) size
            (keeps_length m.cipher (ke m s) c (data_in t) ∙ long));
        was = refl;
      })) refl

  at_open_fob : {s : Inputs} {n c : ℕ} {d : Done (Open C K)} → StaysOpen AtFob (open_fob (proved_at s)) s n c d → Moves WasFob AtFob (opened s n c) (at_fob ticket d)
  at_open_fob {s} h = record { next = opened s h.number h.counter; step = h.step; was = inl (ap (λ y. OpenFob y ticket) h.was) }

  at_open_mixer :
      {s : Inputs} {n c : ℕ} {d : Done (Open C L)} → StaysOpen AtMixer (open_mixer (answered_at s)) s n c d → Moves WasMixer AtMixer (opened s n c) (at_mixer ticket d)
  at_open_mixer {s} h = record { next = opened s h.number h.counter; step = h.step; was = inl (ap (λ y. OpenMixer y ticket) h.was) }

  open_fob_lem :
      (does : Open C K → Done (Open C K)) →
      ((s : Inputs) (n c : ℕ) → StaysOpen AtFob (open_fob (proved_at s)) s n c (does (open_at AtFob (open_fob (proved_at s)) s n c))) →
      (g : Ghost) → Moves WasFob AtFob g (open_fob_does does (shown_fob g))
  open_fob_lem does h fresh = stay_fob fresh []
  open_fob_lem does h (invited n) = stay_fob (invited n) []
  open_fob_lem does h (holding s) = stay_fob (holding s) []
  open_fob_lem does h (opened s n c) = at_open_fob (h s n c)

  open_mixer_lem :
      (does : Open C L → Done (Open C L)) →
      ((s : Inputs) (n c : ℕ) → StaysOpen AtMixer (open_mixer (answered_at s)) s n c (does (open_at AtMixer (open_mixer (answered_at s)) s n c))) →
      (g : Ghost) → Moves WasMixer AtMixer g (open_mixer_does does (shown_mixer g))
  open_mixer_lem does h fresh = stay_mixer fresh []
  open_mixer_lem does h (invited n) = stay_mixer (invited n) []
  open_mixer_lem does h (holding s) = stay_mixer (holding s) []
  open_mixer_lem does h (opened s n c) = at_open_mixer (h s n c)

  -- a call at an end as it stands, which does nothing where it has closed
  now_fob :
      (act : FobSide C K → Done (FobSide C K)) → act ClosedFob ≡ idle ClosedFob → ((g : Ghost) → Moves WasFob AtFob g (act (shown_fob g))) →
      (g : Ghost) (st : FobSide C K) → WasFob g st → Moves WasFob AtFob g (act st)
  now_fob act rests view g st (inl e) = subst (λ st. Moves WasFob AtFob g (act st)) (sym e) (view g)
  now_fob act rests view g st (inr e) =
      subst (λ d. Moves WasFob AtFob g d) (sym (ap act e ∙ rests)) (record { next = g; step = nothing []; was = inr refl })

  now_mixer :
      (act : MixerSide C L → Done (MixerSide C L)) → act ClosedMixer ≡ idle ClosedMixer →
      ((g : Ghost) → Moves WasMixer AtMixer g (act (shown_mixer g))) → (g : Ghost) (st : MixerSide C L) → WasMixer g st → Moves WasMixer AtMixer g (act st)
  now_mixer act rests view g st (inl e) = subst (λ st. Moves WasMixer AtMixer g (act st)) (sym e) (view g)
  now_mixer act rests view g st (inr e) =
      subst (λ d. Moves WasMixer AtMixer g d) (sym (ap act e ∙ rests)) (record { next = g; step = nothing []; was = inr refl })

  pub view_invite :
      (n o : Octets) (g : Ghost) (st : FobSide C K) → WasFob g st → Moves WasFob AtFob g (invite_at m.lookups.fob_own st n o)
  view_invite n o = now_fob (λ st. invite_at m.lookups.fob_own st n o) refl (at_invite n o)

  pub view_answer :
      (n t w o : Octets) (g : Ghost) (st : MixerSide C L) → WasMixer g st →
      Moves WasMixer AtMixer g (answer_at m.pid m.cipher m.lookups.mixer_own m.lookups.mixer_replies st n t w o)
  view_answer n t w o =
      now_mixer (λ st. answer_at m.pid m.cipher m.lookups.mixer_own m.lookups.mixer_replies st n t w o) refl (at_answer n t w o)

  pub view_prove :
      (t w o : Octets) (g : Ghost) (st : FobSide C K) → WasFob g st →
      Moves WasFob AtFob g (prove_at m.pid m.cipher m.lookups.fob_own m.lookups.fob_replies st t w o)
  view_prove t w o = now_fob (λ st. prove_at m.pid m.cipher m.lookups.fob_own m.lookups.fob_replies st t w o) refl (at_prove t w o)

  pub view_confirm :
      (t w o : Octets) (g : Ghost) (st : MixerSide C L) → WasMixer g st → Moves WasMixer AtMixer g (confirm_at m.pid m.cipher st t w o)
  view_confirm t w o = now_mixer (λ st. confirm_at m.pid m.cipher st t w o) refl (at_confirm t w o)

  pub view_finish :
      (t w : Octets) (g : Ghost) (st : FobSide C K) → WasFob g st → Moves WasFob AtFob g (finish_at m.pid m.cipher st t w)
  view_finish t w = now_fob (λ st. finish_at m.pid m.cipher st t w) refl (at_finish t w)

  pub view_seal_fob :
      (p w o : Octets) (g : Ghost) (st : FobSide C K) → WasFob g st →
      Moves WasFob AtFob g (open_fob_does (λ x. sealed_by m.pid m.cipher x p (seal_check x p w o)) st)
  view_seal_fob p w o =
      now_fob (λ st. open_fob_does (λ x. sealed_by m.pid m.cipher x p (seal_check x p w o)) st) refl
      (open_fob_lem (λ x. sealed_by m.pid m.cipher x p (seal_check x p w o)) (λ s n c. seals_on AtFob (open_fob (proved_at s)) s n c p w o))

  pub view_seal_mixer :
      (p w o : Octets) (g : Ghost) (st : MixerSide C L) → WasMixer g st →
      Moves WasMixer AtMixer g (open_mixer_does (λ x. sealed_by m.pid m.cipher x p (seal_check x p w o)) st)
  view_seal_mixer p w o =
      now_mixer (λ st. open_mixer_does (λ x. sealed_by m.pid m.cipher x p (seal_check x p w o)) st) refl
      (open_mixer_lem (λ x. sealed_by m.pid m.cipher x p (seal_check x p w o)) (λ s n c. seals_on AtMixer (open_mixer (answered_at s)) s n c p w o))

  pub view_unseal_fob :
      (t w o : Octets) (g : Ghost) (st : FobSide C K) → WasFob g st →
      Moves WasFob AtFob g (open_fob_does (λ x. unsealed_by m.pid m.cipher x t w o (unseal_check m.pid m.cipher x t w o)) st)
  view_unseal_fob t w o =
      now_fob (λ st. open_fob_does (λ x. unsealed_by m.pid m.cipher x t w o (unseal_check m.pid m.cipher x t w o)) st) refl
      (open_fob_lem (λ x. unsealed_by m.pid m.cipher x t w o (unseal_check m.pid m.cipher x t w o))
      (λ s n c. unseals_on AtFob (open_fob (proved_at s)) s n c t w o))

  pub view_unseal_mixer :
      (t w o : Octets) (g : Ghost) (st : MixerSide C L) → WasMixer g st →
      Moves WasMixer AtMixer g (open_mixer_does (λ x. unsealed_by m.pid m.cipher x t w o (unseal_check m.pid m.cipher x t w o)) st)
  view_unseal_mixer t w o =
      now_mixer (λ st. open_mixer_does (λ x. unsealed_by m.pid m.cipher x t w o (unseal_check m.pid m.cipher x t w o)) st) refl
      (open_mixer_lem (λ x. unsealed_by m.pid m.cipher x t w o (unseal_check m.pid m.cipher x t w o))
      (λ s n c. unseals_on AtMixer (open_mixer (answered_at s)) s n c t w o))
