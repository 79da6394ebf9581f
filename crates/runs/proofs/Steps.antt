-- Each step keeps what holds of both ends.
use Rattle.std.proofs.Common.{◌≡◌, ℕ, ◌+◌, ◌%◌, ◌^◌, ◌<◌, ◌≤◌, List, [], ◌∷◌, ◌++◌, length, take, sym, refl, ap, ◌∙◌, subst, inl, inr, arith}
use Rattle.keyed.specs.Told.{Identities}
use Rattle.keyed.specs.Derivation.{split, master_key, encryption_key, integrity_key, first_counter}
use Rattle.keyed.specs.Keystream.{moved}
use Rattle.keyed.specs.Strings.{confirmation, packet}
use Rattle.keyed.specs.Xcbc.{keyed_result, tag}
use Rattle.ends.specs.declared.Role.{Role}
use Rattle.ends.specs.declared.Role.TheVariants.{Fob as AtFob, Mixer as AtMixer}
use Rattle.runs.specs.History.{Event, offers, reads, proves, opens, sends, accepts, seals, unseals, Entry, ◌did◌}
use Rattle.runs.specs.Law.{other, ◌∈◌, Met}
use Rattle.runs.proofs.Model.{Octets, Inputs, Setting, Ghost, fresh, invited, holding, opened, last_number, parity, label, seeded, mk, ke, ki, iv, mk_string, ki_string, proof, tagged, crypt}
use Rattle.keyed.proofs.Stream.{keeps_length, gives_back}
use Rattle.runs.proofs.Base.{opposite, fob_mixer, four, tail_same, masters_same, encryptions_same, integrities_same, integrity_no_master, packet_same}
use Rattle.runs.proofs.Flow.{seals_map, Old, level, flow_seal, flow_seal_apart, flow_unseal, flow_stills, Stills}
use Rattle.runs.proofs.Places.{nonces_less, plain, opens_fob, opens_mixer, seals_new}
use Rattle.runs.proofs.Facts.{InputsOf, OpenedOf, NotOpen, not_open_opened, Early, early_stills, Origin, by_proof, by_seal, Derived, FobTrail, MixerTrail, MixerAt, fob_more, mixer_trail_more, fob_trail_of, Live, live_stills, WithOpen, Both, both_moves, Facts}
use Rattle.runs.proofs.Moves.{fob_moves, mixer_moves, FactsAt, places_of, own_derived, their_derived, their_origin, open_moves, Linked, linked}

module _ {C K L : Type 0} (m : Setting C K L) where
  -- keys
  same_keys :
      (s t : Inputs) → Derived m s → Derived m t → mk m s ≡ mk m t → (ke m s ≡ ke m t) × (ki m s ≡ ki m t)
  unfolding tag master_key encryption_key integrity_key
  same_keys s t ds dt e =
      let r : (seeded m s ≡ seeded m t) × (mk_string m s ≡ mk_string m t) =
      m.apart (seeded m s, mk_string m s) (seeded m t, mk_string m t) ds.mk_in dt.mk_in (ap (take 12) e)
      in
      let a : seeded m s ≡ seeded m t = r.0 in
      let b : split s.na s.nb ++ s.identities.fob ++ s.identities.mixer ≡ split t.na t.nb ++ t.identities.fob ++ t.identities.mixer =
      masters_same s.na s.nb s.identities.fob s.identities.mixer t.na t.nb t.identities.fob t.identities.mixer r.1
      in
      let k : ke m s ≡ ke m t =
      ap-result a
      (encryptions_same (mk m s) (mk m t) s.na s.nb s.identities.fob s.identities.mixer t.na t.nb t.identities.fob t.identities.mixer e b)
      in (
        k,
        ap-result a
            (integrities_same (ke m s) (ke m t) s.na s.nb s.identities.fob s.identities.mixer t.na t.nb t.identities.fob t.identities.mixer k b),
      )
    where
      ap-result : {k k' t t' : Octets} → k ≡ k' → t ≡ t' → keyed_result m.cipher k t ≡ keyed_result m.cipher k' t'
      ap-result e f = cc

  ki_not_mk : (s t : Inputs) {A : Type 0} → Derived m s → Derived m t → ki m s ≡ mk m t → A
  unfolding tag master_key integrity_key
  ki_not_mk s t ds dt e =
      integrity_no_master (ke m s) s.na s.nb s.identities.fob s.identities.mixer t.na t.nb t.identities.fob t.identities.mixer
      (m.apart (seeded m s, ki_string m s) (seeded m t, mk_string m t) ds.ki_in dt.mk_in (ap (take 12) e)).1

  -- identities and labels
  pub record Alike (s t : Inputs) : Type 0 where
    pub same_ida : s.identities.fob ≡ t.identities.fob
    pub same_idb : s.identities.mixer ≡ t.identities.mixer
    pub same_qa : s.qa ≡ t.qa
    pub same_qb : s.qb ≡ t.qb

  alike_from : (s t : Inputs) → proof m AtFob s ≡ proof m AtFob t → Alike s t
  unfolding confirmation
  alike_from s t h =
      let r : (s.identities.fob ≡ t.identities.fob) × (s.identities.mixer ≡ t.identities.mixer) × (s.qa ≡ t.qa) × (s.qb ≡ t.qb) =
      four s.identities.fob s.identities.mixer s.qa s.qb t.identities.fob t.identities.mixer t.qa t.qb
      (s.ida_10 ∙ sym t.ida_10) (s.idb_10 ∙ sym t.idb_10) (s.qa_25 ∙ sym t.qa_25)
      (tail_same h)
      in
      record { same_ida = r.0; same_idb = r.1; same_qa = r.2; same_qb = r.3 }

  iv_same : (s t : Inputs) → mk m s ≡ mk m t → ki m s ≡ ki m t → s.na ≡ t.na → s.nb ≡ t.nb → iv m s ≡ iv m t
  unfolding first_counter
  iv_same s t a b c d = cc

  -- the handshake
  pub invite_keeps :
      (log : List Entry) (g : Ghost) (na : Octets) → Facts m log fresh g → Facts m (AtFob did offers (label m) na ∷ log) (invited na) g
  invite_keeps log g na h =
      let k : Event = offers (label m) na in
      fob_moves m log (k ∷ []) fresh (invited na) g h record { sessions = λ t a. a; openings = λ t a. a; open_on = λ a. a } (inl refl) (tt, tt)
      (both_moves m fresh (invited na) g (k ∷ []) log ((refl, refl, λ P x. tt), tt) tt (λ sm nm cm a. a) h.both)
      (plain m AtFob k log refl refl h.places)

  pub answer_keeps :
      (log : List Entry) (f : Ghost) (s : Inputs) → s.identities ≡ m.mixer.identities → Derived m s → Facts m log f fresh →
      Facts m (AtMixer did offers s.qb s.nb ∷ AtMixer did reads s.qa s.na ∷ log) f (holding s)
  answer_keeps log f s e ds h =
      let k : Event = offers s.qb s.nb in
      let j : Event = reads s.qa s.na in
      mixer_moves m log (k ∷ j ∷ []) f fresh (holding s) h record { sessions = λ t a. absurd a; openings = λ t a. a; open_on = λ a. a }
      record { named = e; offered = inl refl; had_read = inr (inl refl); derived = ds } (tt, (tt, tt))
      (h.both.0, early_stills AtMixer (k ∷ j ∷ []) log ((refl, refl, λ P x. tt), ((refl, refl, λ P x. tt), tt)) h.both.1)
      (plain m AtMixer k (AtMixer did j ∷ log) refl refl (plain m AtMixer j log refl refl h.places))

  pub prove_keeps :
      (log : List Entry) (g : Ghost) (na : Octets) (s : Inputs) → s.identities ≡ m.fob.identities → s.na ≡ na → s.qa ≡ label m →
      Derived m s → m.Worked (mk m s, proof m AtFob s) → Facts m log (invited na) g →
      Facts m (AtFob did sends (tagged m (mk m s) (proof m AtFob s)) ∷ AtFob did proves ∷ AtFob did reads s.qb s.nb ∷ log) (holding s) g
  prove_keeps log g na s e en eq ds w h =
      let k : Event = sends (tagged m (mk m s) (proof m AtFob s)) in
      let j : Event = reads s.qb s.nb in
      let log₁ : List Entry = AtFob did j ∷ log in
      let i : AtFob did offers s.qa s.na ∈ log = rw (en, eq) h.fob_at in
      fob_moves m log (k ∷ proves ∷ j ∷ []) (invited na) (holding s) g h record { sessions = λ t a. absurd a; openings = λ t a. a; open_on = λ a. a }
      record { named = e; offered = inr (inr (inr i)); had_read = inr (inr (inl refl)); proved = inr (inl refl); derived = ds }
      (by_proof s refl (λ q. fob_mixer q) w refl, (tt, (tt, tt)))
      (both_moves m (invited na) (holding s) g (k ∷ proves ∷ j ∷ []) log
      ((refl, refl, λ P x. tt), ((refl, refl, λ P x. tt), ((refl, refl, λ P x. tt), tt))) tt (λ sm nm cm a. a) h.both)
      (plain m AtFob k (AtFob did proves ∷ log₁) refl refl (plain m AtFob proves log₁ refl refl (plain m AtFob j log refl refl h.places)))

  -- what the mixer's check of the fob's tag tells
  pub record Proved (f : Ghost) (s : Inputs) : Type 0 where
    pub theirs : Inputs
    pub of : InputsOf f theirs
    pub same_mk : mk m theirs ≡ mk m s
    pub same_proof : proof m AtFob theirs ≡ proof m AtFob s

  proved_by :
      (log : List Entry) (f : Ghost) (s : Inputs) (t : Octets) → t ≡ tagged m (mk m s) (proof m AtFob s) → NotOpen f →
      m.Worked (mk m s, proof m AtFob s) → Origin m log AtFob f t → Proved f s
  proved_by log f s t is n w (by_proof u a b c e) =
      let r : (mk m u ≡ mk m s) × (proof m AtFob u ≡ proof m AtFob s) =
      m.apart (mk m u, proof m AtFob u) (mk m s, proof m AtFob s) c w (sym e ∙ is)
      in
      record { theirs = u; of = a; same_mk = r.0; same_proof = r.1 }
  proved_by log f s t is n w (by_seal u k c p a b d e i) = not_open_opened f u n a

  begin :
      (log : List Entry) (sf sm : Inputs) → FobTrail m log sf → MixerTrail m log sm → mk m sf ≡ mk m sm → Early log →
      Live m log sf 0 (iv m sf) sm 0 (iv m sm)
  begin log sf sm tf tm e early =
      let r : (ke m sf ≡ ke m sm) × (ki m sf ≡ ki m sm) = same_keys sf sm tf.derived tm.derived e in
      record {
        same_mk = e;
        same_ke = r.0;
        same_ki = r.1;
        flow =
            λ a.
            let na : sm.na ≡ sf.na = a AtFob sf.qa sf.na sm.qa sm.na tf.offered tm.had_read in
            let nb : sf.nb ≡ sm.nb = a AtMixer sm.qb sm.nb sf.qb sf.nb tm.offered tf.had_read in
            let v : iv m sf ≡ iv m sm = iv_same sf sm e r.1 (sym na) nb in
            level refl v
            record {
              t = 0;
              stands = ap (λ (i : ℕ). i % 2 ^ 128) v ∙ plus-zero (iv m sm);
              small = omega arith;
              from_x = early.sealed_f ∙ sym early.unsealed_m;
              from_y = early.sealed_m ∙ sym early.unsealed_f;
              seals_old = seals_map (λ x n c p. ⊥) (Old (iv m sm) 0 0) (λ x n c p b. absurd b) log early.no_seal;
            };
      }
    where
      plus-zero : (i : ℕ) → i % 2 ^ 128 ≡ (i + 0) % 2 ^ 128
      plus-zero i = omega arith

  meet :
      (log : List Entry) (f : Ghost) (sf sm : Inputs) → NotOpen f → InputsOf f sf → Live m log sf 0 (iv m sf) sm 0 (iv m sm) →
      WithOpen m log sm 0 (iv m sm) f
  meet log fresh sf sm n e l = absurd e
  meet log (invited k) sf sm n e l = absurd e
  meet log (holding s) sf sm n e l = subst (λ (s : Inputs). Live m log s 0 (iv m s) sm 0 (iv m sm)) (sym e) l
  meet log (opened s k c) sf sm n e l = absurd n

  met :
      (log : List Entry) (t s : Inputs) → FobTrail m log t → MixerTrail m log s → Alike t s →
      Met m.fob m.mixer (AtMixer did accepts (tagged m (mk m s) (proof m AtFob s)) ∷ log)
  met log t s tf tm k =
      record {
        proved = inr tf.proved;
        same_fob = ap (λ (n : Identities). n.fob) (sym tf.named) ∙ k.same_ida ∙ ap (λ (n : Identities). n.fob) tm.named;
        same_mixer = ap (λ (n : Identities). n.mixer) (sym tf.named) ∙ k.same_idb ∙ ap (λ (n : Identities). n.mixer) tm.named;
        labels = labels;
      }
    where
      log' : List Entry
      log' = AtMixer did accepts (tagged m (mk m s) (proof m AtFob s)) ∷ log

      labels : (x : Role) → (q n n' : Octets) × (x did offers q n ∈ log') × (other x did reads q n' ∈ log')
      labels AtFob = (
        t.qa,
        t.na,
        s.na,
        inr tf.offered,
        inr (subst (λ (q : Octets). AtMixer did reads q s.na ∈ log) (sym k.same_qa) tm.had_read),
      )
      labels AtMixer = (
        s.qb,
        s.nb,
        t.nb,
        inr tm.offered,
        inr (subst (λ (q : Octets). AtFob did reads q t.nb ∈ log) k.same_qb tf.had_read),
      )

  pub confirm_keeps :
      (log : List Entry) (f : Ghost) (s : Inputs) → m.Worked (mk m s, proof m AtFob s) → m.Worked (mk m s, proof m AtMixer s) →
      AtFob did sends (tagged m (mk m s) (proof m AtFob s)) ∈ log → Facts m log f (holding s) →
      Facts m
      (AtMixer did sends (tagged m (mk m s) (proof m AtMixer s)) ∷ AtMixer did opens ∷ AtMixer did accepts (tagged m (mk m s) (proof m AtFob s)) ∷ log)
      f (opened s 0 (iv m s))
  confirm_keeps log f s w w' sent h =
      let k : Event = sends (tagged m (mk m s) (proof m AtMixer s)) in
      let b : Event = accepts (tagged m (mk m s) (proof m AtFob s)) in
      let log₁ : List Entry = AtMixer did b ∷ log in
      let log₂ : List Entry = AtMixer did opens ∷ log₁ in
      let q : Stills (k ∷ opens ∷ b ∷ []) = ((refl, refl, λ P x. tt), ((refl, refl, λ P x. tt), ((refl, refl, λ P x. tt), tt))) in
      let p : Proved f s =
      proved_by log f s (tagged m (mk m s) (proof m AtFob s)) refl h.both.0 w
      (their_origin m AtMixer log (holding s) f h (tagged m (mk m s) (proof m AtFob s)) sent)
      in
      let t : Inputs = p.theirs in
      let tf : FobTrail m log t = fob_trail_of m f log t p.of h.fob_at in
      let tm : MixerTrail m log s = h.mixer_at in
      let live : Live m log t 0 (iv m t) s 0 (iv m s) = begin log t s tf tm p.same_mk h.both.1 in
      mixer_moves m log (k ∷ opens ∷ b ∷ []) f (holding s) (opened s 0 (iv m s)) h
      record { sessions = λ t a. a; openings = λ t a. absurd a; open_on = λ a. absurd a }
      (mixer_trail_more m log (AtMixer did k ∷ log₂) (λ e i. inr (inr (inr i))) s tm, inr (inl refl))
      (by_proof s refl (λ e. tt) w' refl, (tt, (tt, tt)))
      (meet (AtMixer did k ∷ log₂) f t s h.both.0 p.of (live_stills m AtMixer (k ∷ opens ∷ b ∷ []) log t 0 (iv m t) s 0 (iv m s) q live))
      (plain m AtMixer k log₂ refl refl
      (opens_mixer m log₁ (met log t s tf tm (alike_from t s p.same_proof)) (plain m AtMixer b log refl refl h.places)))

  -- the fob opens: the mixer has
  has_opened : (log : List Entry) (g : Ghost) (t : Octets) → NotOpen g → Origin m log AtMixer g t → ⊥
  has_opened log fresh t n (by_proof s a b c e) = a
  has_opened log (invited k) t n (by_proof s a b c e) = a
  has_opened log (holding u) t n (by_proof s a b c e) = b refl
  has_opened log (opened u k d) t n (by_proof s a b c e) = n
  has_opened log g t n (by_seal s k c p a b d e i) = not_open_opened g s n a

  open_both :
      (log : List Entry) (s : Inputs) (t : Octets) (g : Ghost) → (NotOpen g → ⊥) → Both m log (holding s) g →
      Both m (AtFob did opens ∷ AtFob did accepts t ∷ log) (opened s 0 (iv m s)) g
  open_both log s t fresh n b = absurd (n tt)
  open_both log s t (invited k) n b = absurd (n tt)
  open_both log s t (holding u) n b = absurd (n tt)
  open_both log s t (opened u k c) n b =
      live_stills m AtFob (opens ∷ accepts t ∷ []) log s 0 (iv m s) u k c ((refl, refl, λ P x. tt), ((refl, refl, λ P x. tt), tt)) b

  opened_before : (log : List Entry) (g : Ghost) → (NotOpen g → ⊥) → MixerAt m log g → AtMixer did opens ∈ log
  opened_before log fresh n b = absurd (n tt)
  opened_before log (invited k) n b = absurd (n tt)
  opened_before log (holding t) n b = absurd (n tt)
  opened_before log (opened t k c) n b = b.1

  pub finish_keeps :
      (log : List Entry) (g : Ghost) (s : Inputs) (t : Octets) → AtMixer did sends t ∈ log → Facts m log (holding s) g →
      Facts m (AtFob did opens ∷ AtFob did accepts t ∷ log) (opened s 0 (iv m s)) g
  finish_keeps log g s t sent h =
      let log₁ : List Entry = AtFob did accepts t ∷ log in
      let n : NotOpen g → ⊥ = λ n. has_opened log g t n (their_origin m AtFob log (holding s) g h t sent) in
      fob_moves m log (opens ∷ accepts t ∷ []) (holding s) (opened s 0 (iv m s)) g h
      record { sessions = λ t a. a; openings = λ t a. absurd a; open_on = λ a. absurd a }
      (fob_more m log (AtFob did opens ∷ log₁) (λ e i. inr (inr i)) (holding s) h.fob_at) (tt, (tt, tt)) (open_both log s t g n h.both)
      (opens_fob m log₁ (inr (opened_before log g n h.mixer_at)) (plain m AtFob (accepts t) log refl refl h.places))

  -- packets
  pub seal_keeps :
      (x : Role) (log : List Entry) (b : Ghost) (s : Inputs) (n c : ℕ) (p : Octets) → length p ≤ 4096 → n < last_number → n % 2 ≡ parity x →
      m.Worked (ki m s, packet (n + 1) (crypt m (ke m s) c p)) → FactsAt m x log (opened s n c) b →
      FactsAt m x (x did sends (tagged m (ki m s) (packet (n + 1) (crypt m (ke m s) c p))) ∷ x did seals (n + 1) c p ∷ log)
      (opened s (n + 1) (moved c (length p))) b
  seal_keeps x log b s n c p fits small turn w h =
      let t : Octets = tagged m (ki m s) (packet (n + 1) (crypt m (ke m s) c p)) in
      let log₁ : List Entry = x did seals (n + 1) c p ∷ log in
      let k : Linked m x log s n c b = linked m x log s n c b h in
      open_moves m x log (sends t ∷ seals (n + 1) c p ∷ []) s n c (n + 1) (moved c (length p)) b h
      (by_seal s (n + 1) c p refl (omega arith) w refl (inr (inl refl)), (tt, tt))
      (k.again (x did sends t ∷ log₁) (n + 1) (moved c (length p))
      (λ a.
      flow_stills log₁ x (sends t ∷ []) ((refl, refl, λ P x. tt), tt)
      (flow_seal (opposite x) p turn fits (k.flow (nonces_less log (x did sends t ∷ log₁) (λ e i. inr (inr i)) a)))))
      (plain m x (sends t) log₁ refl refl
      (seals_new m x (n + 1) c p log (λ a. flow_seal_apart (opposite x) p turn small fits (k.flow a)) (places_of m x log (opened s n c) b h)))

  -- what the check of a packet's tag tells: the other end, y, sealed it
  pub record Packed (log : List Entry) (y : Role) (g : Ghost) (n : ℕ) (d : Octets) : Type 0 where
    pub theirs : Inputs
    pub of : OpenedOf g theirs
    pub counter : ℕ
    pub payload : Octets
    pub is : y did seals n counter payload ∈ log
    pub enciphers : d ≡ crypt m (ke m theirs) counter payload

  packed_by :
      (log : List Entry) (y : Role) (g : Ghost) (s : Inputs) (n : ℕ) (d t : Octets) → n < 2 ^ 24 → Derived m s →
      m.Worked (ki m s, packet n d) → ((u : Inputs) → InputsOf g u → Derived m u) → t ≡ tagged m (ki m s) (packet n d) →
      Origin m log y g t → Packed log y g n d
  packed_by log y g s n d t small ds w dt is (by_proof u a b c e) =
      ki_not_mk s u ds (dt u a) (m.apart (ki m s, packet n d) (mk m u, proof m y u) w c (sym is ∙ e)).0
  packed_by log y g s n d t small ds w dt is (by_seal u k c p a b w' e i) =
      let q : packet n d ≡ packet k (crypt m (ke m u) c p) =
      (m.apart (ki m s, packet n d) (ki m u, packet k (crypt m (ke m u) c p)) w w' (sym is ∙ e)).1
      in
      let r : (n ≡ k) × (d ≡ crypt m (ke m u) c p) = packet_same n k d (crypt m (ke m u) c p) small b q in
      record
      { theirs = u; of = a; counter = c; payload = p; is = subst (λ (k : ℕ). y did seals k c p ∈ log) (sym r.0) i; enciphers = r.1 }

  deciphered :
      (k k' : Octets) (c c' : ℕ) (d p out : Octets) → k ≡ k' → d ≡ crypt m k' c' p → out ≡ crypt m k c d → c' ≡ c → out ≡ p
  deciphered k k' c c' d p out e f r h =
      r ∙ ap (crypt m k c) f ∙ ap (λ (i : ℕ). crypt m k c (crypt m k' i p)) h ∙ ap (λ (i : Octets). crypt m k c (crypt m i c p)) (sym e)
      ∙ gives_back m.cipher k c p

  pub unseal_keeps :
      (x : Role) (log : List Entry) (b : Ghost) (s : Inputs) (n c size : ℕ) (d t out : Octets) → n < last_number → size ≡ length d →
      out ≡ crypt m (ke m s) c d → m.Worked (ki m s, packet (n + 1) d) → t ≡ tagged m (ki m s) (packet (n + 1) d) →
      other x did sends t ∈ log → FactsAt m x log (opened s n c) b →
      FactsAt m x (x did unseals (n + 1) out ∷ x did accepts t ∷ log) (opened s (n + 1) (moved c size)) b
  unseal_keeps x log b s n c size d t out small long right w is sent h =
      let log₁ : List Entry = x did accepts t ∷ log in
      let l : Linked m x log s n c b = linked m x log s n c b h in
      let k : Packed log (other x) b (n + 1) d =
      packed_by log (other x) b s (n + 1) d t (omega arith) (own_derived m x log s n c b h) w (their_derived m x log (opened s n c) b h) is
      (their_origin m x log (opened s n c) b h t sent)
      in
      open_moves m x log (unseals (n + 1) out ∷ accepts t ∷ []) s n c (n + 1) (moved c size) b h (tt, (tt, tt))
      (l.again (x did unseals (n + 1) out ∷ log₁) (n + 1) (moved c size)
      (λ a.
      flow_unseal (opposite x) out size k.counter k.payload (inr k.is)
      (long ∙ ap length k.enciphers ∙ keeps_length m.cipher (ke m k.theirs) k.counter k.payload)
      (λ q. deciphered (ke m s) (ke m k.theirs) c k.counter d k.payload out (l.same_key k.theirs k.of) k.enciphers right q)
      (flow_stills log x (accepts t ∷ []) ((refl, refl, λ P x. tt), tt)
      (l.flow (nonces_less log (x did unseals (n + 1) out ∷ log₁) (λ e i. inr (inr i)) a)))))
      (plain m x (unseals (n + 1) out) log₁ refl refl (plain m x (accepts t) log refl refl (places_of m x log (opened s n c) b h)))
