-- Calls made one after another, and the law of what they come to.
use Rattle.std.proofs.Common.{◌≡◌, ℕ, List, [], ◌++◌, map, length, vec_items, fold, Vec, sym, ap, ◌∙◌, subst}
use Rattle.std.proofs.lemmas.List.Sums.{fold-append}
use Rattle.std.specs.declared.alloc.Global.{Global}
use Rattle.channel.specs.declared.Fob.{Fob}
use Rattle.channel.specs.declared.Mixer.{Mixer}
use Rattle.simulation.specs.declared.record.Entry.{Entry}
use Rattle.simulation.specs.declared.run.Call.{Call as MadeCall}
use Rattle.simulation.specs.declared.run.Run.{Run}
use Rattle.runs.specs.History.{Call, History, Lookups, step, start, history}
use Rattle.runs.specs.Law.{Named}
use Rattle.simulation.specs.Simulation.{log_in, call_in, Recorded, Makes, Simulates, Follows}
use Rattle.runs.proofs.Whole.{law_of_runs}

module _ {C K L : Type 0} (pid : ℕ) (e : List ℕ → List ℕ → List ℕ) (u : Lookups K L) where
  -- what is left to do from a run on leads from the first run to the end
  abbrev pub Left : Run C K L → List MadeCall → Run C K L → List MadeCall → Type 0
  Left first all now rest = (s : Run C K L) → Makes pid e u now (map call_in rest) s → Makes pid e u first (map call_in all) s

  -- room was made in the log, and nothing else changed
  with_room : (r : Run C K L) (v : Vec Entry Global) → vec_items v ≡ vec_items r.log → (h : History C K L) → Recorded r h → Recorded (record { fob = r.fob; mixer = r.mixer; log = v }) h
  with_room r v a h m = ap (λ (x : List Entry). record { fob = r.fob; mixer = r.mixer; log = log_in x; worked = h.worked }) a ∙ m

  -- more calls after a history
  history_more :
      (f : Fob C) (k : K) (x : Mixer C) (l : L) (before calls : List Call) →
      history pid e u f k x l (before ++ calls) ≡ fold (step pid e u) (history pid e u f k x l before) calls
  unfolding history
  history_more f k x l before calls = fold-append (step pid e u) (start f k x l) before calls

  makes_follows : (r s : Run C K L) (calls : List Call) → Makes pid e u r calls s → Follows pid e u r calls s
  makes_follows r s calls m f k x l before h = record {
    recorded = subst (λ (v : History C K L). Recorded s v) (sym (history_more f k x l before calls)) (m (history pid e u f k x l before) h.recorded);
    named = h.named;
    fob_25 = h.fob_25;
    mixer_25 = h.mixer_25;
    law = law_of_runs C K L pid e u f k x l h.named h.fob_25 h.mixer_25 (before ++ calls);
  }

  -- calls are made of a run once there is room in its log, which changes nothing else
  pub room_follows :
      (r s : Run C K L) (v : Vec Entry Global) (calls : List Call) → vec_items v ≡ vec_items r.log →
      Makes pid e u (record { fob = r.fob; mixer = r.mixer; log = v }) calls s → Follows pid e u r calls s
  room_follows r s v calls a m = makes_follows r s calls (λ h z. m h (with_room r v a h z))

  pub begins :
      (f : Fob C) (k : K) (x : Mixer C) (l : L) (r : Run C K L) → Recorded r (start f k x l) → Named f x → length (u.fob_own k) ≡ 25 → length (u.mixer_own l) ≡ 25 →
      Simulates pid e u f k x l [] r
  unfolding history
  begins f k x l r h n a b = record { recorded = h; named = n; fob_25 = a; mixer_25 = b; law = law_of_runs C K L pid e u f k x l n a b [] }
