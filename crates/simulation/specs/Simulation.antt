-- How the calls, the ends and the record of a simulation are read as those of a history.
use Rattle.std.specs.Prelude.{◌≡◌, ℕ, List, [], ◌∷◌, ◌++◌, length, Ok, Err, vec_items, fold, Result, Vec}
use Rattle.std.specs.declared.alloc.Global.{Global}
use Rattle.simulation.specs.declared.record.Event.{Event as RecordedEvent}
use Rattle.simulation.specs.declared.record.Event.TheVariants.{Offers, Reads, Proves, Opens, Sends, Accepts, Seals, Unseals}
use Rattle.simulation.specs.declared.record.Entry.{Entry as RecordedEntry}
use Rattle.simulation.specs.declared.record.Events.{Events}
use Rattle.simulation.specs.declared.record.Events.TheVariants.{Nothing, One, Two, Three}
use Rattle.simulation.specs.declared.record.Move.{Move}
use Rattle.std.specs.declared.alloc.AllocError.{AllocError}
use Rattle.channel.specs.declared.Fob.{Fob}
use Rattle.channel.specs.declared.Mixer.{Mixer}
use Rattle.simulation.specs.declared.run.Call.{Call as MadeCall}
use Rattle.simulation.specs.declared.run.Call.TheVariants.{Invite, Answer, Prove, Confirm, Finish, Seal, Unseal, Close}
use Rattle.simulation.specs.declared.run.Run.{Run}
use Rattle.runs.specs.History.{Call, invite, answer, prove, confirm, finish, seal, unseal, close, Keyed, History, Lookups, step, history, Event, offers, reads, proves, opens, sends, accepts, seals, unseals, Entry, ◌did◌, Done}
use Rattle.runs.specs.Law.{Law, NoLuckyTag, Named}

-- an event that was recorded, and the events of one call
abbrev pub event_in : RecordedEvent → Event
event_in (Offers q n) = offers q n
event_in (Reads q n) = reads q n
event_in Proves = proves
event_in Opens = opens
event_in (Sends t) = sends t
event_in (Accepts t) = accepts t
event_in (Seals n c p) = seals n c (vec_items p)
event_in (Unseals n p) = unseals n (vec_items p)

abbrev pub events_in : Events → List Event
events_in Nothing = []
events_in (One a) = event_in a ∷ []
events_in (Two b a) = event_in b ∷ event_in a ∷ []
events_in (Three c b a) = event_in c ∷ event_in b ∷ event_in a ∷ []

-- the record, which has the first event first, as the log of a history, which has the latest first
abbrev pub entry_in : RecordedEntry → Entry
entry_in x = x.role did event_in x.event

abbrev pub log_in : List RecordedEntry → List Entry
log_in xs = fold (λ log x. entry_in x ∷ log) [] xs

abbrev pub log_of : Vec RecordedEntry Global → List Entry
log_of v = log_in (vec_items v)

-- what a call made of an end is what the definition says
pub record Does {S : Type 0} (r : Move S) (d : Done S) : Type 0 where
  pub next : r.next ≡ d.next
  pub events : events_in r.events ≡ d.events

-- a call that is made, with what its buffers hold
abbrev pub call_in : MadeCall → Call
call_in (Invite n o) = invite n (vec_items o)
call_in (Answer n g) = answer n (vec_items g.input) (vec_items g.workspace) (vec_items g.output)
call_in (Prove g) = prove (vec_items g.input) (vec_items g.workspace) (vec_items g.output)
call_in (Confirm g) = confirm (vec_items g.input) (vec_items g.workspace) (vec_items g.output)
call_in (Finish m w) = finish (vec_items m) (vec_items w)
call_in (Seal x g) = seal x (vec_items g.input) (vec_items g.workspace) (vec_items g.output)
call_in (Unseal x g) = unseal x (vec_items g.input) (vec_items g.workspace) (vec_items g.output)
call_in (Close x) = close x

-- a run as a history; the keyed results are not recorded
abbrev pub history_of : {C K L : Type 0} → Run C K L → List Keyed → History C K L
history_of r ws = record { fob = r.fob; mixer = r.mixer; log = log_of r.log; worked = ws }

-- the calls that were made: all, or none for want of memory
abbrev pub calls_made : {W : Type 0} → Result W AllocError → List Call → List Call
calls_made (Ok w) calls = calls
calls_made (Err x) calls = []

-- a run and its record are those of a history
abbrev pub Recorded : {C K L : Type 0} → Run C K L → History C K L → Type 0
Recorded r h = history_of r h.worked ≡ h

module _ {C K L : Type 0} (pid : ℕ) (e : List ℕ → List ℕ → List ℕ) (u : Lookups K L) where
  -- calls make of a run what the definition says
  abbrev pub Makes : Run C K L → List Call → Run C K L → Type 0
  Makes r calls s = (h : History C K L) → Recorded r h → Recorded s (fold (step pid e u) h calls)

  -- a run is the history of these calls from two fresh ends on, with identities and labels of full length, and without a lucky tag
  -- the law holds of it
  pub record Simulates (f : Fob C) (k : K) (x : Mixer C) (l : L) (calls : List Call) (r : Run C K L) : Type 0 where
    pub recorded : Recorded r (history pid e u f k x l calls)
    pub named : Named f x
    pub fob_25 : length (u.fob_own k) ≡ 25
    pub mixer_25 : length (u.mixer_own l) ≡ 25
    pub law : NoLuckyTag e (history pid e u f k x l calls) → Law f x (history pid e u f k x l calls)

  -- whatever calls a run comes of, the next comes of them and these calls more
  abbrev pub Follows : Run C K L → List Call → Run C K L → Type 0
  Follows r calls s = (f : Fob C) (k : K) (x : Mixer C) (l : L) (before : List Call) → Simulates f k x l before r → Simulates f k x l (before ++ calls) s
