-- What opening both ends comes to, where each call is given what the other end wrote.
use Rattle.std.specs.Prelude.{◌≡◌, ℕ, List, length, Ok, Err, Result}
use Rattle.fault.specs.declared.Fault.{Fault}
use Rattle.channel.specs.declared.Nonce.{Nonce}
use Rattle.channel.specs.declared.Fob.{Fob}
use Rattle.channel.specs.declared.Mixer.{Mixer}
use Rattle.channel.specs.declared.Invited.{Invited}
use Rattle.channel.specs.declared.Answered.{Answered}
use Rattle.channel.specs.declared.Proved.{Proved}
use Rattle.channel.specs.declared.Open.{Open}
use Rattle.channel.specs.declared.Ticket.{Ticket}
use Rattle.channel.specs.declared.NotStarted.{NotStarted}
use Rattle.channel.specs.declared.Refused.{Refused}
use Rattle.channel.specs.Handshake.{invited, invite_output, answered, answer_output, proven, prove_output, confirmed, confirm_output, finished}
use Rattle.sessions.specs.declared.unaltered.Pair.{Pair}
use Rattle.sessions.specs.declared.unaltered.Closed.{Closed}
use Rattle.sessions.specs.declared.unaltered.Ended.{Ended}
use Rattle.sessions.specs.declared.handshake.Unopened.{Unopened}
use Rattle.runs.specs.History.{Lookups}
use Rattle.runs.specs.Unaltered.{Paired, Level}
use Rattle.sessions.specs.Sessions.{zeros, how_many, pair_after_all}

-- a refused call: both ends are given up, and their keys come back with the fault
abbrev pub unopened : {C K L : Type 0} → K → L → Fault → Result (Pair C K L) (Unopened K L)
unopened k l f = Err (record { fob_key = k; mixer_key = l; fault = f })

-- what the fob's finish answered, with the mixer that is open
abbrev pub then_finished :
    {C K L : Type 0} → Open C L → Ticket → Result (Open C K × Ticket) (Refused (Proved C K)) → Result (Pair C K L) (Unopened K L)
then_finished x t (Ok o) = Ok (record { fob = o.0; fob_ticket = o.1; mixer = x; mixer_ticket = t })
then_finished x t (Err b) = unopened b.end.session.key x.key b.fault

module _ {C K L : Type 0} (pid : ℕ) (e : List ℕ → List ℕ → List ℕ) where
  -- what the mixer's confirm answered and wrote
  abbrev pub then_confirmed :
      Proved C K → (message : List ℕ) → Result (Open C L × Ticket) (Refused (Answered C L)) → Result (Pair C K L) (Unopened K L)
  then_confirmed p m (Ok o) = then_finished o.0 o.1 (finished pid e p m (zeros 256))
  then_confirmed p m (Err b) = unopened p.session.key b.end.session.key b.fault

  -- what the fob's prove answered and wrote
  abbrev pub then_proved :
      Answered C L → (message : List ℕ) → Result (Proved C K) (Refused (Invited C K)) → Result (Pair C K L) (Unopened K L)
  then_proved a m (Ok p) = then_confirmed p (confirm_output pid e a m (zeros 256) (zeros 15)) (confirmed pid e a m (zeros 256) (zeros 15))
  then_proved a m (Err b) = unopened b.end.key a.session.key b.fault

module _ {C K L : Type 0} (pid : ℕ) (e : List ℕ → List ℕ → List ℕ) (u : Lookups K L) where
  -- what the mixer's answer answered and wrote
  abbrev pub then_answered :
      Invited C K → (message : List ℕ) → Result (Answered C L) (NotStarted (Mixer C) L) → Result (Pair C K L) (Unopened K L)
  then_answered i m (Ok a) =
      then_proved pid e a (prove_output pid e u.fob_own u.fob_replies i m (zeros 256) (zeros 15))
      (proven pid e u.fob_own u.fob_replies i m (zeros 256) (zeros 15))
  then_answered i m (Err b) = unopened i.key b.key b.fault

  -- what the fob's invite answered and wrote
  abbrev pub then_invited :
      Mixer C → L → Nonce → (message : List ℕ) → Result (Invited C K) (NotStarted (Fob C) K) → Result (Pair C K L) (Unopened K L)
  then_invited x l n m (Ok i) =
      then_answered i (answer_output pid e u.mixer_own u.mixer_replies x l n m (zeros 256) (zeros 40))
      (answered pid e u.mixer_own u.mixer_replies x l n m (zeros 256) (zeros 40))
  then_invited x l n m (Err b) = unopened b.key l b.fault

  -- the five calls one after another
  abbrev pub opened_both : Fob C → K → Nonce → Mixer C → L → Nonce → Result (Pair C K L) (Unopened K L)
  opened_both f k na x l nb = then_invited x l nb (invite_output pid u.fob_own k na (zeros 40)) (invited f k na (zeros 40))

-- two ends that were made for each other: the same identities, lookups that answer each other with one secret, nonces of twelve octets
pub record Honest {C K L : Type 0} (u : Lookups K L) (f : Fob C) (k : K) (na : Nonce) (x : Mixer C) (l : L) (nb : Nonce) : Type 0 where
  pub identities : f.identities ≡ x.identities
  pub paired : Paired u k l
  pub fob_nonce : length na.octets ≡ 12
  pub mixer_nonce : length nb.octets ≡ 12

-- both ends open at number 0, with the keys that were given over
pub record Both {C K L : Type 0} (k : K) (l : L) (answer : Result (Pair C K L) (Unopened K L)) : Type 0 where
  pub pair : Pair C K L
  pub opened : answer ≡ Ok pair
  pub level : Level pair.fob pair.mixer 0
  pub fob_key : pair.fob.key ≡ k
  pub mixer_key : pair.mixer.key ≡ l

-- closing both ends gives back the keys and the last numbers
abbrev pub closed_both : {C K L : Type 0} → Pair C K L → Closed K L
closed_both x = record {
  fob_key = x.fob.key;
  fob_number = x.fob.epoch.number;
  mixer_key = x.mixer.key;
  mixer_number = x.mixer.epoch.number;
}

-- payloads in turn once both ends are open, and then both are closed
abbrev pub then_passed :
    {C K L : Type 0} → ℕ → (List ℕ → List ℕ → List ℕ) → List (List ℕ) → Result (Pair C K L) (Unopened K L) → Result (Ended K L) (Unopened K L)
then_passed pid e ps (Ok x) = Ok (record { passed = how_many pid e x ps; closed = closed_both (pair_after_all pid e x ps) })
then_passed pid e ps (Err b) = Err b

-- n payloads came through, and both ends closed at the number n with the keys that were given over
abbrev pub ended_at : {K L : Type 0} → ℕ → K → L → Ended K L
ended_at n k l = record {
  passed = n;
  closed = record { fob_key = k; fob_number = n; mixer_key = l; mixer_number = n };
}
