-- What the lines of a session give.
use Rattle.std.specs.Prelude.{◌≡◌, ℕ, Bool, ◌&&◌, List, [], ◌∷◌, ◌++◌, length, replicate, Some, None, Ok, Err, Result, vec_items, Vec, ◌==◌, slice_index_or, slice_set}
use Rattle.std.specs.Int.{from_be_bytes}
use Rattle.std.specs.Str.{bytes_eq}
use Rattle.keyed.specs.Told.{Labels}
use Rattle.keyed.specs.declared.derivation.SessionKeys.{SessionKeys}
use mir.Syntax.{w128}
use Rattle.std.specs.declared.alloc.Global.{Global}
use Rattle.recorded.specs.declared.words.Problem.{Problem}
use Rattle.recorded.specs.declared.words.Problem.TheVariants.{Payload as NoPayload}
use Rattle.text.specs.declared.ParseError.{ParseError}
use Rattle.text.specs.declared.ParseError.TheVariants.{Memory, Unreadable}
use Rattle.recorded.specs.declared.words.Suite.{Suite}
use Rattle.recorded.specs.declared.line.Handshake.{Handshake}
use Rattle.recorded.specs.declared.line.Handshake.TheVariants.{ActReq, ActRes, VfyReq, VfyRes}
use Rattle.recorded.specs.declared.line.Derived.{Derived}
use Rattle.recorded.specs.declared.line.Derived.TheVariants.{Master, Encryption, Integrity, Counter as FirstCounter}
use Rattle.recorded.specs.declared.line.Line.{Line}
use Rattle.recorded.specs.declared.line.Line.TheVariants as line
use Rattle.recorded.specs.declared.session.Session.{Session}
use Rattle.recorded.specs.declared.session.Packet.{Packet}
use Rattle.recorded.specs.Words.{and_then, into, part_of}
use Rattle.recorded.specs.Keys.{GivenBy}

-- the number of sixteen octets, the highest first
abbrev pub counter_of : List ℕ → ℕ
counter_of o = from_be_bytes w128 o

-- a session of which only its first line is read: all else is zero, empty or none
pub record IsFresh (c : Suite) (s : Session) : Type 0 where
  pub suite : s.suite ≡ c
  pub identities : s.identities ≡ record { fob = replicate 10 0; mixer = replicate 10 0 }
  pub nonces : s.nonces ≡ record { fob = replicate 12 0; mixer = replicate 12 0 }
  pub secret : s.secret ≡ replicate 24 0
  pub keys : s.keys ≡ record { master = replicate 16 0; encryption = replicate 16 0; integrity = replicate 16 0; counter = 0 }
  pub fob_key : s.fob_key ≡ None
  pub mixer_key : s.mixer_key ≡ None
  pub act_req : vec_items s.act_req ≡ []
  pub act_res : vec_items s.act_res ≡ []
  pub vfy_req : vec_items s.vfy_req ≡ []
  pub vfy_res : vec_items s.vfy_res ≡ []
  pub packets : vec_items s.packets ≡ []

-- a session with a key, or the first counter
abbrev pub with_derived : Session → Derived → List ℕ → Session
with_derived s Master o = record s { keys = record s.keys { master = o } }
with_derived s Encryption o = record s { keys = record s.keys { encryption = o } }
with_derived s Integrity o = record s { keys = record s.keys { integrity = o } }
with_derived s FirstCounter o = record s { keys = record s.keys { counter = counter_of o } }

-- a session with a message of its handshake
abbrev pub with_message : Session → Handshake → Vec ℕ Global → Session
with_message s ActReq o = record s { act_req = o }
with_message s ActRes o = record s { act_res = o }
with_message s VfyReq o = record s { vfy_req = o }
with_message s VfyRes o = record s { vfy_res = o }

-- a session after a line, but for its packets
abbrev pub taken : Session → Line → Session
taken s (line.Cipher c) = record s { suite = c }
taken s (line.Identities i) = record s { identities = i }
taken s (line.FobKey k) = record s { fob_key = Some k }
taken s (line.MixerKey k) = record s { mixer_key = Some k }
taken s (line.Nonces n) = record s { nonces = n }
taken s (line.Secret z) = record s { secret = z }
taken s (line.Derived d o) = with_derived s d o
taken s (line.Message m o) = with_message s m o
taken s (line.Payload n o) = s
taken s (line.Packet m) = s
taken s (line.Counter o) = s

-- a packet of which only the payload is read
abbrev pub begun : ℕ → Vec ℕ Global → Packet
begun n o = record { number = n; payload = o; message = None; counter = None }

-- packets with the last one changed; there is none where no payload was given
abbrev pub with_last : (Packet → Packet) → List Packet → Result (List Packet) Problem
with_last f [] = Err NoPayload
with_last f (p ∷ ps) = Ok (slice_set (p ∷ ps) (length ps) (f (slice_index_or (p ∷ ps) (length ps) p)))

-- the packets after a line: a payload begins one, and its message and the counter after it are added to the last
abbrev pub packets_after : List Packet → Line → Result (List Packet) Problem
packets_after ps (line.Payload n o) = Ok (ps ++ begun n o ∷ [])
packets_after ps (line.Packet m) = with_last (λ p. record p { message = Some m }) ps
packets_after ps (line.Counter o) = with_last (λ p. record p { counter = Some (counter_of o) }) ps
packets_after ps (line.Cipher c) = Ok ps
packets_after ps (line.Identities i) = Ok ps
packets_after ps (line.FobKey k) = Ok ps
packets_after ps (line.MixerKey k) = Ok ps
packets_after ps (line.Nonces n) = Ok ps
packets_after ps (line.Secret z) = Ok ps
packets_after ps (line.Derived d o) = Ok ps
packets_after ps (line.Message m o) = Ok ps

-- a line that is refused changes nothing; where memory was wanting, the packets too are those that stood there, and only the room for them may differ
abbrev pub IsKept : {A : Type 0} → Result A (ParseError Problem) → Session → Session → Type 0
IsKept (Err (Unreadable p)) a b = b ≡ a
IsKept (Err (Memory e)) a b = (b ≡ record a { packets = b.packets }) × (vec_items b.packets ≡ vec_items a.packets)
IsKept (Ok u) a b = Unit {0}

-- the labels, out of the two messages that carry them
abbrev pub labels_of : List ℕ → List ℕ → Result Labels Problem
labels_of req res = and_then (part_of 25 req 3) (λ f. into (λ m. record { fob = f; mixer = m }) (part_of 25 res 3))

-- each own key has its end's label, and gives the other's label the secret
abbrev pub SecretsAgree : Session → Labels → Type 0
SecretsAgree s l = GivenBy s.fob_key l.fob l.mixer s.secret × GivenBy s.mixer_key l.mixer l.fob s.secret

-- whether keys and counters are the same
abbrev pub same_keys : SessionKeys → SessionKeys → Bool
same_keys a b = bytes_eq a.master b.master && (bytes_eq a.encryption b.encryption && (bytes_eq a.integrity b.integrity && a.counter == b.counter))
