-- What was read, with octets as lists of numbers.
use Rattle.std.specs.Prelude.{ℕ, List, vec_items}
use Rattle.script.specs.declared.Who.{Who}
use Rattle.script.specs.declared.CipherName.{CipherName}
use Rattle.script.specs.declared.Source.{Source}
use Rattle.script.specs.declared.Source.TheVariants.{Last, Message, Octets as SourceOctets}
use Rattle.script.specs.declared.Payload.{Payload}
use Rattle.script.specs.declared.Payload.TheVariants.{Octets as PayloadOctets, Count}
use Rattle.script.specs.declared.KeyText.{KeyText}
use Rattle.script.specs.declared.KeyText.TheVariants.{Bench, Chip}
use Rattle.script.specs.declared.Call.{Call}
use Rattle.script.specs.declared.Call.TheVariants.{Invite, Answer, Prove, Confirm, Finish, Seal, Unseal, Close}
use Rattle.script.specs.declared.Statement.{Statement}
use Rattle.script.specs.declared.Statement.TheVariants.{Cipher, Identities, Key, Nonce, Cut, Alter, Append, Workspace, Output, Call as CallOf, Lose, Pass}

-- which message a call is given
pub data SourceView : Type 0 where
  last : SourceView
  message : ℕ → SourceView
  given : List ℕ → SourceView

abbrev pub source_view : Source → SourceView
source_view Last = last
source_view (Message n) = message n
source_view (SourceOctets o) = given (vec_items o)

-- what a call seals
pub data PayloadView : Type 0 where
  these : List ℕ → PayloadView
  count : ℕ → PayloadView

abbrev pub payload_view : Payload → PayloadView
payload_view (PayloadOctets o) = these (vec_items o)
payload_view (Count n) = count n

-- a key
pub data KeyView : Type 0 where
  bench : ℕ → KeyView
  chip : List ℕ → KeyView

abbrev pub key_view : KeyText → KeyView
key_view (Bench n) = bench n
key_view (Chip o) = chip (vec_items o)

-- a call of an end
pub data CallView : Type 0 where
  invite : CallView
  answer : SourceView → CallView
  prove : SourceView → CallView
  confirm : SourceView → CallView
  finish : SourceView → CallView
  seal : PayloadView → CallView
  unseal : SourceView → CallView
  close : CallView

abbrev pub call_view : Call → CallView
call_view Invite = invite
call_view (Answer s) = answer (source_view s)
call_view (Prove s) = prove (source_view s)
call_view (Confirm s) = confirm (source_view s)
call_view (Finish s) = finish (source_view s)
call_view (Seal p) = seal (payload_view p)
call_view (Unseal s) = unseal (source_view s)
call_view Close = close

-- what a line asks for
pub data StatementView : Type 0 where
  cipher : CipherName → StatementView
  identities : Who → List ℕ → List ℕ → StatementView
  key : Who → KeyView → StatementView
  nonce : Who → List ℕ → StatementView
  cut : ℕ → StatementView
  alter : ℕ → ℕ → StatementView
  append : List ℕ → StatementView
  workspace : ℕ → StatementView
  output : ℕ → StatementView
  call : Who → CallView → StatementView
  lose : StatementView
  pass : ℕ → ℕ → StatementView

abbrev pub statement_view : Statement → StatementView
statement_view (Cipher c) = cipher c
statement_view (Identities w f m) = identities w f m
statement_view (Key w k) = key w (key_view k)
statement_view (Nonce w o) = nonce w o
statement_view (Cut n) = cut n
statement_view (Alter p m) = alter p m
statement_view (Append o) = append (vec_items o)
statement_view (Workspace n) = workspace n
statement_view (Output n) = output n
statement_view (CallOf w c) = call w (call_view c)
statement_view Lose = lose
statement_view (Pass n m) = pass n m
