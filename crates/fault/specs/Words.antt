-- A refusal in words for people.
use Rattle.std.specs.Prelude.{ℕ, List, ◌++◌, codes, decimal}
use Rattle.fault.specs.declared.HostCause.{HostCause}
use Rattle.fault.specs.declared.HostCause.TheVariants.{Size, PayloadLength, Turn, LastNumber, OwnKey}
use Rattle.fault.specs.declared.MessageCause.{MessageCause}
use Rattle.fault.specs.declared.MessageCause.TheVariants.{Length, Kind, Protocol, Map, DataLength}
use Rattle.fault.specs.declared.HandshakeCause.{HandshakeCause}
use Rattle.fault.specs.declared.HandshakeCause.TheVariants.{Tag as HandshakeTag, Label}
use Rattle.fault.specs.declared.ChannelCause.{ChannelCause}
use Rattle.fault.specs.declared.ChannelCause.TheVariants.{Stale, Ahead, Tag as ChannelTag}
use Rattle.fault.specs.declared.Layer.{Layer}
use Rattle.fault.specs.declared.Layer.TheVariants.{Host, Message, Handshake, Channel}
use Rattle.fault.specs.declared.Fault.{Fault}
use Rattle.fault.specs.Faults.{number_of}

-- the name of a layer
abbrev pub layer_name : Layer → List ℕ
layer_name (Host c) = codes "host"
layer_name (Message c) = codes "message"
layer_name (Handshake c) = codes "handshake"
layer_name (Channel c) = codes "channel"

-- what is wrong, layer by layer
abbrev pub host_meaning : HostCause → List ℕ
host_meaning Size = codes "wrong size of a buffer, key or counter"
host_meaning PayloadLength = codes "payload too long"
host_meaning Turn = codes "not this end's turn"
host_meaning LastNumber = codes "last number reached"
host_meaning OwnKey = codes "own key cannot be made"

abbrev pub message_meaning : MessageCause → List ℕ
message_meaning Length = codes "wrong length"
message_meaning Kind = codes "not the awaited kind"
message_meaning Protocol = codes "another protocol identifier"
message_meaning Map = codes "wrong map of fields"
message_meaning DataLength = codes "data length over the limit"

abbrev pub handshake_meaning : HandshakeCause → List ℕ
handshake_meaning HandshakeTag = codes "wrong tag"
handshake_meaning Label = codes "invalid label"

abbrev pub channel_meaning : ChannelCause → List ℕ
channel_meaning Stale = codes "number not above the own one"
channel_meaning Ahead = codes "number more than one above the own one"
channel_meaning ChannelTag = codes "wrong tag"

abbrev pub meaning : Layer → List ℕ
meaning (Host c) = host_meaning c
meaning (Message c) = message_meaning c
meaning (Handshake c) = handshake_meaning c
meaning (Channel c) = channel_meaning c

-- what is printed of a refusal
abbrev pub sentence : Fault → List ℕ
sentence f =
    codes "refusal " ++ (decimal (number_of f.layer) ++ (codes ", " ++ (layer_name f.layer
    ++ (codes " layer, place " ++ (decimal f.place ++ (codes ": " ++ meaning f.layer))))))
