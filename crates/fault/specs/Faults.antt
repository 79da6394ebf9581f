-- The number and the layer of each refusal.
use Rattle.std.specs.Prelude.{ℕ}
use Rattle.fault.specs.declared.HostCause.{HostCause}
use Rattle.fault.specs.declared.HostCause.TheVariants.{Size, PayloadLength, Turn, LastNumber, OwnKey}
use Rattle.fault.specs.declared.MessageCause.{MessageCause}
use Rattle.fault.specs.declared.MessageCause.TheVariants.{Length, Kind, Protocol, Map, DataLength}
use Rattle.fault.specs.declared.HandshakeCause.{HandshakeCause}
use Rattle.fault.specs.declared.HandshakeCause.TheVariants.{Tag as HandshakeTag, Label}
use Rattle.fault.specs.declared.ChannelCause.{ChannelCause}
use Rattle.fault.specs.declared.ChannelCause.TheVariants.{Stale, Ahead, Tag as ChannelTag}
use Rattle.fault.specs.declared.Layer.{Layer}
use Rattle.fault.specs.declared.Layer.TheVariants.{Host, Message, Handshake, Channel}
use Rattle.fault.specs.declared.Fault.{Fault}

-- the number of a refusal; a wrong tag has one number in both layers that check tags
abbrev pub number_of : Layer → ℕ
number_of (Host Size) = 1
number_of (Host PayloadLength) = 2
number_of (Host Turn) = 3
number_of (Host LastNumber) = 4
number_of (Host OwnKey) = 5
number_of (Message Length) = 6
number_of (Message Kind) = 7
number_of (Message Protocol) = 8
number_of (Message Map) = 9
number_of (Message DataLength) = 10
number_of (Channel Stale) = 11
number_of (Channel Ahead) = 12
number_of (Channel ChannelTag) = 13
number_of (Handshake HandshakeTag) = 13
number_of (Handshake Label) = 14

-- the number of the layer
abbrev pub layer_of : Layer → ℕ
layer_of (Host c) = 1
layer_of (Message c) = 2
layer_of (Handshake c) = 3
layer_of (Channel c) = 4

-- a refusal of the host's own doing has place 0
abbrev pub host_fault : HostCause → Fault
host_fault c = record { layer = Host c; place = 0 }

abbrev pub message_fault : MessageCause → ℕ → Fault
message_fault c i = record { layer = Message c; place = i }

abbrev pub handshake_fault : HandshakeCause → ℕ → Fault
handshake_fault c i = record { layer = Handshake c; place = i }

abbrev pub channel_fault : ChannelCause → ℕ → Fault
channel_fault c i = record { layer = Channel c; place = i }
