pub mod Steps
pub mod Handshake
pub mod Packets
pub mod Within
pub mod Laws
