mod Payloads
mod Pairs
mod Joint
