mod Calls
mod Sealing
mod Going
