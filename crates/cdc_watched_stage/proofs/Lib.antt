mod Waiting
mod Handed
