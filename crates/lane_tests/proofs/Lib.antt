mod Sending
mod Relaying
