mod Ordered
mod Rules
mod Maps
