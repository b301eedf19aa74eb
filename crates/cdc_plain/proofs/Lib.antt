mod KeptKeys
mod Removal
