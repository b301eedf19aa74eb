mod Spelled
mod Feeds
