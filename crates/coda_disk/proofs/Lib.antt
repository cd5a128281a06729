mod Spans
mod Puts
mod Writes
mod Fills
mod Taken
