mod Steps
mod Supplied
