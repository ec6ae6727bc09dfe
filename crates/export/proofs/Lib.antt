mod Calls
mod Whys
