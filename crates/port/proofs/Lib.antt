mod Replying
mod Replies
mod Words
