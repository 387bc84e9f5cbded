-- What scan, rerank and count leave, in the words of a call (Found), and how it ends (Ended).
pub mod Found
pub mod Ended
