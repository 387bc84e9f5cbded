-- Laws of a call: of the ids as they are looked up (Wanted), of what has passed the tests (Passed), of its count (Counts), and of each of its
-- ends (Ended).
pub mod Wanted
pub mod Passed
pub mod Counts
pub mod Ended
