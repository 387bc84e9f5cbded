-- What the entries return of a call.
pub mod Returned
