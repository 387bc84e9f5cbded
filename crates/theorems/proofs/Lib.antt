-- Demand 2 and what goes with it in Library, the limit theorem in Limit. Demand 3: (1) to (3) in Improves, (4) in Alike, (5) in Finds.
pub mod Improves
pub mod Own
pub mod Alike
pub mod Finds
pub mod Exhibit
pub mod Demand
pub mod Library
pub mod Limit
