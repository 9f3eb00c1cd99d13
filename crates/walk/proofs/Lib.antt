-- tests as facts; what stop 1 shuts out
pub mod Tests
pub mod SetFacts
-- the sets as values, the passes as numbers
pub mod SetValues
pub mod PassNumbers
pub mod PassLaws
-- the stops in parts
pub mod Parts
-- what is remembered of the fields
pub mod Readings
-- the law of position; the walk by place; the rounds
pub mod Invariants
pub mod Position
pub mod Agree
pub mod Rounds
-- the loop
pub mod Walks
-- runs of visits
pub mod Made
pub mod Plain
pub mod WalkCalls
-- the guarantee against stops
pub mod Never
pub mod HeldSets
-- every reading of what is held implies the widest
pub mod HeldWidest
pub mod Clean
pub mod CleanSets
pub mod CleanFields
pub mod NoStop
pub mod Examples
-- demand 3, over the two calls
pub mod TwoCalls
