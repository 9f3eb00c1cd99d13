pub mod Layout
-- stops 3 to 9
pub mod Stops
pub mod Passes
pub mod Visits
pub mod Walk
pub mod Held
-- what else "held" can mean
pub mod HeldReadings
pub mod Guarantee
pub mod ByPlace
-- the sets as values
pub mod SetsOf
-- the stops in parts
pub mod StopParts
-- what the values of the walk mean
pub mod State
pub mod Steps
-- visits in a run
pub mod Runs
-- the calls
pub mod WalkCall
pub mod Traces
pub mod Naming
-- demand 3
pub mod Demand3
