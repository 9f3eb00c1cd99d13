-- every two fields of one SPN
pub mod Scalings
-- what a report says of them
pub mod Report
