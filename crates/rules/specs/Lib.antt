pub mod Search
pub mod Findings
pub mod TextOut
pub mod Texts
pub mod Floats
pub mod Digits
pub mod Model
pub mod Emit
pub mod PlaceText
pub mod Locs
pub mod PlaceCall
-- R02
pub mod PgnRange
-- R04
pub mod FrameLength
-- R05
pub mod Repeating
-- R06
pub mod DynamicLength
-- R07
pub mod Proprietary
-- R08, R22
pub mod LookupWiring
pub mod Marks
-- R09
pub mod SpecialValues
-- R11
pub mod FieldCount
-- R12
pub mod ReservedIds
-- R13
pub mod MatchValues
-- R14
pub mod FieldTypeOverrides
-- R15
pub mod BitLengthField
-- R16
pub mod MinLength
-- R20
pub mod Variants
pub mod MatchKeys
-- R21
pub mod UniqueIds
-- R23
pub mod FieldRules
pub mod Fieldtypes
-- R24
pub mod LookupNames
pub mod SpnNames
pub mod Namers
pub mod SpnClashes
-- R42
pub mod Spns
-- R43
pub mod Continues
-- R44
pub mod TrailingZero
pub mod Check
pub mod Checked
-- laws
pub mod SearchLaws
pub mod PlaceLaws
pub mod Clean
pub mod Pdu1
pub mod NamedMax
pub mod Bound
-- examples
pub mod Computed
pub mod ExamplePacks
mod Examples
