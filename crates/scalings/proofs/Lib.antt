pub mod FloatLaws
pub mod AlikeLaws
pub mod Causes
pub mod Silent42
pub mod ReportRead
pub mod Examples
