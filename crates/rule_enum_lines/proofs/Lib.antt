pub mod EnumNames
pub mod EnumStages
pub mod EnumValues
pub mod EnumLines
