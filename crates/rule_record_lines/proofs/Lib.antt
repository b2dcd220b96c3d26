pub mod FieldLaying
pub mod RecordLines
