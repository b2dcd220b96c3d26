pub mod TypeShapes
