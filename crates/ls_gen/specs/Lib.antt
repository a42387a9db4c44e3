pub mod Generated
pub mod Shapes
pub mod Asked
