-- Laws of lists that are written part by part.
pub mod Overwritten
pub mod Painted
pub mod PaintedRects
pub mod Parts
pub mod Pasted
pub mod Regions
