-- Isolated regions: what a filter reads for a sample inside one lies inside (ReadsStayInside), so its results inside are the same in two
-- runs (Results); and which regions are isolated (SwitchedOff, SmallRegions, Borders).
pub mod Borders
pub mod Clamping
pub mod ClipPositions
pub mod CornerRules
pub mod Crossing
pub mod EightSteps
pub mod Inside
pub mod PastCtb
pub mod Reach
pub mod ReadPaths
pub mod ReadsStayInside
pub mod RegionsAccepted
pub mod Results
pub mod Samples
pub mod SmallRegions
pub mod Steps
pub mod StepsStayInside
pub mod SwitchedOff
pub mod TapPositions
pub mod UncutStretches
pub mod WholeCtbs
