-- Bank files (02, card 2). To be read in this order, beside the card.
pub mod Filters
pub mod Writing
pub mod Reading
