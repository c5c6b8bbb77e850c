-- Claims about whole pictures.
pub mod RewrittenOutside
pub mod WholePictures
