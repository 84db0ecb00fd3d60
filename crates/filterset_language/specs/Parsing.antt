-- Reading from left to right, and what the parser's functions promise each other. Of public contracts only those of `lengths`
-- cite this.
pub mod Front
pub mod Escapes
pub mod Seam
pub mod Position
pub mod RawTexts
pub mod PlatformNames
pub mod Globs
pub mod Words
pub mod Descent
pub mod Recovery
pub mod Outcome
pub mod Whole
