pub mod Notes
pub mod ReadList
pub mod Files
