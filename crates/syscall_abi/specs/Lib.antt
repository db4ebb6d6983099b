pub mod Call
pub mod Forms
pub mod Reply
