pub mod RunWriter
