pub mod Quadrants
