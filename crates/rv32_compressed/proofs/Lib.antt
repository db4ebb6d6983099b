pub mod ByQuadrant
