pub mod Edges
pub mod RuledOut
