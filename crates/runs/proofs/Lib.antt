pub mod Closure
pub mod Steps
pub mod Standing
pub mod Running
pub mod Consequences
pub mod Table
pub mod Drawn
pub mod Past
