pub mod Drawing
pub mod Picked
pub mod Computed
pub mod MadeGraph
pub mod MadeTyped
pub mod MadePrinted
pub mod MadeRight
