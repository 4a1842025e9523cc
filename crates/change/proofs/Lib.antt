pub mod Entering
pub mod Framed
pub mod Next
pub mod Carrying
