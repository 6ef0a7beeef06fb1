pub mod Looking
pub mod Putting
pub mod Walking
pub mod Running
pub mod Alike
pub mod Calling
pub mod Accepting
pub mod Lengths
