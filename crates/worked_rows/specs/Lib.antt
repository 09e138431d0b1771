pub mod Call
pub mod VideoCall
