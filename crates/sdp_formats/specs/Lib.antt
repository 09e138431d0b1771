pub use Rattle.sdp_formats_data.specs.Asserted
pub use Rattle.sdp_formats_data.specs.Errors
pub use Rattle.sdp_formats_data.specs.Wholes
pub use Rattle.sdp_formats_faults.specs.Faults
pub use Rattle.sdp_formats_reader.specs.ReaderErrors
