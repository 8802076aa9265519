pub mod ImageFaults
