pub mod Ending
pub mod Requests
pub mod Responses
pub mod Written
pub mod Serving
