pub mod Lists
pub mod Numbers
pub mod Reading
pub mod Written
