pub mod Clients
pub mod Courses
pub mod Finishing
pub mod Items
pub mod Taking
