pub mod Spaces
pub mod UnitsRead
pub mod NumbersRead
pub mod DataRead
