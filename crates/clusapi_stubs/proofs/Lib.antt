pub mod EncodingLaws
pub mod InputLaws
pub mod OutputLaws
pub mod Sizes
pub mod Taking
pub mod TextLaws
