pub mod Steps
pub mod AlignedLaws
pub mod ValueLaws
pub mod StringLaws
pub mod CanonicalLaws
