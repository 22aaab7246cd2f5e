pub mod Form
pub mod Sample
