pub mod Asked
pub mod Callers
pub mod Checked
pub mod Numbers
pub mod TableLines
pub mod Texts
