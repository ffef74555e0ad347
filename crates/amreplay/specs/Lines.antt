pub mod CheckedReader
pub mod CheckedWriter
pub mod Printed
pub mod LastLines
pub mod Verdicts
