-- Which bits a call on lanes reads and writes.
pub mod WritesOnly
pub mod ReadsOnly
