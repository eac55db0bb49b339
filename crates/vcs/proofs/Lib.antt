-- The state in C against the rules' own; then the functions' proofs.
pub mod States
