-- What a reader takes, in terms of the rules.
pub mod Take
