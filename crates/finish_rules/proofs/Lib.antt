-- `Rules` has inputs that are accepted.
pub mod Rules
