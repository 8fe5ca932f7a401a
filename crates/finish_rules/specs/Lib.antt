-- What an update of the finish panels is refused for.
pub mod Rules
