-- What a reader must believe: the forms of commands, the lines, the words of an ending, what is due, what each status means.
pub mod Commands
pub mod Lines
pub mod Endings
pub mod Sessions
pub mod Runs
pub mod Meanings
pub mod Statuses
pub mod Explained
pub mod Performed
