pub mod Deadline
