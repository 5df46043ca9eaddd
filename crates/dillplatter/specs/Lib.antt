-- What a buyer reads: the number that stands for each answer.
pub mod Told
