mod Adding
mod Matched
mod Faults
mod SizeLemmas
mod Words
