pub mod Declared
pub mod Firsts
mod SortedExistentials
mod ReadableExistentials
mod SeenUniversals
mod SizePlaces
mod OrderedUniversals
pub mod Places
