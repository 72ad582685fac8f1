pub mod NumberPlaces
