pub mod WordPlaces
