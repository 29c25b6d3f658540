-- The root of what is promised of listings.
pub mod Numerals
pub mod Put
pub mod Page
pub mod Listing
pub mod Lists
pub mod Examples
pub mod Seen
