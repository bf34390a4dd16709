mod Bits
mod Gathered
mod Options
mod Values
mod Arguments
mod Listings
mod Numerals
mod Fresh
