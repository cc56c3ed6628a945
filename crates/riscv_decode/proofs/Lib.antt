mod Agreement
mod Instructions
mod Places
mod Encodings
mod InRange
mod RoundTrips
