mod BestKept
mod BestOne
mod Placing
mod TenHolds
