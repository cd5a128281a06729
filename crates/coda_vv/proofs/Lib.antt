mod Lanes
mod Sets
mod Order
