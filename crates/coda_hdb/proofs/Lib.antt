mod Places
mod Orders
mod Texts
