mod Laws
mod Built
mod Accepted
