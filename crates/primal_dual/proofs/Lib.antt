mod Products
mod Terms
mod Totals
mod Steps
