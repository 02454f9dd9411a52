pub mod StampOrder
