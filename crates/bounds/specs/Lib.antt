-- Lower bounds between twelve times: what it is to meet them and the earliest times that do, and the steps on the way.
pub mod Bounds
pub mod Steps
