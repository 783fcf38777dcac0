-- The claims of L13: the table of compositions (Composition), what a narrowed table says of plans (Kept), that nothing more can be cut, in
-- whatever order (Order), which answer is given when (Answers), the specimens (Specimens), and an input for each claim (Examples).
pub mod Kept
pub mod Order
pub mod Specimens
pub mod Examples
