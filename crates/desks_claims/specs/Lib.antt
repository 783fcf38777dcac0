-- The claims of L5 and L14. Accepted: a desk accepts exactly if, and its count; Faults: 12, 19 and the others, each exactly if; Undivided: the
-- judge accepts exactly if both desks do; Undisturbed: what the other desk writes changes no answer; Eased and Easing: adding alternatives and
-- removing rules can't fail a plan. Specimens is the table of cases, Examples and EasingExamples have an input for each "if". Numbering, FirstUnmet
-- and EasingLaws are the laws that these rest on, Removing says that taking rules out by number is such an easing.
pub mod Accepted
pub mod Faults
pub mod Undisturbed
pub mod Eased
pub mod Easing
pub mod Specimens
pub mod Examples
pub mod EasingExamples
pub mod Numbering
pub mod Removing
