-- The claims of L10: Removed has what the shorter book is and which plans pass it, Answers when each answer is given and what the lent words are
-- afterwards, Unchanged that an empty list changes nothing, Easing that it is an easing, Specimens computed cases. Rebuilt has the laws of a book written anew.
pub mod Answers
pub mod Specimens
pub mod Easing
