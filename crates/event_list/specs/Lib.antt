-- The definitions of L6: a plan's events (Events), their words (Words), what they say of each moment (Moments), the plan's words (Plans), reading a
-- list (Reading), words that are stored and compared (Sends), and what writing and reading answer and leave in the room (Answers).
pub mod Events
pub mod Words
pub mod Moments
pub mod Plans
pub mod Reading
pub mod Sends
pub mod Answers
