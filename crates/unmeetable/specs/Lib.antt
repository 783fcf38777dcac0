-- What the answers of `earliest` mean. Answers: "yes" exactly if times exist, "no" exactly if none do, and two permitted answers are equal.
-- Never: an alternative with "no" never meets a rule. Cases: each of them with an input.
pub mod Never
pub mod Cases
