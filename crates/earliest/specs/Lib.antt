-- What `earliest` answers, on the decoded book, and the steps on the way.
pub mod Times
pub mod Steps
