-- The demands as theorems. What the papers define is in Papers, what a sheet asks in Sheets. Demand 1 is in Answers (which answers there are)
-- and OneAnswer (one for each input), 2 in Accepted (row 0 of the fault table), Faults (rows 1 to 11, with the wrongs of Wrongs) and
-- FaultsOfRules (row 12), 3 in TranslatedGood, FaultsOfTranslation (rows 13 to 15) and Taken; Files says it of files' bytes. Specimens is the
-- table of specimens, Limits that of every number's two sides, and Examples has an input for each row. The other files are the laws that
-- these rest on.
pub mod Papers
pub mod Sheets
pub mod Answers
pub mod OneAnswer
pub mod Accepted
pub mod Wrongs
pub mod Faults
pub mod Editions
pub mod FaultsOfRules
pub mod FaultsOfTranslation
pub mod Taken
pub mod SoundWords
pub mod Files
pub mod Specimens
pub mod Inputs
pub mod RunningSums
pub mod Stages
pub mod FaultsOfTokens
pub mod Timelines
pub mod Matched
pub mod SheetsMet
pub mod RulesMet
pub mod Expansion
pub mod Decoded
pub mod SamePlan
pub mod TranslatedRules
