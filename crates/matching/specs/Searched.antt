-- What the contracts of a search cite: the facts of Search, of what it goes by. Assumes nothing.
use Rattle.std.specs.Prelude.{Bool, ℕ}
use Rattle.choice.specs.declared.Tokens.{Tokens}
use Rattle.choice.specs.Met.{Choice}
use Rattle.choice.specs.Asked.{placeable}
use Rattle.marks.specs.Marked.{Source}
use Rattle.matching.specs.declared.Search.{Search}
use Rattle.matching.specs.Search.{token_for, Leads, Begun, Along}

-- no choice for its trigger token has a token in front of its marks
abbrev pub Led : Search → Type 0
Led s = Leads s.book.now s.plan.now s.alternative s.trigger s.lead.now.times s.lead.now.rests

-- c is the choice of its trigger token and of tokens that serve for the first j names
abbrev pub BegunIn : Search → ℕ → Choice → Type 0
BegunIn s j c = Begun s.book.now s.plan.now s.alternative s.trigger j c

-- some tokens of the line of the name after the first j, for its value
abbrev pub AlongIn : Search → ℕ → Tokens → Type 0
AlongIn s j w = Along s.book.now s.plan.now s.alternative j w

-- and every choice for its trigger token has one of them for that name
abbrev pub SourceIn : Search → ℕ → Tokens → Type 0
SourceIn s j w = Source s.book.now s.plan.now s.alternative s.trigger j w.count w.place w.start

-- the n names after the first j can be given tokens, and with one of some tokens for the name after the first j
abbrev pub placeable_in : Search → ℕ → ℕ → Choice → Bool
placeable_in s n j c = placeable s.book.now s.plan.now s.alternative n j c

abbrev pub token_in : Search → ℕ → ℕ → Choice → Tokens → Bool
token_in s n j c w = token_for s.book.now s.plan.now s.alternative n j c w
