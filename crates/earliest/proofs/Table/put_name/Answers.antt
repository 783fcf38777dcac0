-- `earliest::Table::put_name` meets its contract. Assumes nothing.
use Prim.Native.Nat.{◌+◌}
use mathlib.Core.Path.{◌≡◌}
use Rattle.words.specs.Words.{word}
use Rattle.earliest.specs.Steps.{value_place}
use Rattle.earliest.proofs.Filling.{lasting_as}
use Rattle.earliest.proofs.Table.put_name.Goals as goal

pub returns : goal.returns
returns c =
    let a = c.args in
    let least : c.word_at-least.result ≡ word a.b.now (value_place a.b.now a.u a.v) = cc in
    let greatest : c.word_at-greatest.result ≡ word a.b.now (value_place a.b.now a.u a.v + 1) = cc in
    lasting_as least greatest c.put_token.ensures
