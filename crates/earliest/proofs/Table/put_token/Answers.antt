-- `earliest::Table::put_token` meets its contract: two differences. Assumes nothing.
use Rattle.earliest.proofs.Filling.{added_then, token-apart}
use Rattle.earliest.proofs.Table.put_token.Goals as goal

pub returns : goal.returns
returns c =
    let a = c.args in
    added_then c.put_difference.ensures c.put_difference-2.ensures (λ z o. token-apart a.k a.least a.greatest z)
