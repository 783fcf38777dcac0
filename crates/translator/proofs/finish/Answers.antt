-- `translator::finish` meets its contract: each return is a case of the answer, and the room is written in the last only.
-- Assumes nothing.
use mathlib.Core.Path.{refl}
use native.Mathlib.Omega.{arith}
use Rattle.writing.proofs.Whole.{sizes-by}
use Rattle.translator.proofs.Outcome.{long-none, too_long_lem, too_short, written}
use Rattle.translator.proofs.finish.Goals as goal

pub returns-in-Some : goal.returns-in-Some
returns-in-Some c =
    let z = sizes-by c.requires.0 refl c.count_all-all.ensures.names_value.0 c.count_all-all.ensures.names_value.1 (omega arith) in
    too_long_lem _ _ c.requires.1.0 c.requires.1.1 z _ c.in-Some.ensures

pub overflow_cast-result : goal.overflow_cast-result
overflow_cast-result c = let h = long-none _ _ _ _ c.in_default.ensures in omega (arith, h.1.1.1)

pub returns-then-room-words : goal.returns-then-room-words
returns-then-room-words c =
    let z = sizes-by c.requires.0 refl c.count_all-all.ensures.names_value.0 c.count_all-all.ensures.names_value.1 (omega arith) in
    too_short _ _ c.requires.1.0 c.requires.1.1 z c.in_default.ensures c.if-room-words.true

pub put_book-requires : goal.put_book-requires
put_book-requires c =
    let h = long-none _ _ _ _ c.in_default.ensures in (
      c.requires.0,
      record {
        names = c.count_all-all.ensures.names_value.0;
        atoms = c.count_all-all.ensures.names_value.1;
        few_names = h.1.0;
        few_atoms = h.1.1.0;
        short = omega (arith, h.1.1.1);
        fits = omega arith;
      },
    )

pub overflow_cast-result-2 : goal.overflow_cast-result-2
overflow_cast-result-2 c = let h = long-none _ _ _ _ c.in_default.ensures in omega (arith, h.1.1.1)

pub returns : goal.returns
returns c =
    let z = sizes-by c.requires.0 refl c.count_all-all.ensures.names_value.0 c.count_all-all.ensures.names_value.1 (omega arith) in
    written _ _ c.requires.1.0 c.requires.1.1 z c.in_default.ensures (omega (arith, c.if-room-words.false)) _ _ c.put_book.ensures
