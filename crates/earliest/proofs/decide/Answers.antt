-- `earliest::decide` meets its contract: the least times of the table are the earliest of the alternative. Assumes nothing.
use native.Mathlib.Omega.{arith}
use borrow.Author.Rules.{rules}
use Rattle.earliest.proofs.Answering.{few_alternatives_lem, fits_read, no_read, without_read, with_read}
use Rattle.earliest.proofs.decide.Goals as goal

pub places_of-p-requires : goal.places_of-p-requires
places_of-p-requires c = omega (arith, few_alternatives_lem c.args.b.now c.args.a c.requires.0 c.requires.1)

pub least_times-requires : goal.least_times-requires
least_times-requires c = (fits_read c.requires.0 c.requires.1 c.trigger_of-t.ensures c.places_of-p.ensures, search rules)

pub returns-then-not-least_times : goal.returns-then-not-least_times
returns-then-not-least_times c =
    no_read c.requires.0 c.requires.1 c.trigger_of-t.ensures c.places_of-p.ensures c.least_times.ensures _ c.if-not-least_times.true

pub overflow_add-p : goal.overflow_add-p
overflow_add-p c = omega (arith, (fits_read c.requires.0 c.requires.1 c.trigger_of-t.ensures c.places_of-p.ensures).few)

pub show-requires : goal.show-requires
show-requires c = omega (arith, (fits_read c.requires.0 c.requires.1 c.trigger_of-t.ensures c.places_of-p.ensures).few)

pub show-requires-in-None : goal.show-requires-in-None
show-requires-in-None c = omega (arith, (fits_read c.requires.0 c.requires.1 c.trigger_of-t.ensures c.places_of-p.ensures).few)

pub returns-in-Some : goal.returns-in-Some
returns-in-Some c =
    with_read c.requires.0 c.requires.1 c.trigger_of-t.ensures c.places_of-p.ensures c.least_times.ensures _ c.if-not-least_times.false c.in-Some.is c.show.ensures

pub returns-in-None : goal.returns-in-None
returns-in-None c =
    without_read c.requires.0 c.requires.1 c.trigger_of-t.ensures c.places_of-p.ensures c.least_times.ensures c.if-not-least_times.false c.in-None.is c.show-in-None.ensures
