-- What each kind of word leaves.
-- Assumes nothing.
use Rattle.dis_text.proofs.Takes.{takes_wraps, takes_no_arrivals, takes_pin}
use Rattle.dis_text.proofs.asked.take_word.Goals as goal

pub returns-in-Wraps-clause-pins_after : goal.returns-in-Wraps-clause-pins_after
returns-in-Wraps-clause-pins_after c =
    let a = c.args in
    (takes_wraps a.asked a.entries.now a.pins.now c.requires.2 a.word c.set.result c.in-Wraps.is c.set.ensures).0

pub returns-in-NoArrivals-clause-pins_after : goal.returns-in-NoArrivals-clause-pins_after
returns-in-NoArrivals-clause-pins_after c =
    let a = c.args in
    (takes_no_arrivals a.asked a.entries.now a.pins.now c.requires.2 a.word c.set-in-NoArrivals.result c.in-NoArrivals.is c.set-in-NoArrivals.ensures).0

pub returns-in-Pin-clause-pins_after : goal.returns-in-Pin-clause-pins_after
returns-in-Pin-clause-pins_after c =
    let a = c.args in
    (takes_pin a.asked a.entries.now a.pins.now c.requires.2 a.word c.set-in-Pin.result c.in-Pin.is c.set-in-Pin.ensures).0
