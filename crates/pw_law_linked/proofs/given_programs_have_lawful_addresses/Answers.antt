use Rattle.pw_law_linked.proofs.Spans.{names_distinct, addresses_lawful, globals_given, own_given}
use Rattle.pw_law_linked.proofs.given_programs_have_lawful_addresses.Goals as goal

pub returns-clause-distinct : goal.returns-clause-distinct
returns-clause-distinct c = names_distinct

pub returns-clause-addresses : goal.returns-clause-addresses
returns-clause-addresses c =
    addresses_lawful c.modules_stand_in_order.ensures.stay
    (λ p d functions objects behind given. c.linked_addresses_are_lawful.ensures p d functions objects behind given.program given.apart given.serve given.made given.fits)

pub returns-clause-globals : goal.returns-clause-globals
returns-clause-globals c =
    globals_given c.modules_stand_in_order.ensures.stay
    (λ p d functions objects behind given. c.linked_addresses_are_lawful.ensures p d functions objects behind given.program given.apart given.serve given.made given.fits)

pub returns-clause-own : goal.returns-clause-own
returns-clause-own c =
    own_given c.modules_stand_in_order.ensures.stay
    (λ p d functions objects behind given. c.linked_addresses_are_lawful.ensures p d functions objects behind given.program given.apart given.serve given.made given.fits)
