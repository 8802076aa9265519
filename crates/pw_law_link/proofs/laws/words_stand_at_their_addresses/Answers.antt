use Rattle.pw_law_link.proofs.Places.{words_stand, functions_are, all_pieces, functions_apart}
use Rattle.pw_law_link.proofs.laws.words_stand_at_their_addresses.Goals as goal

pub returns-clause-words : goal.returns-clause-words
returns-clause-words c = words_stand

pub returns-clause-map : goal.returns-clause-map
returns-clause-map c = functions_are

pub returns-clause-pieces : goal.returns-clause-pieces
returns-clause-pieces c = all_pieces

pub returns-clause-apart : goal.returns-clause-apart
returns-clause-apart c = functions_apart
