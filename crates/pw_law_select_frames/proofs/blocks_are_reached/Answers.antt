use Rattle.pw_law_select_frames.proofs.Known.{Known}
use Rattle.pw_law_select_frames.proofs.Blocks.{block_begins, jump_leads, branch_leads}
use Rattle.pw_law_select_frames.proofs.blocks_are_reached.Goals as goal

pub returns-clause-begin : goal.returns-clause-begin
returns-clause-begin c = block_begins

pub returns-clause-jump : goal.returns-clause-jump
returns-clause-jump c = jump_leads

pub returns-clause-branch : goal.returns-clause-branch
returns-clause-branch c = let known : Known = record { joins = c.straight_words_run.ensures.joined; notes = c.straight_words_run.ensures.noted; run = c.straight_words_run.ensures.run; quiet = c.words_are_made.ensures.quiet; constants = c.words_are_made.ensures.constants; addresses = c.words_are_made.ensures.addresses; loads = c.frame_words_move.ensures.loaded; stores = c.frame_words_move.ensures.stored; temporaries = c.operands_are_loaded.ensures.temporary; read = c.numbers_are_stored.ensures.read; other = c.numbers_are_stored.ensures.byte; bounded = c.numbers_are_stored.ensures.bounded; bytes = c.numbers_are_stored.ensures.bytes } in λ p w scratch. branch_leads p w scratch known c.straight_words_run.ensures.lines c.operands_are_loaded.ensures.operand
