use Rattle.pw_delay.proofs.Keeping.{words_stay, blocks_stay, turns_stay, sizes_shrink, lawful_stays}
use Rattle.pw_delay.proofs.laws.filling_keeps_parts.Goals as goal

pub returns : goal.returns
returns c = record { words = words_stay; blocks = blocks_stay; turns = turns_stay; sizes = sizes_shrink; lawful = lawful_stays }
