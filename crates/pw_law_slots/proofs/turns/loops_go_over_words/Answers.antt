use Rattle.pw_law_slots.proofs.Looping.{goes_over, led_back, plain_filled}
use Rattle.pw_law_slots.proofs.turns.loops_go_over_words.Goals as goal

pub returns : goal.returns
returns c = record { over = goes_over; back = led_back; stay = plain_filled }
