use Rattle.pw_law_levels.proofs.Framed.{some_block, frame_of}
use Rattle.pw_law_levels.proofs.selected_functions_are_framed.Goals as goal

pub returns : goal.returns
returns c = λ x g f n is items sparing frame entries.
    let pointed = c.selected_functions_are_pointed.ensures x g f is items sparing in
    let first = some_block f.body.blocks sparing.start in
    record {
      leveled = c.pointed_functions_are_leveled.ensures.leveled x g pointed;
      frame = frame_of g.located f is (c.selected_items_are_shaped.ensures.frame f n frame);
      first = c.selected_items_are_shaped.ensures.begin x g f items;
      goes = c.selected_items_are_shaped.ensures.go_on x g f first.0 first.1 items first.2;
      loops = c.pointed_functions_are_leveled.ensures.loops x g pointed;
      entries = entries;
    }
