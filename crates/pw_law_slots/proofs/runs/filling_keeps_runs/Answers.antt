use Rattle.pw_law_slots.proofs.Following.{filling_keeps}
use Rattle.pw_law_slots.proofs.runs.filling_keeps_runs.Goals as goal

pub returns : goal.returns
returns c = λ p w scratch input fillable.
    filling_keeps c.late_logs_compose.ensures.itself (record {
      sources = c.actions_go_by_registers.ensures.sources;
      targets = c.actions_go_by_registers.ensures.targets;
      alone = c.parts_are_filled_alone.ensures.parts;
    }) p w scratch input fillable
