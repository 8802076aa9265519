use Rattle.std.proofs.Common.{◌≡◌, ◌++◌, take, ◌<◌, get_or, List, ℕ}
use Rattle.std.specs.List.{flat_map}
use Rattle.std.specs.Prelude.{Option, Bool}
use Rattle.pw_value.specs.declared.value.Kind.{Kind}
use Rattle.pw_fields.specs.Fields.{FitsText}
use Rattle.pw_summary_parts.specs.Spelling.{global}
use Rattle.pw_summary_parts.proofs.writing.push_global_items.Given as goal

abbrev pub invariant-loop-global : goal.invariant-loop-global
invariant-loop-global l = record {
  written : l.out.items ≡ l.fn.out.items ++ flat_map (global l.names) (take l.global-index l.globals);
  fits : (k : ℕ) → k < l.global-index → (d : List ℕ × List ℕ × Option Kind × Bool) → FitsText (get_or l.globals k d).1;
}
