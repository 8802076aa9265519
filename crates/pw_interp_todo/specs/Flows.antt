-- Entries and flows of the code, as the meaning has them.
use Rattle.pw_cmean.specs.Execution as execution
use Rattle.pw_interp_todo.specs.declared.flow.Entry.{Entry}
use Rattle.pw_interp_todo.specs.declared.flow.Entry.TheVariants as E
use Rattle.pw_interp_todo.specs.declared.flow.Flow.{Flow}
use Rattle.pw_interp_todo.specs.declared.flow.Flow.TheVariants as F

abbrev pub view_entry : Entry → execution.Entry
view_entry E.Front = execution.Front
view_entry (E.AtLabel l) = execution.At_label l

abbrev pub view_flow : Flow → execution.Flow
view_flow F.Normal = execution.Normal
view_flow F.Breaks = execution.Breaks
view_flow F.Continues = execution.Continues
view_flow (F.Returns v) = execution.Returns v
view_flow (F.Goes l) = execution.Goes l
