-- What follows behind parts of statements, by what comes of them (ISO C90 6.6).
use Rattle.std.specs.Prelude.{ℕ, if◌then◌else◌, Option, Some, None, List}
use Rattle.pw_cmean.specs.Acts.{Act, give}
use Rattle.pw_cmean.specs.Execution.{Entry, Front, At_label, Flow, Normal, Breaks, Continues, Returns, Goes, holds}
use Rattle.pw_interp_todo.specs.Flows.{view_entry, view_flow}
use Rattle.pw_interp_flows.specs.declared.behind.Onward as code
use Rattle.pw_interp_flows.specs.declared.behind.Onward.TheVariants as O

-- behind a member of a list or an arm of an `if`: where the rest is met, or with what the whole is left
pub data Onward : Type 0 where
  Met : Entry → Onward
  Left : Flow → Onward

abbrev pub view_onward : code.Onward → Onward
view_onward (O.Met at) = Met (view_entry at)
view_onward (O.Left flow) = Left (view_flow flow)

-- the rest that is met, if it is
abbrev pub onward_act : (Entry → Act Flow) → Onward → Act Flow
onward_act later (Met at) = later at
onward_act later (Left flow) = give flow

-- behind a statement of a list, in the rest of which these labels stand
abbrev pub onward : List ℕ → Flow → Onward
onward labels Normal = Met Front
onward labels (Goes l) = if holds labels l then Met (At_label l) else Left (Goes l)
onward labels Breaks = Left Breaks
onward labels Continues = Left Continues
onward labels (Returns v) = Left (Returns v)

-- behind an arm, behind which these labels stand
abbrev pub behind_arm : List ℕ → Flow → Onward
behind_arm labels (Goes l) = if holds labels l then Met (At_label l) else Left (Goes l)
behind_arm labels Normal = Left Normal
behind_arm labels Breaks = Left Breaks
behind_arm labels Continues = Left Continues
behind_arm labels (Returns v) = Left (Returns v)

-- the label to which a goto goes, where it is one of these
abbrev pub taken : List ℕ → Flow → Option ℕ
taken labels (Goes l) = if holds labels l then Some l else None
taken labels Normal = None
taken labels Breaks = None
taken labels Continues = None
taken labels (Returns v) = None

-- with what the body leaves a loop
abbrev pub left_by : Flow → Option Flow
left_by Normal = None
left_by Continues = None
left_by Breaks = Some Normal
left_by (Returns v) = Some (Returns v)
left_by (Goes l) = Some (Goes l)

-- the flow behind a switch
abbrev pub behind_switch : Flow → Flow
behind_switch Breaks = Normal
behind_switch Normal = Normal
behind_switch Continues = Continues
behind_switch (Returns v) = Returns v
behind_switch (Goes l) = Goes l
