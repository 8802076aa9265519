-- A stage as a text: for each event, from the first, a sign and the name; then how the run stands.
use Rattle.std.specs.Prelude.{ℕ, ◌+◌, List, [], ◌∷◌, ◌++◌, codes, if◌then◌else◌}
use Rattle.std.specs.Str.{bytes_eq}
use Rattle.pw_run.specs.Runs.{Stage, Going, Over, Wrong, Ended, StackFull}
use Rattle.pw_run_languages.specs.Traces.{Standing, Event, Called, Refused, Returned, Loaded, Stored}
use Rattle.pw_run_languages.specs.FlowRun as flow

abbrev pub sign : {B V : Type 0} → Event B V → List ℕ
sign (Called f gs rs) = codes " (" ++ f
sign (Refused f) = codes " !" ++ f
sign (Returned f inner gs rs ss) = codes " )" ++ f
sign (Loaded v) = codes " <" ++ v
sign (Stored v) = codes " >" ++ v

abbrev pub told : {B V : Type 0} → List (Event B V) → List ℕ
told [] = []
told (e ∷ l) = told l ++ sign e

abbrev pub story : {B V : Type 0} → Stage (Event B V) → List ℕ
story (Going v) = told v.log ++ codes " .. " ++ v.output
story (Over (Ended status) v) = told v.log ++ codes " = " ++ (48 + status) ∷ codes " " ++ v.output
story (Over StackFull v) = told v.log ++ codes " full " ++ v.output
story Wrong = codes "wrong"

abbrev pub flow_sign : flow.Moment → List ℕ
flow_sign (flow.Called f objects) = codes " (" ++ f
flow_sign (flow.Returned f objects) = codes " )" ++ f

abbrev pub flow_told : List flow.Moment → List ℕ
flow_told [] = []
flow_told (e ∷ l) = flow_told l ++ flow_sign e

abbrev pub flow_story : Stage flow.Moment → List ℕ
flow_story (Going v) = flow_told v.log ++ codes " .. " ++ v.output
flow_story (Over (Ended status) v) = flow_told v.log ++ codes " = " ++ (48 + status) ∷ codes " " ++ v.output
flow_story (Over StackFull v) = flow_told v.log ++ codes " full " ++ v.output
flow_story Wrong = codes "wrong"

-- where the globals stood at the latest call of a function
abbrev pub at_call : {B V : Type 0} → List ℕ → List (Event B V) → List (Standing B V)
at_call f [] = []
at_call f (Called g gs rs ∷ l) = if bytes_eq f g then gs else at_call f l
at_call f (e ∷ l) = at_call f l

abbrev pub globals_at : {B V : Type 0} → List ℕ → Stage (Event B V) → List (Standing B V)
globals_at f (Going v) = at_call f v.log
globals_at f (Over end v) = at_call f v.log
globals_at f Wrong = []
