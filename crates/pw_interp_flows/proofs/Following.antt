-- What follows behind parts of statements, by what comes of them.
use Rattle.std.proofs.Common.{ℕ, ◌≡◌, refl, ap, ◌∙◌, Bool, true, false, Option, Some, None, List, ◌++◌}
use Rattle.std.specs.Prelude.{if◌then◌else◌}
use Rattle.pw_types.specs.TypedTrees.{Statements, Arms, Otherwise}
use Rattle.pw_types.specs.Labels.{labels_among, labels_of_arms, labels_behind}
use Rattle.pw_cmean.specs.Acts.{Act, State, give, branch}
use Rattle.pw_cmean.specs.Evaluation.{Env, Calls}
use Rattle.pw_cmean.specs.Execution.{Entry, Front, At_label, Flow, Normal, Breaks, Continues, Returns, Goes, holds, items, go_forward, caught, after_body, after_switch}
use Rattle.pw_interp_todo.specs.Going.{members_behind, arm_behind}
use Rattle.pw_interp_todo.specs.Parts.{met_arms}
use Rattle.pw_interp_flows.specs.Behind.{Onward, Met, Left, onward_act, onward, behind_arm, taken, left_by, behind_switch}

module _ (later : Entry → Act Flow) (labels : List ℕ) (s : State) where
  forward : (l : ℕ) (test : Bool) → branch test (later (At_label l)) (give (Goes l)) s ≡ onward_act later (if test then Met (At_label l) else Left (Goes l)) s
  unfolding branch
  forward l true = refl
  forward l false = refl

  go_is : (flow : Flow) → go_forward labels later (later Front) flow s ≡ onward_act later (onward labels flow) s
  unfolding go_forward
  go_is Normal = refl
  go_is Breaks = refl
  go_is Continues = refl
  go_is (Returns v) = refl
  go_is (Goes l) = forward l (holds labels l)

  go_arm_is : (flow : Flow) → go_forward labels later (give Normal) flow s ≡ onward_act later (behind_arm labels flow) s
  unfolding go_forward
  go_arm_is Normal = refl
  go_arm_is Breaks = refl
  go_arm_is Continues = refl
  go_arm_is (Returns v) = refl
  go_arm_is (Goes l) = forward l (holds labels l)

module _ (e : Env) (cs : Calls) (s : State) where
  pub members_are : (rest : Statements) (flow : Flow) → members_behind rest e cs flow s ≡ onward_act (λ at. items rest at cs e) (onward (labels_among rest) flow) s
  unfolding members_behind
  members_are rest flow = go_is (λ at. items rest at cs e) (labels_among rest) s flow

  pub arms_are : (rest : Arms) (o : Otherwise) (flow : Flow)
      → arm_behind rest o e cs flow s ≡ onward_act (λ at. met_arms rest o e at cs) (behind_arm (labels_of_arms rest ++ labels_behind o) flow) s
  unfolding arm_behind
  arms_are rest o flow = go_arm_is (λ at. met_arms rest o e at cs) (labels_of_arms rest ++ labels_behind o) s flow

-- gotos that are taken up
abbrev taken_act : (ℕ → Act Flow) → Flow → Option ℕ → Act Flow
taken_act again flow (Some l) = again l
taken_act again flow None = give flow

caught_is : (labels : List ℕ) (again : ℕ → Act Flow) (s : State) (flow : Flow) → caught labels again flow s ≡ taken_act again flow (taken labels flow) s
unfolding caught branch
caught_is labels again s Normal = refl
caught_is labels again s Breaks = refl
caught_is labels again s Continues = refl
caught_is labels again s (Returns v) = refl
caught_is labels again s (Goes l) = by (holds labels l)
  where
    by : (test : Bool) → branch test (again l) (give (Goes l)) s ≡ taken_act again (Goes l) (if test then Some l else None) s
    by true = refl
    by false = refl

pub caught_some : (labels : List ℕ) (again : ℕ → Act Flow) (s : State) (flow : Flow) (l : ℕ) → taken labels flow ≡ Some l → caught labels again flow s ≡ again l s
caught_some labels again s flow l is = caught_is labels again s flow ∙ ap (λ o. taken_act again flow o s) is

pub caught_none : (labels : List ℕ) (again : ℕ → Act Flow) (s : State) (flow : Flow) → taken labels flow ≡ None → caught labels again flow s ≡ give flow s
caught_none labels again s flow is = caught_is labels again s flow ∙ ap (λ o. taken_act again flow o s) is

-- the body of a loop
abbrev left_act : Act Flow → Option Flow → Act Flow
left_act again (Some flow) = give flow
left_act again None = again

body_is : (again : Act Flow) (flow : Flow) → after_body again flow ≡ left_act again (left_by flow)
unfolding after_body
body_is again Normal = refl
body_is again Continues = refl
body_is again Breaks = refl
body_is again (Returns v) = refl
body_is again (Goes l) = refl

pub body_left : (again : Act Flow) (flow left : Flow) → left_by flow ≡ Some left → after_body again flow ≡ give left
body_left again flow left is = body_is again flow ∙ ap (left_act again) is

pub body_on : (again : Act Flow) (flow : Flow) → left_by flow ≡ None → after_body again flow ≡ again
body_on again flow is = body_is again flow ∙ ap (left_act again) is

pub switch_is : (flow : Flow) → after_switch flow ≡ give (behind_switch flow)
unfolding after_switch
switch_is Normal = refl
switch_is Breaks = refl
switch_is Continues = refl
switch_is (Returns v) = refl
switch_is (Goes l) = refl
