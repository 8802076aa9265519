-- Blocks that begin, as what their insides lead to.
use Rattle.std.proofs.Common.{ℕ, zero, suc, ◌+◌, ◌-◌, ◌≡◌, ◌<◌, ◌≤◌, refl, sym, ap, subst, ◌∙◌, Option, Some, None, List, [], ◌∷◌, ◌++◌, length, Err, arith, option_and_then}
use Rattle.std.specs.Prelude.{slice_get, slice_set}
use Rattle.pw_value.specs.Objects.{Object, with_object as with_new_object}
use Rattle.pw_types.specs.TypeTrees.{type_of}
use Rattle.pw_types.specs.TypedTrees.{Statement, LocalValue}
use Rattle.pw_types.specs.declared.record.Layout.{Layout}
use Rattle.pw_types.specs.Layouts.{layout_of}
use Rattle.pw_interp_state.specs.Views.{fresh}
use Rattle.pw_interp_state.specs.Shown.{Shown}
use Rattle.pw_interp_state.specs.Runs.{Runs}
use Rattle.pw_interp_state.proofs.RunLaws.{ends}
use Rattle.pw_cmean.specs.Worlds.{World}
use Rattle.pw_cmean.specs.Acts.{Act, Wrong, give, ◌>>=◌, ◌>>◌, end_object}
use Rattle.pw_cmean.specs.Evaluation.{Env, records_of}
use Rattle.pw_cmean.specs.Execution as execution
use Rattle.pw_cmean.specs.Execution.{with_locals, with_number}
use Rattle.pw_cmean.specs.SourceRun.{calls}
use Rattle.pw_interp_todo.specs.declared.statements.Part.TheVariants as P
use Rattle.pw_interp_todo.specs.declared.todo.Todo.{Todo}
use Rattle.pw_interp_todo.specs.declared.todo.Todo.TheVariants as T
use Rattle.pw_interp_todo.specs.Leading.{Leads}
use Rattle.pw_interp_todo.specs.Members.{first_in, count_in, initialisers_in, members_in}
use Rattle.pw_interp_todo.specs.Parts.{inside, part_act}
use Rattle.pw_interp_todo.specs.Resuming.{Rest, Flowed, after, resume, put_back}
use Rattle.pw_interp_todo.proofs.ActLaws.{grouped, follow_same, given_on}
use Rattle.pw_interp_todo.proofs.LeadLaws.{further, same_lead, named, in_front}
use Rattle.pw_interp_todo.proofs.Resumes.{resume_last}
use Rattle.pw_interp_functions.specs.Locals.{made_one, made_at, made_by}
use Rattle.pw_interp_functions.proofs.LocalLaws.{one_leads, one_stops}

-- a local that goes out of scope has what it had before
set_back : (numbers : List (Option ℕ)) (k : ℕ) (new : Option ℕ) → slice_set (slice_set numbers k new) k (option_and_then (λ n. n) (slice_get numbers k)) ≡ numbers
set_back [] k new = refl
set_back (n ∷ more) zero new = refl
set_back (n ∷ more) (suc k) new = ap (λ rest. n ∷ rest) (set_back more k new)

pub put_back_is : (k number : ℕ) (before : Option ℕ) (e : Env) → before ≡ option_and_then (λ n. n) (slice_get e.numbers k) → put_back k before (with_number k number e) ≡ e
put_back_is k number before e is =
    ap (λ (old : Option ℕ). put_back k old (with_number k number e)) is ∙ ap (λ (numbers : List (Option ℕ)). record e { numbers = numbers }) (set_back e.numbers k (Some number))

-- of a local that has its object
pub noted_is : (k number : ℕ) (before : Option ℕ) (e inner : Env) (objects more : List Object) → made_one k e objects ≡ Some (inner, more) → number ≡ length objects
    → before ≡ option_and_then (λ n. n) (slice_get e.numbers k) → put_back k before inner ≡ e
noted_is k number before e inner objects more made_so numbered is =
    ap (put_back k before) (sym (by (slice_get e.locals k) made_so)) ∙ put_back_is k (length objects) before e is
  where
    deep : (l : LocalValue) (o : Option Layout) → made_by k e objects l o ≡ Some (inner, more) → with_number k (length objects) e ≡ inner
    deep l None none = cc none
    deep l (Some layout) found =
        let here : Env × List Object = (with_number k (length objects) e, with_new_object (fresh layout.size l.writable) objects) in
        let wanted : Env × List Object = (inner, more) in
        let pair : here ≡ wanted = cc found in
        ap (λ (p : Env × List Object). p.0) pair

    by : (o : Option LocalValue) → made_at k e objects o ≡ Some (inner, more) → with_number k (length objects) e ≡ inner
    by None none = cc none
    by (Some l) found = deep l (layout_of (records_of e) (type_of l.ty)) found

-- the inside of a block
abbrev inner_act : Statement → execution.Entry → World → ℕ → Env → Act execution.Flow
inner_act s at world n e = inside (initialisers_in s) (members_in s) at (calls world n) e

module _ (s : Statement) (at : execution.Entry) (e : Env) (n bound done local : ℕ) (todo : List Todo) (rest : Rest) where
  abbrev then_flow : execution.Flow → Act (Unit {0})
  then_flow flow = resume todo rest e bound (Flowed flow)

  part_is : done < count_in s → local ≡ first_in s + done → part_act (P.Locals done) s at e n ≡ with_locals (suc (count_in s - (done + 1))) local (inner_act s at e.world n) e
  part_is more place =
      let count : count_in s - done ≡ suc (count_in s - (done + 1)) = omega (arith, more) in
      ap (λ k. with_locals k (first_in s + done) (inner_act s at e.world n) e) count ∙ ap (λ k. with_locals (suc (count_in s - (done + 1))) k (inner_act s at e.world n) e) (sym place)

  -- the next local of a block
  pub local_leads : {world : World} {w : Shown} (inner : Env) (objects : List Object) (number : ℕ) (before : Option ℕ) → done < count_in s → local ≡ first_in s + done → made_one local e w.objects ≡ Some (inner, objects)
      → number ≡ length w.objects → put_back local before inner ≡ e → inner.world ≡ e.world
      → Leads world (part_act (P.Locals done) s at e n >>= λ flow. resume todo rest e bound (Flowed flow)) w
      (part_act (P.Locals (done + 1)) s at inner n >>= λ flow. resume (todo ++ T.EndLocal local number before ∷ []) rest inner bound (Flowed flow)) (record w { objects = objects })
  unfolding after
  local_leads {world = world} {w = w} inner objects number before more place made_so numbered back home =
      let left = count_in s - (done + 1) in
      let others : Act execution.Flow = with_locals left (suc local) (inner_act s at e.world n) inner in
      let next : first_in s + (done + 1) ≡ suc local = omega (arith, place) in
      let others_are : others ≡ part_act (P.Locals (done + 1)) s at inner n =
      ap (λ k. with_locals left k (inner_act s at e.world n) inner) (sym next) ∙ ap (λ x. with_locals left (first_in s + (done + 1)) (inner_act s at x n) inner) (sym home) in
      let k = T.EndLocal local number before in
      further (named (ap (λ act. act >>= then_flow) (part_is more place)))
      (further (in_front then_flow (one_leads world (inner_act s at e.world n) left local e inner w objects made_so))
      (further (same_lead (λ x.
      grouped others (λ flow. end_object (length w.objects) >> give flow) then_flow x
      ∙ follow_same others _ (λ flow. resume (todo ++ k ∷ []) rest inner bound (Flowed flow)) x (λ flow y.
      grouped (end_object (length w.objects)) (λ _. give flow) then_flow y
      ∙ follow_same (end_object (length w.objects)) _ (λ _. then_flow flow) y (λ d z. given_on flow then_flow z)
      ∙ ap (λ m. (end_object m >> then_flow flow) y) (sym numbered)
      ∙ ap (λ i. (end_object number >> resume todo rest i bound (Flowed flow)) y) (sym back)
      ∙ ap (λ r. r inner bound (Flowed flow) y) (sym (resume_last todo k rest)))))
      (named (ap (λ act. act >>= λ flow. resume (todo ++ k ∷ []) rest inner bound (Flowed flow)) others_are))))

  -- one that has no layout
  pub local_stops : {world : World} {w : Shown} → done < count_in s → local ≡ first_in s + done → made_one local e w.objects ≡ None
      → Runs world (part_act (P.Locals done) s at e n >>= λ flow. resume todo rest e bound (Flowed flow)) w (Err Wrong) w
  local_stops {world = world} {w = w} more place none =
      subst (λ act. Runs world (act >>= then_flow) w (Err Wrong) w) (sym (part_is more place))
      (ends world (with_locals (suc (count_in s - (done + 1))) local (inner_act s at e.world n) e) then_flow w w Wrong (one_stops world (inner_act s at e.world n) (count_in s - (done + 1)) local e w none))

-- a block all of whose locals have objects
pub opened_is : (s : Statement) (at : execution.Entry) (e : Env) (n done : ℕ) → count_in s ≤ done → part_act (P.Locals done) s at e n ≡ part_act (P.Initialisers 0) s at e n
unfolding with_locals
opened_is s at e n done all = let none : count_in s - done ≡ 0 = omega (arith, all) in ap (λ k. with_locals k (first_in s + done) (inner_act s at e.world n) e) none
