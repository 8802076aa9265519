-- Every step of both runs.
use Rattle.std.specs.Prelude.{ℕ, zero, suc, ◌≡◌, true, Option, List, [], ◌∷◌, ◌++◌, slice_index_or, Contains}
use Rattle.std.proofs.Common.{◌⊎◌, refl, sym, ap, subst, ◌∙◌, inl, inr}
use Rattle.std.specs.List.{AllByRecursion}
use Rattle.std.proofs.lemmas.List.Elements.{Contains-append_right}
use Rattle.pw_value.specs.declared.value.Value.{Value}
use Rattle.pw_value.specs.declared.value.Value.TheVariants.{Undefined}
use Rattle.pw_files.proofs.Standing.{Has}
use Rattle.pw_db.specs.Database.{IsDatabase}
use Rattle.pw_db.specs.declared.database.Web.{Web}
use Rattle.pw_db.specs.declared.database.Role.TheVariants.{Entry}
use Rattle.pw_db.specs.declared.database.Directives.{Directives}
use Rattle.pw_flow.specs.declared.flow.Op.{Op}
use Rattle.pw_flow.specs.declared.flow.End.{End}
use Rattle.pw_flow.specs.declared.flow.End.TheVariants.{Jump, Branch, Return}
use Rattle.pw_flow.specs.Uses.{op_defines, op_calls}
use Rattle.pw_webflow.specs.declared.web.WebFn.{WebFn}
use Rattle.pw_webflow.specs.declared.web.WebOp.{WebOp}
use Rattle.pw_webflow.specs.declared.web.WebOp.TheVariants.{Flow, Read, Write}
use Rattle.pw_alloc.specs.declared.located.Located.{Located}
use Rattle.pw_db_sound.specs.CallGraphs.{Calls}
use Rattle.pw_db_sound.specs.Sound.{Sound}
use Rattle.pw_run_languages.specs.Programs.{Program}
use Rattle.pw_run_languages.specs.Commands as command
use Rattle.pw_run_languages.specs.LawfulPrograms.{IsProgram, graph_of}
use Rattle.pw_run_languages.specs.Direction.{with_functions}
use Rattle.pw_run_languages.specs.PlacedRun.{PlacedProgram, Machine, Step, entered_webs, calls, obeys, ends, does, step}
use Rattle.pw_law_operations.specs.Laws.{StaysInside, HasResult}
use Rattle.pw_law_operations.proofs.Asking.{commands_rest_on_uses, results_stand}
use Rattle.pw_law_direction.specs.Values.{FineValue, AreFine}
use Rattle.pw_law_direction.specs.DirectedLaws.{OperationsCallByTheGraph}
use Rattle.pw_law_placed.specs.Twins.{Twin, bare_side, placed_side, bare_program, bare_value, placed_value}
use Rattle.pw_law_placed.specs.Alike.{name_of, IsCalling, IsAlike, Follows}
use Rattle.pw_law_placed.specs.Laws.{CallsFollow, IsServed, StaysInFunction, ReturnsFollow, StepsFollow}
use Rattle.pw_law_placed.proofs.Lists.{first_there}
use Rattle.pw_law_placed.proofs.Operations.{commands_follow}
use Rattle.pw_law_placed.proofs.Blocks.{popped, ready_behind, uses_agree, blocks_follow}
use Rattle.pw_law_placed.proofs.Webs.{web_register}
use Rattle.pw_law_placed.proofs.WebSteps.{reads_follow, writes_follow}
use Rattle.pw_law_placed.proofs.Calling.{entries_alone}
use Rattle.pw_law_placed.proofs.Returning.{returns_follow}

-- ---- what an operation enters

-- a command enters a function or stays inside
record Enters (c : command.Command) : Type 0 where
  to : Option ℕ
  function : List ℕ
  args : List Value
  is : c ≡ command.Enter to function args

enters_or_stays : (c : command.Command) → Enters c ⊎ StaysInside c
enters_or_stays (command.Enter t f args) = inl (record { to = t; function = f; args = args; is = refl })
enters_or_stays _ = inr tt

each_fine : (p : Program) (vs : List Value) → AllByRecursion (FineValue p) vs → (t : ℕ) → FineValue p (slice_index_or vs t Undefined)
each_fine p [] all t = tt
each_fine p (v ∷ vs) all zero = all.0
each_fine p (v ∷ vs) all (suc t) = each_fine p vs all.1 t

abbrev bare_command : Program → Twin → Op → command.Command
bare_command p x o = command.command p x.frame.base o (bare_value x.frame)

-- then its operation is a call, and one of the graph
asked : OperationsCallByTheGraph → (p : Program) (d : List (List ℕ × Directives)) (x : Twin) (o : Op) (ops : List WebOp) (e : Enters (bare_command p x o)) → IsAlike p d x → AreFine p (bare_side x)
    → x.frame.ops ≡ Flow o ∷ ops → (op_calls o ≡ true) × Calls (graph_of p) (name_of x.frame) e.function
asked graph p d x o ops e a fine is =
    let i = a.frame.inside in
    let own = a.frame.placed.body in
    let there : Contains i.block.ops (Flow o) =
    subst (λ (l : List WebOp). Contains l (Flow o)) (sym (i.ops ∙ ap (λ (l : List WebOp). i.before ++ l) is)) (Contains-append_right i.before (Flow o ∷ ops) (Flow o) (first_there (Flow o) ops)) in
    let k = graph p d a.frame.placed.flow i.block o x.frame.base (bare_value x.frame) e.to e.function e.args a.frame.placed.there
    (subst (λ (b : WebFn). Contains b.blocks i.block) own i.there) there (each_fine p x.frame.bare.temps fine.frame.temps) e.is in
    (k.0, subst (λ (b : WebFn). Calls (graph_of p) b.name e.function) (sym own) k.1)

-- ---- operations

module _ (graph : OperationsCallByTheGraph) (called : CallsFollow) (p : Program) (d : List (List ℕ × Directives)) (ok : IsProgram p) (base : IsDatabase d) (sound : Sound (graph_of p) d) (ls : List Located) (served : IsServed p d ls) where
  entered_follows : (x : Twin) (o : Op) (ops : List WebOp) (e : Enters (bare_command p x o)) → IsAlike p d x → AreFine p (bare_side x) → x.frame.ops ≡ Flow o ∷ ops
      → Follows p d (calls (bare_program p d) e.to e.function e.args (bare_side (popped x ops))) (calls (with_functions p ls) e.to e.function e.args (placed_side (popped x ops)))
  unfolding ready_behind
  entered_follows x o ops e a fine is =
      let k = asked graph p d x o ops e a fine is in
      let to : op_defines o ≡ e.to = subst (HasResult (op_defines o)) e.is (results_stand p x.frame.base o (bare_value x.frame)) in
      let calling : IsCalling p d (popped x ops) (op_defines o) = record { ready = ready_behind p d x (Flow o) ops a is; calls = k.0 } in
      called p d ls (popped x ops) e.to e.function e.args ok base sound served (subst (IsCalling p d (popped x ops)) to calling) k.1

  -- both runs ask for the same
  flow_follows : (x : Twin) (o : Op) (ops : List WebOp) → IsAlike p d x → AreFine p (bare_side x) → x.frame.ops ≡ Flow o ∷ ops
      → Follows p d (does (bare_program p d) (Flow o) (bare_side (popped x ops))) (does (with_functions p ls) (Flow o) (placed_side (popped x ops)))
  flow_follows x o ops a fine is =
      subst (λ (c : command.Command). Follows p d (obeys (bare_program p d) (bare_command p x o) (bare_side (popped x ops))) (obeys (with_functions p ls) c (placed_side (popped x ops))))
      (commands_rest_on_uses p x.frame.base o (bare_value x.frame) (placed_value x.frame x.bank) (λ t used. uses_agree x.frame x.bank (Flow o) ops is a.frame.temps t used))
      (by_command (enters_or_stays (bare_command p x o)))
    where
      Both : command.Command → Type 0
      Both c = Follows p d (obeys (bare_program p d) c (bare_side (popped x ops))) (obeys (with_functions p ls) c (placed_side (popped x ops)))

      by_command : Enters (bare_command p x o) ⊎ StaysInside (bare_command p x o) → Both (bare_command p x o)
      by_command (inl e) = subst Both (sym e.is) (entered_follows x o ops e a fine is)
      by_command (inr stays) = commands_follow p d ls (popped x ops) (op_defines o) (bare_command p x o) (ready_behind p d x (Flow o) ops a is) stays (results_stand p x.frame.base o (bare_value x.frame))

  op_follows : (x : Twin) (o : WebOp) (ops : List WebOp) → IsAlike p d x → AreFine p (bare_side x) → x.frame.ops ≡ o ∷ ops
      → Follows p d (does (bare_program p d) o (bare_side (popped x ops))) (does (with_functions p ls) o (placed_side (popped x ops)))
  op_follows x (Flow o) ops a fine is = flow_follows x o ops a fine is
  op_follows x (Read t r) ops a fine is = reads_follow p d base sound x t r ops a is
  op_follows x (Write r t) ops a fine is = writes_follow p d base sound x r t ops a is

-- ---- ends of blocks

-- a function has the same in the registers of the webs that it enters
entered_agree : (p : Program) (d : List (List ℕ × Directives)) (base : IsDatabase d) (sound : Sound (graph_of p) d) (x : Twin) → IsAlike p d x → (w : Web) → Has w (entered_webs x.frame.function)
    → x.registers w.reg ≡ x.bank w.reg
entered_agree p d base sound x a w among =
    let is = a.frame.placed in
    let role = entries_alone p d base sound x.frame.function.body (record { flow = is.flow; there = is.there; body = is.body; lawful = is.lawful }) w among in
    a.frame.webs w.reg (web_register p d base sound x.frame w is (record { role = Entry; has = role }))

pub returned_follow : ReturnsFollow
returned_follow p d ls x t base sound a e is = returns_follow p d ls x t (entered_agree p d base sound x a) a e is

end_follows : (p : Program) (d : List (List ℕ × Directives)) (base : IsDatabase d) (sound : Sound (graph_of p) d) (ls : List Located) (x : Twin) (end : End) → IsAlike p d x → x.frame.ops ≡ [] → x.frame.end ≡ end
    → Follows p d (ends (bare_program p d) x.frame.end (bare_side x)) (ends (with_functions p ls) x.frame.end (placed_side x))
end_follows p d base sound ls x (Return t) a e is =
    subst (λ (end : End). Follows p d (ends (bare_program p d) end (bare_side x)) (ends (with_functions p ls) end (placed_side x))) (sym is) (returned_follow p d ls x t base sound a e is)
end_follows p d base sound ls x (Jump b) a e is = blocks_follow p d ls x a e (subst StaysInFunction (sym is) tt)
end_follows p d base sound ls x (Branch t b c) a e is = blocks_follow p d ls x a e (subst StaysInFunction (sym is) tt)

-- ---- a step

abbrev next : PlacedProgram → Machine → List WebOp → Step
next q m [] = ends q m.frame.end m
next q m (o ∷ ops) = does q o (record m { frame = record m.frame { ops = ops } })

next_follows : OperationsCallByTheGraph → CallsFollow → (p : Program) (d : List (List ℕ × Directives)) (ok : IsProgram p) (base : IsDatabase d) (sound : Sound (graph_of p) d) (ls : List Located) → IsServed p d ls → (x : Twin) (ops : List WebOp)
    → IsAlike p d x → AreFine p (bare_side x) → x.frame.ops ≡ ops → Follows p d (next (bare_program p d) (bare_side x) ops) (next (with_functions p ls) (placed_side x) ops)
next_follows graph called p d ok base sound ls served x [] a fine is = end_follows p d base sound ls x x.frame.end a is refl
next_follows graph called p d ok base sound ls served x (o ∷ ops) a fine is = op_follows graph called p d ok base sound ls served x o ops a fine is

pub steps_follow : OperationsCallByTheGraph → CallsFollow → StepsFollow
unfolding step
steps_follow graph called p d ls x ok base sound served a fine = next_follows graph called p d ok base sound ls served x x.frame.ops a fine refl
