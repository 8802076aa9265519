-- Nothing calls `$start`: no operation names it, and nothing takes its address.
use Rattle.std.proofs.Common.{◌≡◌, ◌≢◌, ℕ, Bool, true, false, ◌&&◌, cond, List, [], ◌∷◌, map, refl, sym, ap, subst, ◌∙◌, inl, inr}
use Rattle.std.specs.Prelude.{Contains}
use Rattle.std.specs.List.{flat_map, filter}
use Rattle.pw_value.specs.ProgramNames.{IsOrdinary, start_name}
use Rattle.pw_files.proofs.Standing.{Has, has_by, has_each, has_left, has_right, has_split, has_map_back, has_flat, has_flat_back}
use Rattle.pw_flow.specs.declared.flow.FlowFn.{FlowFn}
use Rattle.pw_flow.specs.declared.flow.FlowModule.{FlowModule}
use Rattle.pw_flow.specs.declared.flow.Block.{Block}
use Rattle.pw_flow.specs.declared.flow.Op.{Op}
use Rattle.pw_flow.specs.declared.flow.Op.TheVariants as op
use Rattle.pw_flow.specs.FlowGraph.{op_names, names_in_global, names_in_block, names_in_function, named_in}
use Rattle.pw_flow.specs.ValidFlow.{IsValid}
use Rattle.pw_db_sound.specs.CallGraphs.{Node, Calls}
use Rattle.pw_run_languages.specs.Programs.{Program, functions_of, globals_of, names_of, shape_of}
use Rattle.pw_run_languages.specs.LawfulPrograms.{IsProgram, ops_of, addressed, taken_names, has_name, has_shape, called, node_of, graph_of}
use Rattle.pw_law_direction.proofs.Lists.{named_has}
use Rattle.pw_law_direction.specs.Values.{IsTaken}

addressed_named : (o : Op) (name : List ℕ) → Has name (addressed o) → Has name (op_names o)
addressed_named (op.AddrGlobal t g n) name h = h
addressed_named (op.AddrFn t f) name h = h
addressed_named _ name h = absurd h

filter_by : {X : Type 0} (test : X → Bool) (b : Bool) (x y : X) (ys : List X) → test y ≡ b → (Has x (filter test ys) → test x ≡ true) → Has x (cond b (y ∷ filter test ys) (filter test ys)) → test x ≡ true
filter_by test true x y ys e f (inl same) = ap test (sym same) ∙ e
filter_by test true x y ys e f (inr h) = f h
filter_by test false x y ys e f h = f h

filter_passes : {X : Type 0} (test : X → Bool) (x : X) (xs : List X) → Has x (filter test xs) → test x ≡ true
filter_passes test x [] h = absurd h
filter_passes test x (y ∷ ys) h = filter_by test (test y) x y ys refl (filter_passes test x ys) h

first_holds : (a b : Bool) → (a && b) ≡ true → a ≡ true
first_holds true b e = refl
first_holds false b e = absurd cc

module _ (p : Program) (ok : IsProgram p) where
  ordinary_in : (m : FlowModule) (name : List ℕ) → Has m p.modules → Has name (named_in m) → name ≢ start_name
  ordinary_in m name there h = has_each IsOrdinary (named_in m) name (has_each IsValid p.modules m ok.modules there).parts.ordinary h

  op_ordinary : (fn : FlowFn) (o : Op) (name : List ℕ) → Has fn (functions_of p) → Has o (ops_of fn) → Has name (op_names o) → name ≢ start_name
  op_ordinary fn o name among has h =
      let m = has_flat_back (λ (m : FlowModule). m.functions) fn p.modules among in
      let b = has_flat_back (λ (b : Block). b.ops) o fn.blocks has in
      let own : Has name (names_in_function fn) = has_flat names_in_block b.0 name fn.blocks b.1 (has_flat op_names o name b.0.ops b.2 h) in
      ordinary_in m.0 name m.1 (has_right name (flat_map names_in_global m.0.globals) (flat_map names_in_function m.0.functions) (has_flat names_in_function fn name m.0.functions m.2 own))

  taken_ordinary : (name : List ℕ) → IsTaken p name → name ≢ start_name
  taken_ordinary name taken = elim (has_split name (flat_map names_in_global (globals_of p)) (flat_map (λ (f : FlowFn). flat_map addressed (ops_of f)) (functions_of p)) (named_has (taken_names p) name taken)) [
    | inl h ↦
        let g = has_flat_back names_in_global name (globals_of p) h in
        let m = has_flat_back (λ (m : FlowModule). m.globals) g.0 p.modules g.1 in
        ordinary_in m.0 name m.1 (has_left name (flat_map names_in_global m.0.globals) (flat_map names_in_function m.0.functions) (has_flat names_in_global g.0 name m.0.globals m.2 g.2))
    | inr h ↦
        let f = has_flat_back (λ (f : FlowFn). flat_map addressed (ops_of f)) name (functions_of p) h in
        let o = has_flat_back addressed name (ops_of f.0) f.2 in
        op_ordinary f.0 o.0 name f.1 o.1 (addressed_named o.0 name o.2)
  ]

  called_ordinary : (fn : FlowFn) (o : Op) (name : List ℕ) → Has fn (functions_of p) → Has o (ops_of fn) → Has name (called p o) → name ≢ start_name
  called_ordinary fn (op.Call t f args) name among has h = op_ordinary fn (op.Call t f args) name among has h
  called_ordinary fn (op.CallInd t a shape args) name among has h =
      let passes = filter_passes (λ (n : List ℕ). has_name (taken_names p) n && has_shape (shape_of p n) shape) name (names_of p) h in
      taken_ordinary name (first_holds (has_name (taken_names p) name) (has_shape (shape_of p name) shape) passes)
  called_ordinary fn _ name among has h = absurd h

  pub not_called : (caller : List ℕ) → Calls (graph_of p) caller start_name → ⊥
  unfolding graph_of
  not_called caller calls =
      let fn = has_map_back (node_of p) calls.node (functions_of p) (has_by calls.node (map (node_of p) (functions_of p)) calls.there) in
      let among : Has start_name (flat_map (called p) (ops_of fn.0)) = has_by start_name (flat_map (called p) (ops_of fn.0)) (subst (λ (n : Node). Contains n.calls start_name) (sym fn.2) calls.call) in
      let o = has_flat_back (called p) start_name (ops_of fn.0) among in
      called_ordinary fn.0 o.0 start_name fn.1 o.1 o.2 refl
