-- What an operation of a directed function asks for is fine: values that lead to functions whose address is taken,
-- calls of the graph, and accesses by name of globals that the function has no register for.
use Rattle.std.proofs.Common.{◌≡◌, ℕ, Bool, true, false, if◌then◌else◌, List, map, refl, ap, subst, ◌∙◌, inl, inr, [], ◌∷◌, arith, length, ◌≤◌, ◌+◌}
use Rattle.std.specs.Prelude.{Option, Some, None}
use Rattle.std.specs.List.{flat_map, AllByRecursion}
use Rattle.std.specs.Str.{bytes_eq}
use Rattle.std.proofs.lemmas.Option.{same_Some}
use Rattle.std.proofs.lemmas.Slice.Eq.{bytes_eq-Decides}
use Rattle.pw_value.specs.declared.value.Kind.{Kind}
use Rattle.pw_value.specs.declared.value.Value.{Value}
use Rattle.pw_files.proofs.Standing.{Has, has_by, contains_by, has_right, has_flat, has_map}
use Rattle.pw_db.specs.declared.database.Web.{Web}
use Rattle.pw_db.specs.declared.database.Role.{Role}
use Rattle.pw_db.specs.declared.database.Directives.{Directives}
use Rattle.pw_flow.specs.declared.flow.FlowFn.{FlowFn}
use Rattle.pw_flow.specs.declared.flow.FlowGlobal.{FlowGlobal}
use Rattle.pw_flow.specs.declared.flow.Op.{Op}
use Rattle.pw_flow.specs.declared.flow.Op.TheVariants as op
use Rattle.pw_flow.specs.FlowGraph.{names_in_global}
use Rattle.pw_db_sound.specs.CallGraphs.{Calls, References}
use Rattle.pw_webflow.specs.declared.web.WebOp.TheVariants.{Flow, Write}
use Rattle.pw_webflow.specs.Direction.{register_of, read_of, write_of, directed_op}
use Rattle.pw_run_languages.specs.Values.{unary, extension}
use Rattle.pw_run_languages.specs.Programs.{Program, functions_of, globals_of, names_of}
use Rattle.pw_run_languages.specs.Commands.{Command, Give, Poke, GetGlobal, PutGlobal, Enter, Fail, give, command, Combine}
use Rattle.pw_run_languages.specs.LawfulPrograms.{IsProgram, NamesRightly, ops_of, addressed, taken_names, eligible_names, read_by, written_by, node_of, graph_of}
use Rattle.pw_run_languages.specs.Direction.{directives_of}
use Rattle.pw_law_direction.proofs.Lists.{has_filter, has_named, named_has}
use Rattle.pw_law_direction.specs.Values.{IsTaken, FineValue}
use Rattle.pw_law_direction.specs.SideBySide.{IsCall}
use Rattle.pw_law_direction.proofs.Values.{FineIfValue, unary_fine, extension_fine}
use Rattle.pw_law_direction.proofs.Numbers.{function_fine, pointer_fine, behind_fine}
use Rattle.pw_law_direction.proofs.Edges.{MayCall, call-allowed}
use Rattle.pw_law_direction.proofs.Trails.{is_kept, Accesses}

-- the directives hold no register for a global that the operation reads or writes
abbrev pub Lacks : List (Web × Role) → Op → Type 0
Lacks webs (op.LoadG t g k) = register_of webs g ≡ None
Lacks webs (op.StoreG g a k) = register_of webs g ≡ None
Lacks webs _ = Unit {0}

flow_is : (k o : Op) → Flow k ≡ Flow o → k ≡ o
flow_is k o e = cc

read_flow : (webs : List (Web × Role)) (r : Option ℕ) (t : ℕ) (g : List ℕ) (k : Kind) (o : Op) → register_of webs g ≡ r → read_of r t (op.LoadG t g k) ≡ Flow o → (op.LoadG t g k ≡ o) × Lacks webs o
read_flow webs None t g k o n e = let same = flow_is (op.LoadG t g k) o e in (same, subst (Lacks webs) same n)
read_flow webs (Some r) t g k o n e = absurd cc

write_flow : (webs : List (Web × Role)) (r : Option ℕ) (g : List ℕ) (a : ℕ) (k : Kind) (o : Op) → register_of webs g ≡ r → write_of r a (op.StoreG g a k) ≡ Flow o → (op.StoreG g a k ≡ o) × Lacks webs o
write_flow webs None g a k o n e = let same = flow_is (op.StoreG g a k) o e in (same, subst (Lacks webs) same n)
write_flow webs (Some r) g a k o n e = absurd cc

-- what stays an operation of the flow graph under directives is the same operation
pub flow_op : (webs : List (Web × Role)) (k o : Op) → directed_op webs k ≡ Flow o → (k ≡ o) × Lacks webs o
flow_op webs (op.LoadG t g k) o e = read_flow webs (register_of webs g) t g k o refl e
flow_op webs (op.StoreG g a k) o e = write_flow webs (register_of webs g) g a k o refl e
flow_op webs k o e = let same = flow_is k o e in (same, subst (Lacks webs) same tt)

-- a register that directives hold for a global is that of one of the webs
register_by : (b : Bool) (u : Web × Role) (rest : List (Web × Role)) (g : List ℕ) (r : ℕ) → ◌≡◌ {A = Option ℕ} (if b then Some u.0.reg else register_of rest g) (Some r)
    → (register_of rest g ≡ Some r → (w : Web × Role) × Has w rest × (w.0.reg ≡ r)) → (w : Web × Role) × Has w (u ∷ rest) × (w.0.reg ≡ r)
register_by true u rest g r e f = (u, inl refl, same_Some u.0.reg r e)
register_by false u rest g r e f = let w = f e in (w.0, inr w.1, w.2)

register_has : (webs : List (Web × Role)) (g : List ℕ) (r : ℕ) → register_of webs g ≡ Some r → (w : Web × Role) × Has w webs × (w.0.reg ≡ r)
register_has [] g r e = absurd cc
register_has (u ∷ rest) g r e = register_by (bytes_eq u.0.global g) u rest g r e (register_has rest g r)

no_read : (s : Option ℕ) (t : ℕ) (o : Op) (r a : ℕ) → read_of s t o ≡ Write r a → ⊥
no_read None t o r a e = cc
no_read (Some s) t o r a e = cc

write_by : (webs : List (Web × Role)) (s : Option ℕ) (g : List ℕ) (b : ℕ) (o : Op) (r a : ℕ) → register_of webs g ≡ s → write_of s b o ≡ Write r a → (w : Web × Role) × Has w webs × (w.0.reg ≡ r)
write_by webs None g b o r a n e = absurd cc
write_by webs (Some s) g b o r a n e = let same : s ≡ r = cc in register_has webs g r (n ∙ ap Some same)

no_flow : (k : Op) (r a : ℕ) → Flow k ≡ Write r a → ⊥
no_flow k r a e = cc

-- what becomes a write of a register writes that of one of the function's webs
pub write_op : (webs : List (Web × Role)) (k : Op) (r a : ℕ) → directed_op webs k ≡ Write r a → (w : Web × Role) × Has w webs × (w.0.reg ≡ r)
write_op webs (op.LoadG t g k) r a e = absurd (no_read (register_of webs g) t (op.LoadG t g k) r a e)
write_op webs (op.StoreG g b k) r a e = write_by webs (register_of webs g) g b (op.StoreG g b k) r a refl e
write_op webs k r a e = absurd (no_flow k r a e)

-- a global is accessed by name
abbrev pub MayAccess : Program → List (List ℕ × Directives) → List ℕ → List ℕ → Type 0
MayAccess p d f v = is_kept p v ≡ true → Accesses p d f v

abbrev pub IsAllowed : Program → List (List ℕ × Directives) → List ℕ → Command → Type 0
IsAllowed p d f (Give t v) = FineValue p v
IsAllowed p d f (Combine k t v w) = FineValue p v
IsAllowed p d f (Poke k a v) = FineValue p v
IsAllowed p d f (GetGlobal t g k) = MayAccess p d f g
IsAllowed p d f (PutGlobal g k v) = FineValue p v × MayAccess p d f g
IsAllowed p d f (Enter t g args) = AllByRecursion (FineValue p) args × Calls (graph_of p) f g
IsAllowed p d f _ = Unit {0}

give_allowed : (p : Program) (d : List (List ℕ × Directives)) (f : List ℕ) (t : ℕ) (v : Option Value) → FineIfValue p v → IsAllowed p d f (give t v)
give_allowed p d f t (Some v) h = h
give_allowed p d f t None h = tt

-- what a call may ask for
may_call : (p : Program) (d : List (List ℕ × Directives)) (f : List ℕ) (c : Command) → MayCall p f c → IsAllowed p d f c
may_call p d f (Enter t g args) h = h
may_call p d f Fail h = tt
may_call p d f _ h = absurd h

module _ (p : Program) (d : List (List ℕ × Directives)) (ok : IsProgram p) where
  -- ---- names

  taken_by_op : (fn : FlowFn) (o : Op) (name : List ℕ) → Has fn (functions_of p) → Has o (ops_of fn) → Has name (addressed o) → IsTaken p name
  taken_by_op fn o name among has there =
      has_named (taken_names p) name
      (has_right name (flat_map names_in_global (globals_of p)) (flat_map (λ (f : FlowFn). flat_map addressed (ops_of f)) (functions_of p))
      (has_flat (λ (f : FlowFn). flat_map addressed (ops_of f)) fn name (functions_of p) among (has_flat addressed o name (ops_of fn) has there)))

  rightly : (fn : FlowFn) (o : Op) → Has fn (functions_of p) → Has o (ops_of fn) → NamesRightly p o
  rightly fn o among has = ok.ops fn o (contains_by fn (functions_of p) among) (contains_by o (ops_of fn) has)

  -- ---- the graph

  kept_name : (v : List ℕ) → is_kept p v ≡ true → Has v (eligible_names p)
  kept_name v e = named_has (eligible_names p) v e

  reads : (fn : FlowFn) (t : ℕ) (v : List ℕ) (k : Kind) → Has fn (functions_of p) → Has (op.LoadG t v k) (ops_of fn) → is_kept p v ≡ true → References (graph_of p) fn.name v
  unfolding graph_of
  reads fn t v k among has e = inl (record {
    node = node_of p fn;
    there = contains_by (node_of p fn) (map (node_of p) (functions_of p)) (has_map (node_of p) fn (functions_of p) among);
    name = refl;
    read = contains_by v (node_of p fn).reads
        (has_flat (read_by p) (op.LoadG t v k) v (ops_of fn) has (has_filter (bytes_eq v) v (eligible_names p) (kept_name v e) ((bytes_eq-Decides v v).1 refl)));
  })

  writes : (fn : FlowFn) (v : List ℕ) (a : ℕ) (k : Kind) → Has fn (functions_of p) → Has (op.StoreG v a k) (ops_of fn) → is_kept p v ≡ true → References (graph_of p) fn.name v
  unfolding graph_of
  writes fn v a k among has e = inr (record {
    node = node_of p fn;
    there = contains_by (node_of p fn) (map (node_of p) (functions_of p)) (has_map (node_of p) fn (functions_of p) among);
    name = refl;
    written = contains_by v (node_of p fn).writes
        (has_flat (written_by p) (op.StoreG v a k) v (ops_of fn) has (has_filter (bytes_eq v) v (eligible_names p) (kept_name v e) ((bytes_eq-Decides v v).1 refl)));
  })

  -- ---- calls

  call_allowed : (fn : FlowFn) (o : Op) (base : ℕ) (value : ℕ → Value) → IsCall o → Has fn (functions_of p) → Has o (ops_of fn) → ((t : ℕ) → FineValue p (value t)) → IsAllowed p d fn.name (command p base o value)
  call_allowed fn o base value call among has fine =
      may_call p d fn.name (command p base o value) (call-allowed p fn o base value call (contains_by fn (functions_of p) among) (contains_by o (ops_of fn) has) fine)

  -- ---- operations

  pub command_allowed : (fn : FlowFn) (o : Op) → Has fn (functions_of p) → Has o (ops_of fn) → Lacks (directives_of d fn.name).webs o → (base : ℕ) (value : ℕ → Value) → length (globals_of p) ≤ base → ((t : ℕ) → FineValue p (value t))
      → IsAllowed p d fn.name (command p base o value)
  unfolding command
  command_allowed fn (op.Copy t a) among has lacks base value low fine = fine a
  command_allowed fn (op.Un k t a) among has lacks base value low fine = give_allowed p d fn.name t (unary k (value a)) (unary_fine p k (value a))
  command_allowed fn (op.Bin k t a b) among has lacks base value low fine = fine a
  command_allowed fn (op.Ext k t a) among has lacks base value low fine = give_allowed p d fn.name t (extension k (value a)) (extension_fine p k (value a) (fine a))
  command_allowed fn (op.AddrGlobal t g n) among has lacks base value low fine =
      pointer_fine p g n (taken_by_op fn (op.AddrGlobal t g n) g among has (inl refl)) (inr (has_by g (map (λ (x : FlowGlobal). x.name) (globals_of p)) (rightly fn (op.AddrGlobal t g n) among has)))
  command_allowed fn (op.AddrSlot t s) among has lacks base value low fine = behind_fine p (base + s) 0 (omega (arith, low))
  command_allowed fn (op.AddrFn t f) among has lacks base value low fine =
      function_fine p f (taken_by_op fn (op.AddrFn t f) f among has (inl refl)) (has_by f (names_of p) (rightly fn (op.AddrFn t f) among has))
  command_allowed fn (op.LoadG t g k) among has lacks base value low fine = λ e. record { refers = reads fn t g k among has e; lacks = lacks }
  command_allowed fn (op.StoreG g a k) among has lacks base value low fine = (fine a, λ e. record { refers = writes fn g a k among has e; lacks = lacks })
  command_allowed fn (op.Store k a b) among has lacks base value low fine = fine b
  command_allowed fn (op.Call t f args) among has lacks base value low fine = call_allowed fn (op.Call t f args) base value tt among has fine
  command_allowed fn (op.CallInd t a shape args) among has lacks base value low fine = call_allowed fn (op.CallInd t a shape args) base value tt among has fine
  command_allowed fn _ among has lacks base value low fine = tt
