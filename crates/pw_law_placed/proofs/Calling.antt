-- Calls of functions that a module of the program defines.
use Rattle.std.specs.Prelude.{ℕ, zero, suc, ◌≡◌, ◌≤◌, ◌<◌, ◌+◌, ◌-◌, ◌==◌, ◌&&◌, nat_lt, Bool, true, false, if◌then◌else◌, Option, Some, None, List, [], ◌∷◌, length, map, slice_get, Contains}
use Rattle.std.proofs.Common.{arith, refl, sym, ap, subst, ◌∙◌, inl, inr}
use Rattle.std.specs.List.{flat_map, range_with_len, AllByRecursion}
use Rattle.std.specs.Str.{bytes_eq}
use Rattle.std.proofs.lemmas.Bool.{cases_eq, cases_lt, eqb-true, eqb-false}
use Rattle.std.proofs.lemmas.List.{length-replicate}
use Rattle.pw_value.specs.declared.value.Value.{Value}
use Rattle.pw_value.specs.declared.value.Value.TheVariants.{Undefined}
use Rattle.pw_files.proofs.Standing.{Has, has_by, contains_by, has_map_back, has_flat, has_flat_back, has_each}
use Rattle.pw_db.specs.Limits.{first_register, last_register, register_count, kept_registers}
use Rattle.pw_db.specs.Database.{IsDatabase, IsDirectives}
use Rattle.pw_db.specs.declared.database.Web.{Web}
use Rattle.pw_db.specs.declared.database.Role.{Role}
use Rattle.pw_db.specs.declared.database.Role.TheVariants.{Entry, Member}
use Rattle.pw_db.specs.declared.database.Directives.{Directives}
use Rattle.pw_flow.specs.declared.flow.FlowFn.{FlowFn}
use Rattle.pw_flow.specs.declared.flow.FlowModule.{FlowModule}
use Rattle.pw_flow.specs.ValidFlow.{IsValid, IsFunction}
use Rattle.pw_webflow.specs.declared.web.WebBlock.{WebBlock}
use Rattle.pw_webflow.specs.declared.web.WebFn.{WebFn}
use Rattle.pw_webflow.specs.Direction.{directed}
use Rattle.pw_webflow.specs.ValidWebs.{HasRegister, IsWebFn}
use Rattle.pw_webflow.proofs.DirectionLaws.{directed_lawful}
use Rattle.pw_alloc.specs.Allocation.{is_entry, saved_of}
use Rattle.pw_alloc.specs.declared.located.Located.{Located}
use Rattle.pw_run.specs.Runs as run
use Rattle.pw_db_sound.specs.CallGraphs.{Graph, Calls}
use Rattle.pw_db_sound.specs.Sound.{Sound, In, IsFree, IsSaver, LeavesAlone}
use Rattle.pw_db_sound.specs.Sound.{Has as HasRole}
use Rattle.pw_run_languages.specs.Traces.{Called, Refused}
use Rattle.pw_run_languages.specs.Programs.{Program, Library, library_at, functions_of}
use Rattle.pw_run_languages.specs.LawfulPrograms.{IsProgram, graph_of}
use Rattle.pw_run_languages.specs.Direction.{directives_of, directed_by, directed_functions, unplaced, with_functions}
use Rattle.pw_run_languages.specs.PlacedRun.{PlacedProgram, Machine, Step, On, Stopped, Astray, entered_webs, without_places, with_parameters, and_then, enters_webs, entered, begins, calls_defined, calls, counted, noted, kept, depth, first_block, globals_now, function_named}
use Rattle.pw_run_languages.specs.Serving.{Serves}
use Rattle.pw_law_placed.specs.Twins.{Active, Twin, bare_frame, bare_side, placed_side, bare_program}
use Rattle.pw_law_placed.specs.Alike.{Registers, name_of, IsPlaced, LeavesIt, IsReady, IsCalling, Follows, goes, strays}
use Rattle.pw_law_placed.specs.Laws.{IsServed, BothNamed, neither, both}
use Rattle.pw_law_placed.proofs.Free.{not_saver, free_of, of_free, of_saver}
use Rattle.pw_law_placed.proofs.Begun.{begun, begun_temps, bare_under, placed_under, uncleared}
use Rattle.pw_law_placed.proofs.Entering.{Entering, LoadsBoth, all_loaded, unloaded, loads_both}
use Rattle.pw_law_placed.proofs.Receiving.{Receiving, all_received, received_alike}
use Rattle.pw_law_placed.proofs.Library.{call_noted, call_ready, refusal_follows, calls_by, by_library}
use Rattle.pw_law_placed.proofs.Naming.{same_functions}
use Rattle.pw_law_placed.proofs.Noting.{depth_same}
use Rattle.pw_law_placed.proofs.WebSteps.{register_web}
use Rattle.pw_law_placed.proofs.Webs.{web_has, web_register}
use Rattle.pw_law_direction.proofs.Directives.{web_range, entered_role}

-- ---- what a function of the program is

chosen_lawful : (b : Bool) (own rest : Directives) → IsDirectives own → IsDirectives rest → IsDirectives (if b then own else rest)
chosen_lawful true own rest here later = here
chosen_lawful false own rest here later = later

given_lawful : (d : List (List ℕ × Directives)) → AllByRecursion (λ f. IsDirectives f.1) d → (f : List ℕ) → IsDirectives (directives_of d f)
given_lawful [] all f = record { each = tt; numbers = tt; globals = tt; registers = tt; free = tt; saves = tt; apart = tt }
given_lawful (g ∷ d) all f = chosen_lawful (bytes_eq g.0 f) g.1 (directives_of d f) all.0 (given_lawful d all.1 f)

pub record IsOfProgram (p : Program) (d : List (List ℕ × Directives)) (f : WebFn) : Type 0 where
  pub flow : FlowFn
  pub there : Contains (functions_of p) flow
  pub body : f ≡ directed_by d flow
  pub lawful : IsWebFn f

pub of_program : (p : Program) (d : List (List ℕ × Directives)) (f : WebFn) → IsProgram p → IsDatabase d → Contains (directed_functions p d) f → IsOfProgram p d f
of_program p d f ok base c =
    let k = has_map_back (directed_by d) f (functions_of p) (has_by f (directed_functions p d) c) in
    let m = has_flat_back (λ (m : FlowModule). m.functions) k.0 p.modules k.1 in
    let valid = has_each IsValid p.modules m.0 ok.modules m.1 in
    let own = has_each IsFunction m.0.functions k.0 valid.parts.functions m.2 in
    record {
      flow = k.0;
      there = contains_by k.0 (functions_of p) k.1;
      body = sym k.2;
      lawful = subst IsWebFn k.2 (directed_lawful k.0 (directives_of d k.0.name) own (given_lawful d base.directives k.0.name));
    }

-- ---- the webs that it enters

in_range : (a n q : ℕ) → a ≤ q → q < a + n → Has q (range_with_len a n)
in_range a zero q low high = absurd (omega (arith, low, high))
in_range a (suc n) q low high = elim (cases_eq a q) [
  | inl here ↦ inl here
  | inr other ↦ inr (in_range (a + 1) n q (above low other) (omega (arith, high)))
] where
  above : a ≤ q → (a ≡ q → ⊥) → a + 1 ≤ q
  above le apart = elim (cases_lt a q) [ inl lt ↦ omega (arith, lt) | inr ge ↦ absurd (apart (omega (arith, le, ge))) ]

same_number : (a b : ℕ) → a ≡ b → (a == b) ≡ true
same_number a b e = by_test (a == b) refl where
  by_test : (t : Bool) → (a == b) ≡ t → t ≡ true
  by_test true x = refl
  by_test false x = absurd (eqb-false a b x e)

abbrev of_register : ℕ → Web × Role → List Web
of_register r w = if is_entry w.1 && (w.0.reg == r) then w.0 ∷ [] else []

entry_of : (w : Web) (b : Bool) → b ≡ true → Has w (if b then w ∷ [] else [])
entry_of w true e = inl refl
entry_of w false e = absurd cc

-- each entry is among them
pub entry_entered : (l : Located) (w : Web) → Has (w, Entry) l.body.directives.webs → first_register ≤ w.reg → w.reg ≤ last_register → Has w (entered_webs l)
entry_entered l w h low high =
    has_flat (λ (r : ℕ). flat_map (of_register r) l.body.directives.webs) w.reg w kept_registers (in_range first_register register_count w.reg low (omega (arith, high)))
    (has_flat (of_register w.reg) (w, Entry) w l.body.directives.webs h (entry_of w (w.reg == w.reg) (same_number w.reg w.reg refl)))

-- ---- what was saved

pub keys : (a : Registers) (rs : List ℕ) → map (λ (s : ℕ × Value). s.0) (map (λ (r : ℕ). (r, a r)) rs) ≡ rs
keys a [] = refl
keys a (r ∷ rs) = ap (λ (qs : List ℕ). r ∷ qs) (keys a rs)

module _ (p : Program) (d : List (List ℕ × Directives)) (base : IsDatabase d) (sound : Sound (graph_of p) d) where
  begun_placed : (l : Located) (b : WebBlock) (to : Option ℕ) (x : Twin) → IsOfProgram p d l.body → Serves l.body l → IsPlaced p d (begun l b to x).frame
  begun_placed l b to x is serves = record {
    flow = is.flow;
    there = is.there;
    body = is.body;
    lawful = is.lawful;
    serves = serves;
    bare = keys x.registers (saved_of l.body);
    placed = keys x.bank l.saved;
    room = length-replicate l.body.temps Undefined;
    words = length-replicate l.body.temps Undefined;
  }

  -- the registers of webs in which it is a member are those of its caller's
  begun_webs : (l : Located) (b : WebBlock) (to : Option ℕ) (x : Twin) (is : IsPlaced p d (begun l b to x).frame) → IsReady p d x to → Calls (graph_of p) (name_of x.frame) l.body.name
      → (r : ℕ) → HasRegister l.body.directives r → ((w : Web) → Has w (entered_webs l) → w.reg ≡ r → ⊥) → x.registers r ≡ without_places l.places x.bank r
  begun_webs l b to x is ready edge r own left =
      let web = register_web p d base sound (begun l b to x).frame r is own in
      by_role web.0 web.1.role web.1.has web.2
    where
      by_role : (w : Web) (role : Role) → HasRole d l.body.name w role → w.reg ≡ r → x.registers r ≡ without_places l.places x.bank r
      by_role w Entry has e =
          let range = web_range d base l.body.name w Entry has in
          absurd (left w (entry_entered l w (web_has p d base sound (begun l b to x).frame w Entry is has) range.0 range.1) e)
      by_role w Member has e =
          let within : In d w (name_of x.frame) = sound.member_callers w l.body.name (name_of x.frame) has edge in
          ready.frame.webs r (subst (HasRegister x.frame.function.body.directives) e (web_register p d base sound x.frame w ready.frame.placed within))
          ∙ sym (uncleared l.places x.bank r (λ c. (is.serves.registers r c).1 own))

  pub begun_entering : (l : Located) (b : WebBlock) (to : Option ℕ) (x : Twin) → IsOfProgram p d l.body → Serves l.body l → slice_get l.body.blocks 0 ≡ Some b → IsReady p d x to
      → Calls (graph_of p) (name_of x.frame) l.body.name → Entering p d x.registers x.bank (x.frame ∷ x.callers) l to (entered_webs l) (begun l b to x)
  begun_entering l b to x of serves first ready edge =
      let is = begun_placed l b to x of serves in
      record {
        placed = is;
        block = b;
        first = first;
        ops = refl;
        end = refl;
        result = refl;
        function = refl;
        webs = begun_webs l b to x is ready edge;
        temps = begun_temps l b to x;
        bare_under = λ q high. bare_under l b to x q;
        placed_under = λ q high out. placed_under l b to x q serves high (λ c. out (free_of p d (begun l b to x).frame q is c));
        before = refl;
        callers = refl;
        log = ready.log;
        keeps = ready.kept;
      }

  -- ---- the call

  -- with all webs loaded it is to get its parameters
  pub loaded_receiving : (old old_bank : Registers) (below : List Active) (l : Located) (to : Option ℕ) (y : Twin) → Entering p d old old_bank below l to [] y → Receiving p d old old_bank below l to y
  loaded_receiving old old_bank below l to y e = record {
    placed = e.placed;
    block = e.block;
    first = e.first;
    ops = e.ops;
    end = e.end;
    result = e.result;
    function = e.function;
    webs = λ q h. e.webs q h (λ w among same. among);
    temps = λ u needed. e.temps u;
    bare_under = e.bare_under;
    placed_under = e.placed_under;
    before = e.before;
    callers = e.callers;
    log = e.log;
    keeps = e.keeps;
  }

  pub entries_alone : (f : WebFn) → IsOfProgram p d f → (w : Web) → Has w (entered_webs (unplaced f)) → HasRole d f.name w Entry
  unfolding directed
  entries_alone f is w h =
      subst (λ (g : WebFn). HasRole d g.name w Entry) (sym is.body)
      (entered_role d base is.flow.name w (subst (λ (g : WebFn). Has w (entered_webs (unplaced g))) is.body h))

-- whoever calls a function leaves alone what that one is free to use and does not save
abbrev pub CallersLeave : Type 0
CallersLeave = (g : Graph) (d : List (List ℕ × Directives)) (a f : List ℕ) (r : ℕ) → Sound g d → Calls g a f → IsFree d f r → ¬ IsSaver d f r → LeavesAlone d a r

module _ (leaves : CallersLeave) (p : Program) (d : List (List ℕ × Directives)) (base : IsDatabase d) (sound : Sound (graph_of p) d) where
  -- ---- registers that are free below

  -- what a function is free to use, its caller leaves to it
  leaves_it : (f : Active) (callee : List ℕ) → IsPlaced p d f → Calls (graph_of p) (name_of f) callee → (r : ℕ) → IsFree d callee r → LeavesIt f.function.body.directives r
  leaves_it f callee is edge r free =
      let alone = leaves (graph_of p) d (name_of f) callee r sound edge free (not_saver d base callee r free) in (
        λ own. let w = register_web p d base sound f r is own in alone.webless w.0 w.1 w.2,
        elim alone.moved [ inl mine ↦ inl (of_free p d base f r is mine) | inr saver ↦ inr (of_saver p d base f r is saver) ],
      )

  abbrev pub receives : List Value → Machine → Step
  receives args m = On (with_parameters 0 args m)

  after_loads : (x : Twin) (l : Located) (to : Option ℕ) (args : List Value) (s t : Step) → IsCalling p d x to → Calls (graph_of p) (name_of x.frame) l.body.name → length args ≡ l.body.params
      → LoadsBoth p d x.registers x.bank (x.frame ∷ x.callers) l to s t → Follows p d (and_then s (receives args)) (and_then t (receives args))
  after_loads x l to args s t c edge count (all_loaded y e) =
      let below : List Active = x.frame ∷ x.callers in
      let own : length args ≡ y.frame.function.body.params = count ∙ ap (λ (f : Located). f.body.params) (sym e.function) in
      let r = all_received p d x.registers x.bank below l to args 0 y (omega (arith, own)) (loaded_receiving p d base sound x.registers x.bank below l to y e) in
      goes (record { twin = r.twin; bare = ap On r.bare; placed = ap On r.full; alike = received_alike p d x l to r.twin c edge (leaves_it x.frame l.body.name c.ready.frame.placed edge) r.receiving })
  after_loads x l to args s t c edge count unloaded = strays refl refl

  pub begins_follow : (ls : List Located) (l : Located) (block : Option WebBlock) (to : Option ℕ) (args : List Value) (x : Twin) → IsOfProgram p d l.body → Serves l.body l → slice_get l.body.blocks 0 ≡ block → IsCalling p d x to
      → Calls (graph_of p) (name_of x.frame) l.body.name → Follows p d (begins (bare_program p d) (unplaced l.body) block to args (bare_side x)) (begins (with_functions p ls) l block to args (placed_side x))
  begins_follow ls l (Some b) to args x of serves first c edge = by_count (length args == l.body.params) refl where
    by_count : (t : Bool) → (length args == l.body.params) ≡ t
        → Follows p d (if t then and_then (enters_webs (bare_program p d) (entered_webs (unplaced l.body)) (entered (unplaced l.body) b to (bare_side x))) (receives args) else Astray)
        (if t then and_then (enters_webs (with_functions p ls) (entered_webs l) (entered l b to (placed_side x))) (receives args) else Astray)
    by_count true e =
        after_loads x l to args (enters_webs (bare_program p d) (entered_webs l) (bare_side (begun l b to x))) (enters_webs (with_functions p ls) (entered_webs l) (placed_side (begun l b to x)))
        c edge (eqb-true (length args) l.body.params e)
        (loads_both p d base sound ls x.registers x.bank (x.frame ∷ x.callers) l to (entered_webs l) (begun l b to x) (entries_alone p d base sound l.body of) (begun_entering p d base sound l b to x of serves first c.ready edge))
    by_count false e = strays refl refl
  begins_follow ls l None to args x of serves first c edge = strays refl refl

  -- ---- whatever it calls

  -- the frames of the active functions and its own against the stack
  abbrev defined_by : PlacedProgram → Located → Option ℕ → List Value → Machine → ℕ → Step
  defined_by q f t args m n =
      if nat_lt q.flow.stack (q.flow.frame_of f.body.name + n) then Stopped run.StackFull (noted (Refused f.body.name) m)
      else begins q f (first_block f) t args (counted (noted (Called f.body.name (globals_now q m.registers (m.frame ∷ m.callers) m.objects) (kept m.registers)) m))

  either_follows : {s t u v : Step} (b : Bool) → Follows p d s t → Follows p d u v → Follows p d (if b then s else u) (if b then t else v)
  either_follows true h k = h
  either_follows false h k = k

  pub defined_follows : (ls : List Located) (l : Located) (to : Option ℕ) (args : List Value) (x : Twin) → IsOfProgram p d l.body → Serves l.body l → IsCalling p d x to
      → Calls (graph_of p) (name_of x.frame) l.body.name → Follows p d (calls_defined (bare_program p d) (unplaced l.body) to args (bare_side x)) (calls_defined (with_functions p ls) l to args (placed_side x))
  defined_follows ls l to args x of serves c edge =
      let name : List ℕ = l.body.name in
      let y : Twin = record (call_noted p d ls name x) { events = x.events + 1 } in
      let r = call_ready p d ls name x to c.ready in
      let calling : IsCalling p d y to = record { ready = record { frame = c.ready.frame; callers = c.ready.callers; log = r.log; kept = r.kept }; calls = c.calls } in
      let deep : ℕ = depth (bare_program p d) (map bare_frame (x.frame ∷ x.callers)) in
      subst (λ (n : ℕ). Follows p d (defined_by (bare_program p d) (unplaced l.body) to args (bare_side x) deep) (defined_by (with_functions p ls) l to args (placed_side x) n))
      (sym (depth_same p d ls (x.frame ∷ x.callers)))
      (either_follows (nat_lt p.stack (p.frame_of name + deep)) (refusal_follows p d ls name x to c.ready) (begins_follow ls l (first_block l) to args y of serves refl calling edge))

  named_follows : (ls : List Located) (f : List ℕ) (a b : Option Located) (to : Option ℕ) (args : List Value) (x : Twin) → IsProgram p → BothNamed (directed_functions p d) f a b → IsCalling p d x to
      → Calls (graph_of p) (name_of x.frame) f → Follows p d (calls_by p d ls (bare_program p d) to f args (bare_side x) None a) (calls_by p d ls (with_functions p ls) to f args (placed_side x) None b)
  named_follows ls f a b to args x ok neither c edge = strays refl refl
  named_follows ls f a b to args x ok (both l there serves name) c edge =
      defined_follows ls l to args x (of_program p d l.body ok base there) serves c (subst (λ (n : List ℕ). Calls (graph_of p) (name_of x.frame) n) (sym name) edge)

  by_own : (ls : List Located) (f : List ℕ) (own : Option Library) (to : Option ℕ) (args : List Value) (x : Twin) → IsProgram p → IsServed p d ls → IsCalling p d x to → Calls (graph_of p) (name_of x.frame) f
      → Follows p d (calls_by p d ls (bare_program p d) to f args (bare_side x) own (function_named (bare_program p d) f)) (calls_by p d ls (with_functions p ls) to f args (placed_side x) own (function_named (with_functions p ls) f))
  by_own ls f (Some lib) to args x ok served c edge = by_library p d ls lib x to f args (Some lib) refl c
  by_own ls f None to args x ok served c edge =
      named_follows ls f (function_named (bare_program p d) f) (function_named (with_functions p ls) f) to args x ok (same_functions p d ls f served) c edge

  pub calls_follow : (ls : List Located) (f : List ℕ) (to : Option ℕ) (args : List Value) (x : Twin) → IsProgram p → IsServed p d ls → IsCalling p d x to → Calls (graph_of p) (name_of x.frame) f
      → Follows p d (calls (bare_program p d) to f args (bare_side x)) (calls (with_functions p ls) to f args (placed_side x))
  calls_follow ls f to args x ok served c edge = by_own ls f (library_at f) to args x ok served c edge
