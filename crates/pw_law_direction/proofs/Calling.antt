-- Calls of the program's own functions.
use Rattle.std.proofs.Common.{◌≡◌, ◌+◌, ◌==◌, ℕ, Bool, true, false, if◌then◌else◌, Option, Some, None, List, [], ◌∷◌, map, length, replicate, refl, ap, sym, ◌∙◌, subst}
use Rattle.std.specs.Prelude.{IfSome, nat_lt, option_map, slice_get, slice_index_or, Contains}
use Rattle.std.specs.List.{AllByRecursion}
use Rattle.std.specs.Str.{bytes_eq}
use Rattle.std.proofs.lemmas.Bool.{eqb-true}
use Rattle.std.proofs.lemmas.Option.{same_Some}
use Rattle.std.proofs.lemmas.Slice.Eq.{bytes_eq-Decides}
use Rattle.pw_value.specs.declared.value.Kind.{Kind}
use Rattle.pw_value.specs.declared.value.Value.{Value}
use Rattle.pw_value.specs.declared.value.Value.TheVariants.{Undefined}
use Rattle.pw_value.specs.declared.value.Byte.{Byte}
use Rattle.pw_value.specs.Objects.{Object, object_at}
use Rattle.pw_db.specs.declared.database.Web.{Web}
use Rattle.pw_db.specs.declared.database.Role.{Role}
use Rattle.pw_db.specs.declared.database.Role.TheVariants.{Entry, Member}
use Rattle.pw_db.specs.declared.database.Directives.{Directives}
use Rattle.pw_db.specs.Database.{IsDatabase}
use Rattle.pw_flow.specs.declared.flow.Op.{Op}
use Rattle.pw_flow.specs.declared.flow.Op.TheVariants as op
use Rattle.pw_flow.specs.declared.flow.Block.{Block}
use Rattle.pw_flow.specs.declared.flow.FlowFn.{FlowFn}
use Rattle.pw_webflow.specs.declared.web.WebOp.{WebOp}
use Rattle.pw_webflow.specs.declared.web.WebOp.TheVariants.{Flow}
use Rattle.pw_webflow.specs.declared.web.WebBlock.{WebBlock}
use Rattle.pw_webflow.specs.Direction.{register_of, directed, directed_op, directed_block}
use Rattle.pw_alloc.specs.declared.located.Located.{Located}
use Rattle.pw_alloc.specs.Allocation.{saved_of}
use Rattle.pw_db_sound.specs.CallGraphs.{Calls}
use Rattle.pw_db_sound.specs.Sound.{Has, Sound}
use Rattle.pw_run.specs.Runs as run
use Rattle.pw_run_languages.specs.Traces.{Event, Called, Refused, is_of_source, calls_alone}
use Rattle.pw_run_languages.specs.Programs.{Program, Library, library_at, functions_of, block_at, global_number}
use Rattle.pw_run_languages.specs.Programs as programs
use Rattle.pw_run_languages.specs.Memory.{scalar_of}
use Rattle.pw_run_languages.specs.Commands as command
use Rattle.pw_run_languages.specs.FlowRun as flow
use Rattle.pw_run_languages.specs.FlowRun.{get_global, with_slots, start_temps}
use Rattle.pw_run_languages.specs.LawfulPrograms.{IsProgram, graph_of, eligible_of}
use Rattle.pw_run_languages.specs.PlacedRun as web
use Rattle.pw_run_languages.specs.PlacedRun.{held}
use Rattle.pw_run_languages.specs.Direction.{MomentAlike, directed_by, unplaced}
use Rattle.pw_law_direction.specs.DirectedLaws.{StartIsNotCalled}
use Rattle.pw_law_direction.specs.Pairs.{Active, Pair, active_of, flow_side, web_side, webs_of, web_frames, under}
use Rattle.pw_law_direction.specs.Alike.{FineValue, Linked, Saves, names_active, GlobalStands, ObjectsAlike, IsAlike, Follows}
use Rattle.pw_law_direction.specs.SideBySide.{StepsFollow, AfterSaving, IsCall, CallsFollow}
use Rattle.pw_law_direction.proofs.Elements.{nowhere, later-there, first-there, at-there, flat-there}
use Rattle.pw_law_direction.proofs.Names.{IsEligible, is-eligible}
use Rattle.pw_law_direction.proofs.Globals.{kind-of, number-of-eligible, found-there}
use Rattle.pw_law_direction.proofs.Registers.{names-saved, kept-in, one-role}
use Rattle.pw_law_direction.proofs.Webs.{one-web}
use Rattle.pw_law_direction.proofs.WebReads.{eligible-in}
use Rattle.pw_law_direction.proofs.ByName.{no-web}
use Rattle.pw_law_direction.proofs.Calls.{here, stands-at-calls, entries-are-alone}
use Rattle.pw_law_direction.proofs.Steps.{with-ops, ops-alike}
use Rattle.pw_law_direction.proofs.Library.{depths, flow-by, web-by, library-calls-follow}
use Rattle.pw_law_direction.proofs.Saving.{saves-at-starts}
use Rattle.pw_law_direction.proofs.Callees.{same-functions}
use Rattle.pw_law_direction.proofs.Standing.{globals-all-stand}
use Rattle.pw_law_direction.proofs.Edges.{MayCall, call-allowed, source-name}
use Rattle.pw_law_direction.proofs.Slots.{with-slots-alike, with-temps, parameters-set, temps-start, start-tame, behind-all}
use Rattle.pw_law_direction.proofs.Entering.{entered-among, all-entered, entered-only, load-of-eligible, Loads, enters-on}

-- ---- where the globals stand at a call

-- what the registers of the webs that a function enters hold when it has loaded them
abbrev pub HaveLoaded : Program → List (List ℕ × Directives) → List ℕ → List Object → (ℕ → Value) → Type 0
HaveLoaded p d f memory registers = (w : Web) → Has d f w Entry → get_global p w.global w.kind memory ≡ Some (registers w.reg)

abbrev pub At : List (List ℕ × Directives) → List Active → (ℕ → Value) → List Object → List Object → List ℕ → Kind → ℕ → Type 0
At d active registers objects memory g k n = GlobalStands d (names_active active) g k (held g registers (web_frames d active)) (object_at objects n) (object_at memory n)

at-other : (p : Program) (d : List (List ℕ × Directives)) (f c : Active) (fs : List Active) (after now : ℕ → Value) (objects memory : List Object) → IsDatabase d → Sound (graph_of p) d → Linked (graph_of p) (f ∷ c ∷ fs)
    → Saves d f → AfterSaving f after now → (g : List ℕ) (k : Kind) (n : ℕ) → ((w : Web) → w.global ≡ g → Has d f.function.name w Entry → ⊥)
    → At d (c ∷ fs) now objects memory g k n → At d (f ∷ c ∷ fs) after objects memory g k n
at-other p d f c fs after now objects memory is s l saves saving g k n none st = record {
  lives = st.lives;
  lives_too = st.lives_too;
  size = st.size;
  size_too = st.size_too;
  kind = st.kind;
  bytes = st.bytes;
  stands = subst (λ (o : Option Value). IfSome o (λ v. v ≡ scalar_of k (object_at objects n).bytes)) (sym (stands-at-calls (graph_of p) d g f c fs after now is s l saves saving none)) st.stands;
  memory = λ not. st.memory (λ t. not (record {
    function = t.function;
    is_active = later-there f.function.name t.function (names_active (c ∷ fs)) t.is_active;
    web = t.web;
    within = t.within;
    global = t.global;
    writes = t.writes;
  }));
}

pub at-entry : (p : Program) (d : List (List ℕ × Directives)) (f : Active) (fs : List Active) (after now : ℕ → Value) (objects memory : List Object) → IsProgram p → IsDatabase d → Sound (graph_of p) d → Linked (graph_of p) (f ∷ fs)
    → HaveLoaded p d f.function.name memory after → (g : List ℕ) (k : Kind) (n : ℕ) (r : ℕ) → register_of (webs_of d f.function) g ≡ Some r → (w : Web) → w.global ≡ g → w.reg ≡ r → Has d f.function.name w Entry
    → Contains (eligible_of p) (g, k) → global_number p g ≡ Some n → At d fs now objects memory g k n → At d (f ∷ fs) after objects memory g k n
at-entry p d f fs after now objects memory lawful is s l loaded g k n r e w global reg has there number st =
    let el = is-eligible p g k there in
    let own = is-eligible p w.global w.kind (eligible-in p d s w f.function.name (record { role = Entry; has = has })) in
    let kind : w.kind ≡ k = kind-of p g w.kind k lawful (subst (λ (x : List ℕ). IsEligible p x w.kind) global own) el in
    let got : get_global p g k memory ≡ Some (after w.reg) =
    subst (λ (x : Kind). get_global p g x memory ≡ Some (after w.reg)) kind (subst (λ (x : List ℕ). get_global p x w.kind memory ≡ Some (after w.reg)) global (loaded w has)) in
    let value : after w.reg ≡ scalar_of k (object_at memory n).bytes = same_Some (after w.reg) (scalar_of k (object_at memory n).bytes) (sym got ∙ load-of-eligible p g k n memory lawful el number st.lives_too st.size_too) in
    let same : (object_at memory n).bytes ≡ (object_at objects n).bytes = st.memory (λ t. entries-are-alone (graph_of p) d w t.web f fs t.function is s l has t.is_active t.within (t.global ∙ sym global)) in
    record {
      lives = st.lives;
      lives_too = st.lives_too;
      size = st.size;
      size_too = st.size_too;
      kind = st.kind;
      bytes = st.bytes;
      stands = subst (λ (o : Option Value). IfSome o (λ v. v ≡ scalar_of k (object_at objects n).bytes)) (sym (here d f g r fs after e))
          (ap after (sym reg) ∙ value ∙ ap (λ (l : List Byte). scalar_of k l) same);
      memory = λ not. same;
    }

at-call : (p : Program) (d : List (List ℕ × Directives)) (f c : Active) (fs : List Active) (after now : ℕ → Value) (objects memory : List Object) → IsProgram p → IsDatabase d → Sound (graph_of p) d → Linked (graph_of p) (f ∷ c ∷ fs)
    → Saves d f → AfterSaving f after now → HaveLoaded p d f.function.name memory after → (g : List ℕ) (k : Kind) (n : ℕ) → Contains (eligible_of p) (g, k) → global_number p g ≡ Some n
    → At d (c ∷ fs) now objects memory g k n → (o : Option ℕ) → register_of (webs_of d f.function) g ≡ o → At d (f ∷ c ∷ fs) after objects memory g k n
at-call p d f c fs after now objects memory lawful is s l saves saving loaded g k n there number st None e =
    at-other p d f c fs after now objects memory is s l saves saving g k n (λ w global has. no-web d f g is e w (record { role = Entry; has = has }) global) st
at-call p d f c fs after now objects memory lawful is s l saves saving loaded g k n there number st (Some r) e =
    let kept = kept-in d f g r e in by-role kept.web kept.global kept.is kept.within.role kept.within.has
  where
    by-role : (w : Web) → w.global ≡ g → w.reg ≡ r → (role : Role) → Has d f.function.name w role → At d (f ∷ c ∷ fs) after objects memory g k n
    by-role w global reg Entry has = at-entry p d f (c ∷ fs) after now objects memory lawful is s l loaded g k n r e w global reg has there number st
    by-role w global reg Member has =
        at-other p d f c fs after now objects memory is s l saves saving g k n (λ u other entry.
        let same : u ≡ w = one-web d f.function.name u w is (record { role = Entry; has = entry }) (record { role = Member; has = has }) (other ∙ sym global) in
        one-role (graph_of p) d s w f (c ∷ fs) l (subst (λ (v : Web). Has d f.function.name v Entry) same entry) has) st

objects-at-call : (p : Program) (d : List (List ℕ × Directives)) (f c : Active) (fs : List Active) (after now : ℕ → Value) (objects memory : List Object) → IsProgram p → IsDatabase d → Sound (graph_of p) d
    → Linked (graph_of p) (f ∷ c ∷ fs) → Saves d f → AfterSaving f after now → HaveLoaded p d f.function.name memory after
    → ObjectsAlike p d (c ∷ fs) now objects memory → ObjectsAlike p d (f ∷ c ∷ fs) after objects memory
objects-at-call p d f c fs after now objects memory lawful is s l saves saving loaded a = record {
  count = a.count;
  others = a.others;
  globals = λ g k n there number. at-call p d f c fs after now objects memory lawful is s l saves saving loaded g k n there number (a.globals g k n there number) (register_of (webs_of d f.function) g) refl;
  tame = a.tame;
}

-- a function can load the webs that it enters
pub may-load : (p : Program) (d : List (List ℕ × Directives)) (active : List Active) (registers : ℕ → Value) (objects memory : List Object) (f : List ℕ) (w : Web) → IsProgram p → Sound (graph_of p) d
    → ObjectsAlike p d active registers objects memory → Has d f w Entry → (v : Value) × (get_global p w.global w.kind memory ≡ Some v)
may-load p d active registers objects memory f w lawful s a has =
    let there = eligible-in p d s w f (record { role = Entry; has = has }) in
    let el = is-eligible p w.global w.kind there in
    let n = number-of-eligible p w.global w.kind el in
    let st = a.globals w.global w.kind n.0 there n.1 in
    (scalar_of w.kind (object_at memory n.0).bytes, load-of-eligible p w.global w.kind n.0 memory lawful el n.1 st.lives_too st.size_too)

-- ---- the pair at the start of a function

abbrev pub callee : List (List ℕ × Directives) → FlowFn → Block → Option ℕ → List Value → ℕ → (ℕ → Value) → Active
callee d fn b t temps base registers = record {
  function = fn;
  block = 0;
  ops = b.ops;
  end = b.end;
  temps = temps;
  base = base;
  result = t;
  saved = map (λ r. (r, registers r)) (saved_of (directed_by d fn));
  before = web.kept registers;
}

abbrev note-call : Program → List (List ℕ × Directives) → List ℕ → Pair → Event Byte Value
note-call p d f x = Called f (web.globals_now (under p d) x.registers (web_frames d (active_of x)) x.memory) (web.kept x.registers)

abbrev at-start : List (List ℕ × Directives) → FlowFn → Block → Option ℕ → List Value → ℕ → (ℕ → Value) → List (Event Byte Value) → Pair → Pair
at-start d fn b t temps base registers trace x = record x {
  frame = callee d fn b t temps base x.registers;
  callers = x.frame ∷ x.callers;
  events = x.events + 1;
  objects = with_slots fn.slots x.objects;
  moments = flow.Called fn.name x.objects ∷ x.moments;
  registers = registers;
  memory = with_slots fn.slots x.memory;
  trace = trace;
}

-- a register that no entered web has is not changed
pub saving-of : (p : Program) (d : List (List ℕ × Directives)) (f : Active) (memory : List Object) (now registers : ℕ → Value) → IsDatabase d → f.saved ≡ map (λ r. (r, now r)) (saved_of (directed_by d f.function))
    → Loads p d f.function.name memory now [] registers → Saves d f × AfterSaving f registers now
saving-of p d f memory now registers is e loads =
    let r = saves-at-starts d f now is e in
    (r.0, record { saved = r.1; others = λ q free. loads.others q (λ w has same. free (subst (Contains (names-saved f.saved)) same (r.0.entries w has))) })

start-alike : (p : Program) (d : List (List ℕ × Directives)) (x : Pair) (fn : FlowFn) (b : Block) (t : Option ℕ) (args : List Value) (registers : ℕ → Value) (trace : List (Event Byte Value)) → IsProgram p → IsDatabase d → Sound (graph_of p) d
    → IsAlike p d x → Contains (functions_of p) fn → block_at fn 0 ≡ Some b → Calls (graph_of p) x.frame.function.name fn.name → AllByRecursion (FineValue p) args → is_of_source fn.name ≡ true
    → Loads p d fn.name (with_slots fn.slots x.memory) x.registers [] registers → calls_alone trace ≡ calls_alone (note-call p d fn.name x ∷ x.trace)
    → IsAlike p d (at-start d fn b t (start_temps fn args) (length x.objects) registers trace x)
start-alike p d x fn b t args registers trace lawful is s a there block edge fine shown loads quiet =
    let f : Active = callee d fn b t (start_temps fn args) (length x.objects) x.registers in
    let saving = saving-of p d f (with_slots fn.slots x.memory) x.registers registers is refl loads in
    let slots = with-slots-alike p d (active_of x) x.registers fn.slots x.objects x.memory a.objects in record {
      frame = record {
        there = there;
        code = λ o c. flat-there (λ (k : Block). k.ops) fn.blocks b o (at-there fn.blocks 0 b block) c;
        slots = behind-all p d (active_of x) x.registers x.objects x.memory a.objects;
        temps = start-tame p fn args fine;
        saves = saving.0;
      };
      callers = (a.frame, a.callers);
      linked = (edge, a.linked);
      objects = objects-at-call p d f x.frame x.callers registers x.registers (with_slots fn.slots x.objects) (with_slots fn.slots x.memory) lawful is s (edge, a.linked) saving.0 saving.1
          (λ w has. loads.loaded w has (λ c. nowhere w c)) slots;
      log = subst (λ (l : List (Event Byte Value)). run.AreAlike (MomentAlike p) (flow.Called fn.name x.objects ∷ x.moments) l)
          (sym (quiet ∙ ap (λ (q : Bool). if q then note-call p d fn.name x ∷ calls_alone x.trace else calls_alone x.trace) shown))
          (run.also (flow.Called fn.name x.objects) (note-call p d fn.name x) x.moments (calls_alone x.trace)
          (refl, globals-all-stand p d (active_of x) x.registers x.objects x.memory lawful is s a.objects) a.log);
    }

-- ---- a function is entered

entering-follows : (p : Program) (d : List (List ℕ × Directives)) (x : Pair) (fn : FlowFn) (b : Block) (t : Option ℕ) (args : List Value) → IsProgram p → IsDatabase d → Sound (graph_of p) d
    → IsAlike p d x → Contains (functions_of p) fn → block_at fn 0 ≡ Some b → Calls (graph_of p) x.frame.function.name fn.name → AllByRecursion (FineValue p) args → is_of_source fn.name ≡ true → length args ≡ fn.params
    → Follows p d (flow.On (flow.counted (flow.entered fn b t args (flow_side x))))
    (web.and_then (web.enters_webs (under p d) (entered-among (webs_of d fn)) (web_side d (at-start d fn b t (replicate fn.temps Undefined) (length x.memory) x.registers (note-call p d fn.name x ∷ x.trace) x)))
    (λ m. web.On (web.with_parameters 0 args m)))
entering-follows p d x fn b t args lawful is s a there block edge fine shown count =
    let memory : List Object = with_slots fn.slots x.memory in
    let slots = with-slots-alike p d (active_of x) x.registers fn.slots x.objects x.memory a.objects in
    let m : web.Machine = web_side d (at-start d fn b t (replicate fn.temps Undefined) (length x.memory) x.registers (note-call p d fn.name x ∷ x.trace) x) in
    let r = enters-on p (graph_of p) d fn.name memory x.registers is s (λ w has. may-load p d (active_of x) x.registers (with_slots fn.slots x.objects) memory fn.name w lawful s slots has)
    (entered-among (webs_of d fn)) (λ w c. entered-only d fn w c) m refl (record { loaded = λ w has done. absurd (done (all-entered d fn w is has)); others = λ q none. refl }) in
    let y : Pair = at-start d fn b t (replicate fn.temps Undefined) (length x.memory) r.registers r.trace x in record {
      pair = at-start d fn b t (start_temps fn args) (length x.objects) r.registers r.trace x;
      flow = refl;
      web = ap (λ (s : web.Step). web.and_then s (λ m. web.On (web.with_parameters 0 args m))) r.on
          ∙ ap (λ (m : web.Machine). web.On m) (parameters-set d y 0 args (replicate fn.temps Undefined))
          ∙ ap (λ (l : List Value). web.On (web_side d (with-temps l y))) (temps-start p fn args lawful there count)
          ∙ ap (λ (n : ℕ). web.On (web_side d (at-start d fn b t (start_temps fn args) n r.registers r.trace x))) a.objects.count;
      alike = start-alike p d x fn b t args r.registers r.trace lawful is s a there block edge fine shown r.loads r.quiet;
    }

abbrev flow-begins : FlowFn → Option ℕ → List Value → flow.Machine → Option Block → flow.Step
flow-begins fn t args m (Some b) = if length args == fn.params then flow.On (flow.counted (flow.entered fn b t args m)) else flow.Astray
flow-begins fn t args m None = flow.Astray

begins-follow : (p : Program) (d : List (List ℕ × Directives)) (x : Pair) (fn : FlowFn) (t : Option ℕ) (args : List Value) (found : Option Block) → IsProgram p → IsDatabase d → Sound (graph_of p) d
    → IsAlike p d x → Contains (functions_of p) fn → block_at fn 0 ≡ found → Calls (graph_of p) x.frame.function.name fn.name → AllByRecursion (FineValue p) args → is_of_source fn.name ≡ true
    → Follows p d (flow-begins fn t args (flow_side x) found)
    (web.begins (under p d) (unplaced (directed_by d fn)) (option_map (directed_block (webs_of d fn)) found) t args (web.counted (web.noted (note-call p d fn.name x) (web_side d x))))
unfolding directed
begins-follow p d x fn t args None lawful is s a there block edge fine shown = tt
begins-follow p d x fn t args (Some b) lawful is s a there block edge fine shown = by-count (length args == fn.params) refl
  where
    by-count : (c : Bool) → (length args == fn.params) ≡ c
        → Follows p d (if c then flow.On (flow.counted (flow.entered fn b t args (flow_side x))) else flow.Astray)
        (if c then web.and_then (web.enters_webs (under p d) (entered-among (webs_of d fn)) (web_side d (at-start d fn b t (replicate fn.temps Undefined) (length x.memory) x.registers (note-call p d fn.name x ∷ x.trace) x)))
        (λ m. web.On (web.with_parameters 0 args m)) else web.Astray)
    by-count false e = tt
    by-count true e = entering-follows p d x fn b t args lawful is s a there block edge fine shown (eqb-true (length args) fn.params e)

enough-follows : (p : Program) (d : List (List ℕ × Directives)) (x : Pair) (fn : FlowFn) (t : Option ℕ) (args : List Value) (b : Bool) → IsProgram p → IsDatabase d → Sound (graph_of p) d
    → IsAlike p d x → Contains (functions_of p) fn → Calls (graph_of p) x.frame.function.name fn.name → AllByRecursion (FineValue p) args → is_of_source fn.name ≡ true
    → Follows p d (if b then flow.Stopped run.StackFull (flow_side x) else flow-begins fn t args (flow_side x) (block_at fn 0))
    (if b then web.Stopped run.StackFull (web.noted (Refused fn.name) (web_side d x))
    else web.begins (under p d) (unplaced (directed_by d fn)) (slice_get (directed_by d fn).blocks 0) t args (web.counted (web.noted (note-call p d fn.name x) (web_side d x))))
enough-follows p d x fn t args true lawful is s a there edge fine shown = record {
  pair = record x { trace = Refused fn.name ∷ x.trace };
  flow = refl;
  web = refl;
  alike = record { frame = a.frame; callers = a.callers; linked = a.linked; objects = a.objects; log = a.log };
}
enough-follows p d x fn t args false lawful is s a there edge fine shown =
    subst (λ (o : Option WebBlock). Follows p d (flow-begins fn t args (flow_side x) (block_at fn 0))
    (web.begins (under p d) (unplaced (directed_by d fn)) o t args (web.counted (web.noted (note-call p d fn.name x) (web_side d x))))) (sym ((same-functions p d).block fn 0))
    (begins-follow p d x fn t args (block_at fn 0) lawful is s a there refl edge fine shown)

defined-follows : (p : Program) (d : List (List ℕ × Directives)) (x : Pair) (fn : FlowFn) (t : Option ℕ) (args : List Value) → IsProgram p → IsDatabase d → Sound (graph_of p) d
    → IsAlike p d x → Contains (functions_of p) fn → Calls (graph_of p) x.frame.function.name fn.name → AllByRecursion (FineValue p) args → is_of_source fn.name ≡ true
    → Follows p d (flow.calls_defined p fn t args (flow_side x)) (web.calls_defined (under p d) (unplaced (directed_by d fn)) t args (web_side d x))
unfolding directed
defined-follows p d x fn t args lawful is s a there edge fine shown =
    subst (λ (n : ℕ). Follows p d (if nat_lt p.stack (p.frame_of fn.name + flow.depth p (flow_side x)) then flow.Stopped run.StackFull (flow_side x) else flow-begins fn t args (flow_side x) (block_at fn 0))
    (if nat_lt p.stack (p.frame_of fn.name + n) then web.Stopped run.StackFull (web.noted (Refused fn.name) (web_side d x))
    else web.begins (under p d) (unplaced (directed_by d fn)) (slice_get (directed_by d fn).blocks 0) t args (web.counted (web.noted (note-call p d fn.name x) (web_side d x))))) (sym (depths p d x))
    (enough-follows p d x fn t args (nat_lt p.stack (p.frame_of fn.name + flow.depth p (flow_side x))) lawful is s a there edge fine shown)

-- ---- calls

found-follows : (p : Program) (d : List (List ℕ × Directives)) (x : Pair) (t : Option ℕ) (f : List ℕ) (args : List Value) (found : Option FlowFn) → StartIsNotCalled → IsProgram p → IsDatabase d → Sound (graph_of p) d
    → IsAlike p d x → programs.function_named p f ≡ found → Calls (graph_of p) x.frame.function.name f → AllByRecursion (FineValue p) args
    → Follows p d (flow-by p t f args (flow_side x) None found) (web-by (under p d) t f args (web_side d x) None (option_map (λ f. unplaced (directed_by d f)) found))
found-follows p d x t f args None quiet lawful is s a e edge fine = tt
found-follows p d x t f args (Some fn) quiet lawful is s a e edge fine =
    let r = found-there (λ (h : FlowFn). bytes_eq h.name f) (functions_of p) fn e in
    let name : f ≡ fn.name = sym ((bytes_eq-Decides fn.name f).0 r.1) in
    let call : Calls (graph_of p) x.frame.function.name fn.name = subst (Calls (graph_of p) x.frame.function.name) name edge in
    let source : is_of_source fn.name ≡ true = source-name p fn lawful r.0 (λ start. quiet p x.frame.function.name lawful (subst (Calls (graph_of p) x.frame.function.name) start call)) in
    defined-follows p d x fn t args lawful is s a r.0 call fine source

calls-by : (p : Program) (d : List (List ℕ × Directives)) (x : Pair) (t : Option ℕ) (f : List ℕ) (args : List Value) (o : Option Library) → StartIsNotCalled → IsProgram p → IsDatabase d → Sound (graph_of p) d
    → IsAlike p d x → library_at f ≡ o → Calls (graph_of p) x.frame.function.name f → AllByRecursion (FineValue p) args
    → Follows p d (flow.calls p t f args (flow_side x)) (web.calls (under p d) t f args (web_side d x))
calls-by p d x t f args (Some lib) quiet lawful is s a e edge fine = library-calls-follow p d x t f args lib is a e
calls-by p d x t f args None quiet lawful is s a e edge fine =
    subst (λ (o : Option Library). Follows p d (flow-by p t f args (flow_side x) o (programs.function_named p f)) (web-by (under p d) t f args (web_side d x) o (web.function_named (under p d) f))) (sym e)
    (subst (λ (l : Option Located). Follows p d (flow-by p t f args (flow_side x) None (programs.function_named p f)) (web-by (under p d) t f args (web_side d x) None l)) (sym ((same-functions p d).function f))
    (found-follows p d x t f args (programs.function_named p f) quiet lawful is s a refl edge fine))

obeys-call : (p : Program) (d : List (List ℕ × Directives)) (x : Pair) (c : command.Command) → StartIsNotCalled → IsProgram p → IsDatabase d → Sound (graph_of p) d → IsAlike p d x → MayCall p x.frame.function.name c
    → Follows p d (flow.obeys p c (flow_side x)) (web.obeys (under p d) c (web_side d x))
obeys-call p d x (command.Enter t f args) quiet lawful is s a h = calls-by p d x t f args (library_at f) quiet lawful is s a refl h.1 h.0
obeys-call p d x command.Fail quiet lawful is s a h = tt
obeys-call p d x _ quiet lawful is s a h = absurd h

call-flow : (webs : List (Web × Role)) (o : Op) → IsCall o → directed_op webs o ≡ Flow o
call-flow webs (op.Call t f args) h = refl
call-flow webs (op.CallInd t a shape args) h = refl
call-flow webs _ h = absurd h

call-follows : (p : Program) (d : List (List ℕ × Directives)) (x : Pair) (o : Op) (ops : List Op) → StartIsNotCalled → IsProgram p → IsDatabase d → Sound (graph_of p) d → IsAlike p d (with-ops (o ∷ ops) x) → IsCall o
    → StepsFollow p d (with-ops (o ∷ ops) x)
unfolding flow.step web.step
call-follows p d x o ops quiet lawful is s a h =
    let rest : IsAlike p d (with-ops ops x) = ops-alike p d (with-ops (o ∷ ops) x) ops (λ u c. a.frame.code u (later-there o u ops c)) a in
    subst (λ (w : WebOp). Follows p d (flow.obeys p (command.command p x.frame.base o (λ t. slice_index_or x.frame.temps t Undefined)) (flow_side (with-ops ops x))) (web.does (under p d) w (web_side d (with-ops ops x))))
    (sym (call-flow (webs_of d x.frame.function) o h))
    (obeys-call p d (with-ops ops x) (command.command p x.frame.base o (λ t. slice_index_or x.frame.temps t Undefined)) quiet lawful is s rest
    (call-allowed p x.frame.function o x.frame.base (λ t. slice_index_or x.frame.temps t Undefined) h a.frame.there (a.frame.code o (first-there o ops)) a.frame.temps))

pub calls-follow : StartIsNotCalled → CallsFollow
calls-follow quiet p d x o ops lawful is s a e h =
    subst (λ (l : List Op). StepsFollow p d (with-ops l x)) (sym e)
    (call-follows p d x o ops quiet lawful is s (subst (λ (l : List Op). IsAlike p d (with-ops l x)) e a) h)
