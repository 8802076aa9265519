-- The starts of both runs.
use Rattle.std.proofs.Common.{◌≡◌, ◌<◌, ◌+◌, ◌-◌, ℕ, zero, suc, inl, inr, Option, Some, None, List, [], ◌∷◌, ◌++◌, map, length, replicate, refl, ap, sym, ◌∙◌, subst, arith}
use Rattle.std.specs.Prelude.{IfSome, option_map, slice_index_or, Contains}
use Rattle.std.specs.List.{flat_map, AllByRecursion}
use Rattle.std.specs.Str.{bytes_eq}
use Rattle.std.proofs.lemmas.List.{length-map, length-replicate}
use Rattle.std.proofs.lemmas.List.Elements.{Contains-append_left, Contains-append_cases, Contains-get_or}
use Rattle.std.proofs.lemmas.Slice.Eq.{bytes_eq-Decides}
use Rattle.pw_value.specs.declared.value.Kind.{Kind}
use Rattle.pw_value.specs.declared.value.Value.{Value}
use Rattle.pw_value.specs.declared.value.Value.TheVariants.{Undefined}
use Rattle.pw_value.specs.declared.value.Byte.{Byte}
use Rattle.pw_value.specs.declared.value.Byte.TheVariants as B
use Rattle.pw_value.specs.ProgramNames.{start_name}
use Rattle.pw_value.specs.Objects.{Object, object_at, byte_at, with_bytes}
use Rattle.pw_db.specs.declared.database.Web.{Web}
use Rattle.pw_db.specs.declared.database.Role.{Role}
use Rattle.pw_db.specs.declared.database.Role.TheVariants.{Entry, Member}
use Rattle.pw_db.specs.declared.database.Directives.{Directives}
use Rattle.pw_db.specs.Database.{IsDatabase}
use Rattle.pw_flow.specs.declared.flow.Block.{Block}
use Rattle.pw_flow.specs.declared.flow.Item.{Item}
use Rattle.pw_flow.specs.declared.flow.Item.TheVariants.{Bytes, Address}
use Rattle.pw_flow.specs.declared.flow.FlowFn.{FlowFn}
use Rattle.pw_flow.specs.declared.flow.FlowGlobal.{FlowGlobal}
use Rattle.pw_flow.specs.declared.flow.FlowModule.{FlowModule}
use Rattle.pw_flow.specs.FlowGraph.{item_names, names_in_global, names_in_function, named_in}
use Rattle.pw_flow.specs.Addressed.{addressed}
use Rattle.pw_flow.specs.ValidFlow.{IsValid, IsGlobal, kind_size, AreItems}
use Rattle.pw_webflow.specs.declared.web.WebBlock.{WebBlock}
use Rattle.pw_webflow.specs.Direction.{register_of, directed, directed_block}
use Rattle.pw_alloc.specs.declared.located.Located.{Located}
use Rattle.pw_db_sound.specs.Sound.{Has, Sound}
use Rattle.pw_run.specs.Runs as run
use Rattle.pw_run_languages.specs.Traces.{Event, Called, calls_alone}
use Rattle.pw_run_languages.specs.Programs.{Program, functions_of, names_of, globals_of, block_at, global_number, pointer_to, item_bytes, with_items, object_of, start_objects}
use Rattle.pw_run_languages.specs.Programs as programs
use Rattle.pw_run_languages.specs.Memory.{scalar_of}
use Rattle.pw_run_languages.specs.FlowRun as flow
use Rattle.pw_run_languages.specs.FlowRun.{with_slots, start_temps}
use Rattle.pw_run_languages.specs.LawfulPrograms.{IsProgram, graph_of, taken_names, ops_of, eligible_of}
use Rattle.pw_run_languages.specs.PlacedRun as web
use Rattle.pw_run_languages.specs.PlacedRun.{held, with_registers}
use Rattle.pw_run_languages.specs.Direction.{MomentAlike, directed_by, unplaced}
use Rattle.pw_law_direction.specs.Values.{IsTaken}
use Rattle.pw_law_direction.specs.DirectedLaws.{TakenFunctionsAreFine}
use Rattle.pw_law_direction.specs.Pairs.{Active, Pair, flow_side, web_side, webs_of, under}
use Rattle.pw_law_direction.specs.Alike.{FinePointer, FineByte, AreTameBytes, GlobalStands, ObjectsAlike, IsAlike, Follows}
use Rattle.pw_law_direction.specs.SideBySide.{StartsFollow}
use Rattle.pw_law_direction.proofs.Elements.{nowhere, first-there, later-there, at-there, flat-there, flat-back}
use Rattle.pw_law_direction.proofs.Names.{has-there, is-eligible, number-within, number-name, number-leads, has-number, pointer-by, behind-globals}
use Rattle.pw_law_direction.proofs.Tame.{with-bytes-tame}
use Rattle.pw_law_direction.proofs.Globals.{distinct-right, one-of-name, all-hold, found-there}
use Rattle.pw_law_direction.proofs.Registers.{kept-in}
use Rattle.pw_law_direction.proofs.Calls.{further}
use Rattle.pw_law_direction.proofs.Callees.{same-functions}
use Rattle.pw_law_direction.proofs.Slots.{with-slots-alike, start-tame}
use Rattle.pw_law_direction.proofs.Entering.{entered-among, all-entered, entered-only, Loads, enters-on}
use Rattle.pw_law_direction.proofs.Bytes.{Loadable, start-loadable, items-length}
use Rattle.pw_law_direction.proofs.Calling.{HaveLoaded, At, at-entry, callee, saving-of, may-load}

-- ---- what items hold is fine

taken-by-item : (p : Program) (x : FlowGlobal) (i : ℕ × Item) (name : List ℕ) → Contains (globals_of p) x → Contains x.items i → Contains (item_names i.1) name → IsTaken p name
taken-by-item p x i name there item named = has-there (taken_names p) name
    (Contains-append_left (flat_map names_in_global (globals_of p)) (flat_map (λ (f : FlowFn). flat_map addressed (ops_of f)) (functions_of p)) name
    (flat-there names_in_global (globals_of p) x name there (flat-there (λ (i : ℕ × Item). item_names i.1) x.items i name item named)))

-- a name in an item is that of a function or of a global
defined-by-item : (p : Program) (x : FlowGlobal) (i : ℕ × Item) (name : List ℕ) → IsProgram p → Contains (globals_of p) x → Contains x.items i → Contains (item_names i.1) name
    → Contains (names_of p ++ map (λ g. g.name) (globals_of p)) name
defined-by-item p x i name lawful there item named =
    let m = flat-back (λ (m : FlowModule). m.globals) p.modules x there in
    let own : Contains (named_in m.is) name = Contains-append_left (flat_map names_in_global m.is.globals) (flat_map names_in_function m.is.functions) name
    (flat-there names_in_global m.is.globals x name m.holds (flat-there (λ (i : ℕ × Item). item_names i.1) x.items i name item named)) in
    lawful.defined name (flat-there named_in p.modules m.is name m.there own)

pointer-leads : (p : Program) (name : List ℕ) (offset : ℕ) (found : Option ℕ) → TakenFunctionsAreFine → global_number p name ≡ found → IsTaken p name → Contains (names_of p ++ map (λ g. g.name) (globals_of p)) name
    → FinePointer p (pointer-by p name offset found)
pointer-leads p name offset (Some o) fine e taken c = number-leads p name o e taken
pointer-leads p name offset None fine e taken c = elim (Contains-append_cases (names_of p) (map (λ g. g.name) (globals_of p)) name c) [
  | inl function ↦ fine p name taken function
  | inr global ↦ absurd (has-number p name global e)
]

bytes-fine : (p : Program) (bytes : List ℕ) → AllByRecursion (FineByte p) (map B.Num bytes)
bytes-fine p [] = tt
bytes-fine p (b ∷ bytes) = (tt, bytes-fine p bytes)

item-fine : (p : Program) (x : FlowGlobal) (o : ℕ) (item : Item) → TakenFunctionsAreFine → IsProgram p → Contains (globals_of p) x → Contains x.items (o, item) → AllByRecursion (FineByte p) (item_bytes p item)
item-fine p x o (Bytes bytes) fine lawful there c = bytes-fine p bytes
item-fine p x o (Address name offset) fine lawful there c =
    let leads : FinePointer p (pointer_to p name offset) = pointer-leads p name offset (global_number p name) fine refl (taken-by-item p x (o, Address name offset) name there c (first-there name []))
    (defined-by-item p x (o, Address name offset) name lawful there c (first-there name [])) in
    (leads, (leads, (leads, (leads, tt))))

items-fine : (p : Program) (items : List (ℕ × Item)) (bytes : List Byte) → ((i : ℕ × Item) → Contains items i → AllByRecursion (FineByte p) (item_bytes p i.1)) → AreTameBytes p bytes → AreTameBytes p (with_items p items bytes)
items-fine p [] bytes each tame = tame
items-fine p (i ∷ items) bytes each tame =
    items-fine p items (with_bytes (item_bytes p i.1) i.0 bytes) (λ j c. each j (later-there i j items c)) (with-bytes-tame p (item_bytes p i.1) i.0 bytes (each i (first-there i items)) tame)

zeros-fine : (p : Program) (size i : ℕ) → FineByte p (byte_at (replicate size (B.Num 0)) i)
zeros-fine p zero i = tt
zeros-fine p (suc size) zero = tt
zeros-fine p (suc size) (suc i) = zeros-fine p size i

objects-fine : (p : Program) (xs : List FlowGlobal) (o : ℕ) → ((x : FlowGlobal) → Contains xs x → AreTameBytes p (object_of p x).bytes) → AreTameBytes p (object_at (map (object_of p) xs) o).bytes
objects-fine p [] o each = λ i. tt
objects-fine p (x ∷ xs) zero each = each x (first-there x xs)
objects-fine p (x ∷ xs) (suc o) each = objects-fine p xs o (λ y c. each y (later-there x y xs c))

-- ---- an eligible global holds a value of its kind

object-is : (p : Program) (xs : List FlowGlobal) (n : ℕ) (x : FlowGlobal) → n < length xs → object_at (map (object_of p) xs) n ≡ object_of p (slice_index_or xs n x)
object-is p [] n x less = absurd (omega (arith, less))
object-is p (y ∷ xs) zero x less = refl
object-is p (y ∷ xs) (suc n) x less = object-is p xs n x (omega (arith, less))

start-stands : (p : Program) (d : List (List ℕ × Directives)) (g : List ℕ) (k : Kind) (n : ℕ) → IsProgram p → Contains (eligible_of p) (g, k) → global_number p g ≡ Some n → At d [] (λ r. Undefined) (start_objects p) (start_objects p) g k n
start-stands p d g k n lawful c number =
    let el = is-eligible p g k c in
    let less : n < length (globals_of p) = number-within p el.global g n number in
    let x : FlowGlobal = slice_index_or (globals_of p) n el.global in
    let same : x ≡ el.global = one-of-name (globals_of p) x el.global (distinct-right (names_of p) (map (λ g. g.name) (globals_of p)) lawful.names)
    (Contains-get_or (globals_of p) n el.global less) el.there (number-name p el.global g n number ∙ sym el.name) in
    let is : object_at (start_objects p) n ≡ object_of p el.global = object-is p (globals_of p) n el.global less ∙ ap (λ (y : FlowGlobal). object_of p y) same in
    subst (λ (o : Object). GlobalStands d [] g k None o o) (sym is) (of-global el.global el.there el.kind)
  where
    of-global : (x : FlowGlobal) → Contains (globals_of p) x → x.kind ≡ Some k → GlobalStands d [] g k None (object_of p x) (object_of p x)
    of-global x there kind =
        let m = flat-back (λ (m : FlowModule). m.globals) p.modules x there in
        let valid : IsGlobal x = all-hold IsGlobal m.is.globals x (all-hold IsValid p.modules m.is lawful.modules m.there).parts.globals m.holds in
        let size : x.size ≡ kind_size k = subst (λ (o : Option Kind). IfSome o (λ k. x.size ≡ kind_size k)) kind valid.kind in
        let loadable = start-loadable p k x.items (subst (λ (n : ℕ). AreItems n 0 x.items) size valid.items) (lawful.items x there) in
        let bytes : with_items p x.items (replicate (kind_size k) (B.Num 0)) ≡ (object_of p x).bytes = ap (λ (n : ℕ). with_items p x.items (replicate n (B.Num 0))) (sym size) in
        let own = subst (Loadable k) bytes loadable in
        let long : length (object_of p x).bytes ≡ kind_size k = items-length p x.items (replicate x.size (B.Num 0)) ∙ length-replicate x.size (B.Num 0) ∙ size in
        record { lives = refl; lives_too = refl; size = long; size_too = long; kind = own.kind; bytes = own.again; stands = tt; memory = λ not. refl }

start-alike : (p : Program) (d : List (List ℕ × Directives)) → TakenFunctionsAreFine → IsProgram p → ObjectsAlike p d [] (λ r. Undefined) (start_objects p) (start_objects p)
start-alike p d fine lawful = record {
  count = refl;
  others = λ o plain. refl;
  globals = λ g k n c number. start-stands p d g k n lawful c number;
  tame = λ o. objects-fine p (globals_of p) o (λ x there. items-fine p x.items (replicate x.size (B.Num 0)) (λ i c. item-fine p x i.0 i.1 fine lawful there c) (zeros-fine p x.size));
}

-- ---- `$start` has loaded the webs that it enters

at-first : (p : Program) (d : List (List ℕ × Directives)) (f : Active) (after : ℕ → Value) (objects memory : List Object) → IsProgram p → IsDatabase d → Sound (graph_of p) d → f.function.name ≡ start_name
    → HaveLoaded p d f.function.name memory after → (g : List ℕ) (k : Kind) (n : ℕ) → Contains (eligible_of p) (g, k) → global_number p g ≡ Some n
    → At d [] (λ r. Undefined) objects memory g k n → (o : Option ℕ) → register_of (webs_of d f.function) g ≡ o → At d (f ∷ []) after objects memory g k n
at-first p d f after objects memory lawful is s start loaded g k n there number st None e = record {
  lives = st.lives;
  lives_too = st.lives_too;
  size = st.size;
  size_too = st.size_too;
  kind = st.kind;
  bytes = st.bytes;
  stands = subst (λ (o : Option Value). IfSome o (λ v. v ≡ scalar_of k (object_at objects n).bytes)) (sym (further d f g [] after e)) tt;
  memory = λ not. st.memory (λ t. nowhere t.function t.is_active);
}
at-first p d f after objects memory lawful is s start loaded g k n there number st (Some r) e =
    let kept = kept-in d f g r e in by-role kept.web kept.global kept.is kept.within.role kept.within.has
  where
    by-role : (w : Web) → w.global ≡ g → w.reg ≡ r → (role : Role) → Has d f.function.name w role → At d (f ∷ []) after objects memory g k n
    by-role w global reg Entry has = at-entry p d f [] after (λ r. Undefined) objects memory lawful is s start loaded g k n r e w global reg has there number st
    by-role w global reg Member has = absurd (s.start w (subst (λ (n : List ℕ). Has d n w Member) start has))

objects-at-first : (p : Program) (d : List (List ℕ × Directives)) (f : Active) (after : ℕ → Value) (objects memory : List Object) → IsProgram p → IsDatabase d → Sound (graph_of p) d → f.function.name ≡ start_name
    → HaveLoaded p d f.function.name memory after → ObjectsAlike p d [] (λ r. Undefined) objects memory → ObjectsAlike p d (f ∷ []) after objects memory
objects-at-first p d f after objects memory lawful is s start loaded a = record {
  count = a.count;
  others = a.others;
  globals = λ g k n there number. at-first p d f after objects memory lawful is s start loaded g k n there number (a.globals g k n there number) (register_of (webs_of d f.function) g) refl;
  tame = a.tame;
}

-- ---- the starts

abbrev nothing : ℕ → Value
nothing r = Undefined

abbrev note-start : Program → List (List ℕ × Directives) → Event Byte Value
note-start p d = Called start_name (web.globals_now (under p d) nothing [] (start_objects p)) (web.kept nothing)

abbrev first : Program → List (List ℕ × Directives) → FlowFn → Block → List Value → (ℕ → Value) → List (Event Byte Value) → List ℕ → Pair
first p d fn b temps registers trace input = record {
  frame = callee d fn b None temps (length (start_objects p)) nothing;
  callers = [];
  rest = input;
  read = 0;
  out = [];
  events = 0;
  objects = with_slots fn.slots (start_objects p);
  moments = [];
  registers = registers;
  memory = with_slots fn.slots (start_objects p);
  trace = trace;
}

first-alike : (p : Program) (d : List (List ℕ × Directives)) (fn : FlowFn) (b : Block) (registers : ℕ → Value) (trace : List (Event Byte Value)) (input : List ℕ) → TakenFunctionsAreFine → IsProgram p → IsDatabase d → Sound (graph_of p) d
    → Contains (functions_of p) fn → fn.name ≡ start_name → block_at fn 0 ≡ Some b → Loads p d fn.name (with_slots fn.slots (start_objects p)) nothing [] registers → calls_alone trace ≡ calls_alone (note-start p d ∷ [])
    → IsAlike p d (first p d fn b (start_temps fn []) registers trace input)
first-alike p d fn b registers trace input fine lawful is s there name block loads quiet =
    let f : Active = callee d fn b None (start_temps fn []) (length (start_objects p)) nothing in
    let saving = saving-of p d f (with_slots fn.slots (start_objects p)) nothing registers is refl loads in record {
      frame = record {
        there = there;
        code = λ o c. flat-there (λ (k : Block). k.ops) fn.blocks b o (at-there fn.blocks 0 b block) c;
        slots = λ i. behind-globals p (length (start_objects p) + i) (let e = length-map (globals_of p) (object_of p) in omega (arith, e));
        temps = start-tame p fn [] tt;
        saves = saving.0;
      };
      callers = tt;
      linked = name;
      objects = objects-at-first p d f registers (with_slots fn.slots (start_objects p)) (with_slots fn.slots (start_objects p)) lawful is s name (λ w has. loads.loaded w has (λ c. nowhere w c))
          (with-slots-alike p d [] nothing fn.slots (start_objects p) (start_objects p) (start-alike p d fine lawful));
      log = subst (λ (l : List (Event Byte Value)). run.AreAlike (MomentAlike p) [] l) (sym quiet) run.none;
    }

starting-follows : (p : Program) (d : List (List ℕ × Directives)) (fn : FlowFn) (b : Block) (input : List ℕ) → TakenFunctionsAreFine → IsProgram p → IsDatabase d → Sound (graph_of p) d
    → Contains (functions_of p) fn → fn.name ≡ start_name → block_at fn 0 ≡ Some b
    → Follows p d (flow.On (flow_side (first p d fn b (start_temps fn []) nothing [] input)))
    (web.enters_webs (under p d) (entered-among (webs_of d fn)) (web_side d (first p d fn b (replicate fn.temps Undefined) nothing (note-start p d ∷ []) input)))
starting-follows p d fn b input fine lawful is s there name block =
    let memory : List Object = with_slots fn.slots (start_objects p) in
    let objects = with-slots-alike p d [] nothing fn.slots (start_objects p) (start_objects p) (start-alike p d fine lawful) in
    let r = enters-on p (graph_of p) d fn.name memory nothing is s (λ w has. may-load p d [] nothing memory memory fn.name w lawful s objects has)
    (entered-among (webs_of d fn)) (λ w c. entered-only d fn w c) (web_side d (first p d fn b (replicate fn.temps Undefined) nothing (note-start p d ∷ []) input)) refl
    (record { loaded = λ w has done. absurd (done (all-entered d fn w is has)); others = λ q none. refl }) in
    let e : fn.temps - 0 ≡ fn.temps = omega arith in record {
      pair = first p d fn b (start_temps fn []) r.registers r.trace input;
      flow = refl;
      web = r.on ∙ ap (λ (n : ℕ). web.On (web_side d (first p d fn b (replicate n Undefined) r.registers r.trace input))) (sym e);
      alike = first-alike p d fn b r.registers r.trace input fine lawful is s there name block r.loads r.quiet;
    }

abbrev flow-begins : Program → List (List ℕ × Directives) → List ℕ → FlowFn → Option Block → flow.Step
flow-begins p d input f None = flow.Astray
flow-begins p d input f (Some b) = flow.On (flow_side (first p d f b (start_temps f []) nothing [] input))

-- the directed run at the first block of a function
abbrev web-begins : web.PlacedProgram → List ℕ → Located → Option WebBlock → web.Step
web-begins p input f None = web.Astray
web-begins p input f (Some b) = web.enters_webs p (web.entered_webs f) (record {
  frame = record {
    function = f;
    block = 0;
    ops = b.ops;
    end = b.end;
    temps = replicate f.body.temps Undefined;
    base = length (start_objects p.flow);
    result = None;
    saved = map (λ r. (r, Undefined)) f.saved;
    before = web.kept nothing;
  };
  callers = [];
  registers = nothing;
  objects = with_slots f.body.slots (start_objects p.flow);
  rest = input;
  read = 0;
  out = [];
  events = 0;
  trace = Called start_name (web.globals_now p nothing [] (start_objects p.flow)) (web.kept nothing) ∷ [];
})

block-follows : (p : Program) (d : List (List ℕ × Directives)) (fn : FlowFn) (found : Option Block) (input : List ℕ) → TakenFunctionsAreFine → IsProgram p → IsDatabase d → Sound (graph_of p) d
    → Contains (functions_of p) fn → fn.name ≡ start_name → block_at fn 0 ≡ found
    → Follows p d (flow-begins p d input fn found) (web-begins (under p d) input (unplaced (directed_by d fn)) (option_map (directed_block (webs_of d fn)) found))
unfolding directed
block-follows p d fn None input fine lawful is s there name block = tt
block-follows p d fn (Some b) input fine lawful is s there name block = starting-follows p d fn b input fine lawful is s there name block

abbrev flow-starts : Program → List (List ℕ × Directives) → List ℕ → Option FlowFn → flow.Step
flow-starts p d input (Some f) = flow-begins p d input f (block_at f 0)
flow-starts p d input None = flow.Astray

abbrev web-starts : web.PlacedProgram → List ℕ → Option Located → web.Step
web-starts p input (Some f) = web-begins p input f (web.first_block f)
web-starts p input None = web.Astray

found-follows : (p : Program) (d : List (List ℕ × Directives)) (input : List ℕ) (found : Option FlowFn) → TakenFunctionsAreFine → IsProgram p → IsDatabase d → Sound (graph_of p) d → programs.function_named p start_name ≡ found
    → Follows p d (flow-starts p d input found) (web-starts (under p d) input (option_map (λ f. unplaced (directed_by d f)) found))
unfolding directed
found-follows p d input None fine lawful is s e = tt
found-follows p d input (Some fn) fine lawful is s e =
    let r = found-there (λ (h : FlowFn). bytes_eq h.name start_name) (functions_of p) fn e in
    subst (λ (o : Option WebBlock). Follows p d (flow-begins p d input fn (block_at fn 0)) (web-begins (under p d) input (unplaced (directed_by d fn)) o)) (sym ((same-functions p d).block fn 0))
    (block-follows p d fn (block_at fn 0) input fine lawful is s r.0 ((bytes_eq-Decides fn.name start_name).0 r.1) refl)

pub starts-follow : TakenFunctionsAreFine → StartsFollow
starts-follow fine p d input lawful is s =
    subst (λ (l : Option Located). Follows p d (flow.start p input) (web-starts (under p d) input l)) (sym ((same-functions p d).function start_name))
    (found-follows p d input (programs.function_named p start_name) fine lawful is s refl)
