-- The starts of both runs.
use Rattle.std.specs.Prelude.{ℕ, ◌≡◌, Option, Some, None, List, [], ◌∷◌, length, map, replicate, slice_get}
use Rattle.std.proofs.Common.{refl, sym, ◌∙◌}
use Rattle.std.proofs.lemmas.List.{length-replicate}
use Rattle.pw_value.specs.declared.value.Value.{Value}
use Rattle.pw_value.specs.declared.value.Value.TheVariants.{Undefined}
use Rattle.pw_value.specs.declared.value.Byte.{Byte}
use Rattle.pw_value.specs.ProgramNames.{start_name}
use Rattle.pw_value.specs.Objects.{Object}
use Rattle.pw_db.specs.Database.{IsDatabase}
use Rattle.pw_db.specs.declared.database.Directives.{Directives}
use Rattle.pw_webflow.specs.declared.web.WebBlock.{WebBlock}
use Rattle.pw_alloc.specs.Allocation.{saved_of}
use Rattle.pw_alloc.specs.declared.located.Place.{Place}
use Rattle.pw_alloc.specs.declared.located.Place.TheVariants.{Slot, Reg}
use Rattle.pw_alloc.specs.declared.located.Located.{Located}
use Rattle.pw_run.specs.Runs as run
use Rattle.pw_run.specs.Runs.{Same}
use Rattle.pw_db_sound.specs.Sound.{Sound}
use Rattle.pw_run_languages.specs.Traces.{Standing, Event, Called, EventAlike, called}
use Rattle.pw_run_languages.specs.Programs.{Program, start_objects}
use Rattle.pw_run_languages.specs.LawfulPrograms.{IsProgram, graph_of}
use Rattle.pw_run_languages.specs.FlowRun.{with_slots}
use Rattle.pw_run_languages.specs.Direction.{directed_functions, unplaced, with_functions}
use Rattle.pw_run_languages.specs.PlacedRun.{PlacedProgram, Machine, Step, Astray, kept, globals_now, entered_webs, enters_webs, first_block, function_named}
use Rattle.pw_run_languages.specs.Serving.{Serves}
use Rattle.pw_law_direction.proofs.Banks.{saved_same}
use Rattle.pw_law_placed.specs.Twins.{Twin, bare_side, placed_side, bare_value, placed_value, bare_program}
use Rattle.pw_law_placed.specs.Alike.{Registers, IsPlaced, Follows, goes, strays}
use Rattle.pw_law_placed.specs.Laws.{BothNamed, neither, both, StartsFollow}
use Rattle.pw_law_placed.proofs.Places.{register_of_place, value_at}
use Rattle.pw_law_placed.proofs.Noting.{standings_alike}
use Rattle.pw_law_placed.proofs.Naming.{same_functions}
use Rattle.pw_law_placed.proofs.Begun.{nothing_there}
use Rattle.pw_law_placed.proofs.Entering.{Entering, LoadsBoth, all_loaded, unloaded, loads_both}
use Rattle.pw_law_placed.proofs.Receiving.{started_alike}
use Rattle.pw_law_placed.proofs.Calling.{IsOfProgram, of_program, keys, entries_alone, loaded_receiving}

abbrev nothing : Registers
nothing r = Undefined

module _ (p : Program) (d : List (List ℕ × Directives)) (base : IsDatabase d) (sound : Sound (graph_of p) d) (ls : List Located) (input : List ℕ) where
  -- ---- both states

  abbrev objects : List Object
  objects = start_objects p

  abbrev noted_first : List (Event Byte Value)
  noted_first = Called start_name (globals_now (bare_program p d) nothing [] objects) (kept nothing) ∷ []

  abbrev started : Located → WebBlock → Twin
  started l b = record {
    frame = record {
      function = l;
      block = 0;
      ops = b.ops;
      end = b.end;
      base = length objects;
      result = None;
      bare = record { temps = replicate l.body.temps Undefined; saved = map (λ r. (r, nothing r)) (saved_of l.body); before = kept nothing };
      placed = record { temps = replicate l.body.temps Undefined; saved = map (λ r. (r, nothing r)) l.saved; before = kept nothing };
    };
    callers = [];
    objects = with_slots l.body.slots objects;
    rest = input;
    read = 0;
    out = [];
    events = 0;
    registers = nothing;
    trace = noted_first;
    bank = nothing;
    notes = noted_first;
  }

  started_placed : (l : Located) (b : WebBlock) → IsOfProgram p d l.body → Serves l.body l → IsPlaced p d (started l b).frame
  started_placed l b is serves = record {
    flow = is.flow;
    there = is.there;
    body = is.body;
    lawful = is.lawful;
    serves = serves;
    bare = keys nothing (saved_of l.body);
    placed = keys nothing l.saved;
    room = length-replicate l.body.temps Undefined;
    words = length-replicate l.body.temps Undefined;
  }

  -- registers hold nothing, and neither do temporaries
  started_temps : (l : Located) (b : WebBlock) (t : ℕ) → bare_value (started l b).frame t ≡ placed_value (started l b).frame nothing t
  started_temps l b t = nothing_there l.body.temps t ∙ sym (by_place (slice_get l.places t)) where
    by_place : (o : Option Place) → value_at (replicate l.body.temps Undefined) nothing t (register_of_place o) ≡ Undefined
    by_place (Some (Reg r)) = refl
    by_place (Some (Slot offset)) = nothing_there l.body.temps t
    by_place None = nothing_there l.body.temps t

  first_alike : run.AreAlike (EventAlike Same Same) noted_first noted_first
  first_alike =
      let gs : List (Standing Byte Value) = globals_now (bare_program p d) nothing [] objects in
      let e : Event Byte Value = Called start_name gs (kept nothing) in
      run.also e e [] [] (called start_name gs gs (kept nothing) (kept nothing) (standings_alike gs gs refl)) run.none

  started_entering : (l : Located) (b : WebBlock) → IsOfProgram p d l.body → Serves l.body l → slice_get l.body.blocks 0 ≡ Some b
      → Entering p d nothing nothing [] l None (entered_webs l) (started l b)
  started_entering l b is serves first = record {
    placed = started_placed l b is serves;
    block = b;
    first = first;
    ops = refl;
    end = refl;
    result = refl;
    function = refl;
    webs = λ r own left. refl;
    temps = started_temps l b;
    bare_under = λ q high. saved_same (saved_of l.body) nothing nothing q refl;
    placed_under = λ q high out. saved_same l.saved nothing nothing q refl;
    before = refl;
    callers = refl;
    log = first_alike;
    keeps = (tt, tt);
  }

  -- ---- the start

  abbrev begun : Located → WebBlock → Machine
  begun l b = record {
    frame = record {
      function = l;
      block = 0;
      ops = b.ops;
      end = b.end;
      temps = replicate l.body.temps Undefined;
      base = length objects;
      result = None;
      saved = map (λ r. (r, Undefined)) l.saved;
      before = kept (λ r. Undefined);
    };
    callers = [];
    registers = λ r. Undefined;
    objects = with_slots l.body.slots objects;
    rest = input;
    read = 0;
    out = [];
    events = 0;
    trace = Called start_name (globals_now (bare_program p d) (λ r. Undefined) [] objects) (kept (λ r. Undefined)) ∷ [];
  }

  abbrev starts_at : PlacedProgram → Located → Option WebBlock → Step
  starts_at q l None = Astray
  starts_at q l (Some b) = enters_webs q (entered_webs l) (begun l b)

  abbrev starts : PlacedProgram → Option Located → Step
  starts q (Some l) = starts_at q l (first_block l)
  starts q None = Astray

  after_loads : (l : Located) (s t : Step) → l.body.name ≡ start_name → LoadsBoth p d nothing nothing [] l None s t → Follows p d s t
  after_loads l s t name (all_loaded y e) =
      goes (record { twin = y; bare = refl; placed = refl; alike = started_alike p d nothing nothing l y name (loaded_receiving p d base sound nothing nothing [] l None y e) })
  after_loads l s t name unloaded = strays refl refl

  begins_follow : (l : Located) (block : Option WebBlock) → slice_get l.body.blocks 0 ≡ block → IsOfProgram p d l.body → Serves l.body l → l.body.name ≡ start_name
      → Follows p d (starts_at (bare_program p d) (unplaced l.body) block) (starts_at (with_functions p ls) l block)
  begins_follow l None first is serves name = strays refl refl
  begins_follow l (Some b) first is serves name =
      after_loads l (enters_webs (bare_program p d) (entered_webs l) (bare_side (started l b))) (enters_webs (with_functions p ls) (entered_webs l) (placed_side (started l b))) name
      (loads_both p d base sound ls nothing nothing [] l None (entered_webs l) (started l b) (entries_alone p d base sound l.body is) (started_entering l b is serves first))

  named_follows : IsProgram p → (a b : Option Located) → BothNamed (directed_functions p d) start_name a b → Follows p d (starts (bare_program p d) a) (starts (with_functions p ls) b)
  named_follows ok a b neither = strays refl refl
  named_follows ok a b (both l there serves name) = begins_follow l (first_block l) refl (of_program p d l.body ok base there) serves name

pub starts_follow : StartsFollow
starts_follow p d ls input ok base sound served =
    named_follows p d base sound ls input ok (function_named (bare_program p d) start_name) (function_named (with_functions p ls) start_name) (same_functions p d ls start_name served)
