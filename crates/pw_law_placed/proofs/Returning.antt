-- Returns.
use Rattle.std.specs.Prelude.{ℕ, ◌≡◌, ◌-◌, Bool, true, false, if◌then◌else◌, Option, Some, None, List, [], ◌∷◌, length, map, Contains}
use Rattle.std.proofs.Common.{refl, sym, ap, subst, ◌∙◌, inl, inr}
use Rattle.pw_value.specs.declared.value.Value.{Value}
use Rattle.pw_value.specs.declared.value.Value.TheVariants.{Undefined}
use Rattle.pw_value.specs.declared.value.Byte.{Byte}
use Rattle.pw_value.specs.Objects.{Object}
use Rattle.pw_files.proofs.Standing.{Has}
use Rattle.pw_db.specs.declared.database.Web.{Web}
use Rattle.pw_db.specs.declared.database.Directives.{Directives}
use Rattle.pw_flow.specs.declared.flow.End.{End}
use Rattle.pw_flow.specs.declared.flow.End.TheVariants.{Return}
use Rattle.pw_flow.specs.Uses.{end_uses}
use Rattle.pw_alloc.specs.declared.located.Located.{Located}
use Rattle.pw_run.specs.Runs as run
use Rattle.pw_run.specs.Runs.{Same}
use Rattle.pw_run_languages.specs.Traces.{Event, Stored, Returned, EventAlike, stored, returned, KeepRegisters}
use Rattle.pw_run_languages.specs.Programs.{Program}
use Rattle.pw_run_languages.specs.FlowRun.{put_global, end_from}
use Rattle.pw_run_languages.specs.Direction.{with_functions}
use Rattle.pw_run_languages.specs.PlacedRun.{PlacedProgram, Frame, Machine, Step, On, Astray, kept, without_scratch, noted_if, is_eligible, and_then, leaves_webs, entered_webs, value_in, returns}
use Rattle.pw_run_languages.specs.PlacedRun.{given_back as gives_all_back}
use Rattle.pw_law_direction.proofs.Banks.{with_same, scratch_keeps, kept_at}
use Rattle.pw_law_placed.specs.Twins.{Active, Twin, bare_side, placed_side, bare_frame, placed_frame, bare_program}
use Rattle.pw_law_placed.specs.Alike.{Registers, given_back, name_of, AllWait, IsReady, IsAlike, Follows, strays}
use Rattle.pw_law_placed.proofs.Lists.{first_there}
use Rattle.pw_law_placed.proofs.Waiting.{gets_kept, waiting_same}
use Rattle.pw_law_placed.proofs.Writing.{results_follow}
use Rattle.pw_law_placed.proofs.Operations.{note, noted_ready}
use Rattle.pw_law_placed.proofs.Noting.{bare_globals, placed_globals, ready_globals}
use Rattle.pw_law_placed.proofs.Blocks.{ends_agree}

module _ (p : Program) (d : List (List ℕ × Directives)) (ls : List Located) where
  abbrev bare : PlacedProgram
  bare = bare_program p d

  abbrev full : PlacedProgram
  full = with_functions p ls

  -- ---- the webs that it entered are stored back

  -- both runs come to the same objects, or go astray
  data StoresBoth (x : Twin) : Step → Step → Type 0 where
    all_stored : (objects : List Object) (trace notes : List (Event Byte Value)) → run.AreAlike (EventAlike Same Same) trace notes → KeepRegisters d notes
        → StoresBoth x (On (bare_side (record x { objects = objects; trace = trace; notes = notes }))) (On (placed_side (record x { objects = objects; trace = trace; notes = notes })))
    unstored : StoresBoth x Astray Astray

  abbrev stored_by : PlacedProgram → List ℕ → Machine → Option (List Object) → Step
  stored_by q g m (Some objects) = On (noted_if (is_eligible q g) (Stored g) (record m { objects = objects }))
  stored_by q g m None = Astray

  abbrev Registered : Twin → List Web → Type 0
  Registered x ws = (w : Web) → Has w ws → x.registers w.reg ≡ x.bank w.reg

  stores_both : (ws : List Web) (x : Twin) → Registered x ws → run.AreAlike (EventAlike Same Same) x.trace x.notes → KeepRegisters d x.notes
      → StoresBoth x (leaves_webs bare ws (bare_side x)) (leaves_webs full ws (placed_side x))
  stores_both [] x same log keeps = all_stored x.objects x.trace x.notes log keeps
  stores_both (w ∷ ws) x same log keeps = by_writes w.writes (λ y own a k. stores_both ws y own a k) where
    Rest : Type 0
    Rest = (y : Twin) → Registered y ws → run.AreAlike (EventAlike Same Same) y.trace y.notes → KeepRegisters d y.notes → StoresBoth y (leaves_webs bare ws (bare_side y)) (leaves_webs full ws (placed_side y))

    later : Registered x ws
    later u among = same u (inr among)

    by_noted : (b : Bool) (objects : List Object) → Rest
        → StoresBoth x (leaves_webs bare ws (noted_if b (Stored w.global) (record (bare_side x) { objects = objects }))) (leaves_webs full ws (noted_if b (Stored w.global) (record (placed_side x) { objects = objects })))
    by_noted true objects rest =
        over (rest (record x { objects = objects; trace = Stored w.global ∷ x.trace; notes = Stored w.global ∷ x.notes }) later
        (run.also (Stored w.global) (Stored w.global) x.trace x.notes (stored w.global) log) (tt, keeps))
      where
        over : {s t : Step} → StoresBoth (record x { objects = objects; trace = Stored w.global ∷ x.trace; notes = Stored w.global ∷ x.notes }) s t → StoresBoth x s t
        over (all_stored o a b l k) = all_stored o a b l k
        over unstored = unstored
    by_noted false objects rest = over (rest (record x { objects = objects }) later log keeps) where
      over : {s t : Step} → StoresBoth (record x { objects = objects }) s t → StoresBoth x s t
      over (all_stored o a b l k) = all_stored o a b l k
      over unstored = unstored

    by_objects : (objects : Option (List Object)) → Rest
        → StoresBoth x (and_then (stored_by bare w.global (bare_side x) objects) (leaves_webs bare ws)) (and_then (stored_by full w.global (placed_side x) objects) (leaves_webs full ws))
    by_objects (Some objects) rest = by_noted (is_eligible bare w.global) objects rest
    by_objects None rest = unstored

    by_writes : (b : Bool) → Rest
        → StoresBoth x (and_then (if b then stored_by bare w.global (bare_side x) (put_global p w.global w.kind (x.registers w.reg) x.objects) else On (bare_side x)) (leaves_webs bare ws))
        (and_then (if b then stored_by full w.global (placed_side x) (put_global p w.global w.kind (x.bank w.reg) x.objects) else On (placed_side x)) (leaves_webs full ws))
    by_writes true rest =
        subst (λ (v : Value). StoresBoth x (and_then (stored_by bare w.global (bare_side x) (put_global p w.global w.kind (x.registers w.reg) x.objects)) (leaves_webs bare ws)) (and_then (stored_by full w.global (placed_side x) (put_global p w.global w.kind v x.objects)) (leaves_webs full ws)))
        (same w (inl refl)) (by_objects (put_global p w.global w.kind (x.registers w.reg) x.objects) rest)
    by_writes false rest = rest x later log keeps

  -- ---- what was saved is there again

  abbrev returned_to : Active → List Active → Twin → Twin
  returned_to g gs x = record x {
    frame = g;
    callers = gs;
    registers = without_scratch (given_back x.frame.bare x.registers);
    bank = without_scratch (given_back x.frame.placed x.bank);
    objects = end_from (length x.objects - x.frame.base) x.frame.base x.objects;
  }

  back_ready : (x : Twin) (g : Active) (gs : List Active) → IsAlike p d x → AllWait p d (name_of x.frame) x.frame.result (g ∷ gs) (given_back x.frame.bare x.registers) (given_back x.frame.placed x.bank)
      → IsReady p d (returned_to g gs x) x.frame.result
  back_ready x g gs a wait =
      let old = given_back x.frame.bare x.registers in
      let bank = given_back x.frame.placed x.bank in
      record {
        frame = gets_kept p d (λ r. ⊥) g x.frame.result old bank (without_scratch old) (without_scratch bank) wait.0.gets wait.0.calls (λ r none. absurd none) (λ r high. scratch_keeps old r high) (λ r high out. scratch_keeps bank r high);
        callers = waiting_same p d (name_of g) g.result gs (given_back g.bare old) (given_back g.placed bank) (given_back g.bare (without_scratch old)) (given_back g.placed (without_scratch bank))
            (λ r high. with_same g.bare.saved (without_scratch old) old r (scratch_keeps old r high)) (λ r high out. with_same g.placed.saved (without_scratch bank) bank r (scratch_keeps bank r high)) wait.1;
        log = a.log;
        kept = a.kept;
      }

  pub given_follows : (x : Twin) (g : Active) (gs : List Active) (v : Value) → IsAlike p d x → AllWait p d (name_of x.frame) x.frame.result (g ∷ gs) (given_back x.frame.bare x.registers) (given_back x.frame.placed x.bank)
      → Follows p d (gives_all_back bare v (bare_frame g) (map bare_frame gs) (bare_side x)) (gives_all_back full v (placed_frame g) (map placed_frame gs) (placed_side x))
  given_follows x g gs v a wait =
      let y : Twin = returned_to g gs x in
      let ready = back_ready x g gs a wait in
      let name = name_of x.frame in
      let e : Event Byte Value = Returned name 0 (bare_globals p d y) x.frame.bare.before (kept y.registers) in
      let f : Event Byte Value = Returned name 0 (placed_globals p d ls y) x.frame.placed.before (kept y.bank) in
      results_follow p d (note p d e f y) x.frame.result v
      (noted_ready p d e f y x.frame.result
      (returned name 0 (bare_globals p d y) (placed_globals p d ls y) x.frame.bare.before (kept y.registers) x.frame.placed.before (kept y.bank) (ready_globals p d ls y x.frame.result ready))
      (λ r low high out. kept_at y.bank r low high ∙ ap Some (scratch_keeps (given_back x.frame.placed x.bank) r high) ∙ sym (a.frame.gives r low high out)) ready)

  -- ---- the return

  abbrev returns_to : PlacedProgram → Value → List Frame → Machine → Step
  returns_to q v [] left = Astray
  returns_to q v (caller ∷ callers) left = gives_all_back q v caller callers left

  after_stores : (x : Twin) (v : Value) (cs : List Active) → x.callers ≡ cs → IsAlike p d x
      → Follows p d (returns_to bare v (map bare_frame cs) (bare_side x)) (returns_to full v (map placed_frame cs) (placed_side x))
  after_stores x v [] e a = strays refl refl
  after_stores x v (g ∷ gs) e a =
      given_follows x g gs v a (subst (λ (fs : List Active). AllWait p d (name_of x.frame) x.frame.result fs (given_back x.frame.bare x.registers) (given_back x.frame.placed x.bank)) e a.callers)

  by_stores : (x : Twin) (v : Value) (s t : Step) → IsAlike p d x → StoresBoth x s t
      → Follows p d (and_then s (returns_to bare v (map bare_frame x.callers))) (and_then t (returns_to full v (map placed_frame x.callers)))
  by_stores x v s t a (all_stored objects trace notes log keeps) =
      after_stores (record x { objects = objects; trace = trace; notes = notes }) v x.callers refl (record { frame = a.frame; callers = a.callers; log = log; kept = keeps })
  by_stores x v s t a unstored = strays refl refl

  abbrev result_of : Frame → Registers → Option ℕ → Value
  result_of f registers (Some t) = value_in f registers t
  result_of f registers None = Undefined

  same_result : (x : Twin) (t : Option ℕ) → IsAlike p d x → x.frame.ops ≡ [] → x.frame.end ≡ Return t → result_of (bare_frame x.frame) x.registers t ≡ result_of (placed_frame x.frame) x.bank t
  same_result x None a e is = refl
  same_result x (Some t) a e is = ends_agree x.frame x.bank e a.frame.temps t (subst (λ (end : End). Contains (end_uses end) t) (sym is) (first_there t []))

  pub returns_follow : (x : Twin) (t : Option ℕ) → Registered x (entered_webs x.frame.function) → IsAlike p d x → x.frame.ops ≡ [] → x.frame.end ≡ Return t
      → Follows p d (returns bare t (bare_side x)) (returns full t (placed_side x))
  returns_follow x t same a e is =
      let v : Value = result_of (bare_frame x.frame) x.registers t in
      let ws : List Web = entered_webs x.frame.function in
      subst (λ (u : Value). Follows p d (and_then (leaves_webs bare ws (bare_side x)) (returns_to bare v (map bare_frame x.callers))) (and_then (leaves_webs full ws (placed_side x)) (returns_to full u (map placed_frame x.callers))))
      (same_result x t a e is)
      (by_stores x v (leaves_webs bare ws (bare_side x)) (leaves_webs full ws (placed_side x)) a (stores_both ws x same a.log a.kept))
