-- Kept registers over calls and returns.
use Rattle.std.proofs.Common.{◌≡◌, ◌≢◌, ℕ, zero, suc, ◌+◌, ◌-◌, ◌<◌, Some, List, [], ◌∷◌, ◌++◌, map, slice_get, refl, ap, sym, subst, ◌∙◌, arith, inl, inr}
use Rattle.std.specs.Prelude.{Contains}
use Rattle.std.specs.List.{AllByRecursion}
use Rattle.pw_value.specs.ProgramNames.{library_functions}
use Rattle.pw_files.proofs.Standing.{Has, has_by, has_each, contains_by, has_map}
use Rattle.pw_db.specs.Limits.{first_register, kept_registers}
use Rattle.pw_db.specs.Database.{IsWeb, IsDirectives, webs_of}
use Rattle.pw_db.specs.declared.database.Web.{Web}
use Rattle.pw_db.specs.declared.database.Role.{Role}
use Rattle.pw_db.specs.declared.database.Role.TheVariants.{Entry}
use Rattle.pw_db.specs.declared.database.Directives.{Directives}
use Rattle.pw_db.proofs.Keeping.{kept_from}
use Rattle.pw_db_sound.specs.CallGraphs.{Graph, Calls}
use Rattle.pw_flow.specs.declared.flow.FlowFn.{FlowFn}
use Rattle.pw_flow.specs.declared.flow.FlowGlobal.{FlowGlobal}
use Rattle.pw_flow.specs.ValidFlow.{AreDistinct}
use Rattle.pw_webflow.specs.declared.web.WebFn.{WebFn}
use Rattle.pw_webflow.specs.Direction.{directed}
use Rattle.pw_alloc.specs.declared.located.Located.{Located}
use Rattle.pw_alloc.specs.Frames.{head_size}
use Rattle.pw_run_languages.specs.Traces.{Standing, Event, Called, Returned, KeepRegisters}
use Rattle.pw_run_languages.specs.Calls.{Saves}
use Rattle.pw_run_languages.specs.Programs.{Program, functions_of, globals_of}
use Rattle.pw_run_languages.specs.LawfulPrograms.{IsProgram, graph_of}
use Rattle.pw_run_languages.specs.Addresses.{Addresses}
use Rattle.pw_run_languages.specs.Acts.{Core, register}
use Rattle.pw_run_languages.specs.Standing.{given_back, without}
use Rattle.pw_run_languages.specs.LineRun.{LineFn, Frame, Machine, name_of, active}
use Rattle.pw_run_languages.specs.PlacedRun as placed
use Rattle.pw_run_languages.specs.Direction.{directed_by, directed_functions}
use Rattle.pw_run_languages.specs.Serving.{IsTempRegister, Changes, places, enters, saves, Serves, AllServe}
use Rattle.pw_law_select_states.specs.Passes.{IsNoneOf}
use Rattle.pw_law_select_known.specs.Laws.{IsAccess, IsOfProgram}
use Rattle.pw_law_select_frames.specs.Chain.{AllWait}
use Rattle.pw_law_select_kept.specs.Keeping.{IsKept, AllSavedStay, AllLeaveAsFound, CallEachOther, saved_word, FunctionsEnterAsFound, FunctionsReturnAsFound}
use Rattle.pw_law_selection.specs.Following.{IsGiven, AreKept}
use Rattle.pw_law_selection.proofs.Given.{IsFine, serves_itself}
use Rattle.pw_law_selection.proofs.Keeping.{KeptLaws, keep_too, some_register, saved_or_same}

-- ---- registers that a function saves

changes_kept : (l : Located) → Serves l.body l → IsDirectives l.body.directives → (r : ℕ) → Changes l.body l r → IsKept r
changes_kept l serves lawful r (places c small free) = record { low = (serves.registers r c).0.low; high = small }
changes_kept l serves lawful r (saves c) =
    let k = kept_from first_register l.body.directives.saves r lawful.saves (has_by r l.body.directives.saves c) in
    record { low = k.0; high = k.1 }
changes_kept l serves lawful r (enters w) =
    let has = has_by (w.web, Entry) l.body.directives.webs w.there in
    let web = has_each IsWeb (webs_of l.body.directives) w.web lawful.each (has_map (λ (x : Web × Role). x.0) (w.web, Entry) l.body.directives.webs has) in
    let low = web.low in
    let high = web.high in
    record { low = omega (arith, low, w.is); high = omega (arith, high, w.is) }

pub saved_kept : (p : Program) (d : List (List ℕ × Directives)) (l : Located) → IsFine p d l → (r : ℕ) → Contains l.saved r → IsKept r
saved_kept p d l fine r c =
    let serves = serves_itself p d l fine in
    changes_kept l serves fine.lawful.directives r ((serves.saved r).0 c)

-- ---- functions of one name

distinct_left : (xs ys : List (List ℕ)) → AreDistinct (xs ++ ys) → AreDistinct xs
distinct_left [] ys h = tt
distinct_left (x ∷ xs) ys h = (each_left xs ys h.0, distinct_left xs ys h.1)
  where
    each_left : (front bs : List (List ℕ)) → AllByRecursion (λ other. other ≢ x) (front ++ bs) → AllByRecursion (λ other. other ≢ x) front
    each_left [] bs h = tt
    each_left (a ∷ front) bs h = (h.0, each_left front bs h.1)

distinct_right : (xs ys : List (List ℕ)) → AreDistinct (xs ++ ys) → AreDistinct ys
distinct_right [] ys h = h
distinct_right (x ∷ xs) ys h = distinct_right xs ys h.1

pub own_name : (d : List (List ℕ × Directives)) (f : FlowFn) (l : Located) → Serves (directed_by d f) l → l.body.name ≡ f.name
unfolding directed
own_name d f l serves = ap (λ (b : WebFn). b.name) serves.body

flow_of : (d : List (List ℕ × Directives)) (fs : List FlowFn) (ls : List Located) (a : Located) → AllServe (map (directed_by d) fs) ls → Has a ls → (f : FlowFn) × Has f fs × (a.body.name ≡ f.name)
flow_of d [] [] a all h = absurd h
flow_of d [] (l ∷ ls) a all h = absurd all
flow_of d (f ∷ fs) [] a all h = absurd h
flow_of d (f ∷ fs) (l ∷ ls) a all (inl e) = (f, inl refl, ap (λ (x : Located). x.body.name) (sym e) ∙ own_name d f l all.0)
flow_of d (f ∷ fs) (l ∷ ls) a all (inr h) = let r = flow_of d fs ls a all.1 h in (r.0, inr r.1, r.2)

unique_by : (d : List (List ℕ × Directives)) (fs : List FlowFn) (ls : List Located) (a b : Located) → AllServe (map (directed_by d) fs) ls → AreDistinct (map (λ f. f.name) fs) → Has a ls → Has b ls
    → a.body.name ≡ b.body.name → a ≡ b
unique_by d [] [] a b all distinct h k e = absurd h
unique_by d [] (l ∷ ls) a b all distinct h k e = absurd all
unique_by d (f ∷ fs) [] a b all distinct h k e = absurd h
unique_by d (f ∷ fs) (l ∷ ls) a b all distinct (inl x) (inl y) e = sym x ∙ y
unique_by d (f ∷ fs) (l ∷ ls) a b all distinct (inr x) (inr y) e = unique_by d fs ls a b all.1 distinct.1 x y e
unique_by d (f ∷ fs) (l ∷ ls) a b all distinct (inl x) (inr y) e =
    let other = flow_of d fs ls b all.1 y in
    let own : a.body.name ≡ f.name = ap (λ (z : Located). z.body.name) (sym x) ∙ own_name d f l all.0 in
    absurd (has_each (λ (n : List ℕ). n ≢ f.name) (map (λ (g : FlowFn). g.name) fs) other.0.name distinct.0 (has_map (λ (g : FlowFn). g.name) other.0 fs other.1) (sym other.2 ∙ (sym e ∙ own)))
unique_by d (f ∷ fs) (l ∷ ls) a b all distinct (inr x) (inl y) e =
    let other = flow_of d fs ls a all.1 x in
    let own : b.body.name ≡ f.name = ap (λ (z : Located). z.body.name) (sym y) ∙ own_name d f l all.0 in
    absurd (has_each (λ (n : List ℕ). n ≢ f.name) (map (λ (g : FlowFn). g.name) fs) other.0.name distinct.0 (has_map (λ (g : FlowFn). g.name) other.0 fs other.1) (sym other.2 ∙ (e ∙ own)))

pub unique : (p : Program) (d : List (List ℕ × Directives)) (functions : List Located) → IsProgram p → AllServe (directed_functions p d) functions → (a b : Located) → Contains functions a → Contains functions b
    → a.body.name ≡ b.body.name → a ≡ b
unique p d functions ok serve a b h k e =
    let own = distinct_right library_functions (map (λ (f : FlowFn). f.name) (functions_of p))
    (distinct_left (library_functions ++ map (λ (f : FlowFn). f.name) (functions_of p)) (map (λ (g : FlowGlobal). g.name) (globals_of p)) ok.names) in
    unique_by d (functions_of p) functions a b serve own (has_by a functions h) (has_by b functions k) e

-- ---- frames that wait

-- each is of the program
pub waiting_there : (p : Program) (w : Addresses) (site : ℕ → ℕ) (functions : List Located) (m : placed.Machine) (memory : ℕ → ℕ) (callee : placed.Frame) (stack : ℕ) (fs : List placed.Frame) (ls : List Frame)
    → AllWait p w site m.objects memory callee stack fs ls → AllByRecursion (IsOfProgram functions) fs → AllByRecursion (λ (l : Frame). Contains functions l.function.located) ls
waiting_there p w site functions m memory callee stack [] [] h there = tt
waiting_there p w site functions m memory callee stack [] (l ∷ ls) h there = absurd h
waiting_there p w site functions m memory callee stack (f ∷ fs) [] h there = absurd h
waiting_there p w site functions m memory callee stack (f ∷ fs) (l ∷ ls) h there = (
  subst (λ (x : Located). Contains functions x) (sym (ap (λ (x : LineFn). x.located) h.0.active.function)) there.0.there,
  waiting_there p w site functions m memory f l.stack fs ls h.1 there.1,
)

pub itself_stays : (memory : ℕ → ℕ) (ls : List Frame) → AllSavedStay memory memory ls
itself_stays memory [] = tt
itself_stays memory (l ∷ ls) = (λ i less. refl, itself_stays memory ls)

calls_below : (g : Graph) (l caller : Frame) (callers : List Frame) → CallEachOther g (l ∷ caller ∷ callers) → CallEachOther g (caller ∷ callers)
calls_below g l caller callers h = h.1

-- ---- a call

-- the laws of kept registers at calls and returns
pub record CallLaws : Type 0 where
  pub kept : KeptLaws
  pub enter : FunctionsEnterAsFound
  pub back : FunctionsReturnAsFound

module _ (laws : CallLaws) (p : Program) (d : List (List ℕ × Directives)) where
  -- A function that was called, somewhere in its lines before it calls others: what it saved stands in its frame, and else its
  -- lines have left the registers that are not its own.
  module _ (f : Located) (fine : IsFine p d f) (c : Core) (o : Machine) (callers : List Frame) (is : o.frame.function.located ≡ f)
      (below : o.callers ≡ callers) (before : o.frame.before ≡ map c.registers kept_registers)
      (stay : AllSavedStay c.memory o.core.memory callers)
      (words : (i r : ℕ) → slice_get f.saved i ≡ Some r → saved_word o.frame o.core.memory i ≡ register c r)
      (same : (r : ℕ) → IsNoneOf f r → register o.core r ≡ register c r) where
    saved_is : o.frame.function.located.saved ≡ f.saved
    saved_is = ap (λ (x : Located). x.saved) is

    kept_there : (r : ℕ) → Contains o.frame.function.located.saved r → IsKept r
    kept_there r there = saved_kept p d f fine r (subst (λ (xs : List ℕ). Contains xs r) saved_is there)

    got : {X : Type 0} (xs : List X) (k : ℕ) (x : X) → slice_get xs k ≡ Some x → Has x xs
    got [] k x e = absurd cc
    got (y ∷ ys) zero x e = inl (let found : y ≡ x = cc in found)
    got (y ∷ ys) (suc k) x e = inr (got ys k x e)

    word_there : (i r : ℕ) → slice_get o.frame.function.located.saved i ≡ Some r → saved_word o.frame o.core.memory i ≡ c.registers r
    word_there i r e =
        let there : slice_get f.saved i ≡ Some r = subst (λ (xs : List ℕ). slice_get xs i ≡ Some r) saved_is e in
        let kept = saved_kept p d f fine r (contains_by r f.saved (got f.saved i r there)) in
        let low = kept.low in
        words i r there ∙ some_register c r (λ z. omega (arith, low, z))

    pub left_when_called : AllLeaveAsFound d c.memory c.registers callers → AllLeaveAsFound d o.core.memory o.core.registers (o.frame ∷ o.callers)
    left_when_called h =
        let entered = laws.enter d c.memory o.core.memory c.registers c.registers o.frame callers stay before word_there (λ r kept. refl) kept_there h in
        subst (λ (ls : List Frame). AllLeaveAsFound d o.core.memory o.core.registers (o.frame ∷ ls)) (sym below)
        (laws.kept.leave d o.core.memory o.core.memory c.registers o.core.registers o.frame callers (itself_stays o.core.memory (o.frame ∷ callers))
        (saved_or_same laws.kept p d f o.frame c o.core fine is same) entered)

    pub kept_when_called : (l : Machine) (log : List (Event ℕ ℕ)) (globals : List (Standing ℕ ℕ)) (rs : List ℕ) → callers ≡ l.frame ∷ l.callers → c ≡ l.core
        → AllByRecursion (λ e. IsAccess e) log → o.trace ≡ log ++ Called f.body.name globals rs ∷ l.trace → Calls (graph_of p) (name_of l.frame) f.body.name
        → AreKept p d l → AreKept p d o
    kept_when_called l log globals rs all at quiet noted edge h = record {
      noted = subst (λ (t : List (Event ℕ ℕ)). KeepRegisters d t) (sym noted) (keep_too d log (Called f.body.name globals rs ∷ l.trace) quiet (tt, h.noted));
      calls = subst (λ (ls : List Frame). CallEachOther (graph_of p) (o.frame ∷ ls)) (sym (below ∙ all))
          (subst (λ (n : List ℕ). Calls (graph_of p) (name_of l.frame) n) (sym (ap (λ (x : Located). x.body.name) is)) edge, h.calls);
      left = left_when_called (subst (λ (ls : List Frame). AllLeaveAsFound d c.memory c.registers ls) (sym all)
          (subst (λ (e : Core). AllLeaveAsFound d e.memory e.registers (l.frame ∷ l.callers)) (sym at) h.left));
    }

  -- ---- a return

  -- A function that was left, from behind the lines that store its webs back; what it saved is in its registers again.
  module _ (functions : List Located) (w : Addresses) (input : List ℕ) (given : IsGiven p d functions w input) (f : Located) (l last : Machine) (is : l.frame.function.located ≡ f)
      (there : AllByRecursion (λ (x : Frame). Contains functions x.function.located) l.callers) (below : l.callers ≡ last.frame ∷ last.callers)
      (back : (r : ℕ) → IsTempRegister r → register last.core r ≡ given_back l.core.memory (l.frame.stack + f.frame - head_size f.body) 0 f.saved l.core.registers r)
      (memory : last.core.memory ≡ l.core.memory) where
    saves_there : (caller : Frame) (r : ℕ) → Contains l.callers caller → Saves functions (name_of caller) r → Contains caller.function.located.saved r
    saves_there caller r c s =
        let own = has_each (λ (x : Frame). Contains functions x.function.located) l.callers caller there (has_by caller l.callers c) in
        subst (λ (x : Located). Contains x.saved r) (unique p d functions given.program given.serve s.function caller.function.located s.there own s.named) s.saved

    given_there : (r : ℕ) → IsKept r → last.core.registers r ≡ without (active l.frame) l.core.memory l.core.registers r
    given_there r kept =
        let low = kept.low in
        let high = kept.high in
        sym (some_register last.core r (λ z. omega (arith, low, z)))
        ∙ (back r (record { low = low; high = omega (arith, high) })
        ∙ ap (λ (x : Located). given_back l.core.memory (l.frame.stack + x.frame - head_size x.body) 0 x.saved l.core.registers r) (sym is))

    pub kept_when_returned : (globals : List (Standing ℕ ℕ)) → last.trace ≡ Returned (name_of l.frame) 0 globals l.frame.before (map last.core.registers kept_registers) ∷ l.trace
        → AreKept p d l → AreKept p d last
    kept_when_returned globals noted h =
        let r = laws.back (graph_of p) d functions l.core.memory l.core.registers last.core.registers l.frame l.callers given.guarded h.calls saves_there given_there h.left in
        record {
          noted = subst (λ (t : List (Event ℕ ℕ)). KeepRegisters d t) (sym noted) (r.keeps globals, h.noted);
          calls = calls_below (graph_of p) l.frame last.frame last.callers (subst (λ (ls : List Frame). CallEachOther (graph_of p) (l.frame ∷ ls)) below h.calls);
          left = subst (λ (ls : List Frame). AllLeaveAsFound d last.core.memory last.core.registers ls) below
              (subst (λ (x : ℕ → ℕ). AllLeaveAsFound d x last.core.registers l.callers) (sym memory) r.callers);
        }
