-- The symbols of an image with the eligible globals of its summaries are those of the program that it was linked of.
use Rattle.std.proofs.Common.{◌≡◌, ℕ, zero, suc, ◌+◌, ◌-◌, ◌<◌, Bool, true, false, if◌then◌else◌, Option, Some, None, List, [], ◌∷◌, ◌++◌, map, length, refl, sym, ap, subst, ◌∙◌, arith, inl, inr, ◌⊎◌}
use Rattle.std.specs.Prelude.{nat_lt, take, IfSome, count_by}
use Rattle.std.specs.List.{flat_map}
use Rattle.std.specs.Str.{bytes_eq}
use Rattle.std.proofs.Math.Seq.{take-append_seam}
use Rattle.std.proofs.lemmas.Bool.{lt-ltb, ltb-true}
use Rattle.std.proofs.lemmas.List.{take-map, length-map, length-append}
use Rattle.std.proofs.lemmas.List.Folds.{flat_map-map}
use Rattle.std.proofs.lemmas.Slice.Eq.{bytes_eq-Decides}
use Rattle.pw_value.specs.declared.value.Kind.{Kind}
use Rattle.pw_value.specs.ProgramNames.{library_functions}
use Rattle.pw_files.proofs.Standing.{Has, has_each, has_map, has_map_back, has_flat_back}
use Rattle.pw_milli.specs.Library.{routines}
use Rattle.pw_flow.specs.declared.flow.FlowGlobal.{FlowGlobal}
use Rattle.pw_flow.specs.declared.flow.FlowModule.{FlowModule}
use Rattle.pw_flow.specs.ValidFlow.{kind_size, IsGlobal, IsValid, AreDistinct}
use Rattle.pw_flow.proofs.Once.{distinct_right}
use Rattle.pw_image.specs.declared.image.Image.{Image}
use Rattle.pw_image.specs.declared.image.Function.{Function}
use Rattle.pw_image.specs.declared.image.GlobalObject.{GlobalObject}
use Rattle.pw_alloc.specs.declared.located.Located.{Located}
use Rattle.pw_run_languages.specs.Programs.{Program, functions_of, globals_of, names_of}
use Rattle.pw_run_languages.specs.LawfulPrograms.{IsProgram, eligible_as, eligible_of, eligible_names}
use Rattle.pw_run_languages.specs.ImageTrace as image
use Rattle.pw_run_languages.specs.ImageTrace.{Symbols, functions_in, address_of, symbols_of}
use Rattle.pw_run_languages.specs.MachineRun.{Map, is_eligible, sized, symbols_in}
use Rattle.pw_run_languages.specs.LinkingLaws.{map_of}
use Rattle.pw_law_analysis.proofs.Lists.{clash, one_named, count_has, has_count}
use Rattle.pw_law_analysis.proofs.Eligible.{eligible_where}

-- ---- functions

front_of : (names back : List (List ℕ)) (fs : List Function) → map (λ f. f.name) fs ≡ names ++ back → map (λ f. f.name) (take (length fs - length back) fs) ≡ names
front_of names back fs e =
    let count : length fs ≡ length names + length back =
    sym (length-map fs (λ (f : Function). f.name)) ∙ (ap (λ (l : List (List ℕ)). length l) e ∙ length-append names back) in
    let few : length fs - length back ≡ length names = omega (arith, count) in
    sym (take-map (λ (f : Function). f.name) (length fs - length back) fs)
    ∙ (ap (λ (n : ℕ). take n (map (λ (f : Function). f.name) fs)) few
    ∙ (ap (take (length names)) e ∙ take-append_seam names back))

functions_are : (p : Program) (v : Image) → map (λ f. f.name) v.functions ≡ map (λ f. f.name) (functions_of p) ++ map (λ r. r.0) routines → functions_in v ≡ names_of p
functions_are p v e =
    ap (λ (names : List (List ℕ)). library_functions ++ names)
    (front_of (map (λ f. f.name) (functions_of p)) (map (λ (r : List ℕ × List ℕ). r.0) routines) v.functions e)

-- ---- globals

-- what is found of a name among scalars
record Found (scalars : List (List ℕ × Kind)) (name : List ℕ) (sizes : List (List ℕ × ℕ)) : Type 0 where
  kind : Kind
  there : Has (name, kind) scalars
  is : sizes ≡ (name, kind_size kind) ∷ []

abbrev Lacks : List (List ℕ × Kind) → List ℕ → Type 0
Lacks scalars name = (k : Kind) → Has (name, k) scalars → ⊥

look : (scalars : List (List ℕ × Kind)) (name : List ℕ) → Found scalars name (image.sized scalars name) ⊎ (Lacks scalars name × (image.sized scalars name ≡ []))
look [] name = inr ((λ k h. h), refl)
look (g ∷ rest) name = by (bytes_eq g.0 name) refl (look rest name)
  where
    by : (b : Bool) → bytes_eq g.0 name ≡ b → Found rest name (image.sized rest name) ⊎ (Lacks rest name × (image.sized rest name ≡ []))
        → Found (g ∷ rest) name (if b then (name, kind_size g.1) ∷ [] else image.sized rest name)
        ⊎ (Lacks (g ∷ rest) name × ((if b then (name, kind_size g.1) ∷ [] else image.sized rest name) ≡ []))
    by true e later =
        let same : g.0 ≡ name = (bytes_eq-Decides g.0 name).0 e in
        inl (record { kind = g.1; there = inl (ap (λ (n : List ℕ). (n, g.1)) same); is = refl })
    by false e (inl found) = inl (record { kind = found.kind; there = inr found.there; is = found.is })
    by false e (inr none) = inr (
      (λ k h. elim h [
        | inl here ↦ clash (bytes_eq g.0 name) ((bytes_eq-Decides g.0 name).1 (ap (λ (x : List ℕ × Kind). x.0) here)) e
        | inr later ↦ none.0 k later
      ]),
      none.1,
    )

module _ (p : Program) (is : IsProgram p) (m : Map) (eligible : m.eligible ≡ eligible_names p) where
  distinct : AreDistinct (map (λ (g : FlowGlobal). g.name) (globals_of p))
  distinct = distinct_right (names_of p) (map (λ (g : FlowGlobal). g.name) (globals_of p)) is.names

  lawful : (g : FlowGlobal) → Has g (globals_of p) → IsGlobal g
  lawful g h =
      let own = has_flat_back (λ (n : FlowModule). n.globals) g p.modules h in
      has_each IsGlobal own.0.globals g (has_each IsValid p.modules own.0 is.modules own.1).parts.globals own.2

  -- the kind of a global that is eligible
  kind_of : (g : FlowGlobal) (k : Kind) → Has g (globals_of p) → Has (g.name, k) (eligible_of p) → g.kind ≡ Some k
  kind_of g k h there =
      let own = has_flat_back (eligible_as p) (g.name, k) (globals_of p) there in
      let what = eligible_where p own.0 (g.name, k) own.2 in
      let same : own.0 ≡ g = one_named (λ (x : FlowGlobal). x.name) (globals_of p) distinct own.0 g own.1 h what.3 in
      sym (ap (λ (x : FlowGlobal). x.kind) same) ∙ what.0

  size_is : (g : FlowGlobal) (k : Kind) → IsGlobal g → g.kind ≡ Some k → g.size ≡ kind_size k
  size_is g k own e = subst (λ (o : Option Kind). IfSome o (λ k. g.size ≡ kind_size k)) e own.kind

  told : (g : FlowGlobal) (k : Kind) → Has (g.name, k) (eligible_of p) → is_eligible m g ≡ true
  told g k h =
      let name = has_map (λ (e : List ℕ × Kind). e.0) (g.name, k) (eligible_of p) h in
      subst (λ (names : List (List ℕ)). nat_lt 0 (count_by (bytes_eq g.name) names) ≡ true) (sym eligible)
      (lt-ltb 0 (count_by (bytes_eq g.name) (eligible_names p)) (has_count (bytes_eq g.name) (eligible_names p) g.name name ((bytes_eq-Decides g.name g.name).1 refl)))

  untold : (g : FlowGlobal) → ((k : Kind) → Has (g.name, k) (eligible_of p) → ⊥) → is_eligible m g ≡ false
  untold g none = by (is_eligible m g) refl
    where
      by : (b : Bool) → is_eligible m g ≡ b → is_eligible m g ≡ false
      by false e = e
      by true e =
          let lt : 0 < count_by (bytes_eq g.name) (eligible_names p) =
          ltb-true 0 (count_by (bytes_eq g.name) (eligible_names p)) (subst (λ (names : List (List ℕ)). nat_lt 0 (count_by (bytes_eq g.name) names) ≡ true) eligible e) in
          let some = count_has (bytes_eq g.name) (eligible_names p) lt in
          let own = has_map_back (λ (e : List ℕ × Kind). e.0) some.0 (eligible_of p) some.1 in
          let same : own.0.0 ≡ g.name = own.2 ∙ sym ((bytes_eq-Decides g.name some.0).0 some.2) in
          absurd (none own.0.1 (subst (λ (n : List ℕ). Has (n, own.0.1) (eligible_of p)) same own.1))

  module _ (scalars : List (List ℕ × Kind)) (forth : (v : List ℕ) (k : Kind) → Has (v, k) scalars → Has (v, k) (eligible_of p)) (back : (v : List ℕ) (k : Kind) → Has (v, k) (eligible_of p) → Has (v, k) scalars) where
    one : (g : FlowGlobal) → Has g (globals_of p) → image.sized scalars g.name ≡ sized m g
    one g h = by (look scalars g.name)
      where
        by : Found scalars g.name (image.sized scalars g.name) ⊎ (Lacks scalars g.name × (image.sized scalars g.name ≡ [])) → image.sized scalars g.name ≡ sized m g
        by (inl found) =
            let there = forth g.name found.kind found.there in
            let size = size_is g found.kind (lawful g h) (kind_of g found.kind h there) in
            found.is
            ∙ (ap (λ (n : ℕ). (g.name, n) ∷ []) (sym size)
            ∙ sym (ap (λ (b : Bool). if b then (g.name, g.size) ∷ [] else []) (told g found.kind there)))
        by (inr none) =
            none.1 ∙ sym (ap (λ (b : Bool). if b then (g.name, g.size) ∷ [] else []) (untold g (λ k k_there. none.0 k (back g.name k k_there))))

    each : (gs : List FlowGlobal) → ((g : FlowGlobal) → Has g gs → Has g (globals_of p)) → flat_map (λ g. image.sized scalars g.name) gs ≡ flat_map (sized m) gs
    each [] all = refl
    each (g ∷ gs) all = λ i. one g (all g (inl refl)) i ++ each gs (λ h k. all h (inr k)) i

    pub globals_are : (v : Image) → map (λ g. g.name) v.globals ≡ map (λ g. g.name) (globals_of p) → flat_map (λ g. image.sized scalars g.name) v.globals ≡ flat_map (sized m) (globals_of p)
    globals_are v e =
        sym (flat_map-map (image.sized scalars) (λ (g : GlobalObject). g.name) v.globals)
        ∙ (ap (flat_map (image.sized scalars)) e
        ∙ (flat_map-map (image.sized scalars) (λ (g : FlowGlobal). g.name) (globals_of p)
        ∙ each (globals_of p) (λ g h. h)))

-- the symbols of an image
pub symbols_are : (p : Program) (functions : List Located) (v : Image) (scalars : List (List ℕ × Kind)) → IsProgram p
    → map (λ f. f.name) v.functions ≡ map (λ f. f.name) (functions_of p) ++ map (λ r. r.0) routines → map (λ g. g.name) v.globals ≡ map (λ g. g.name) (globals_of p)
    → ((v : List ℕ) (k : Kind) → Has (v, k) scalars → Has (v, k) (eligible_of p)) → ((v : List ℕ) (k : Kind) → Has (v, k) (eligible_of p) → Has (v, k) scalars)
    → symbols_in (map_of p functions v) ≡ symbols_of v scalars
symbols_are p functions v scalars is names globals forth back =
    let m = map_of p functions v in
    let one : functions_in v ≡ names_of p = functions_are p v names in
    let two = globals_are p is m refl scalars forth back v globals in
    λ i. record { functions = sym one i; globals = sym two i; named = address_of v }
