-- The files of a program of modules, and the faults that may come in their place.
use Rattle.std.proofs.Common.{◌≡◌, ◌⊎◌, inl, inr, arith, ℕ, suc, ◌+◌, ◌≤◌, Bool, true, false, cond, List, [], ◌∷◌, length, map, Option, Some, None, Result, Ok, Err, refl, sym, ap, ◌∙◌, subst}
use Rattle.std.specs.Prelude.{IfSome, nat_lt, count_by, if◌then◌else◌}
use Rattle.std.proofs.lemmas.Bool.Decides.{nat_tests}
use Rattle.std.proofs.lemmas.List.{length-map}
use Rattle.std.proofs.lemmas.List.Sums.{sum_by-append}
use Rattle.pw_io.specs.Files.{Told}
use Rattle.pw_io.specs.declared.StoreError.{StoreError}
use Rattle.pw_io.specs.declared.StoreError.TheVariants as store
use Rattle.pw_value.specs.Limits.{module_limit}
use Rattle.pw_value.specs.declared.fault.LinkFault.{LinkFault}
use Rattle.pw_value.specs.declared.fault.LinkFault.TheVariants.{TooMany}
use Rattle.pw_value.specs.declared.fault.What.TheVariants.{Modules}
use Rattle.pw_db_file.specs.Spelling.{IsNewFile}
use Rattle.pw_object.specs.declared.object.Object.{Object}
use Rattle.pw_image.specs.declared.image.Image.{Image}
use Rattle.pw_image.specs.Image.{IsImageFile}
use Rattle.pw_link.specs.Linking.{linked}
use Rattle.pw_store_modules.specs.declared.modules.Module.{Module}
use Rattle.pw_store_modules.specs.Modules.{Source}
use Rattle.pw_store_modules.specs.Views.{source}
use Rattle.pw_flow.specs.declared.flow.FlowModule.{FlowModule}
use Rattle.pw_build_objects.specs.declared.making.Built.{Built}
use Rattle.pw_build_objects.specs.Programs.{AreForms, AreObjectsFrom, Completes, DirectivesList, Parts, kept_behind}
use Rattle.pw_build_objects.specs.declared.remade.Made.{Made}
use Rattle.pw_build_objects.specs.Choosing.{marks_of, objects_of, parts_of}
use Rattle.pw_build_objects.specs.Counting.{CountsUpTo}
use Rattle.pw_build.specs.declared.fault.BuildFault.{BuildFault}
use Rattle.pw_build.specs.declared.fault.BuildFault.TheVariants as build
use Rattle.pw_build.specs.FromPhaseOne.FirstPhase.{Phase, compiled}
use Rattle.pw_build.specs.Builds.{Builds, BuildsBy, CompletesAs, before_others, first_phases, flows_of, limit_passed, within}
use Rattle.pw_build.specs.Phases.{FaultsAs, IsLine}
use Rattle.pw_build.specs.Stores.{store_fault}
use Rattle.pw_store_kept.specs.declared.files.ProgramFiles.{ProgramFiles}
use Rattle.pw_store_kept.specs.Files.{AreObjectFiles, file_view, made_anew}
use Rattle.pw_build_files.specs.Programs.{AreAsMany, BuildsFiles, CountsAtMost, FaultBuilds, HoldsImage}
use Rattle.pw_build_opts.specs.declared.opts.Opts.{Opts}

-- ---- the names of modules

pub names_by : (ms : List Module) → map (λ s. s.0) (map source ms) ≡ map (λ m. m.name) ms
names_by [] = refl
names_by (m ∷ ms) = ap (λ (zs : List (List ℕ)). m.name ∷ zs) (names_by ms)

-- ---- too many modules

passed_by : (sources : List Source) (count : ℕ) (r : Bool) → count ≡ length sources → nat_lt module_limit (length sources) ≡ r → r ≡ true → first_phases sources ≡ Err (build.LinkRefused (TooMany Modules count))
passed_by sources count true e t h =
    ap (λ (l : Option LinkFault). within l (flows_of sources)) (ap (λ (b : Bool). cond b (Some (TooMany Modules (length sources))) None) t)
    ∙ ap (λ (n : ℕ). Err (build.LinkRefused (TooMany Modules n))) (sym e)
passed_by sources count false e t h = cc

no_flows : (fault : BuildFault) (flows : List FlowModule) → ◌≡◌ {A = Result (List FlowModule) BuildFault} (Err fault) (Ok flows) → ⊥
no_flows fault flows e = cc

not_passed : (most n : ℕ) → nat_lt most n ≡ false → n ≤ most
not_passed most n e = grind (arith, nat_tests, e)

few_by : (sources : List Source) (flows : List FlowModule) (r : Bool) → nat_lt module_limit (length sources) ≡ r → first_phases sources ≡ Ok flows → length sources ≤ module_limit
few_by sources flows true t e = absurd (no_flows _ flows (sym (passed_by sources (length sources) true refl t refl) ∙ e))
few_by sources flows false t e = not_passed module_limit (length sources) t

pub few_modules : (ms : List Module) (flows : List FlowModule) → first_phases (map source ms) ≡ Ok flows → length ms ≤ module_limit
few_modules ms flows e = subst (λ (n : ℕ). n ≤ module_limit) (length-map ms source) (few_by (map source ms) flows (nat_lt module_limit (length (map source ms))) refl e)

-- ---- as many objects as modules

-- as many objects as modules

ok_flows : (a b : List FlowModule) → ◌≡◌ {A = Result (List FlowModule) BuildFault} (Ok a) (Ok b) → a ≡ b
ok_flows a b e = cc

by_first : (name : List ℕ) (ss : List Source) (flows : List FlowModule) (phase : Phase) (others : Result (List FlowModule) BuildFault) → ((more : List FlowModule) → others ≡ Ok more → length more ≡ length ss) → before_others name phase others ≡ Ok flows → length flows ≡ suc (length ss)
by_first name ss flows (Err refusal) others long h = absurd (no_flows _ flows h)
by_first name ss flows (Ok flow) (Err fault) long h = absurd (no_flows _ flows h)
by_first name ss flows (Ok flow) (Ok more) long h = ap length (sym (ok_flows (flow ∷ more) flows h)) ∙ ap suc (long more refl)

flows_long : (sources : List Source) (flows : List FlowModule) → flows_of sources ≡ Ok flows → length flows ≡ length sources
flows_long [] flows e = ap length (sym (ok_flows [] flows e))
flows_long (s ∷ ss) flows e = by_first s.0 ss flows (compiled s.0 s.1) (flows_of ss) (flows_long ss) e

within_flows : (limit : Option LinkFault) (r : Result (List FlowModule) BuildFault) (flows : List FlowModule) → within limit r ≡ Ok flows → r ≡ Ok flows
within_flows None r flows e = e
within_flows (Some fault) r flows e = absurd (no_flows _ flows e)

objects_long : (db : DirectivesList) (flows : List FlowModule) (kept : List (Option Object)) (objects : List Object) (fresh : List Bool) → AreObjectsFrom db flows kept objects fresh → (length objects ≡ length flows) × (length fresh ≡ length flows)
objects_long db [] kept [] [] h = (refl, refl)
objects_long db [] kept [] (b ∷ bs) h = absurd h
objects_long db [] kept (o ∷ os) bs h = absurd h
objects_long db (f ∷ fs) kept [] bs h = absurd h
objects_long db (f ∷ fs) kept (o ∷ os) [] h = absurd h
objects_long db (f ∷ fs) kept (o ∷ os) (b ∷ bs) h = let l = objects_long db fs (kept_behind kept) os bs h.1 in (ap suc l.0, ap suc l.1)

-- there are as many forms as modules
abbrev pub FormsAreAsMany : Type 0
FormsAreAsMany = (optimise : Bool) (flows forms : List FlowModule) → AreForms optimise flows forms → length forms ≡ length flows

-- as many objects as modules
pub as_many : FormsAreAsMany → (ms : List Module) (flows : List FlowModule) (kept : List (Option Object)) (opts : Opts) (built : Built) → first_phases (map source ms) ≡ Ok flows → Completes flows kept opts (Ok (parts_of built)) → AreAsMany ms built
as_many count ms flows kept opts built phases h =
    let l = objects_long built.database.functions h.0.forms kept (objects_of built.made.items) (marks_of built.made.items) h.0.objects in
    let f = count opts.optimise flows h.0.forms h.0.of_flows in
    let k : length flows ≡ length ms = flows_long (map source ms) flows (within_flows (limit_passed (map source ms)) (flows_of (map source ms)) flows phases) ∙ length-map ms source in
    sym (length-map built.made.items (λ (one : Made). one.object)) ∙ l.0 ∙ f ∙ k

one_more : (n : ℕ) → 1 + n ≡ suc n
one_more n = omega arith

none_more : (n : ℕ) → 0 + n ≡ n
none_more n = omega arith

-- as many are counted as are made anew
counted_anew : (names : List (List ℕ)) (objects : List Object) (fresh : List Bool) → length objects ≡ length names → length fresh ≡ length names → count_by (λ f. f) fresh ≡ length (made_anew names objects fresh)
counted_anew [] objects [] o f = refl
counted_anew [] objects (b ∷ bs) o f = absurd (omega (arith, f))
counted_anew (n ∷ ns) [] fresh o f = absurd (omega (arith, o))
counted_anew (n ∷ ns) (x ∷ xs) [] o f = absurd (omega (arith, f))
counted_anew (n ∷ ns) (x ∷ xs) (true ∷ bs) o f =
    let ih = counted_anew ns xs bs (omega (arith, o)) (omega (arith, f)) in
    sum_by-append (λ b. cond {A = ℕ} b 1 0) (true ∷ []) bs ∙ ap (λ (k : ℕ). count_by (λ b. b) (true ∷ []) + k) ih ∙ one_more (length (made_anew ns xs bs))
counted_anew (n ∷ ns) (x ∷ xs) (false ∷ bs) o f =
    let ih = counted_anew ns xs bs (omega (arith, o)) (omega (arith, f)) in
    sum_by-append (λ b. cond {A = ℕ} b 1 0) (false ∷ []) bs ∙ ap (λ (k : ℕ). count_by (λ b. b) (false ∷ []) + k) ih ∙ none_more (length (made_anew ns xs bs))

pub counted_names : (ms : List Module) (built : Built) (names : List (List ℕ)) (before now : ℕ) → AreAsMany ms built → names ≡ map (λ m. m.0) (made_anew (map (λ m. m.name) ms) (objects_of built.made.items) (marks_of built.made.items))
    → now ≡ before + count_by (λ f. f) (marks_of built.made.items) → now ≡ before + length names
counted_names ms built names before now many e counted =
    let k : length (map (λ m. m.name) ms) ≡ length ms = length-map ms (λ m. m.name) in
    let all = counted_anew (map (λ m. m.name) ms) (objects_of built.made.items) (marks_of built.made.items) (length-map built.made.items (λ (one : Made). one.object) ∙ many ∙ sym k) (length-map built.made.items (λ (one : Made). one.fresh) ∙ many ∙ sym k) in
    let same : length names ≡ length (made_anew (map (λ m. m.name) ms) (objects_of built.made.items) (marks_of built.made.items)) = ap length e ∙ length-map (made_anew (map (λ m. m.name) ms) (objects_of built.made.items) (marks_of built.made.items)) (λ m. m.0) in
    counted ∙ ap (λ (k : ℕ). before + k) (all ∙ sym same)

-- ---- the files of a program

made_files : (ms : List Module) (opts : Opts) (kept : List (Option Object)) (built : Built) (made : ProgramFiles) (linked_objects : List Object) → Builds (map source ms) kept opts (Ok (parts_of built)) → made.fresh.names.items ≡ map (λ m. m.0) (made_anew (map (λ m. m.name) ms) (objects_of built.made.items) (marks_of built.made.items))
    → AreObjectFiles (made_anew (map (λ m. m.name) ms) (objects_of built.made.items) (marks_of built.made.items)) (map file_view made.fresh.files.items) → IsNewFile made.database.items built.database.functions
    → ((names : List (List ℕ)) × IsImageFile made.image.items (record { names = names; value = built.image })) → built.image ≡ linked (objects_of built.made.items) opts.stack → linked_objects ≡ objects_of built.made.items → BuildsFiles (map source ms) kept opts made linked_objects
made_files ms opts kept built made linked_objects builds names objects database image is_linked are =
    let same : map (λ m. m.name) ms ≡ map (λ s. s.0) (map source ms) = sym (names_by ms) in
    let anew : List (List ℕ) → List (List ℕ × Object) = λ ns. made_anew ns (objects_of built.made.items) (marks_of built.made.items) in (
      parts_of built,
      builds,
      record {
        rebuilt = names ∙ ap (λ (ns : List (List ℕ)). map (λ x. x.0) (anew ns)) same;
        objects = subst (λ (ns : List (List ℕ)). AreObjectFiles (anew ns) (map file_view made.fresh.files.items)) same objects;
        database = database;
        image_names = image.0;
        image = subst (λ v. IsImageFile made.image.items (record { names = image.0; value = v })) is_linked image.1;
      },
      are,
    )

pub made_of_program : (ms : List Module) (opts : Opts) (kept : Told → List (Option Object)) (first : Option Told) (built : Built) (made : ProgramFiles) (linked_objects : List Object) → IfSome first (λ told. Builds (map source ms) (kept told) opts (Ok (parts_of built)))
    → made.fresh.names.items ≡ map (λ m. m.0) (made_anew (map (λ m. m.name) ms) (objects_of built.made.items) (marks_of built.made.items))
    → AreObjectFiles (made_anew (map (λ m. m.name) ms) (objects_of built.made.items) (marks_of built.made.items)) (map file_view made.fresh.files.items) → IsNewFile made.database.items built.database.functions
    → ((names : List (List ℕ)) × IsImageFile made.image.items (record { names = names; value = built.image })) → built.image ≡ linked (objects_of built.made.items) opts.stack → linked_objects ≡ objects_of built.made.items → IfSome first (λ told. BuildsFiles (map source ms) (kept told) opts made linked_objects)
made_of_program ms opts kept None built made linked_objects builds names objects database image is_linked are = tt
made_of_program ms opts kept (Some told) built made linked_objects builds names objects database image is_linked are = made_files ms opts (kept told) built made linked_objects builds names objects database image is_linked are

pub holds_image : (bytes : List ℕ) (image : Image) → (names : List (List ℕ)) × IsImageFile bytes (record { names = names; value = image }) → HoldsImage bytes
holds_image bytes image h = (record { names = h.0; value = image }, h.1)

-- ---- faults

pub no_line : (due : Option ℕ) (fault : BuildFault) (line : Option ℕ) → (fault ≡ build.StoreFault) ⊎ (fault ≡ build.NoMemory) → IsLine due fault line
no_line due fault line (inl e) = subst (λ (f : BuildFault). IsLine due f line) (sym e) tt
no_line due fault line (inr e) = subst (λ (f : BuildFault). IsLine due f line) (sym e) tt

pub stored : (error : StoreError) (fault : BuildFault) → fault ≡ store_fault error → (fault ≡ build.StoreFault) ⊎ (fault ≡ build.NoMemory)
stored store.Failed fault e = inl e
stored store.NoMemory fault e = inr e

pub builds_nothing : (sources : List Source) (kept : Told → List (Option Object)) (opts : Opts) (first : Option Told) (fault : BuildFault) → (fault ≡ build.StoreFault) ⊎ (fault ≡ build.NoMemory) → IfSome first (λ told. FaultBuilds sources (kept told) opts fault)
builds_nothing sources kept opts None fault h = tt
builds_nothing sources kept opts (Some told) fault (inl e) = subst (λ (f : BuildFault). FaultBuilds sources (kept told) opts f) (sym e) tt
builds_nothing sources kept opts (Some told) fault (inr e) = subst (λ (f : BuildFault). FaultBuilds sources (kept told) opts f) (sym e) tt

-- the first phases refuse
phases_told : (sources : List Source) (kept : List (Option Object)) (opts : Opts) (fault : BuildFault) → FaultsAs (first_phases sources) fault → FaultBuilds sources kept opts fault
phases_told sources kept opts build.StoreFault h = tt
phases_told sources kept opts build.NoMemory h = tt
phases_told sources kept opts (build.Refused name refusal) h = subst (λ (r : Result (List FlowModule) BuildFault). BuildsBy r kept opts (Err (build.Refused name refusal))) (sym h) refl
phases_told sources kept opts (build.LinkRefused fault) h = subst (λ (r : Result (List FlowModule) BuildFault). BuildsBy r kept opts (Err (build.LinkRefused fault))) (sym h) refl

pub phases_refuse : (sources : List Source) (kept : Told → List (Option Object)) (opts : Opts) (first : Option Told) (fault : BuildFault) → FaultsAs (first_phases sources) fault → IfSome first (λ told. FaultBuilds sources (kept told) opts fault)
phases_refuse sources kept opts None fault h = tt
phases_refuse sources kept opts (Some told) fault h = phases_told sources (kept told) opts fault h

-- flow graphs and kept objects come to an answer, so the modules do
abbrev pub as_build : Result Parts LinkFault → Result Parts BuildFault
as_build (Ok parts) = Ok parts
as_build (Err fault) = Err (build.LinkRefused fault)

completed : (sources : List Source) (flows : List FlowModule) (kept kept' : List (Option Object)) (opts : Opts) (answer : Result Parts LinkFault) → first_phases sources ≡ Ok flows → kept ≡ kept' → Completes flows kept opts answer → Builds sources kept' opts (as_build answer)
completed sources flows kept kept' opts answer phases same h =
    subst (λ (r : Result (List FlowModule) BuildFault). BuildsBy r kept' opts (as_build answer)) (sym phases)
    (by_answer answer (subst (λ (k : List (Option Object)). Completes flows k opts answer) same h))
  where
    by_answer : (a : Result Parts LinkFault) → Completes flows kept' opts a → CompletesAs flows kept' opts (as_build a)
    by_answer (Ok parts) h = h
    by_answer (Err fault) h = h

pub builds_completed : (sources : List Source) (flows : List FlowModule) (kept : List (Option Object)) (all : Told → List (Option Object)) (opts : Opts) (answer : Result Parts LinkFault) (first : Option Told) → first_phases sources ≡ Ok flows → IfSome first (λ told. kept ≡ all told)
    → Completes flows kept opts answer → IfSome first (λ told. Builds sources (all told) opts (as_build answer))
builds_completed sources flows kept all opts answer None phases same h = tt
builds_completed sources flows kept all opts answer (Some told) phases same h = completed sources flows kept (all told) opts answer phases same h

-- ---- at most how many are counted

-- nothing
pub not_counted : (phases : Result (List FlowModule) BuildFault) (n : ℕ) → CountsAtMost phases n n
not_counted (Err fault) n = refl
not_counted (Ok flows) n = record { least = omega arith; bound = omega arith }

-- at most one for each flow graph
pub flows_counted : (phases : Result (List FlowModule) BuildFault) (flows : List FlowModule) (before now : ℕ) → phases ≡ Ok flows → CountsUpTo (length flows) before now → CountsAtMost phases before now
flows_counted phases flows before now e h = subst (λ (r : Result (List FlowModule) BuildFault). CountsAtMost r before now) (sym e) h

most_by : (sources : List Source) (phases : Result (List FlowModule) BuildFault) (before now : ℕ) → first_phases sources ≡ phases → CountsAtMost phases before now → CountsUpTo module_limit before now
most_by sources (Err fault) before now e h = record { least = omega (arith, h); bound = omega (arith, h) }
most_by sources (Ok flows) before now e h =
    let long : length flows ≡ length sources = flows_long sources flows (within_flows (limit_passed sources) (flows_of sources) flows e) in
    let few : length sources ≤ module_limit = few_by sources flows (nat_lt module_limit (length sources)) refl e in
    record { least = h.least; bound = omega (arith, h.bound, long, few) }

pub most_counted : (sources : List Source) (before now : ℕ) → CountsAtMost (first_phases sources) before now → CountsUpTo module_limit before now
most_counted sources before now h = most_by sources (first_phases sources) before now refl h
