-- What a build leaves of the modules and of the objects that are kept of them.
use Rattle.std.proofs.Common.{◌≡◌, ◌≢◌, ◌↔◌, ℕ, suc, ◌+◌, ◌≤◌, Bool, true, false, List, [], ◌∷◌, ◌++◌, codes, length, drop, map, Option, Some, None, Result, Ok, Err, refl, sym, ap, ◌∙◌, arith, length-append}
use Rattle.std.specs.Option.{option_map}
use Rattle.std.specs.List.{AllByRecursion}
use Rattle.std.specs.List.Sorted.{IsStrictlySortedBy}
use Rattle.std.specs.Ordering.{nat_cmp}
use Rattle.std.specs.declared.cmp.Ordering.{Ordering}
use Rattle.std.specs.declared.cmp.Ordering.TheVariants.{Less, Equal}
use Rattle.std.specs.Cmp.Lexicographic.{slice_cmp, nat_list_cmp_total}
use Rattle.std.specs.FinMap as finite
use Rattle.std.specs.FinMap.{same_map, slice_cmp-IsAntisymmetric, nat_cmp-IsAntisymmetric}
use Rattle.std.proofs.Math.Seq.{drop-append-add}
use Rattle.std.proofs.lemmas.Cmp.{tied_itself}
use Rattle.std.proofs.lemmas.List.{append_cancel_right, drop_at, length-map}
use Rattle.pw_io.specs.Files.{Files, Told, after_put, prefix_of}
use Rattle.pw_value.specs.Limits.{kept_limit}
use Rattle.pw_value.specs.declared.fault.FileError.TheVariants as file
use Rattle.pw_value.specs.declared.fault.LinkFault.{LinkFault}
use Rattle.pw_files.specs.Contents.{value_of}
use Rattle.pw_flow.specs.declared.flow.FlowModule.{FlowModule}
use Rattle.pw_object.specs.declared.object.Object.{Object}
use Rattle.pw_object.specs.Object.{IsObjectFile}
use Rattle.pw_object.specs.Reading.{object_file_at}
use Rattle.pw_object.proofs.ObjectLaws.{only_by}
use Rattle.pw_store_modules.specs.FileNames.{database_name, image_name, text_ending, object_ending, text_name, object_name}
use Rattle.pw_store_modules.specs.Modules.{HoldsModule, Source, module_map, modules_of, names_of_modules, text_read}
use Rattle.pw_top_answer.specs.Effects.{NamedFile, after_puts}
use Rattle.pw_build_objects.specs.Programs.{AreForms, AreObjectsFrom, Completes, DirectivesList, Parts}
use Rattle.pw_build_files.specs.FromBuild.BuildFault.{BuildFault}
use Rattle.pw_build_files.specs.FromBuild.FirstPhase.{Phase, compiled}
use Rattle.pw_build_files.specs.FromBuild.Builds.{Builds, BuildsBy, before_others, first_phases, flows_of, limit_passed, within}
use Rattle.pw_store_kept.specs.Kept.{counted, if_object, kept_object, object_in}
use Rattle.pw_store_kept.specs.Files.{AreObjectFiles, made_anew}
use Rattle.pw_build_files.specs.Building.{IsOutcome, Outcome, if_changed, kept_objects}
use Rattle.pw_law_build.specs.Kept.{FitObjects, KeepsObjects}
use Rattle.pw_law_build.proofs.WholeLemmas.{FileLaws, after_both, changed_apart, get_other, no_database, no_image, objects_apart}
use Rattle.pw_build_opts.specs.declared.opts.Opts.{Opts}

-- the laws on which it stands
pub record Laws : Type 0 where
  pub files : FileLaws
  pub front : (most : ℕ) (bytes : List ℕ) → length bytes ≤ most → prefix_of most bytes ≡ bytes
  pub modules : (files : Files) (name text : List ℕ) → (finite.get (module_map files) name ≡ Some text) ↔ HoldsModule files name text
  pub rising : (files : Files) → IsStrictlySortedBy (slice_cmp nat_cmp) (finite.keys (module_map files))

-- there are as many forms as modules
abbrev pub FormsAreAsMany : Type 0
FormsAreAsMany = (optimise : Bool) (flows forms : List FlowModule) → AreForms optimise flows forms → length forms ≡ length flows

-- ---- names

object_apart : (n m : List ℕ) → n ≢ m → object_name n ≢ object_name m
object_apart n m apart = λ e. apart (append_cancel_right n m object_ending e)

no_less : ◌≡◌ {A = Ordering} Equal Less → ⊥
no_less e = cc

below_apart : (n m : List ℕ) → slice_cmp nat_cmp n m ≡ Less → m ≢ n
below_apart n m e = λ same. no_less (sym (tied_itself nat_list_cmp_total n) ∙ ap (slice_cmp nat_cmp n) (sym same) ∙ e)

all_apart : (n : List ℕ) (ns : List (List ℕ)) → AllByRecursion (λ m. slice_cmp nat_cmp n m ≡ Less) ns → AllByRecursion (λ m. m ≢ n) ns
all_apart n [] h = tt
all_apart n (m ∷ ns) h = (below_apart n m h.0, all_apart n ns h.1)

-- each name stands once
abbrev pub Apart : List (List ℕ) → Type 0
Apart [] = Unit {0}
Apart (n ∷ ns) = AllByRecursion (λ m. m ≢ n) ns × Apart ns

rising_apart : (ns : List (List ℕ)) → IsStrictlySortedBy (slice_cmp nat_cmp) ns → Apart ns
unfolding IsStrictlySortedBy
rising_apart [] h = tt
rising_apart (n ∷ ns) h = (all_apart n ns h.0, rising_apart ns h.1)

-- ---- the files of objects

made_apart : (n : List ℕ) (ns : List (List ℕ)) (os : List Object) (bs : List Bool) → AllByRecursion (λ m. m ≢ n) ns → AllByRecursion (λ made. made.0 ≢ n) (made_anew ns os bs)
made_apart n [] os bs a = tt
made_apart n (m ∷ ns) [] bs a = tt
made_apart n (m ∷ ns) (o ∷ os) [] a = tt
made_apart n (m ∷ ns) (o ∷ os) (true ∷ bs) a = (a.0, made_apart n ns os bs a.1)
made_apart n (m ∷ ns) (o ∷ os) (false ∷ bs) a = made_apart n ns os bs a.1

files_apart : (n : List ℕ) (made : List (List ℕ × Object)) (files : List NamedFile) → AllByRecursion (λ m. m.0 ≢ n) made → AreObjectFiles made files → AllByRecursion (λ (f : NamedFile). object_name n ≢ f.0) files
files_apart n [] [] a h = tt
files_apart n [] (f ∷ fs) a h = absurd h
files_apart n (m ∷ ms) [] a h = absurd h
files_apart n (m ∷ ms) (f ∷ fs) a h = ((λ e. object_apart m.0 n a.0 (sym (e ∙ h.0))), files_apart n ms fs a.1 h.2)

-- The objects that were made anew stand in their files, and the files of the others are as before.
abbrev pub Stand : Files → Files → List (List ℕ) → List Object → List Bool → Type 0
Stand old new (n ∷ ns) (o ∷ os) (true ∷ bs) = ((bytes : List ℕ) × IsObjectFile bytes o × (finite.get new (object_name n) ≡ Some bytes)) × Stand old new ns os bs
Stand old new (n ∷ ns) (o ∷ os) (false ∷ bs) = (finite.get new (object_name n) ≡ finite.get old (object_name n)) × Stand old new ns os bs
Stand old new ns os bs = Unit {0}

-- of files with the same objects' files
stand_before : (old next new : Files) (ns : List (List ℕ)) (os : List Object) (bs : List Bool) → AllByRecursion (λ n. finite.get next (object_name n) ≡ finite.get old (object_name n)) ns → Stand next new ns os bs → Stand old new ns os bs
stand_before old next new [] os bs same h = tt
stand_before old next new (n ∷ ns) [] bs same h = tt
stand_before old next new (n ∷ ns) (o ∷ os) [] same h = tt
stand_before old next new (n ∷ ns) (o ∷ os) (true ∷ bs) same h = (h.0, stand_before old next new ns os bs same.1 h.1)
stand_before old next new (n ∷ ns) (o ∷ os) (false ∷ bs) same h = (h.0 ∙ same.0, stand_before old next new ns os bs same.1 h.1)

stand_behind : (old new later : Files) (ns : List (List ℕ)) (os : List Object) (bs : List Bool) → ((n : List ℕ) → finite.get later (object_name n) ≡ finite.get new (object_name n)) → Stand old new ns os bs → Stand old later ns os bs
stand_behind old new later [] os bs same h = tt
stand_behind old new later (n ∷ ns) [] bs same h = tt
stand_behind old new later (n ∷ ns) (o ∷ os) [] same h = tt
stand_behind old new later (n ∷ ns) (o ∷ os) (true ∷ bs) same h = ((h.0.0, h.0.1, same n ∙ h.0.2), stand_behind old new later ns os bs same h.1)
stand_behind old new later (n ∷ ns) (o ∷ os) (false ∷ bs) same h = (same n ∙ h.0, stand_behind old new later ns os bs same h.1)

others_same : FileLaws → (told : Told) (f : NamedFile) (n : List ℕ) (ns : List (List ℕ)) → f.0 ≡ object_name n → AllByRecursion (λ m. m ≢ n) ns → AllByRecursion (λ m. finite.get (after_put told f.0 f.1).files (object_name m) ≡ finite.get told.files (object_name m)) ns
others_same laws told f n [] e a = tt
others_same laws told f n (m ∷ ns) e a = (laws.insertion told.files f.0 f.1 (object_name m) (λ same. object_apart m n a.0 (same ∙ e)), others_same laws told f n ns e a.1)

stand_put : FileLaws → (told : Told) (ns : List (List ℕ)) (os : List Object) (bs : List Bool) (files : List NamedFile) → Apart ns → AreObjectFiles (made_anew ns os bs) files → Stand told.files (after_puts told files).files ns os bs
stand_put laws told [] os bs files a h = tt
stand_put laws told (n ∷ ns) [] bs files a h = tt
stand_put laws told (n ∷ ns) (o ∷ os) [] files a h = tt
stand_put laws told (n ∷ ns) (o ∷ os) (true ∷ bs) [] a h = absurd h
stand_put laws told (n ∷ ns) (o ∷ os) (true ∷ bs) (f ∷ fs) a h =
    let next : Told = after_put told f.0 f.1 in
    let others : AllByRecursion (λ (g : NamedFile). object_name n ≢ g.0) fs = files_apart n (made_anew ns os bs) fs (made_apart n ns os bs a.0) h.2 in
    let there : finite.get (after_puts next fs).files (object_name n) ≡ Some f.1 =
    get_other laws next fs (object_name n) others ∙ ap (finite.get next.files) (sym h.0) ∙ laws.inserted told.files f.0 f.1 in
    ((f.1, h.1, there), stand_before told.files next.files (after_puts next fs).files ns os bs (others_same laws told f n ns h.0 a.0) (stand_put laws next ns os bs fs a.1 h.2))
stand_put laws told (n ∷ ns) (o ∷ os) (false ∷ bs) files a h = (
  get_other laws told files (object_name n) (files_apart n (made_anew ns os bs) files (made_apart n ns os bs a.0) h),
  stand_put laws told ns os bs files a.1 h,
)

-- ---- the database and the image are no other files

all_both : {X : Type 0} (P : X → Type 0) (xs ys : List X) → AllByRecursion P xs → AllByRecursion P ys → AllByRecursion P (xs ++ ys)
all_both P [] ys a b = b
all_both P (x ∷ xs) ys a b = (a.0, all_both P xs ys a.1 b)

program_apart : (old : Files) (db img name : List ℕ) → name ≢ database_name → name ≢ image_name → AllByRecursion (λ (f : NamedFile). name ≢ f.0) (if_changed old database_name db ++ if_changed old image_name img)
program_apart old db img name a b =
    all_both (λ (f : NamedFile). name ≢ f.0) (if_changed old database_name db) (if_changed old image_name img) (changed_apart old database_name db name a) (changed_apart old image_name img name b)

behind_objects : FileLaws → (told : Told) (stack : ℕ) (parts : Parts) (outcome : Outcome) (o : IsOutcome told.files stack parts outcome) (name : List ℕ) → name ≢ database_name → name ≢ image_name
    → finite.get (after_puts told outcome.puts).files name ≡ finite.get (after_puts told o.objects).files name
behind_objects laws told stack parts outcome o name a b =
    let program : List NamedFile = if_changed told.files database_name o.database ++ if_changed told.files image_name outcome.image in
    ap (λ (puts : List NamedFile). finite.get (after_puts told puts).files name) o.puts
    ∙ ap (λ (t : Told). finite.get t.files name) (after_both told o.objects program)
    ∙ get_other laws (after_puts told o.objects) program name (program_apart told.files o.database outcome.image name a b)

-- ---- what is kept

found_or : (r : Result Object ℕ) (o : Object) → ((p : Object) → r ≡ Ok p → o ≡ p) → ((at : ℕ) → r ≡ Err at → ⊥) → if_object r ≡ Some o
found_or (Ok p) o is none = ap (λ (x : Object). Some x) (sym (is p refl))
found_or (Err at) o is none = absurd (none at refl)

same_ok : (o p : Object) → ◌≡◌ {A = Result Object ℕ} (Ok o) (Ok p) → o ≡ p
same_ok o p e = cc

no_err : (o : Object) (at : ℕ) → ◌≡◌ {A = Result Object ℕ} (Ok o) (Err at) → ⊥
no_err o at e = cc

-- an object's file is read
read_back : (bytes : List ℕ) (o : Object) → IsObjectFile bytes o → object_in (Some bytes) ≡ Some o
read_back bytes o is =
    found_or (value_of (object_file_at bytes)) o (λ p e. same_ok o p (only_by bytes (Ok p) e o is)) (λ at e. no_err o at (only_by bytes (Err (file.FileFault at)) e o is))

kept_anew : Laws → (new : Files) (n bytes : List ℕ) (o : Object) → IsObjectFile bytes o → length bytes ≤ kept_limit → finite.get new (object_name n) ≡ Some bytes → kept_object new n ≡ Some o
kept_anew laws new n bytes o is fits e =
    ap (λ (b : Option (List ℕ)). object_in (counted b)) e ∙ ap (λ (b : List ℕ). object_in (Some b)) (laws.front kept_limit bytes fits) ∙ read_back bytes o is

no_length : (n : ℕ) → 0 ≡ suc n → ⊥
no_length n e = omega (arith, e)

kept_all : Laws → (db : DirectivesList) (old new : Files) (flows : List FlowModule) (ns : List (List ℕ)) (os : List Object) (bs : List Bool) → length flows ≡ length ns → AreObjectsFrom db flows (map (kept_object old) ns) os bs → FitObjects os → Stand old new ns os bs
    → map (kept_object new) ns ≡ map (λ o. Some o) os
kept_all laws db old new [] [] [] bs l h fits s = refl
kept_all laws db old new [] [] (o ∷ os) bs l h fits s = absurd h
kept_all laws db old new (f ∷ fs) [] os bs l h fits s = absurd (no_length (length fs) (sym l))
kept_all laws db old new [] (n ∷ ns) os bs l h fits s = absurd (no_length (length ns) l)
kept_all laws db old new (f ∷ fs) (n ∷ ns) [] bs l h fits s = absurd h
kept_all laws db old new (f ∷ fs) (n ∷ ns) (o ∷ os) [] l h fits s = absurd h
kept_all laws db old new (f ∷ fs) (n ∷ ns) (o ∷ os) (true ∷ bs) l h fits s =
    ap (λ (k : Option Object). k ∷ map (kept_object new) ns) (kept_anew laws new n s.0.0 o s.0.1 (fits.0 s.0.0 s.0.1) s.0.2)
    ∙ ap (λ (ks : List (Option Object)). Some o ∷ ks) (kept_all laws db old new fs ns os bs (omega (arith, l)) h.1 fits.1 s.1)
kept_all laws db old new (f ∷ fs) (n ∷ ns) (o ∷ os) (false ∷ bs) l h fits s =
    ap (λ (k : Option Object). k ∷ map (kept_object new) ns) (ap (λ (b : Option (List ℕ)). object_in (counted b)) s.0 ∙ h.0.object.0)
    ∙ ap (λ (ks : List (Option Object)). Some o ∷ ks) (kept_all laws db old new fs ns os bs (omega (arith, l)) h.1 fits.1 s.1)

-- ---- as many flow graphs as modules

ok_flows : (a b : List FlowModule) → ◌≡◌ {A = Result (List FlowModule) BuildFault} (Ok a) (Ok b) → a ≡ b
ok_flows a b e = cc

no_flows : (fault : BuildFault) (flows : List FlowModule) → ◌≡◌ {A = Result (List FlowModule) BuildFault} (Err fault) (Ok flows) → ⊥
no_flows fault flows e = cc

by_first : (name : List ℕ) (count : ℕ) (flows : List FlowModule) (phase : Phase) (others : Result (List FlowModule) BuildFault) → ((more : List FlowModule) → others ≡ Ok more → length more ≡ count) → before_others name phase others ≡ Ok flows → length flows ≡ suc count
by_first name count flows (Err refusal) others long h = absurd (no_flows _ flows h)
by_first name count flows (Ok flow) (Err fault) long h = absurd (no_flows _ flows h)
by_first name count flows (Ok flow) (Ok more) long h = ap length (sym (ok_flows (flow ∷ more) flows h)) ∙ ap suc (long more refl)

flows_long : (sources : List Source) (flows : List FlowModule) → flows_of sources ≡ Ok flows → length flows ≡ length sources
flows_long [] flows e = ap length (sym (ok_flows [] flows e))
flows_long (s ∷ ss) flows e = by_first s.0 (length ss) flows (compiled s.0 s.1) (flows_of ss) (flows_long ss) e

phases_long : (sources : List Source) (limit : Option LinkFault) (flows : List FlowModule) → within limit (flows_of sources) ≡ Ok flows → length flows ≡ length sources
phases_long sources None flows e = flows_long sources flows e
phases_long sources (Some fault) flows e = absurd (no_flows _ flows e)

-- ---- the parts of a program that was built

no_parts : (parts : Parts) (fault : BuildFault) → ◌≡◌ {A = Result Parts BuildFault} (Ok parts) (Err fault) → ⊥
no_parts parts fault e = cc

pub record Completed (phases : Result (List FlowModule) BuildFault) (kept : List (Option Object)) (opts : Opts) (parts : Parts) : Type 0 where
  pub flows : List FlowModule
  pub are : phases ≡ Ok flows
  pub completes : Completes flows kept opts (Ok parts)

pub completed : (phases : Result (List FlowModule) BuildFault) (kept : List (Option Object)) (opts : Opts) (parts : Parts) → BuildsBy phases kept opts (Ok parts) → Completed phases kept opts parts
completed (Err fault) kept opts parts h = absurd (no_parts parts fault h)
completed (Ok flows) kept opts parts h = record { flows = flows; are = refl; completes = h }

-- ---- the modules are as before

text_ends : (name file other : List ℕ) (n : ℕ) → length file ≡ n + 2 → drop n file ≡ other → text_name name ≡ file → text_ending ≡ other
text_ends name file other n size end e =
    let l = length-append name text_ending in
    let k : length name ≡ n = omega (arith, l, ap length e, size) in
    sym (drop_at name text_ending n k) ∙ ap (drop n) e ∙ end

no_dot : (b c : ℕ) → text_ending ≡ b ∷ c ∷ [] → b ≡ 46
no_dot b c e = cc

pub text_no_object : (name n : List ℕ) → object_name n ≡ text_name name → ⊥
text_no_object name n e =
    let l = length-append n object_ending in
    let h : 98 ≡ 46 = no_dot 98 106 (text_ends name (object_name n) (codes "bj") (length n + 2) (omega (arith, l)) (drop-append-add n object_ending 2) (sym e)) in
    omega (arith, h)

pub text_no_database : (name : List ℕ) → text_name name ≡ database_name → ⊥
text_no_database name e =
    let h : 100 ≡ 46 = no_dot 100 98 (text_ends name database_name (codes "db") 5 refl refl e) in
    omega (arith, h)

pub text_no_image : (name : List ℕ) → text_name name ≡ image_name → ⊥
text_no_image name e =
    let h : 109 ≡ 46 = no_dot 109 103 (text_ends name image_name (codes "mg") 6 refl refl e) in
    omega (arith, h)

text_same : FileLaws → (told : Told) (stack : ℕ) (parts : Parts) (outcome : Outcome) → IsOutcome told.files stack parts outcome → (name : List ℕ) → finite.get (after_puts told outcome.puts).files (text_name name) ≡ finite.get told.files (text_name name)
text_same laws told stack parts outcome o name =
    behind_objects laws told stack parts outcome o (text_name name) (text_no_database name) (text_no_image name)
    ∙ get_other laws told o.objects (text_name name) (objects_apart _ o.objects (text_name name) (text_no_object name) o.object_files)

pub holds_on : (old new : Files) (name text : List ℕ) → finite.get new (text_name name) ≡ finite.get old (text_name name) → HoldsModule old name text → HoldsModule new name text
holds_on old new name text e h = record { named = h.named; reads = ap (option_map (prefix_of text_read)) e ∙ h.reads }

pub same_option : (a b : Option (List ℕ)) → ((t : List ℕ) → a ≡ Some t → b ≡ Some t) → ((t : List ℕ) → b ≡ Some t → a ≡ Some t) → a ≡ b
same_option None None f g = refl
same_option None (Some t) f g = g t refl
same_option (Some t) b f g = sym (f t refl)

modules_same : Laws → (old new : Files) → ((name : List ℕ) → finite.get new (text_name name) ≡ finite.get old (text_name name)) → modules_of new ≡ modules_of old
modules_same laws old new same =
    ap finite.entries (same_map nat_list_cmp_total (slice_cmp-IsAntisymmetric nat_cmp-IsAntisymmetric) (module_map new) (module_map old) (λ q.
    same_option (finite.get (module_map new) q) (finite.get (module_map old) q)
    (λ t e. (laws.modules old q t).1 (holds_on new old q t (sym (same q)) ((laws.modules new q t).0 e)))
    (λ t e. (laws.modules new q t).1 (holds_on old new q t (same q) ((laws.modules old q t).0 e)))))

-- ---- both

pub keeps_objects : Laws → FormsAreAsMany → (told : Told) (opts : Opts) (parts : Parts) (outcome : Outcome) → Builds (modules_of told.files) (kept_objects told.files) opts (Ok parts) → IsOutcome told.files opts.stack parts outcome → KeepsObjects told.files (after_puts told outcome.puts).files parts
keeps_objects laws count told opts parts outcome builds o =
    let new : Files = (after_puts told outcome.puts).files in
    let names : List (List ℕ) = names_of_modules told.files in
    let c = completed (first_phases (modules_of told.files)) (kept_objects told.files) opts parts builds in
    let modules : modules_of new ≡ modules_of told.files = modules_same laws told.files new (text_same laws.files told opts.stack parts outcome o) in
    let long : length c.completes.0.forms ≡ length names =
    count opts.optimise c.flows c.completes.0.forms c.completes.0.of_flows ∙ phases_long (modules_of told.files) (limit_passed (modules_of told.files)) c.flows c.are ∙ sym (length-map (modules_of told.files) (λ s. s.0)) in
    let stand : Stand told.files new names parts.objects parts.fresh =
    stand_behind told.files (after_puts told o.objects).files new names parts.objects parts.fresh
    (λ n. behind_objects laws.files told opts.stack parts outcome o (object_name n) (no_database n) (no_image n))
    (stand_put laws.files told names parts.objects parts.fresh o.objects (rising_apart names (laws.rising told.files)) o.object_files) in
    record {
      modules = modules;
      objects = λ fits. ap (λ (ss : List Source). map (kept_object new) (map (λ s. s.0) ss)) modules ∙ kept_all laws parts.database told.files new c.completes.0.forms names parts.objects parts.fresh long c.completes.0.objects fits stand;
    }
