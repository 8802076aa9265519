-- Kept objects stay genuine, whatever is put.
use Rattle.std.proofs.Common.{◌≡◌, ◌≢◌, ℕ, ◌+◌, ⊎_elim, inl, inr, Bool, true, false, List, [], ◌∷◌, ◌++◌, codes, length, take, drop, map, Option, Some, None, Result, Ok, Err, refl, sym, ap, ◌∙◌, subst, append_assoc, arith, length-append}
use Rattle.std.specs.Prelude.{IfErr, IfSome}
use Rattle.std.specs.List.{AllByRecursion}
use Rattle.std.specs.Str.{bytes_eq}
use Rattle.std.specs.FinMap as finite
use Rattle.std.proofs.lemmas.List.{take-append-drop, drop_at}
use Rattle.std.proofs.lemmas.Slice.Eq.{bytes_eq-Decides}
use Rattle.std.proofs.lemmas.Bool.Decides.{not_from_Decides}
use Rattle.pw_io.specs.Files.{Files, Told, Keeps, LeavesFile, after_put, prefix_of}
use Rattle.pw_value.specs.Limits.{kept_limit}
use Rattle.pw_fields.specs.FieldLaws.{AreBytes}
use Rattle.pw_fields.proofs.FieldLaws.{AreBytes-take}
use Rattle.pw_flow.specs.declared.flow.FlowModule.{FlowModule}
use Rattle.pw_object.specs.declared.object.Object.{Object}
use Rattle.pw_store_modules.specs.FileNames.{database_name, image_name, object_ending, object_name}
use Rattle.pw_store_modules.specs.Modules.{Source}
use Rattle.pw_top_answer.specs.Effects.{NamedFile, PutPart, PutsFiles, IsLeft, after_puts}
use Rattle.pw_build_objects.specs.Programs.{AreObjectsFrom, DirectivesList, Parts, kept_behind}
use Rattle.pw_build_objects.specs.Kept.{IsGenuine, IsGenuineIfKept}
use Rattle.pw_build_files.specs.FromBuild.BuildFault.{BuildFault}
use Rattle.pw_build_files.specs.FromBuild.Unbuilt.{Unbuilt}
use Rattle.pw_build_files.specs.FromBuild.Builds.{BuildsBy, first_phases}
use Rattle.pw_store_kept.specs.declared.files.ProgramFiles.{ProgramFiles}
use Rattle.pw_store_kept.specs.declared.prepared.Prepared.{Prepared}
use Rattle.pw_store_kept.specs.Kept.{counted, kept_object, object_in}
use Rattle.pw_store_kept.specs.Files.{AreObjectFiles, HoldBytes, IsCompared, changed_files, file_view, made_anew, one_if}
use Rattle.pw_build_opts.specs.declared.opts.Opts.{Opts}
use Rattle.pw_build_files.specs.declared.report.Report.{Report}
use Rattle.pw_build_files.specs.Programs.{BuildsFiles}
use Rattle.pw_build_files.specs.Genuine.{IsBuiltName, IsGenuineFile, IsOwnFile, KeepsGenuine}
use Rattle.pw_build_files.specs.Outcomes.{IsOfStore, build_answer}
use Rattle.pw_build_files.proofs.ObeysLemmas.{PutsAny, some_all, some_told}
use Rattle.pw_build_files.proofs.GenuineFiles.{front_object}
use Rattle.pw_build_files.proofs.NameLemmas.{AreModuleNames}

-- what is known of files under changes of one of them
pub record FileLaws : Type 0 where
  pub inserted : (files : Files) (name bytes : List ℕ) → finite.get (finite.insert files name bytes) name ≡ Some bytes
  pub removed : (files : Files) (name : List ℕ) → finite.get (finite.remove files name) name ≡ None
  pub insertion : (files : Files) (name bytes other : List ℕ) → other ≢ name → finite.get (finite.insert files name bytes) other ≡ finite.get files other
  pub removal : (files : Files) (name other : List ℕ) → other ≢ name → finite.get (finite.remove files name) other ≡ finite.get files other

-- ---- one file

front_fits : (n : ℕ) (bytes : List ℕ) → AreBytes bytes → AreBytes (prefix_of n bytes)
unfolding prefix_of
front_fits n bytes fits = AreBytes-take n bytes fits

front_more : (n : ℕ) (bytes : List ℕ) → prefix_of n bytes ++ drop n bytes ≡ bytes
unfolding prefix_of
front_more n bytes = take-append-drop n bytes

-- a prefix of a good file that stands under its name
put_genuine : (front more : List ℕ) (file : NamedFile) (name : List ℕ) (p : Object) → front ++ more ≡ file.1 → AreBytes front → IsGenuineFile file → object_name name ≡ file.0 → object_in (Some (prefix_of kept_limit front)) ≡ Some p → IsGenuine p
put_genuine front more file name p split fits good named e =
    let g = good name named in
    let whole : prefix_of kept_limit front ++ (drop kept_limit front ++ more) ≡ file.1 = sym (append_assoc (prefix_of kept_limit front) (drop kept_limit front) more) ∙ ap (λ (x : List ℕ). x ++ more) (front_more kept_limit front) ∙ split in
    let same : p ≡ g.0 = front_object (prefix_of kept_limit front) (drop kept_limit front ++ more) file.1 g.0 p whole (front_fits kept_limit front fits) g.2 e in
    subst IsGenuine (sym same) g.3

none_is : (p : Object) → ◌≡◌ {A = Option Object} None (Some p) → ⊥
none_is p e = cc

by_name : (files new : Files) (file : NamedFile) → KeepsGenuine files → ((other : List ℕ) → other ≢ file.0 → finite.get new other ≡ finite.get files other) → ((name : List ℕ) (p : Object) → object_name name ≡ file.0 → kept_object new name ≡ Some p → IsGenuine p) → KeepsGenuine new
by_name files new file keeps others own name p spelled e =
    elim (bytes_eq (object_name name) file.0) as (λ b. bytes_eq (object_name name) file.0 ≡ b → IsGenuine p) [
      | true ↦ λ t. own name p ((bytes_eq-Decides (object_name name) file.0).0 t) e
      | false ↦ λ t.
          let apart : object_name name ≢ file.0 = not_from_Decides (bytes_eq (object_name name) file.0) (bytes_eq-Decides (object_name name) file.0) t in
          keeps name p spelled (ap (λ (x : Option (List ℕ)). object_in (counted x)) (sym (others (object_name name) apart)) ∙ e)
    ] refl

insert_keeps : FileLaws → (files : Files) (file : NamedFile) (front more : List ℕ) → KeepsGenuine files → IsGenuineFile file → front ++ more ≡ file.1 → ((name : List ℕ) → object_name name ≡ file.0 → AreBytes front) → KeepsGenuine (finite.insert files file.0 front)
insert_keeps laws files file front more keeps good split fits =
    by_name files (finite.insert files file.0 front) file keeps (laws.insertion files file.0 front)
    (λ name p named e.
    let there : finite.get (finite.insert files file.0 front) (object_name name) ≡ Some front = ap (finite.get (finite.insert files file.0 front)) named ∙ laws.inserted files file.0 front in
    put_genuine front more file name p split (fits name named) good named (ap (λ (x : Option (List ℕ)). object_in (counted x)) (sym there) ∙ e))

remove_keeps : FileLaws → (files : Files) (file : NamedFile) → KeepsGenuine files → KeepsGenuine (finite.remove files file.0)
remove_keeps laws files file keeps =
    by_name files (finite.remove files file.0) file keeps (laws.removal files file.0)
    (λ name p named e.
    let there : finite.get (finite.remove files file.0) (object_name name) ≡ None = ap (finite.get (finite.remove files file.0)) named ∙ laws.removed files file.0 in
    absurd (none_is p (ap (λ (x : Option (List ℕ)). object_in (counted x)) (sym there) ∙ e)))

left_keeps : FileLaws → (files new : Files) (file : NamedFile) → KeepsGenuine files → IsGenuineFile file → LeavesFile files new file.0 file.1 → KeepsGenuine new
left_keeps laws files new file keeps good left =
    ⊎_elim {C = KeepsGenuine new}
    (λ same. subst KeepsGenuine (sym same) keeps)
    (λ others. ⊎_elim {C = KeepsGenuine new}
    (λ gone. subst KeepsGenuine (sym gone) (remove_keeps laws files file keeps))
    (λ part. subst KeepsGenuine (sym part.2) (insert_keeps laws files file (take part.0 file.1) (drop part.0 file.1) keeps good (take-append-drop part.0 file.1) (λ name named. AreBytes-take part.0 file.1 (good name named).1)))
    others)
    left

-- ---- several

pub after_keeps : FileLaws → (told : Told) (files : List NamedFile) → KeepsGenuine told.files → AllByRecursion IsGenuineFile files → KeepsGenuine (after_puts told files).files
after_keeps laws told [] keeps good = keeps
after_keeps laws told (file ∷ files) keeps good =
    after_keeps laws (after_put told file.0 file.1) files (insert_keeps laws told.files file file.1 [] keeps good.0 (append_nil file.1) (λ name named. (good.0 name named).1)) good.1
  where
    append_nil : (xs : List ℕ) → xs ++ [] ≡ xs
    append_nil [] = refl
    append_nil (x ∷ xs) = ap (λ (ys : List ℕ). x ∷ ys) (append_nil xs)

good_front : (done more : List NamedFile) → AllByRecursion IsGenuineFile (done ++ more) → AllByRecursion IsGenuineFile done
good_front [] more good = tt
good_front (file ∷ done) more good = (good.0, good_front done more good.1)

good_back : (done more : List NamedFile) → AllByRecursion IsGenuineFile (done ++ more) → AllByRecursion IsGenuineFile more
good_back [] more good = good
good_back (file ∷ done) more good = good_back done more good.1

left_part : FileLaws → (told : Told) (more : List NamedFile) (new : Option Told) → KeepsGenuine told.files → AllByRecursion IsGenuineFile more → IsLeft told more new → IfSome new (λ now. KeepsGenuine now.files)
left_part laws told more None keeps good left = tt
left_part laws told [] (Some now) keeps good left = subst (λ (o : Option Told). IfSome o (λ t. KeepsGenuine t.files)) (sym left) keeps
left_part laws told (file ∷ more) (Some now) keeps good left =
    ⊎_elim {C = KeepsGenuine now.files}
    (λ same. subst (λ (o : Option Told). IfSome o (λ t. KeepsGenuine t.files)) (sym same) keeps)
    (λ part. left_keeps laws told.files now.files file keeps good.0 part.1)
    left

pub part_keeps : FileLaws → (told : Told) (files : List NamedFile) (new : Option Told) → KeepsGenuine told.files → AllByRecursion IsGenuineFile files → PutPart told files new → IfSome new (λ now. KeepsGenuine now.files)
part_keeps laws told files new keeps good part =
    let both : AllByRecursion IsGenuineFile (part.done ++ part.more) = subst (AllByRecursion IsGenuineFile) part.split good in
    left_part laws (after_puts told part.done) part.more new (after_keeps laws told part.done keeps (good_front part.done part.more both)) (good_back part.done part.more both) part.left

-- ---- the files of a build

made_genuine : (db : DirectivesList) (names : List (List ℕ)) (flows : List FlowModule) (kept : List (Option Object)) (os : List Object) (bs : List Bool) → AreObjectsFrom db flows kept os bs → AllByRecursion (λ m. IsGenuine m.1) (made_anew names os bs)
made_genuine db [] flows kept os bs h = tt
made_genuine db (n ∷ ns) flows kept [] bs h = tt
made_genuine db (n ∷ ns) flows kept (o ∷ os) [] h = tt
made_genuine db (n ∷ ns) [] kept (o ∷ os) (b ∷ bs) h = absurd h
made_genuine db (n ∷ ns) (f ∷ fs) kept (o ∷ os) (true ∷ bs) h =
    (record { flow = f; directives = h.0.directives; of_module = h.0.in_database.of_module; made = h.0.object.1 }, made_genuine db ns fs (kept_behind kept) os bs h.1)
made_genuine db (n ∷ ns) (f ∷ fs) kept (o ∷ os) (false ∷ bs) h = made_genuine db ns fs (kept_behind kept) os bs h.1

pub files_good : (made : List (List ℕ × Object)) (files : List NamedFile) → AllByRecursion (λ m. IsGenuine m.1) made → HoldBytes files → AreObjectFiles made files → AllByRecursion IsOwnFile files
files_good [] [] genuine fits h = tt
files_good [] (f ∷ fs) genuine fits h = absurd h
files_good (m ∷ ms) [] genuine fits h = absurd h
files_good (m ∷ ms) (f ∷ fs) genuine fits h = ((inl (m.0, h.0), λ name named. (m.1, fits.0, h.1, genuine.0)), files_good ms fs genuine.1 fits.1 h.2)

-- `prog.db` and `prog.img` are no object's files
apart_at : (name file ending : List ℕ) (n : ℕ) → length file ≡ n + 4 → drop n file ≡ ending → object_name name ≡ file → object_ending ≡ ending
apart_at name file ending n size end e =
    let l = length-append name object_ending in
    let k : length name ≡ n = omega (arith, l, ap length e, size) in
    sym (drop_at name object_ending n k) ∙ ap (drop n) e ∙ end

first_is : (a b : ℕ) (xs ys : List ℕ) → a ∷ xs ≡ b ∷ ys → a ≡ b
first_is a b xs ys e = cc

rest_is : (a b : ℕ) (xs ys : List ℕ) → a ∷ xs ≡ b ∷ ys → xs ≡ ys
rest_is a b xs ys e = cc

pub no_database : (name : List ℕ) → object_name name ≡ database_name → ⊥
no_database name e = differ (apart_at name database_name (codes "g.db") 3 refl refl e)
  where
    differ : object_ending ≡ codes "g.db" → ⊥
    differ e = let h : 46 ≡ 103 = first_is 46 103 _ _ e in omega (arith, h)

pub no_image : (name : List ℕ) → object_name name ≡ image_name → ⊥
no_image name e = differ (apart_at name image_name (codes ".img") 4 refl refl e)
  where
    differ : object_ending ≡ codes ".img" → ⊥
    differ e = let h : 111 ≡ 105 = first_is 111 105 _ _ (rest_is 46 46 _ _ e) in omega (arith, h)

pub alone_good : (changed : Bool) (name bytes : List ℕ) → IsBuiltName name → ((other : List ℕ) → object_name other ≡ name → ⊥) → AllByRecursion IsOwnFile (one_if changed name bytes)
alone_good false name bytes built apart = tt
alone_good true name bytes built apart = ((built, λ other named. absurd (apart other named)), tt)

pub good_append : (xs ys : List NamedFile) → AllByRecursion IsOwnFile xs → AllByRecursion IsOwnFile ys → AllByRecursion IsOwnFile (xs ++ ys)
good_append [] ys a b = b
good_append (x ∷ xs) ys a b = (a.0, good_append xs ys a.1 b)

no_parts : (parts : Parts) (fault : BuildFault) → ◌≡◌ {A = Result Parts BuildFault} (Ok parts) (Err fault) → ⊥
no_parts parts fault e = cc

pub parts_genuine : (names : List (List ℕ)) (flows : Result (List FlowModule) BuildFault) (kept : List (Option Object)) (opts : Opts) (parts : Parts) → BuildsBy flows kept opts (Ok parts) → AllByRecursion (λ m. IsGenuine m.1) (made_anew names parts.objects parts.fresh)
parts_genuine names (Err fault) kept opts parts h = absurd (no_parts parts fault h)
parts_genuine names (Ok flows) kept opts parts h = made_genuine parts.database names h.0.forms kept parts.objects parts.fresh h.0.objects

good_told : (files : Files) (sources : List Source) (kept : List (Option Object)) (opts : Opts) (made : ProgramFiles) (p : Prepared) (objects : List Object) (count : ℕ) → BuildsFiles sources kept opts made objects → HoldBytes (map file_view made.fresh.files.items) → IsCompared files count made p → AllByRecursion IsOwnFile (changed_files p)
good_told files sources kept opts made p objects count builds fits cmp =
    let anew = made_anew (map (λ s. s.0) sources) builds.0.objects builds.0.fresh in
    let genuine : AllByRecursion (λ m. IsGenuine m.1) anew = parts_genuine (map (λ s. s.0) sources) (first_phases sources) kept opts builds.0 builds.1 in
    let own : AllByRecursion IsOwnFile (map file_view made.fresh.files.items) = files_good anew (map file_view made.fresh.files.items) genuine fits builds.2.objects in
    let db = one_if p.database_changed database_name p.database.items in
    let img = one_if p.image_changed image_name p.image.items in
    good_append (map file_view p.objects.items) (db ++ img) (subst (λ fs. AllByRecursion IsOwnFile (map file_view fs)) (sym cmp.objects) own)
    (good_append db img (alone_good p.database_changed database_name p.database.items (inr (inl refl)) no_database) (alone_good p.image_changed image_name p.image.items (inr (inr refl)) no_image))

pub good_prepared : (opts : Opts) (first now : Option Told) (sources : List Source) (kept : Told → List (Option Object)) (made : ProgramFiles) (p : Prepared) (objects : List Object) (count : ℕ) → IfSome first (λ told. BuildsFiles sources (kept told) opts made objects) → HoldBytes (map file_view made.fresh.files.items)
    → Keeps first now → IfSome now (λ told. IsCompared told.files count made p) → IfSome first (λ told. AllByRecursion IsOwnFile (changed_files p))
good_prepared opts None now sources kept made p objects count builds fits same cmp = tt
good_prepared opts (Some told) now sources kept made p objects count builds fits same cmp =
    let Q : Option Told → Type 0 = λ o. IfSome o (λ t. IsCompared t.files count made p) in
    good_told told.files sources (kept told) opts made p objects count builds fits (subst Q same cmp)

-- ---- whatever was put

pub own_genuine : (files : List NamedFile) → AllByRecursion IsOwnFile files → AllByRecursion IsGenuineFile files
own_genuine [] own = tt
own_genuine (file ∷ files) own = (own.0.1, own_genuine files own.1)

pub puts_keep : FileLaws → (first now new : Option Told) (files : List NamedFile) (result : Result Report Unbuilt) → Keeps first now → IfSome first (λ told. AllByRecursion IsOwnFile files) → IfErr result (λ unbuilt. IsOfStore unbuilt.fault)
    → IfSome now (λ told. PutsFiles files (build_answer result) told new) → IfSome first (λ told. KeepsGenuine told.files → IfSome new (λ after. KeepsGenuine after.files))
puts_keep laws None now new files result same good of puts = tt
puts_keep laws (Some told) now new files result same good of puts = λ keeps.
    let P : Option Told → Type 0 = λ o. IfSome o (λ t. PutsFiles files (build_answer result) t new) in
    let h : PutsFiles files (build_answer result) told new = subst P same puts in
    let some : PutsAny told new = some_told files result told new of h in
    part_keeps laws told some.0 new keeps (some_all IsGenuineFile files result told new of h (own_genuine files good)) some.1

pub nothing_keeps : (first new : Option Told) → Keeps first new → IfSome first (λ told. KeepsGenuine told.files → IfSome new (λ after. KeepsGenuine after.files))
nothing_keeps None new same = tt
nothing_keeps (Some told) new same = λ keeps. subst (λ (o : Option Told). IfSome o (λ t. KeepsGenuine t.files)) (sym same) keeps

-- ---- what is kept of all modules

if_kept : (kept : Option Object) → ((o : Object) → kept ≡ Some o → IsGenuine o) → IsGenuineIfKept kept
if_kept None h = tt
if_kept (Some o) h = h o refl

pub kept_genuine : (files : Files) (names : List (List ℕ)) → AreModuleNames names → KeepsGenuine files → AllByRecursion IsGenuineIfKept (map (kept_object files) names)
kept_genuine files [] spelled keeps = tt
kept_genuine files (name ∷ names) spelled keeps = (if_kept (kept_object files name) (λ o e. keeps name o spelled.0 e), kept_genuine files names spelled.1 keeps)
