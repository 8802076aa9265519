-- Objects that show no more than their modules do keep the rules of linking which the modules keep.
use Rattle.std.proofs.Common.{◌≡◌, ◌↔◌, ℕ, zero, suc, ◌+◌, ◌<◌, arith, Bool, true, false, List, [], ◌∷◌, ◌++◌, map, length, get_or, take, Option, None, Result, Ok, Err, refl, sym, ap, subst, ◌∙◌, inl, inr}
use Rattle.std.specs.Prelude.{Contains, IfOk, ◌&&◌}
use Rattle.std.specs.Bool.{Decides}
use Rattle.std.specs.List.{AllByRecursion, HoldsAt}
use Rattle.std.specs.Str.{bytes_eq}
use Rattle.std.specs.Cmp.{first_so, second_so}
use Rattle.std.specs.Cmp.Derive.{both_true}
use Rattle.std.specs.Cmp.Lexicographic.{pointwise, slice_cmp, texts_ties}
use Rattle.std.specs.Ordering.{nat_cmp, is_eq}
use Rattle.std.specs.declared.cmp.Ordering.TheVariants.{Equal}
use Rattle.std.specs.Result.{is_ok}
use Rattle.std.specs.List.Sorted.{IsSearchInRange}
use Rattle.std.proofs.lemmas.List.{take_more}
use Rattle.std.proofs.lemmas.Slice.Eq.{bytes_eq-Decides}
use Rattle.pw_files.proofs.Standing.{Has, contains_by, has_by, has_map_back}
use Rattle.pw_flow.specs.declared.flow.FlowModule.{FlowModule}
use Rattle.pw_flow.specs.ValidFlow.{IsValid}
use Rattle.pw_summary.specs.declared.summary.Summary.{Summary}
use Rattle.pw_summarise.specs.Summarises.{Summarises}
use Rattle.pw_graph.specs.Program as graph
use Rattle.pw_object.specs.declared.object.Object.{Object}
use Rattle.pw_link_rules.specs.Linking.{Links}
use Rattle.pw_link_interface.specs.Interface.{interface}
use Rattle.pw_law_shown.specs.Alike.{DeclaresMain, IsObjectIn, ShowModules, ShowsModule}
use Rattle.pw_build_objects.specs.declared.forms.Prepared.{Prepared}
use Rattle.pw_build_objects.specs.Preparing.{IsPrepared}
use Rattle.pw_build_objects.specs.Programs.{AreForms, AreObjectsFrom, AreSummariesOf, DirectivesList, HasDatabase, IsModuleFrom, KeepRules}
use Rattle.pw_build_objects.specs.Showing.{ShowWhereKept, ShowsIfKept}
use Rattle.pw_build_objects.proofs.Databases.{object_in}

-- ---- the laws on which it stands

-- an object that the second phase made shows what its module does
abbrev pub MadeShow : Type 0
MadeShow = (program : List FlowModule) (flow : FlowModule) (s : Summary) (o : Object) → IsValid flow → Summarises flow s → IsObjectIn program flow o → ShowsModule program flow s o

-- and objects that do keep the rules that the summaries keep
abbrev pub ShownLink : Type 0
ShownLink = (flows : List FlowModule) (ss : List Summary) (objects : List Object)
    → AllByRecursion IsValid flows → AllByRecursion DeclaresMain flows → AreSummariesOf flows ss → ShowModules flows flows ss objects → graph.AreLinked ss ↔ Links (map interface objects)

-- ---- the objects of a program, one by one

-- a module's object is new, or it was kept
new_module : (db : DirectivesList) (flow : FlowModule) (old : Option Object) (o : Object) → IsModuleFrom db flow old o true → IsModuleFrom db flow None o true
new_module db flow old o is = record { directives = is.directives; in_database = is.in_database; object = (λ stays. stays, is.object.1) }

module _ (made : MadeShow) (program : List FlowModule) (colours : ℕ) (db : DirectivesList) (valid : AllByRecursion IsValid program) (has : HasDatabase program colours db) where
  one_shows : (flow : FlowModule) (s : Summary) (old : Option Object) (o : Object) (fresh : Bool) → IsValid flow → Summarises flow s → IsModuleFrom db flow old o fresh → ShowsIfKept program old flow s → ShowsModule program flow s o
  one_shows flow s old o true lawful of is kept = made program flow s o lawful of (object_in program colours db valid has flow o true (new_module db flow old o is))
  one_shows flow s old o false lawful of is kept = subst (λ (x : Option Object). ShowsIfKept program x flow s) is.object.0 kept

  pub all_show : (flows : List FlowModule) (ss : List Summary) (kept : List (Option Object)) (os : List Object) (fresh : List Bool) → AllByRecursion IsValid flows → AreSummariesOf flows ss
      → AreObjectsFrom db flows kept os fresh → ShowWhereKept program kept flows ss → ShowModules program flows ss os
  all_show [] [] kept [] [] lawful sums are shown = tt
  all_show [] [] kept [] (b ∷ bs) lawful sums are shown = absurd are
  all_show [] [] kept (o ∷ os) fresh lawful sums are shown = absurd are
  all_show [] (s ∷ ss) kept os fresh lawful sums are shown = absurd sums
  all_show (f ∷ fs) [] kept os fresh lawful sums are shown = absurd sums
  all_show (f ∷ fs) (s ∷ ss) kept [] fresh lawful sums are shown = absurd are
  all_show (f ∷ fs) (s ∷ ss) kept (o ∷ os) [] lawful sums are shown = absurd are
  all_show (f ∷ fs) (s ∷ ss) [] (o ∷ os) (b ∷ bs) lawful sums are shown = (one_shows f s None o b lawful.0 sums.0 are.0 tt, all_show fs ss [] os bs lawful.1 sums.1 are.1 tt)
  all_show (f ∷ fs) (s ∷ ss) (old ∷ more) (o ∷ os) (b ∷ bs) lawful sums are shown = (one_shows f s old o b lawful.0 sums.0 are.0 shown.0, all_show fs ss more os bs lawful.1 sums.1 are.1 shown.1)

-- ---- the objects of modules whose forms were prepared

pub plain_objects_link : MadeShow → ShownLink
    → ((o : Bool) (flows forms : List FlowModule) → AreForms o flows forms → AllByRecursion DeclaresMain flows → AllByRecursion DeclaresMain forms)
    → ((o : Bool) (flows forms : List FlowModule) (ss : List Summary) → AreForms o flows forms → AllByRecursion IsValid flows → KeepRules flows → AreSummariesOf forms ss → graph.AreLinked ss)
    → (flows : List FlowModule) (kept : List (Option Object)) (optimise : Bool) (colours : ℕ) (p : Prepared) (os : List Object) (fresh : List Bool) → AllByRecursion IsValid flows → AllByRecursion DeclaresMain flows → IsPrepared flows optimise colours p
    → AreObjectsFrom p.analysed.database.functions p.forms.items kept os fresh → ShowWhereKept p.forms.items kept p.forms.items p.analysed.summaries.items → Links (map interface os)
plain_objects_link made link declare rules flows kept optimise colours p os fresh valid declares is are shown =
    let forms = p.forms.items in
    let ss = p.analysed.summaries.items in
    let linked = rules optimise flows forms ss is.of_flows valid is.rules is.summaries in
    (link forms ss os is.lawful (declare optimise flows forms is.of_flows declares) is.summaries
    (all_show made forms colours p.analysed.database.functions is.lawful is.database forms ss kept os fresh is.lawful is.summaries are shown)).0 linked

-- ---- lists of names

-- names that are told the same one by one are the same
pub same_views : {A : Type 0} (n : A → List ℕ) (xs ys : List A) → pointwise (λ a b. bytes_eq (n a) (n b)) xs ys ≡ true → map n xs ≡ map n ys
same_views n [] [] e = refl
same_views n [] (y ∷ ys) e = absurd cc
same_views n (x ∷ xs) [] e = absurd cc
same_views n (x ∷ xs) (y ∷ ys) e =
    let head : n x ≡ n y = (bytes_eq-Decides (n x) (n y)).0 (first_so (bytes_eq (n x) (n y)) (pointwise (λ a b. bytes_eq (n a) (n b)) xs ys) e) in
    let rest = same_views n xs ys (second_so (bytes_eq (n x) (n y)) (pointwise (λ a b. bytes_eq (n a) (n b)) xs ys) e) in
    λ i. head i ∷ rest i

-- so are declarations, by both texts
pub pair_decides : (x y : List ℕ × List ℕ) → Decides (bytes_eq x.0 y.0 && bytes_eq x.1 y.1) (x ≡ y)
pair_decides x y = (
  λ e.
      let one : x.0 ≡ y.0 = (bytes_eq-Decides x.0 y.0).0 (first_so (bytes_eq x.0 y.0) (bytes_eq x.1 y.1) e) in
      let other : x.1 ≡ y.1 = (bytes_eq-Decides x.1 y.1).0 (second_so (bytes_eq x.0 y.0) (bytes_eq x.1 y.1) e) in
      λ i. (one i, other i),
  λ e. both_true ((bytes_eq-Decides x.0 y.0).1 (ap (λ (p : List ℕ × List ℕ). p.0) e)) ((bytes_eq-Decides x.1 y.1).1 (ap (λ (p : List ℕ × List ℕ). p.1) e)),
)

-- ---- names that are found by halves

has_at : {A : Type 0} (n : A → List ℕ) (xs : List A) (i : ℕ) (x : List ℕ) → i < length xs → HoldsAt (λ y. slice_cmp nat_cmp (n y) x ≡ Equal) xs i → Has x (map n xs)
has_at n [] i x lt at = absurd (omega (arith, lt))
has_at n (y ∷ ys) zero x lt at = inl ((bytes_eq-Decides (n y) x).0 (texts_ties (n y) x ∙ ap is_eq (at y)))
has_at n (y ∷ ys) (suc i) x lt at = inr (has_at n ys i x (omega (arith, lt)) at)

pub found_by_halves : {A : Type 0} (n : A → List ℕ) (xs : List A) (x : List ℕ) (r : Result ℕ ℕ) → is_ok r ≡ true → IsSearchInRange r (length xs)
    → IfOk r (HoldsAt (λ y. slice_cmp nat_cmp (n y) x ≡ Equal) xs) → Contains (map n xs) x
found_by_halves n xs x (Ok i) e range at = contains_by x (map n xs) (has_at n xs i x range at)
found_by_halves n xs x (Err i) e range at = absurd cc

pub plain_view : (xs : List (List ℕ)) → map (λ x. x) xs ≡ xs
plain_view [] = refl
plain_view (x ∷ xs) = ap (λ (ys : List (List ℕ)). x ∷ ys) (plain_view xs)

-- ---- a loop over names

-- what holds of each name that was looked at holds of one more
pub known_turn : {A : Type 0} (n : A → List ℕ) (P : List ℕ → Type 0) (xs : List A) (i : ℕ) (x d : A) → i < length xs → x ≡ get_or xs i d → AllByRecursion (λ y. P (n y)) (take i xs) → P (n x) → AllByRecursion (λ y. P (n y)) (take (i + 1) xs)
known_turn {A} n P xs i x d lt is all h =
    subst (AllByRecursion (λ y. P (n y))) (sym (take_more xs i d lt ∙ ap (λ (y : A). take i xs ++ y ∷ []) (sym is))) (pushed (take i xs) all)
  where
    pushed : (ys : List A) → AllByRecursion (λ y. P (n y)) ys → AllByRecursion (λ y. P (n y)) (ys ++ x ∷ [])
    pushed [] a = (h, tt)
    pushed (y ∷ ys) a = (a.0, pushed ys a.1)

of_each : {A : Type 0} (P : A → Type 0) (xs : List A) → AllByRecursion P xs → (x : A) → Has x xs → P x
of_each P [] all x h = absurd h
of_each P (y ∷ ys) all x (inl e) = subst P e all.0
of_each P (y ∷ ys) all x (inr h) = of_each P ys all.1 x h

pub known_all : {A : Type 0} (n : A → List ℕ) (P : List ℕ → Type 0) (xs : List A) → AllByRecursion (λ y. P (n y)) xs → (x : List ℕ) → Contains (map n xs) x → P x
known_all n P xs all x c =
    let f = has_map_back n x xs (has_by x (map n xs) c) in
    subst P f.2 (of_each (λ y. P (n y)) xs all f.0 f.1)
