-- The lists that the code makes are those of a summary.
use Rattle.std.proofs.Common.{◌≡◌, ℕ, ◌+◌, ◌<◌, Bor, List, [], ◌∷◌, ◌++◌, length, get_or, take, map, refl, sym, ap, subst, ◌∙◌, inl, inr}
use Rattle.std.specs.Prelude.{All, Contains}
use Rattle.std.specs.List.{AllZip}
use Rattle.std.proofs.lemmas.List.{take_more}
use Rattle.pw_fields.specs.FieldNames.{IsTableOf}
use Rattle.pw_flow.specs.declared.flow.FlowFn.{FlowFn}
use Rattle.pw_flow.specs.declared.flow.FlowModule.{FlowModule}
use Rattle.pw_flow.specs.FlowGraph.{named_in, global_names, function_names}
use Rattle.pw_flow.specs.ValidFlow.{AreDistinct, IsFunction, IsValid}
use Rattle.pw_summary.specs.Summary.{summary_version}
use Rattle.pw_summary.specs.declared.summary.Uses.{Uses}
use Rattle.pw_summary.specs.declared.summary.Summary.{Summary}
use Rattle.pw_summarise.specs.Summarises.{IsOrdered, addressed, in_module, taken_of, escaped_of, global_entry, function_entry, function_entries, IsUsesOf, AreUsesOf, Summarises}
use Rattle.pw_files.proofs.Standing.{Has, contains_by, has_by, has_each, each_by}
use Rattle.pw_files.proofs.Views.{seen, seen_all}
use Rattle.pw_summarise.proofs.Orders.{ordered_map}
use Rattle.pw_summarise.proofs.ShapeLaws.{taken_ordered, escaped_ordered}
use Rattle.pw_flow.proofs.Once.{distinct_left, distinct_right}

-- ---- the names of what a lawful module defines differ

pub globals_differ : (m : FlowModule) → IsValid m → AreDistinct (map (λ g. g.0) (map global_entry m.globals))
globals_differ m valid = subst AreDistinct (sym (seen global_entry (λ g. g.0) m.globals)) (distinct_left (global_names m) (function_names m) valid.names.distinct.defined)

pub functions_differ : (m : FlowModule) → IsValid m → AreDistinct (map (λ f. f.name) m.functions)
functions_differ m valid = distinct_right (global_names m) (function_names m) valid.names.distinct.defined

-- each of them is lawful, in whatever order they stand
pub each_lawful : (m : FlowModule) (sorted : List (Bor FlowFn)) → IsValid m → IsOrdered (λ f. f.name) m.functions (map (λ f. f.now) sorted) → All (λ f. IsFunction f.now) sorted
each_lawful m sorted valid ordered =
    seen_all (λ (f : Bor FlowFn). f.now) IsFunction sorted
    (each_by IsFunction (map (λ f. f.now) sorted) (λ f h. has_each IsFunction m.functions f valid.parts.functions (has_by f m.functions ((ordered.of f).0 (contains_by f (map (λ f. f.now) sorted) h)))))

-- ---- functions in order

abbrev entry : Bor FlowFn → List ℕ × List ℕ
entry f = function_entry f.now

pub entries_ordered : (fs : List FlowFn) (sorted : List (Bor FlowFn)) → IsOrdered (λ f. f.name) fs (map (λ f. f.now) sorted) → IsOrdered (λ f. f.0) (map function_entry fs) (map entry sorted)
entries_ordered fs sorted is =
    subst (λ (xs : List (List ℕ × List ℕ)). IsOrdered (λ f. f.0) (map function_entry fs) xs) (seen (λ (f : Bor FlowFn). f.now) function_entry sorted)
    (ordered_map (λ (f : FlowFn). f.name) (λ (e : List ℕ × List ℕ). e.0) function_entry (λ f. refl) fs (map (λ f. f.now) sorted) is)

uses_each : (fs : List FlowFn) (sorted : List (Bor FlowFn)) (us : List Uses) → AllZip (λ f u. IsUsesOf f.now u) sorted us → ((f : FlowFn) → Has f (map (λ f. f.now) sorted) → Contains fs f) → AreUsesOf fs (map entry sorted) us
uses_each fs [] [] zip there = tt
uses_each fs [] (u ∷ us) zip there = absurd zip
uses_each fs (f ∷ sorted) [] zip there = absurd zip
uses_each fs (f ∷ sorted) (u ∷ us) zip there = ((f.now, there f.now (inl refl), refl, zip.0), uses_each fs sorted us zip.1 (λ g h. there g (inr h)))

uses_ordered : (fs : List FlowFn) (sorted : List (Bor FlowFn)) (us : List Uses) → AllZip (λ f u. IsUsesOf f.now u) sorted us → IsOrdered (λ f. f.name) fs (map (λ f. f.now) sorted) → AreUsesOf fs (map entry sorted) us
uses_ordered fs sorted us zip is = uses_each fs sorted us zip (λ f h. (is.of f).0 (contains_by f (map (λ f. f.now) sorted) h))

zip_push : {A B : Type 0} (R : A → B → Type 0) (xs : List A) (ys : List B) (x : A) (y : B) → AllZip R xs ys → R x y → AllZip R (xs ++ x ∷ []) (ys ++ y ∷ [])
zip_push R [] [] x y zip one = (one, tt)
zip_push R [] (b ∷ ys) x y zip one = absurd zip
zip_push R (a ∷ xs) [] x y zip one = absurd zip
zip_push R (a ∷ xs) (b ∷ ys) x y zip one = (zip.0, zip_push R xs ys x y zip.1 one)

-- one more item of each list
pub zip_more : {A B : Type 0} (R : A → B → Type 0) (xs : List A) (ys : List B) (i : ℕ) (x : A) (y : B) → i < length xs → x ≡ get_or xs i x → AllZip R (take i xs) ys → R x y → AllZip R (take (i + 1) xs) (ys ++ y ∷ [])
zip_more {A} {B} R xs ys i x y lt is zip one =
    subst (λ (zs : List A). AllZip R zs (ys ++ y ∷ [])) (sym (take_more xs i x lt ∙ ap (λ (z : A). take i xs ++ z ∷ []) (sym is))) (zip_push R (take i xs) ys x y zip one)

-- ---- all lists together

-- what the code has in its lists, for a module
pub record AreLists (m : FlowModule) (sorted : List (Bor FlowFn)) (addresses : List (List ℕ)) (us : List Uses) (s : Summary) : Type 0 where
  pub version : s.version ≡ summary_version
  pub of_module : s.module ≡ m.name
  pub globals : IsOrdered (λ g. g.0) (map global_entry m.globals) s.globals
  pub in_order : IsOrdered (λ f. f.name) m.functions (map (λ f. f.now) sorted)
  pub functions : s.functions ≡ map (λ f. function_entry f.now) sorted
  pub declared : IsOrdered (λ d. d.0) m.declared s.declared
  pub addressed : IsTableOf addresses (in_module addressed m)
  pub used : IsOrdered (λ name. name) (named_in m) s.used
  pub taken : s.taken ≡ taken_of s.functions s.declared addresses
  pub escaped : s.escaped ≡ escaped_of s.functions s.declared addresses
  pub zip : AllZip (λ f u. IsUsesOf f.now u) sorted us
  pub uses : s.uses ≡ us

pub summarised : (m : FlowModule) (sorted : List (Bor FlowFn)) (addresses : List (List ℕ)) (us : List Uses) (s : Summary) → AreLists m sorted addresses us s → Summarises m s
summarised m sorted addresses us s are =
    let entries = entries_ordered m.functions sorted are.in_order in
    let functions = subst (λ (fs : List (List ℕ × List ℕ)). IsOrdered (λ f. f.0) (function_entries m) fs) (sym are.functions) entries in
    record {
      version = are.version;
      of_module = are.of_module;
      globals = are.globals;
      functions = functions;
      declared = are.declared;
      used = are.used;
      taken = subst (λ (fs : List (List ℕ × List ℕ)). IsOrdered (λ f. f.0) (taken_of (function_entries m) m.declared (in_module addressed m)) fs) (sym are.taken)
          (taken_ordered (function_entries m) m.declared s.functions s.declared addresses (in_module addressed m) functions are.declared are.addressed);
      escaped = subst (λ (ns : List (List ℕ)). IsOrdered (λ n. n) (escaped_of (function_entries m) m.declared (in_module addressed m)) ns) (sym are.escaped)
          (escaped_ordered (function_entries m) m.declared s.functions s.declared addresses (in_module addressed m) functions are.declared are.addressed);
      uses = subst (λ (es : List (List ℕ × List ℕ)). AreUsesOf m.functions es s.uses) (sym are.functions)
          (subst (λ us. AreUsesOf m.functions (map entry sorted) us) (sym are.uses) (uses_ordered m.functions sorted us are.zip are.in_order));
    }
