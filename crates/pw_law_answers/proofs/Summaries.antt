-- Each lawful flow graph has a summary.
use Rattle.std.proofs.Common.{◌≡◌, ◌≢◌, ℕ, Bool, List, [], ◌∷◌, map, refl, sym, ap, subst, ◌∙◌, inl, inr}
use Rattle.std.specs.Prelude.{Option, Some, None}
use Rattle.std.proofs.lemmas.Option.{same_Some}
use Rattle.pw_value.specs.declared.value.Kind.{Kind}
use Rattle.pw_flow.specs.declared.flow.FlowFn.{FlowFn}
use Rattle.pw_flow.specs.declared.flow.FlowModule.{FlowModule}
use Rattle.pw_flow.specs.FlowGraph.{named_in, global_names, function_names}
use Rattle.pw_flow.specs.Outline.{outline_of}
use Rattle.pw_flow.specs.ValidFlow.{AreDistinct, IsValid}
use Rattle.pw_flow.proofs.Once.{distinct_left, distinct_right}
use Rattle.pw_live_needs.specs.Needs.{need}
use Rattle.pw_summary.specs.Summary.{summary_version}
use Rattle.pw_summary.specs.declared.summary.Uses.{Uses}
use Rattle.pw_summary.specs.declared.summary.Summary.{Summary}
use Rattle.pw_files.proofs.Standing.{Has, contains_by, has_by, has_each, has_map, has_map_back, has_flat_back}
use Rattle.pw_files.proofs.Views.{seen}
use Rattle.pw_summarise.specs.Summarises.{called, called_shape, referenced, addressed, in_function, in_module, reference, function_shape, as_taken, taken_of, escaped_of, global_entry, function_entry, function_entries, IsUsesOf, AreUsesOf, Summarises}
use Rattle.pw_law_answers.proofs.Ordering.{ordered, ordered_names}

-- ---- items of one key are one

pub one_item : {X : Type 0} (key : X → List ℕ) (xs : List X) → AreDistinct (map key xs) → (x y : X) → Has x xs → Has y xs → key x ≡ key y → x ≡ y
one_item key [] all x y h k e = absurd h
one_item key (z ∷ xs) all x y (inl a) (inl b) e = sym a ∙ b
one_item {X} key (z ∷ xs) all x y (inl a) (inr k) e = absurd (has_each (λ other. other ≢ key z) (map key xs) (key y) all.0 (has_map key y xs k) (sym e ∙ sym (ap key a)))
one_item {X} key (z ∷ xs) all x y (inr h) (inl b) e = absurd (has_each (λ other. other ≢ key z) (map key xs) (key x) all.0 (has_map key x xs h) (e ∙ sym (ap key b)))
one_item key (z ∷ xs) all x y (inr h) (inr k) e = one_item key xs all.1 x y h k e

-- ---- what functions use

one_reference : (f : FlowFn) (names : List (List ℕ)) (x y : List ℕ × ℕ × ℕ) → Has x (map (reference f) names) → Has y (map (reference f) names) → x.0 ≡ y.0 → x ≡ y
one_reference f names x y h k e =
    let p = has_map_back (reference f) x names h in
    let q = has_map_back (reference f) y names k in
    let same : p.0 ≡ q.0 = ap (λ (r : List ℕ × ℕ × ℕ). r.0) p.2 ∙ e ∙ sym (ap (λ (r : List ℕ × ℕ × ℕ). r.0) q.2) in
    sym p.2 ∙ ap (reference f) same ∙ q.2

pub uses_exist : (f : FlowFn) → (u : Uses) × IsUsesOf f u
uses_exist f =
    let calls = ordered_names (in_function called f) in
    let shapes = ordered_names (in_function called_shape f) in
    let refs = ordered (λ (r : List ℕ × ℕ × ℕ). r.0) (map (reference f) (in_function referenced f)) (one_reference f (in_function referenced f)) in
    (record { calls = calls.0; shapes = shapes.0; refs = refs.0; need = need (outline_of f) }, record { calls = calls.1; shapes = shapes.1; refs = refs.1; need = refl })

each_uses : (fs : List FlowFn) (entries : List (List ℕ × List ℕ)) → ((e : List ℕ × List ℕ) → Has e entries → Has e (map function_entry fs)) → (us : List Uses) × AreUsesOf fs entries us
each_uses fs [] there = ([], tt)
each_uses fs (e ∷ entries) there =
    let p = has_map_back function_entry e fs (there e (inl refl)) in
    let u = uses_exist p.0 in
    let rest = each_uses fs entries (λ x h. there x (inr h)) in
    (u.0 ∷ rest.0, ((p.0, contains_by p.0 fs p.1, p.2, u.1), rest.1))

-- ---- names whose address is taken

pub taken_is : (name : List ℕ) (o : Option (List ℕ)) (x : List ℕ × List ℕ) → Has x (as_taken name o) → (name ≡ x.0) × (o ≡ Some x.1)
taken_is name None x h = absurd h
taken_is name (Some shape) x (inl e) = (ap (λ (f : List ℕ × List ℕ). f.0) e, ap (λ (f : List ℕ × List ℕ). Some f.1) e)
taken_is name (Some shape) x (inr h) = absurd h

one_taken : (functions declared : List (List ℕ × List ℕ)) (names : List (List ℕ)) (x y : List ℕ × List ℕ) → Has x (taken_of functions declared names) → Has y (taken_of functions declared names) → x.0 ≡ y.0 → x ≡ y
one_taken functions declared names x y h k e =
    let pick = λ (name : List ℕ). as_taken name (function_shape functions declared name) in
    let p = has_flat_back pick x names h in
    let q = has_flat_back pick y names k in
    let a = taken_is p.0 (function_shape functions declared p.0) x p.2 in
    let b = taken_is q.0 (function_shape functions declared q.0) y q.2 in
    let same : p.0 ≡ q.0 = a.0 ∙ e ∙ sym b.0 in
    let shapes : x.1 ≡ y.1 = same_Some x.1 y.1 (sym a.1 ∙ ap (function_shape functions declared) same ∙ b.1) in
    ap (λ (n : List ℕ). (n, x.1)) e ∙ ap (λ (s : List ℕ). (y.0, s)) shapes

-- ---- the summary

globals_once : (m : FlowModule) → IsValid m → AreDistinct (map (λ g. g.0) (map global_entry m.globals))
globals_once m valid = subst AreDistinct (sym (seen global_entry (λ g. g.0) m.globals)) (distinct_left (global_names m) (function_names m) valid.names.distinct.defined)

functions_once : (m : FlowModule) → IsValid m → AreDistinct (map (λ f. f.0) (function_entries m))
functions_once m valid = subst AreDistinct (sym (seen function_entry (λ f. f.0) m.functions)) (distinct_right (global_names m) (function_names m) valid.names.distinct.defined)

pub summary_exists : (m : FlowModule) → IsValid m → (s : Summary) × Summarises m s
summary_exists m valid =
    let globals = ordered (λ (g : List ℕ × List ℕ × Option Kind × Bool). g.0) (map global_entry m.globals) (one_item (λ g. g.0) (map global_entry m.globals) (globals_once m valid)) in
    let functions = ordered (λ (f : List ℕ × List ℕ). f.0) (function_entries m) (one_item (λ f. f.0) (function_entries m) (functions_once m valid)) in
    let declared = ordered (λ (d : List ℕ × List ℕ). d.0) m.declared (one_item (λ d. d.0) m.declared valid.names.distinct.declared) in
    let used = ordered_names (named_in m) in
    let names = in_module addressed m in
    let taken = ordered (λ (f : List ℕ × List ℕ). f.0) (taken_of (function_entries m) m.declared names) (one_taken (function_entries m) m.declared names) in
    let escaped = ordered_names (escaped_of (function_entries m) m.declared names) in
    let uses = each_uses m.functions functions.0 (λ e h. has_by e (function_entries m) ((functions.1.of e).0 (contains_by e functions.0 h))) in (
      record {
        version = summary_version;
        «module» = m.name;
        globals = globals.0;
        functions = functions.0;
        declared = declared.0;
        used = used.0;
        taken = taken.0;
        escaped = escaped.0;
        uses = uses.0;
      },
      record {
        version = refl;
        of_module = refl;
        globals = globals.1;
        functions = functions.1;
        declared = declared.1;
        used = used.1;
        taken = taken.1;
        escaped = escaped.1;
        uses = uses.1;
      },
    )
