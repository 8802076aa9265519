-- The summary of a lawful flow graph is a lawful summary.
use Rattle.std.proofs.Common.{◌≡◌, ℕ, zero, suc, ◌+◌, ◌<◌, ◌≤◌, Bool, true, false, cond, List, [], ◌∷◌, length, map, refl, sym, ap, subst, ◌∙◌, arith, inl, inr}
use Rattle.std.specs.Prelude.{Contains, Option, Some, None, min, ◌-◌}
use Rattle.std.specs.List.{AllByRecursion, flat_map}
use Rattle.std.specs.Str.{bytes_eq}
use Rattle.std.proofs.lemmas.Slice.Eq.{bytes_eq-Decides}
use Rattle.std.proofs.lemmas.List.{map-id}
use Rattle.std.proofs.lemmas.List.Sums.{sum_by-cons}
use Rattle.pw_flow.specs.declared.flow.Op.{Op}
use Rattle.pw_flow.specs.declared.flow.FlowFn.{FlowFn}
use Rattle.pw_flow.specs.declared.flow.Block.{Block}
use Rattle.pw_flow.specs.declared.flow.FlowModule.{FlowModule}
use Rattle.pw_flow.specs.declared.flow.Op.TheVariants.{AddrGlobal, AddrFn, Call}
use Rattle.pw_flow.specs.FlowGraph.{op_names, names_in_block, names_in_function, names_in_global, named_in, global_names, function_names}
use Rattle.pw_flow.specs.ValidFlow.{IsValid}
use Rattle.pw_files.specs.Rising.{IsRising, IsRisingBehind}
use Rattle.pw_value.specs.ProgramNames.{start_name, main_name, times, KeepsStart, IsOrdinary}
use Rattle.pw_value.proofs.StartLaws.{stands_by_times}
use Rattle.pw_summary.specs.declared.summary.Uses.{Uses}
use Rattle.pw_summary.specs.declared.summary.Summary.{Summary}
use Rattle.pw_summary.specs.Summary.{IsUses, IsSummary, global_names as names_of_globals, function_names as names_of_functions, weight_bound, need_limit, summary_version, IsVersioned}
use Rattle.pw_flow.specs.Outline.{Outline, outline_of}
use Rattle.pw_live.specs.Points.{points}
use Rattle.pw_live_needs.specs.Needs.{changed_count, most_short, need}
use Rattle.pw_summarise.specs.Summarises.{called, referenced, addressed, in_function, in_module, most, reference, function_shape, as_taken, taken_of, global_entry, function_entry, function_entries, IsUsesOf, AreUsesOf, Summarises}
use Rattle.pw_files.proofs.Standing.{Has, contains_by, has_by, has_each, each_by, has_left, has_right, has_split, has_map_back, has_flat, has_flat_back}
use Rattle.pw_files.proofs.Views.{seen}
use Rattle.pw_files.proofs.ByteOrder.{not_behind}
use Rattle.pw_summarise.proofs.Orders.{keys_over, keys_back}

-- ---- what is called or has its address taken is named

called_named : (op : Op) (name : List ℕ) → Has name (called op) → Has name (op_names op)
called_named (Call t f args) name h = h
called_named _ name h = absurd h

addressed_named : (op : Op) (name : List ℕ) → Has name (addressed op) → Has name (op_names op)
addressed_named (AddrGlobal t g n) name h = h
addressed_named (AddrFn t f) name h = h
addressed_named _ name h = absurd h

abbrev AreNamed : (Op → List (List ℕ)) → Type 0
AreNamed parts = (op : Op) (name : List ℕ) → Has name (parts op) → Has name (op_names op)

named_in_function : (parts : Op → List (List ℕ)) → AreNamed parts → (f : FlowFn) (name : List ℕ) → Has name (in_function parts f) → Has name (names_in_function f)
named_in_function parts named f name h =
    let p = has_flat_back (λ (b : Block). flat_map parts b.ops) name f.blocks h in
    let q = has_flat_back parts name p.0.ops p.2 in
    has_flat names_in_block p.0 name f.blocks p.1 (has_flat op_names q.0 name p.0.ops q.1 (named q.0 name q.2))

of_function : (parts : Op → List (List ℕ)) → AreNamed parts → (m : FlowModule) (f : FlowFn) → Has f m.functions → (name : List ℕ) → Has name (in_function parts f) → Has name (named_in m)
of_function parts named m f there name h =
    has_right name (flat_map names_in_global m.globals) (flat_map names_in_function m.functions) (has_flat names_in_function f name m.functions there (named_in_function parts named f name h))

of_module : (parts : Op → List (List ℕ)) → AreNamed parts → (m : FlowModule) (name : List ℕ) → Has name (in_module parts m) → Has name (named_in m)
of_module parts named m name h =
    elim (has_split name (flat_map names_in_global m.globals) (flat_map (in_function parts) m.functions) h) [
      | inl k ↦ has_left name (flat_map names_in_global m.globals) (flat_map names_in_function m.functions) k
      | inr k ↦ let p = has_flat_back (in_function parts) name m.functions k in of_function parts named m p.0 p.1 name p.2
    ]

not_start : (m : FlowModule) → IsValid m → Has start_name (named_in m) → ⊥
not_start m valid h = has_each IsOrdinary (named_in m) start_name valid.parts.ordinary h refl

-- ---- what functions use

capped : (n : ℕ) → min most n < weight_bound
capped n = omega arith

few_needed : (f : Outline) → need f ≤ need_limit
few_needed f = let n = most_short f (points f) - changed_count in let le : min need_limit n ≤ need_limit = omega arith in le

is_uses : (m : FlowModule) → IsValid m → (f : FlowFn) → Has f m.functions → (u : Uses) → IsUsesOf f u → IsUses u
is_uses m valid f there u is = record {
  calls = subst IsRising (map-id u.calls) is.calls.rising;
  no_call = λ h. not_start m valid (of_function called called_named m f there start_name (has_by start_name (in_function called f) ((is.calls.of start_name).0 h)));
  shapes = subst IsRising (map-id u.shapes) is.shapes.rising;
  refs = is.refs.rising;
  weights = each_by (λ (r : List ℕ × ℕ × ℕ). (r.1 < weight_bound) × (r.2 < weight_bound)) u.refs (λ r h.
      let p = has_map_back (reference f) r (in_function referenced f) (has_by r (map (reference f) (in_function referenced f)) ((is.refs.of r).0 (contains_by r u.refs h))) in
      subst (λ (r : List ℕ × ℕ × ℕ). (r.1 < weight_bound) × (r.2 < weight_bound)) p.2 (capped _, capped _));
  need = let n = is.need in let le = few_needed (outline_of f) in omega (arith, n, le);
}

all_uses : (m : FlowModule) → IsValid m → (entries : List (List ℕ × List ℕ)) (us : List Uses) → AreUsesOf m.functions entries us → AllByRecursion IsUses us
all_uses m valid [] [] are = tt
all_uses m valid [] (u ∷ us) are = absurd are
all_uses m valid (entry ∷ entries) [] are = absurd are
all_uses m valid (entry ∷ entries) (u ∷ us) are = (is_uses m valid are.0.0 (has_by are.0.0 m.functions are.0.1) u are.0.3, all_uses m valid entries us are.1)

as_many : (fs : List FlowFn) (entries : List (List ℕ × List ℕ)) (us : List Uses) → AreUsesOf fs entries us → length us ≡ length entries
as_many fs [] [] are = refl
as_many fs [] (u ∷ us) are = absurd are
as_many fs (entry ∷ entries) [] are = absurd are
as_many fs (entry ∷ entries) (u ∷ us) are = ap suc (as_many fs entries us are.1)

-- ---- the rule of $start

none_by : (n : ℕ) → (0 < n → ⊥) → n ≡ 0
none_by zero h = refl
none_by (suc n) h = absurd (h (omega arith))

none_more : (name : List ℕ) (names : List (List ℕ)) → (Has name names → ⊥) → times name names ≡ 0
none_more name names none = none_by (times name names) (λ lt. none (has_by name names (stands_by_times name names lt)))

once_by : (before name : List ℕ) (names : List (List ℕ)) (b : Bool) → bytes_eq before name ≡ b → IsRisingBehind (Some before) names → times name names ≤ 1 → cond b 1 0 + times name names ≤ 1
once_by before name names true is up le = let e : times name names ≡ 0 = none_more name names (λ h. not_behind name names (subst (λ n. IsRisingBehind (Some n) names) ((bytes_eq-Decides before name).0 is) up) h) in omega arith
once_by before name names false is up le = omega arith

once : (name : List ℕ) (before : Option (List ℕ)) (names : List (List ℕ)) → IsRisingBehind before names → times name names ≤ 1
once name before [] up = omega arith
once name before (other ∷ names) up = rw (sum_by-cons (λ x. cond (bytes_eq x name) 1 0) other names) (once_by other name names (bytes_eq other name) refl up.1 (once name (Some other) names up.1))

-- the functions of a summary are those of the module, and so are its globals
functions_over : (m : FlowModule) (s : Summary) → Summarises m s → (name : List ℕ) → Contains (names_of_functions s) name → Contains (function_names m) name
functions_over m s is name h = subst (λ (ns : List (List ℕ)). Contains ns name) (seen function_entry (λ f. f.0) m.functions) (keys_over (λ f. f.0) (function_entries m) s.functions is.functions name h)

functions_back : (m : FlowModule) (s : Summary) → Summarises m s → (name : List ℕ) → Contains (function_names m) name → Contains (names_of_functions s) name
functions_back m s is name h = keys_back (λ f. f.0) (function_entries m) s.functions is.functions name (subst (λ (ns : List (List ℕ)). Contains ns name) (sym (seen function_entry (λ f. f.0) m.functions)) h)

globals_over : (m : FlowModule) (s : Summary) → Summarises m s → (name : List ℕ) → Contains (names_of_globals s) name → Contains (global_names m) name
globals_over m s is name h = subst (λ (ns : List (List ℕ)). Contains ns name) (seen global_entry (λ g. g.0) m.globals) (keys_over (λ g. g.0) (map global_entry m.globals) s.globals is.globals name h)

keeps_start : (m : FlowModule) (s : Summary) → IsValid m → Summarises m s → KeepsStart (names_of_functions s) (names_of_globals s)
keeps_start m s valid is = record {
  beside = (
    λ h. functions_back m s is main_name (valid.names.start.beside.0 (functions_over m s is start_name h)),
    λ h. functions_back m s is start_name (valid.names.start.beside.1 (functions_over m s is main_name h)),
  );
  once = once start_name None (names_of_functions s) is.functions.rising;
  no_global = λ h. valid.names.start.no_global (globals_over m s is start_name h);
}

-- ---- the summary

taken_name : (name : List ℕ) (o : Option (List ℕ)) (f : List ℕ × List ℕ) → Has f (as_taken name o) → name ≡ f.0
taken_name name None f h = absurd h
taken_name name (Some shape) f (inl e) = ap (λ (g : List ℕ × List ℕ). g.0) e
taken_name name (Some shape) f (inr h) = absurd h

not_taken : (m : FlowModule) (s : Summary) → IsValid m → Summarises m s → Contains (map (λ f. f.0) s.taken) start_name → ⊥
not_taken m s valid is h =
    let names = in_module addressed m in
    let pick = λ (name : List ℕ). as_taken name (function_shape (function_entries m) m.declared name) in
    let source = taken_of (function_entries m) m.declared names in
    let p = has_map_back (λ (f : List ℕ × List ℕ). f.0) start_name source (has_by start_name (map (λ f. f.0) source) (keys_over (λ f. f.0) source s.taken is.taken start_name h)) in
    let q = has_flat_back pick p.0 names p.1 in
    let same : q.0 ≡ start_name = taken_name q.0 (function_shape (function_entries m) m.declared q.0) p.0 q.2 ∙ p.2 in
    not_start m valid (of_module addressed addressed_named m start_name (subst (λ n. Has n names) same q.1))

pub lawful : (m : FlowModule) (s : Summary) → IsValid m → Summarises m s → IsSummary s
lawful m s valid is = record {
  globals = is.globals.rising;
  functions = is.functions.rising;
  declared = is.declared.rising;
  used = subst IsRising (map-id s.used) is.used.rising;
  taken = is.taken.rising;
  not_taken = not_taken m s valid is;
  escaped = subst IsRising (map-id s.escaped) is.escaped.rising;
  uses = all_uses m valid s.functions s.uses is.uses;
  each_uses = as_many m.functions s.functions s.uses is.uses;
  start = keeps_start m s valid is;
}

-- it is of the last version
pub versioned : (s : Summary) → s.version ≡ summary_version → IsSummary s → IsVersioned s
versioned s e is = record { not_below = omega (arith, e); not_above = omega (arith, e); summary = is; needless = λ first. absurd (omega (arith, e, first)) }
