-- A lawful flow graph has at most one summary.
use Rattle.std.proofs.Common.{◌≡◌, ℕ, Bool, List, [], ◌∷◌, map, refl, sym, ap, subst, ◌∙◌, inl, inr}
use Rattle.std.specs.Prelude.{Option}
use Rattle.pw_value.specs.declared.value.Kind.{Kind}
use Rattle.pw_flow.specs.declared.flow.FlowFn.{FlowFn}
use Rattle.pw_flow.specs.declared.flow.FlowModule.{FlowModule}
use Rattle.pw_flow.specs.FlowGraph.{named_in, global_names, function_names}
use Rattle.pw_flow.specs.ValidFlow.{AreDistinct, IsValid}
use Rattle.pw_flow.proofs.Once.{distinct_right}
use Rattle.pw_summary.specs.declared.summary.Uses.{Uses}
use Rattle.pw_summary.specs.declared.summary.Summary.{Summary}
use Rattle.pw_summarise.specs.Summarises.{called, called_shape, referenced, addressed, in_function, in_module, reference, taken_of, escaped_of, global_entry, function_entries, IsUsesOf, AreUsesOf, Summarises}
use Rattle.pw_files.proofs.Standing.{Has, has_by, has_each, has_map}
use Rattle.pw_summarise.proofs.Orders.{one_ordered}

-- ---- a name is one function's

one_function : (fs : List FlowFn) → AreDistinct (map (λ f. f.name) fs) → (f g : FlowFn) → Has f fs → Has g fs → f.name ≡ g.name → f ≡ g
one_function [] all f g hf hg e = absurd hf
one_function (h ∷ fs) all f g (inl a) (inl b) e = sym a ∙ b
one_function (h ∷ fs) all f g (inl a) (inr k) e =
    absurd (has_each _ (map (λ (f : FlowFn). f.name) fs) g.name all.0 (has_map (λ (f : FlowFn). f.name) g fs k) (sym e ∙ sym (ap (λ (f : FlowFn). f.name) a)))
one_function (h ∷ fs) all f g (inr k) (inl b) e =
    absurd (has_each _ (map (λ (f : FlowFn). f.name) fs) f.name all.0 (has_map (λ (f : FlowFn). f.name) f fs k) (e ∙ sym (ap (λ (f : FlowFn). f.name) b)))
one_function (h ∷ fs) all f g (inr k) (inr j) e = one_function fs all.1 f g k j e

-- ---- what functions use

uses_with : List (List ℕ) → List (List ℕ) → List (List ℕ × ℕ × ℕ) → ℕ → Uses
uses_with calls shapes refs some = record { calls = calls; shapes = shapes; refs = refs; need = some }

uses_parts : (u : Uses) → uses_with u.calls u.shapes u.refs u.need ≡ u
unfolding uses_with
uses_parts u = refl

one_uses : (f : FlowFn) (u v : Uses) → IsUsesOf f u → IsUsesOf f v → u ≡ v
one_uses f u v a b =
    let calls = one_ordered (λ name. name) (in_function called f) u.calls v.calls a.calls b.calls in
    let shapes = one_ordered (λ shape. shape) (in_function called_shape f) u.shapes v.shapes a.shapes b.shapes in
    let refs = one_ordered (λ r. r.0) (map (reference f) (in_function referenced f)) u.refs v.refs a.refs b.refs in
    let needs : u.need ≡ v.need = a.need ∙ sym b.need in
    let same : uses_with u.calls u.shapes u.refs u.need ≡ uses_with v.calls v.shapes v.refs v.need = cc in
    sym (uses_parts u) ∙ same ∙ uses_parts v

each_one : (fs : List FlowFn) → AreDistinct (map (λ f. f.name) fs) → (entries : List (List ℕ × List ℕ)) (us vs : List Uses) → AreUsesOf fs entries us → AreUsesOf fs entries vs → us ≡ vs
each_one fs all [] [] [] a b = refl
each_one fs all [] [] (v ∷ vs) a b = absurd b
each_one fs all [] (u ∷ us) vs a b = absurd a
each_one fs all (entry ∷ entries) [] vs a b = absurd a
each_one fs all (entry ∷ entries) (u ∷ us) [] a b = absurd b
each_one fs all (entry ∷ entries) (u ∷ us) (v ∷ vs) a b =
    let names : a.0.0.name ≡ b.0.0.name = ap (λ (e : List ℕ × List ℕ). e.0) (a.0.2 ∙ sym b.0.2) in
    let same = one_function fs all a.0.0 b.0.0 (has_by a.0.0 fs a.0.1) (has_by b.0.0 fs b.0.1) names in
    let one = one_uses b.0.0 u v (subst (λ (f : FlowFn). IsUsesOf f u) same a.0.3) b.0.3 in
    ap (λ (w : Uses). w ∷ us) one ∙ ap (λ (ws : List Uses). v ∷ ws) (each_one fs all entries us vs a.1 b.1)

-- ---- the summary

summary_with : ℕ → List ℕ → List (List ℕ × List ℕ × Option Kind × Bool) → List (List ℕ × List ℕ) → List (List ℕ × List ℕ) → List (List ℕ) → List (List ℕ × List ℕ) → List (List ℕ) → List Uses → Summary
summary_with version name globals functions declared used taken escaped uses = record { version = version; «module» = name; globals = globals; functions = functions; declared = declared; used = used; taken = taken; escaped = escaped; uses = uses }

summary_parts : (s : Summary) → summary_with s.version s.module s.globals s.functions s.declared s.used s.taken s.escaped s.uses ≡ s
unfolding summary_with
summary_parts s = refl

pub one_summary : (m : FlowModule) (s t : Summary) → IsValid m → Summarises m s → Summarises m t → s ≡ t
one_summary m s t valid a b =
    let version : s.version ≡ t.version = a.version ∙ sym b.version in
    let of_module : s.module ≡ t.module = a.of_module ∙ sym b.of_module in
    let globals = one_ordered (λ g. g.0) (map global_entry m.globals) s.globals t.globals a.globals b.globals in
    let functions = one_ordered (λ f. f.0) (function_entries m) s.functions t.functions a.functions b.functions in
    let declared = one_ordered (λ d. d.0) m.declared s.declared t.declared a.declared b.declared in
    let used = one_ordered (λ name. name) (named_in m) s.used t.used a.used b.used in
    let taken = one_ordered (λ f. f.0) (taken_of (function_entries m) m.declared (in_module addressed m)) s.taken t.taken a.taken b.taken in
    let escaped = one_ordered (λ name. name) (escaped_of (function_entries m) m.declared (in_module addressed m)) s.escaped t.escaped a.escaped b.escaped in
    let uses = each_one m.functions (distinct_right (global_names m) (function_names m) valid.names.distinct.defined) t.functions s.uses t.uses (subst (λ (es : List (List ℕ × List ℕ)). AreUsesOf m.functions es s.uses) functions a.uses) b.uses in
    let same : summary_with s.version s.module s.globals s.functions s.declared s.used s.taken s.escaped s.uses ≡ summary_with t.version t.module t.globals t.functions t.declared t.used t.taken t.escaped t.uses = cc in
    sym (summary_parts s) ∙ same ∙ summary_parts t
