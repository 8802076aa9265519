-- Modules have one list of typed trees.
use Rattle.std.proofs.Common.{◌≡◌, ℕ, List, [], ◌∷◌, ◌++◌, Result, Ok, refl, sym, ap, subst, ◌∙◌, append_assoc, append-nil}
use Rattle.pw_types.specs.TypedTrees.{ModuleValue}
use Rattle.pw_front_end.specs.declared.refusal.Refusal.{Refusal}
use Rattle.pw_build_files.specs.FromBuild.FirstPhase.{typed_text}
use Rattle.pw_cmean.specs.Worlds.{ProgramModule}
use Rattle.pw_store_modules.specs.Modules.{Source}
use Rattle.pw_interp_runs.specs.Running.{AreTyped}

tree_is : (one other : ModuleValue) → ◌≡◌ {A = Result ModuleValue Refusal} (Ok one) (Ok other) → one ≡ other
tree_is one other e = cc

same_module : (s : Source) (a b : ProgramModule) → a.name ≡ s.0 → typed_text s.1 ≡ Ok a.tree → b.name ≡ s.0 → typed_text s.1 ≡ Ok b.tree → a ≡ b
same_module s a b name tree name' tree' =
    let trees : a.tree ≡ b.tree = tree_is a.tree b.tree (sym tree ∙ tree') in
    ap (λ (n : List ℕ). record { name = n; tree = a.tree }) (name ∙ sym name') ∙ ap (λ (t : ModuleValue). record { name = b.name; tree = t }) trees

pub same_typed : (sources : List Source) (a b : List ProgramModule) → AreTyped sources a → AreTyped sources b → a ≡ b
same_typed [] [] [] h k = refl
same_typed [] [] (y ∷ b) h k = absurd k
same_typed [] (x ∷ a) b h k = absurd h
same_typed (s ∷ sources) [] b h k = absurd h
same_typed (s ∷ sources) (x ∷ a) [] h k = absurd k
same_typed (s ∷ sources) (x ∷ a) (y ∷ b) h k =
    ap (λ (m : ProgramModule). m ∷ a) (same_module s x y h.0 h.1 k.0 k.1) ∙ ap (λ (ms : List ProgramModule). y ∷ ms) (same_typed sources a b h.2 k.2)

-- One more typed tree stands before those of the modules that are left.
pub typed_step : (all left left' : List Source) (s : Source) (typed typed' : List ProgramModule) (m : ProgramModule)
    → ((ms : List ProgramModule) → AreTyped left ms → AreTyped all (typed ++ ms)) → left ≡ s ∷ left' → typed' ≡ typed ++ m ∷ [] → AreTyped (s ∷ []) (m ∷ [])
    → (ms : List ProgramModule) → AreTyped left' ms → AreTyped all (typed' ++ ms)
typed_step all left left' s typed typed' m so next more one = λ ms h.
    subst (λ (ts : List ProgramModule). AreTyped all (ts ++ ms)) (sym more)
    (subst (AreTyped all) (sym (append_assoc typed (m ∷ []) ms)) (so (m ∷ ms) (subst (λ (ss : List Source). AreTyped ss (m ∷ ms)) (sym next) (one.0, one.1, h))))

-- With none left they are all.
pub typed_all : (all left : List Source) (typed : List ProgramModule) → ((ms : List ProgramModule) → AreTyped left ms → AreTyped all (typed ++ ms)) → left ≡ [] → AreTyped all typed
typed_all all left typed so none = subst (AreTyped all) (append-nil typed) (so [] (subst (λ (ss : List Source). AreTyped ss []) (sym none) tt))

-- the typed trees of no module yet
pub typed_none : (all left : List Source) (typed : List ProgramModule) → left ≡ all → typed ≡ [] → (ms : List ProgramModule) → AreTyped left ms → AreTyped all (typed ++ ms)
typed_none all left typed first none = λ ms h. subst (λ (ts : List ProgramModule). AreTyped all (ts ++ ms)) (sym none) (subst (λ (ss : List Source). AreTyped ss ms) first h)
