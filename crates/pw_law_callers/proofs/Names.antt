-- The names of the functions that are active by a trace whose calls are those of a graph.
use Rattle.std.specs.Prelude.{ℕ, zero, suc, ◌≡◌, ◌≢◌, List, [], ◌∷◌, map}
use Rattle.std.proofs.Common.{subst, sym, ap, refl, ◌∙◌}
use Rattle.pw_value.specs.ProgramNames.{start_name}
use Rattle.pw_db_sound.specs.CallGraphs.{Graph, Calls}
use Rattle.pw_run_languages.specs.Traces.{Event, Called, Refused, Returned, Loaded, Stored}
use Rattle.pw_run_languages.specs.Traffic.{Open, active, with_event, without}
use Rattle.pw_run_languages.specs.Calls.{FollowsCalls, IsCalledBy}
use Rattle.pw_run_languages.specs.MachineRun.{told_active}
use Rattle.pw_law_callers.specs.Others.{OthersDiffer}

abbrev pub names : List (Open ℕ ℕ) → List (List ℕ)
names xs = map (λ o. o.function) xs

same_names : (e : Event ℕ ℕ) (xs : List (Open ℕ ℕ)) → names (map (with_event e) xs) ≡ names xs
same_names e [] = refl
same_names e (x ∷ xs) = ap (λ r. x.function ∷ r) (same_names e xs)

without_names : (k : ℕ) (xs : List (Open ℕ ℕ)) → names (without k xs) ≡ without k (names xs)
without_names k [] = refl
without_names zero (x ∷ xs) = refl
without_names (suc k) (x ∷ xs) = ap (λ r. x.function ∷ r) (without_names k xs)

-- ---- names that differ

others_behind : (n : List ℕ) (ns : List (List ℕ)) → OthersDiffer (n ∷ ns) → OthersDiffer ns
others_behind n [] h = tt
others_behind n (m ∷ ns) h = h.1

one_more : (n : List ℕ) (ns : List (List ℕ)) → n ≢ start_name → OthersDiffer ns → OthersDiffer (n ∷ ns)
one_more n [] other h = tt
one_more n (m ∷ ns) other h = (other, h)

one_less : (k : ℕ) (ns : List (List ℕ)) → OthersDiffer ns → OthersDiffer (without k ns)
one_less k [] h = tt
one_less zero (n ∷ ns) h = others_behind n ns h
one_less (suc k) (n ∷ []) h = tt
one_less (suc k) (n ∷ m ∷ ns) h = one_more n (without k (m ∷ ns)) h.0 (one_less k (m ∷ ns) h.1)

called_differs : (g : Graph) (f : List ℕ) (xs : List (Open ℕ ℕ)) → ((caller : List ℕ) → ¬ Calls g caller start_name) → IsCalledBy g f xs → OthersDiffer (names xs) → OthersDiffer (f ∷ names xs)
called_differs g f [] none call h = tt
called_differs g f (c ∷ cs) none call h = ((λ e. none c.function (subst (λ (n : List ℕ). Calls g c.function n) e call)), h)

pub follows_differ : (g : Graph) (log : List (Event ℕ ℕ)) → ((caller : List ℕ) → ¬ Calls g caller start_name) → FollowsCalls g log → OthersDiffer (told_active log)
follows_differ g [] none h = tt
follows_differ g (Called f gs rs ∷ l) none h =
    subst (λ (ns : List (List ℕ)). OthersDiffer (f ∷ ns)) (sym (same_names (Called f gs rs) (active l))) (called_differs g f (active l) none h.0 (follows_differ g l none h.1))
follows_differ g (Refused f ∷ l) none h = subst OthersDiffer (sym (same_names (Refused f) (active l))) (follows_differ g l none h.1)
follows_differ g (Returned f inner gs rs ss ∷ l) none h =
    subst OthersDiffer (sym (same_names (Returned f inner gs rs ss) (without inner (active l)) ∙ without_names inner (active l))) (one_less inner (told_active l) (follows_differ g l none h))
follows_differ g (Loaded v ∷ l) none h = subst OthersDiffer (sym (same_names (Loaded v) (active l))) (follows_differ g l none h)
follows_differ g (Stored v ∷ l) none h = subst OthersDiffer (sym (same_names (Stored v) (active l))) (follows_differ g l none h)
