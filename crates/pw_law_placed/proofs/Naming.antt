-- A name is that of the same function in both runs.
use Rattle.std.specs.Prelude.{ℕ, ◌≡◌, Bool, true, false, cond, find, Option, Some, List, [], ◌∷◌, map, Contains}
use Rattle.std.proofs.Common.{refl, sym, ap, subst, ◌∙◌}
use Rattle.std.specs.Str.{bytes_eq}
use Rattle.std.proofs.lemmas.Slice.Eq.{bytes_eq-Decides}
use Rattle.pw_webflow.specs.declared.web.WebFn.{WebFn}
use Rattle.pw_alloc.specs.declared.located.Located.{Located}
use Rattle.pw_run_languages.specs.Direction.{directed_functions, unplaced}
use Rattle.pw_run_languages.specs.Serving.{Serves, AllServe}
use Rattle.pw_law_placed.specs.Laws.{BothNamed, neither, both, SameFunctions}
use Rattle.pw_law_placed.proofs.Lists.{first_there, later_there}

own_body : (fs : List WebFn) (f : WebFn) (l : Located) (name : List ℕ) → Contains fs f → f.name ≡ name → Serves f l → BothNamed fs name (Some (unplaced f)) (Some l)
own_body fs f l name there is s =
    subst (λ (g : WebFn). BothNamed fs name (Some (unplaced g)) (Some l)) s.body
    (both l (subst (Contains fs) (sym s.body) there) (subst (λ (g : WebFn). Serves g l) (sym s.body) s) (ap (λ (g : WebFn). g.name) s.body ∙ is))

more_named : (f : WebFn) (fs : List WebFn) (name : List ℕ) (a b : Option Located) → BothNamed fs name a b → BothNamed (f ∷ fs) name a b
more_named f fs name a b neither = neither
more_named f fs name a b (both l there s is) = both l (later_there f l.body fs there) s is

chosen : (fs : List WebFn) (f : WebFn) (l : Located) (name : List ℕ) (b : Bool) (x y : Option Located) → bytes_eq f.name name ≡ b → Serves f l → BothNamed fs name x y
    → BothNamed (f ∷ fs) name (cond b (Some (unplaced f)) x) (cond b (Some l) y)
chosen fs f l name true x y e s rest = own_body (f ∷ fs) f l name (first_there f fs) ((bytes_eq-Decides f.name name).0 e) s
chosen fs f l name false x y e s rest = more_named f fs name x y rest

abbrev test : List ℕ → Located → Bool
test name l = bytes_eq l.body.name name

found : (fs : List WebFn) (ls : List Located) (name : List ℕ) → AllServe fs ls → BothNamed fs name (find (test name) (map unplaced fs)) (find (test name) ls)
found [] [] name all = neither
found [] (l ∷ ls) name all = absurd all
found (f ∷ fs) [] name all = absurd all
found (f ∷ fs) (l ∷ ls) name all =
    subst (λ (b : Bool). BothNamed (f ∷ fs) name (cond (bytes_eq f.name name) (Some (unplaced f)) (find (test name) (map unplaced fs))) (cond b (Some l) (find (test name) ls)))
    (ap (λ (g : WebFn). bytes_eq g.name name) (sym all.0.body))
    (chosen fs f l name (bytes_eq f.name name) (find (test name) (map unplaced fs)) (find (test name) ls) refl all.0 (found fs ls name all.1))

pub same_functions : SameFunctions
same_functions p d ls name all = found (directed_functions p d) ls name all
