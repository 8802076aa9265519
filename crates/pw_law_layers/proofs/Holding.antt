-- A caller of a function that is free to use a register holds nothing in it.
use Rattle.std.specs.Prelude.{Contains}
use Rattle.std.proofs.Common.{◌≡◌, ◌⊎◌, ℕ, Bool, true, false, if◌then◌else◌, List, [], ◌∷◌, map, refl, sym, ap, subst, inl, inr}
use Rattle.std.specs.Str.{bytes_eq}
use Rattle.std.proofs.lemmas.Slice.Eq.{bytes_eq-Decides}
use Rattle.pw_files.proofs.Standing.{Has, has_by, contains_by, has_map_back}
use Rattle.pw_db.specs.declared.database.Web.{Web}
use Rattle.pw_db.specs.declared.database.Role.{Role}
use Rattle.pw_db.specs.declared.database.Directives.{Directives}
use Rattle.pw_db.specs.Database.{IsDatabase, empty}
use Rattle.pw_flow.specs.declared.flow.FlowFn.{FlowFn}
use Rattle.pw_webflow.specs.declared.web.WebFn.{WebFn}
use Rattle.pw_webflow.specs.ValidWebs.{HasRegister}
use Rattle.pw_webflow.specs.Direction.{directed}
use Rattle.pw_alloc.specs.declared.located.Place.TheVariants.{Reg}
use Rattle.pw_alloc.specs.declared.located.Located.{Located}
use Rattle.pw_db_sound.specs.CallGraphs.{Graph, Calls}
use Rattle.pw_db_sound.specs.Sound.{IsFree, IsSaver, LeavesAlone, Sound}
use Rattle.pw_run_languages.specs.Programs.{functions_of}
use Rattle.pw_run_languages.specs.LawfulPrograms.{graph_of}
use Rattle.pw_run_languages.specs.Direction.{directives_of, directed_by}
use Rattle.pw_run_languages.specs.Serving.{IsHeld, Serves, AllServe}
use Rattle.pw_run_languages.proofs.Directives.{one_directives}
use Rattle.pw_law_layers.specs.Guarding.{HoldsNothingIn, CallersHoldNothingThere}
use Rattle.pw_law_layers.proofs.Guarding.{not_saver}

-- ---- the function of the program that places serve

served_back : (g : FlowFn → WebFn) (fs : List FlowFn) (ls : List Located) (l : Located) → AllServe (map g fs) ls → Has l ls → (f : FlowFn) × Serves (g f) l
served_back g [] [] l s h = absurd h
served_back g [] (x ∷ ls) l s h = absurd s
served_back g (f ∷ fs) [] l s h = absurd h
served_back g (f ∷ fs) (x ∷ ls) l s (inl e) = (f, subst (λ (y : Located). Serves (g f) y) e s.0)
served_back g (f ∷ fs) (x ∷ ls) l s (inr h) = served_back g fs ls l s.1 h

-- ---- directives stand in the database, or are empty

given_by : (b : Bool) (g : List ℕ × Directives) (rest : List (List ℕ × Directives)) (f : List ℕ) → bytes_eq g.0 f ≡ b → Has {X = List ℕ × Directives} (f, directives_of rest f) rest ⊎ (directives_of rest f ≡ empty)
    → Has {X = List ℕ × Directives} (f, (if b then g.1 else directives_of rest f)) (g ∷ rest) ⊎ ((if b then g.1 else directives_of rest f) ≡ empty)
given_by true g rest f e later = inl (inl (ap (λ (n : List ℕ). (n, g.1)) ((bytes_eq-Decides g.0 f).0 e)))
given_by false g rest f e (inl h) = inl (inr h)
given_by false g rest f e (inr none) = inr none

given : (d : List (List ℕ × Directives)) (f : List ℕ) → Has {X = List ℕ × Directives} (f, directives_of d f) d ⊎ (directives_of d f ≡ empty)
given [] f = inr refl
given (g ∷ rest) f = given_by (bytes_eq g.0 f) g rest f refl (given rest f)

-- ---- a function that leaves the register alone

module _ (d : List (List ℕ × Directives)) (base : IsDatabase d) (f : List ℕ) (r : ℕ) (alone : LeavesAlone d f r) where
  no_web : HasRegister (directives_of d f) r → ⊥
  no_web c = elim (given d f) [
    | inl h ↦
        let w = has_map_back (λ (w : Web × Role). w.0.reg) r (directives_of d f).webs (has_by r (map (λ (w : Web × Role). w.0.reg) (directives_of d f).webs) c) in
        alone.webless w.0.0
        (record { role = w.0.1; has = record { directives = directives_of d f; there = contains_by (f, directives_of d f) d h; web = contains_by w.0 (directives_of d f).webs w.1 } })
        w.2
    | inr none ↦ has_by r [] (subst (λ (x : Directives). Contains (map (λ (w : Web × Role). w.0.reg) x.webs) r) none c)
  ]

  moved : Contains (directives_of d f).free r ⊎ Contains (directives_of d f).saves r
  moved = elim alone.moved [
    | inl m ↦ inl (subst (λ (x : Directives). Contains x.free r) (sym (one_directives d base f m.directives m.there)) m.register)
    | inr m ↦ inr (subst (λ (x : Directives). Contains x.saves r) (sym (one_directives d base f m.directives m.there)) m.register)
  ]

holds_nothing : (d : List (List ℕ × Directives)) → IsDatabase d → (f : FlowFn) (l : Located) (r : ℕ) → Serves (directed_by d f) l → LeavesAlone d f.name r → HoldsNothingIn l r
unfolding directed
holds_nothing d base f l r serves alone = record {
  webs = λ c. no_web d base f.name r alone (subst (λ (b : WebFn). HasRegister b.directives r) serves.body c);
  temps = λ t h e.
      let kept = serves.held t (Reg r) (subst (λ (b : WebFn). IsHeld b t) serves.body h) e in
      elim (moved d base f.name r alone) [ inl own ↦ kept.2 own | inr own ↦ kept.3 own ];
}

pub callers_hold_nothing : ((g : Graph) (d : List (List ℕ × Directives)) (a f : List ℕ) (r : ℕ) → Sound g d → Calls g a f → IsFree d f r → ¬ IsSaver d f r → LeavesAlone d a r) → CallersHoldNothingThere
unfolding directed
callers_hold_nothing leave p d functions base sound serve l callee r there calls free =
    let k = served_back (directed_by d) (functions_of p) functions l serve (has_by l functions there) in
    let named : l.body.name ≡ k.0.name = ap (λ (b : WebFn). b.name) k.1.body in
    let alone = leave (graph_of p) d l.body.name callee r sound calls free (not_saver d base callee r free.directives free.there free.register) in
    holds_nothing d base k.0 l r k.1 (subst (λ (n : List ℕ). LeavesAlone d n r) named alone)
