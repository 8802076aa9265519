-- The registers that a function is free to use, and those that it saves for others: by the database, and by its directives.
use Rattle.std.specs.Prelude.{ℕ, ◌≡◌, Bool, true, false, if◌then◌else◌, List, [], ◌∷◌, Contains}
use Rattle.std.proofs.Common.{refl, sym, ap, subst, ◌∙◌, inl, inr}
use Rattle.std.specs.Str.{bytes_eq}
use Rattle.std.proofs.lemmas.Slice.Eq.{bytes_eq-Decides}
use Rattle.pw_files.proofs.Standing.{Has, has_by, contains_by, has_each}
use Rattle.pw_db.specs.Database.{IsDatabase, IsDirectives, empty}
use Rattle.pw_db.specs.declared.database.Directives.{Directives}
use Rattle.pw_webflow.specs.declared.web.WebFn.{WebFn}
use Rattle.pw_webflow.specs.Direction.{directed}
use Rattle.pw_db_sound.specs.Sound.{IsFree, IsSaver}
use Rattle.pw_run_languages.specs.Traces.{MayChange}
use Rattle.pw_run_languages.specs.Traces as traces
use Rattle.pw_run_languages.specs.Programs.{Program}
use Rattle.pw_run_languages.specs.Direction.{directives_of, directed_by}
use Rattle.pw_run_languages.proofs.Directives.{one_directives}
use Rattle.pw_law_placed.specs.Twins.{Active}
use Rattle.pw_law_placed.specs.Alike.{name_of, IsPlaced}

-- ---- directives that tell a register stand in the database

told_here : (view : Directives → List ℕ) (b : Bool) (g : List ℕ × Directives) (rest : List (List ℕ × Directives)) (f : List ℕ) (r : ℕ) → bytes_eq g.0 f ≡ b
    → (Has r (view (directives_of rest f)) → (dirs : Directives) × Has (f, dirs) rest × Has r (view dirs))
    → Has r (view (if b then g.1 else directives_of rest f)) → (dirs : Directives) × Has (f, dirs) (g ∷ rest) × Has r (view dirs)
told_here view true g rest f r e later h = let same : g.0 ≡ f = (bytes_eq-Decides g.0 f).0 e in (g.1, inl (ap (λ (n : List ℕ). (n, g.1)) same), h)
told_here view false g rest f r e later h = let k = later h in (k.0, inr k.1, k.2)

told_by : (view : Directives → List ℕ) → ((r : ℕ) → Has r (view empty) → ⊥) → (d : List (List ℕ × Directives)) (f : List ℕ) (r : ℕ) → Has r (view (directives_of d f))
    → (dirs : Directives) × Has (f, dirs) d × Has r (view dirs)
told_by view none [] f r h = absurd (none r h)
told_by view none (g ∷ rest) f r h = told_here view (bytes_eq g.0 f) g rest f r refl (told_by view none rest f r) h

free_by : (d : List (List ℕ × Directives)) (f : List ℕ) (r : ℕ) → Contains (directives_of d f).free r → IsFree d f r
free_by d f r c =
    let k = told_by (λ (dirs : Directives). dirs.free) (λ q h. h) d f r (has_by r (directives_of d f).free c) in
    record { directives = k.0; there = contains_by (f, k.0) d k.1; register = contains_by r k.0.free k.2 }

saver_by : (d : List (List ℕ × Directives)) (f : List ℕ) (r : ℕ) → Contains (directives_of d f).saves r → IsSaver d f r
saver_by d f r c =
    let k = told_by (λ (dirs : Directives). dirs.saves) (λ q h. h) d f r (has_by r (directives_of d f).saves c) in
    record { directives = k.0; there = contains_by (f, k.0) d k.1; register = contains_by r k.0.saves k.2 }

-- what a function is free to use it does not save for others
pub not_saver : (d : List (List ℕ × Directives)) → IsDatabase d → (f : List ℕ) (r : ℕ) → IsFree d f r → IsSaver d f r → ⊥
not_saver d base f r h s =
    let same : s.directives ≡ h.directives = sym (one_directives d base f s.directives s.there) ∙ one_directives d base f h.directives h.there in
    let lawful : IsDirectives h.directives = has_each (λ (x : List ℕ × Directives). IsDirectives x.1) d (f, h.directives) base.directives (has_by (f, h.directives) d h.there) in
    has_each (λ (q : ℕ). ¬ Contains h.directives.free q) h.directives.saves r lawful.apart (has_by r h.directives.saves (subst (λ (x : Directives). Contains x.saves r) same s.register)) h.register

-- ---- an active function

module _ (p : Program) (d : List (List ℕ × Directives)) where
  pub free_of : (f : Active) (r : ℕ) → IsPlaced p d f → Contains f.function.body.directives.free r → IsFree d (name_of f) r
  unfolding directed
  free_of f r is c = by_body f.function.body is.body c where
    by_body : (g : WebFn) → g ≡ directed_by d is.flow → Contains g.directives.free r → IsFree d g.name r
    by_body g e k = subst (λ (b : WebFn). IsFree d b.name r) (sym e) (free_by d is.flow.name r (subst (λ (b : WebFn). Contains b.directives.free r) e k))

  pub saver_of : (f : Active) (r : ℕ) → IsPlaced p d f → Contains f.function.body.directives.saves r → IsSaver d (name_of f) r
  unfolding directed
  saver_of f r is c = by_body f.function.body is.body c where
    by_body : (g : WebFn) → g ≡ directed_by d is.flow → Contains g.directives.saves r → IsSaver d g.name r
    by_body g e k = subst (λ (b : WebFn). IsSaver d b.name r) (sym e) (saver_by d is.flow.name r (subst (λ (b : WebFn). Contains b.directives.saves r) e k))

  -- what a function may not change it is not free to use
  pub not_free : (f : List ℕ) (r : ℕ) → (MayChange d f r → ⊥) → IsFree d f r → ⊥
  not_free f r out h = out (traces.free h.directives h.there h.register)

  module _ (base : IsDatabase d) where
    pub of_free : (f : Active) (r : ℕ) → IsPlaced p d f → IsFree d (name_of f) r → Contains f.function.body.directives.free r
    unfolding directed
    of_free f r is h = by_body f.function.body is.body h where
      by_flow : IsFree d is.flow.name r → Contains (directives_of d is.flow.name).free r
      by_flow k = subst (λ (dirs : Directives). Contains dirs.free r) (sym (one_directives d base is.flow.name k.directives k.there)) k.register

      by_body : (g : WebFn) → g ≡ directed_by d is.flow → IsFree d g.name r → Contains g.directives.free r
      by_body g e k = subst (λ (b : WebFn). Contains b.directives.free r) (sym e) (by_flow (subst (λ (b : WebFn). IsFree d b.name r) e k))

    pub of_saver : (f : Active) (r : ℕ) → IsPlaced p d f → IsSaver d (name_of f) r → Contains f.function.body.directives.saves r
    unfolding directed
    of_saver f r is h = by_body f.function.body is.body h where
      by_flow : IsSaver d is.flow.name r → Contains (directives_of d is.flow.name).saves r
      by_flow k = subst (λ (dirs : Directives). Contains dirs.saves r) (sym (one_directives d base is.flow.name k.directives k.there)) k.register

      by_body : (g : WebFn) → g ≡ directed_by d is.flow → IsSaver d g.name r → Contains g.directives.saves r
      by_body g e k = subst (λ (b : WebFn). Contains b.directives.saves r) (sym e) (by_flow (subst (λ (b : WebFn). IsSaver d b.name r) e k))
