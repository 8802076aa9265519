-- The directives of a function in a lawful database, and the webs that it enters.
use Rattle.std.proofs.Common.{◌≡◌, ◌≢◌, ◌⊎◌, ℕ, zero, suc, ◌+◌, ◌<◌, ◌≤◌, ◌==◌, ◌&&◌, Bool, true, false, if◌then◌else◌, List, [], ◌∷◌, ◌++◌, map, refl, sym, ap, subst, ◌∙◌, arith, inl, inr}
use Rattle.std.specs.Prelude.{Option, Some, None, Contains}
use Rattle.std.specs.List.{flat_map, range_with_len}
use Rattle.std.specs.Str.{bytes_eq}
use Rattle.std.proofs.lemmas.Bool.{eqb-true}
use Rattle.std.proofs.lemmas.List.Concat.{flat_map-cons}
use Rattle.std.proofs.lemmas.Slice.Eq.{bytes_eq-Decides}
use Rattle.pw_files.proofs.Standing.{Has, has_by, contains_by, has_each, each_by, has_split, has_map, has_flat_back}
use Rattle.pw_db.specs.Database.{EachTwo, IsWeb, IsDirectives, IsDatabase, webs_of}
use Rattle.pw_db.specs.Limits.{first_register, last_register, register_count, kept_registers}
use Rattle.pw_db.specs.declared.database.Web.{Web}
use Rattle.pw_db.specs.declared.database.Role.{Role}
use Rattle.pw_db.specs.declared.database.Role.TheVariants.{Entry, Member}
use Rattle.pw_db.specs.declared.database.Directives.{Directives}
use Rattle.pw_alloc.specs.Allocation.{is_entry}
use Rattle.pw_db_sound.specs.Sound.{In}
use Rattle.pw_db_sound.specs.Sound.{Has as HasRole}
use Rattle.pw_webflow.specs.Direction.{register_of}
use Rattle.pw_run_languages.specs.Direction.{directives_of}
use Rattle.pw_run_languages.proofs.Directives.{one_directives}
use Rattle.pw_law_direction.proofs.Lists.{clash}
use Rattle.pw_law_direction.proofs.Trails.{of_register, entered_among}

-- ---- lists

two_of : {X : Type 0} (R : X → X → Type 0) (xs : List X) (x y : X) → EachTwo R xs → Has x xs → Has y xs → (x ≡ y) ⊎ (R x y ⊎ R y x)
two_of R [] x y two h k = absurd h
two_of R (z ∷ xs) x y two (inl e) (inl c) = inl (sym e ∙ c)
two_of R (z ∷ xs) x y two (inl e) (inr k) = inr (inl (subst (λ w. R w y) e (has_each (R z) xs y two.0 k)))
two_of R (z ∷ xs) x y two (inr h) (inl c) = inr (inr (subst (λ w. R w x) c (has_each (R z) xs x two.0 h)))
two_of R (z ∷ xs) x y two (inr h) (inr k) = two_of R xs x y two.1 h k

two_append : {X : Type 0} (R : X → X → Type 0) (xs ys : List X) → EachTwo R xs → EachTwo R ys → ((x y : X) → Has x xs → Has y ys → R x y) → EachTwo R (xs ++ ys)
two_append R [] ys two more cross = more
two_append R (x ∷ xs) ys two more cross = (
  each_by (R x) (xs ++ ys) (λ y h. elim (has_split y xs ys h) [ inl k ↦ has_each (R x) xs y two.0 k | inr k ↦ cross x y (inl refl) k ]),
  two_append R xs ys two.1 more (λ a b h k. cross a b (inr h) k),
)

two_flat : {X : Type 0} (R : X → X → Type 0) (f : ℕ → List X) (rs : List ℕ) → EachTwo (λ a b. a < b) rs → ((r : ℕ) → EachTwo R (f r)) → ((r s : ℕ) (x y : X) → r < s → Has x (f r) → Has y (f s) → R x y) → EachTwo R (flat_map f rs)
two_flat R f [] up each cross = tt
two_flat R f (r ∷ rs) up each cross =
    subst (EachTwo R) (sym (flat_map-cons f r rs))
    (two_append R (f r) (flat_map f rs) (each r) (two_flat R f rs up.1 each cross)
    (λ x y h k. let s = has_flat_back f y rs k in cross r s.0 x y (has_each (λ (b : ℕ). r < b) rs s.0 up.0 s.1) h s.2))

range_from : (a n : ℕ) (x : ℕ) → Has x (range_with_len a n) → a ≤ x
range_from a zero x h = absurd h
range_from a (suc n) x (inl e) = omega (arith, e)
range_from a (suc n) x (inr h) = let le = range_from (a + 1) n x h in omega (arith, le)

range_rises : (a n : ℕ) → EachTwo (λ x y. x < y) (range_with_len a n)
range_rises a zero = tt
range_rises a (suc n) = (each_by (λ (y : ℕ). a < y) (range_with_len (a + 1) n) (λ y h. let le = range_from (a + 1) n y h in omega (arith, le)), range_rises (a + 1) n)

-- ---- the directives of a function

-- directives that hold a web stand in the database
stands_here : (b : Bool) (g : List ℕ × Directives) (rest : List (List ℕ × Directives)) (f : List ℕ) (w : Web × Role) → bytes_eq g.0 f ≡ b → (Has w (directives_of rest f).webs → (dirs : Directives) × Has (f, dirs) rest × Has w dirs.webs)
    → Has w (if b then g.1 else directives_of rest f).webs → (dirs : Directives) × Has (f, dirs) (g ∷ rest) × Has w dirs.webs
stands_here true g rest f w e r k = let same : g.0 ≡ f = (bytes_eq-Decides g.0 f).0 e in (g.1, inl (ap (λ (n : List ℕ). (n, g.1)) same), k)
stands_here false g rest f w e r k = let s = r k in (s.0, inr s.1, s.2)

stands_by : (d : List (List ℕ × Directives)) (f : List ℕ) (w : Web × Role) → Has w (directives_of d f).webs → (dirs : Directives) × Has (f, dirs) d × Has w dirs.webs
stands_by [] f w h = absurd h
stands_by (g ∷ rest) f w h = stands_here (bytes_eq g.0 f) g rest f w refl (stands_by rest f w) h

-- a web among others is a register for its global
register_here : (b : Bool) (u : Web × Role) (rest : List (Web × Role)) (w : Web × Role) → bytes_eq u.0.global w.0.global ≡ b → (Has w rest → register_of rest w.0.global ≡ None → ⊥) → Has w (u ∷ rest)
    → ◌≡◌ {A = Option ℕ} (if b then Some u.0.reg else register_of rest w.0.global) None → ⊥
register_here true u rest w x r k y = cc
register_here false u rest w x r (inl same) y = clash (bytes_eq u.0.global w.0.global) ((bytes_eq-Decides u.0.global w.0.global).1 (ap (λ (v : Web × Role). v.0.global) same)) x
register_here false u rest w x r (inr k) y = r k y

has_register : (webs : List (Web × Role)) (w : Web × Role) → Has w webs → register_of webs w.0.global ≡ None → ⊥
has_register [] w h e = absurd h
has_register (u ∷ rest) w h e = register_here (bytes_eq u.0.global w.0.global) u rest w refl (has_register rest w) h e

module _ (d : List (List ℕ × Directives)) (base : IsDatabase d) where
  pub role_there : (f : List ℕ) (w : Web) (role : Role) → HasRole d f w role → Has (w, role) (directives_of d f).webs
  role_there f w role h = subst (λ (dirs : Directives). Has (w, role) dirs.webs) (sym (one_directives d base f h.directives h.there)) (has_by (w, role) h.directives.webs h.web)

  pub there_role : (f : List ℕ) (w : Web) (role : Role) → Has (w, role) (directives_of d f).webs → HasRole d f w role
  there_role f w role h =
      let r = stands_by d f (w, role) h in
      record { directives = r.0; there = contains_by (f, r.0) d r.1; web = contains_by (w, role) r.0.webs r.2 }

  lawful_there : (f : List ℕ) (w : Web × Role) → Has w (directives_of d f).webs → IsDirectives (directives_of d f)
  lawful_there f w h =
      let r = stands_by d f w h in
      let own = has_each (λ (g : List ℕ × Directives). IsDirectives g.1) d (f, r.0) base.directives r.1 in
      subst IsDirectives (sym (one_directives d base f r.0 (contains_by (f, r.0) d r.1))) own

  -- the register of a web of the function is one that a callee keeps
  pub web_range : (f : List ℕ) (w : Web) (role : Role) → HasRole d f w role → (first_register ≤ w.reg) × (w.reg ≤ last_register)
  web_range f w role h =
      let there = role_there f w role h in
      let own = has_each IsWeb (webs_of (directives_of d f)) w (lawful_there f (w, role) there).each (has_map (λ (x : Web × Role). x.0) (w, role) (directives_of d f).webs there) in
      (own.low, own.high)

  -- no function is in two webs of one global
  pub one_web : (f : List ℕ) (w u : Web) → In d w f → In d u f → w.global ≡ u.global → w ≡ u
  one_web f w u a b same =
      let h = role_there f w a.role a.has in
      let k = role_there f u b.role b.has in
      let lawful = lawful_there f (w, a.role) h in
      let webs = webs_of (directives_of d f) in
      elim (two_of (λ (x y : Web). x.global ≢ y.global) webs w u lawful.globals (has_map (λ (x : Web × Role). x.0) (w, a.role) (directives_of d f).webs h) (has_map (λ (x : Web × Role). x.0) (u, b.role) (directives_of d f).webs k)) [
        | inl e ↦ e
        | inr o ↦ elim o [ inl x ↦ absurd (x same) | inr x ↦ absurd (x (sym same)) ]
      ]

  pub no_register : (f : List ℕ) (w : Web) → In d w f → register_of (directives_of d f).webs w.global ≡ None → ⊥
  no_register f w within e = has_register (directives_of d f).webs (w, within.role) (role_there f w within.role within.has) e

  -- ---- the webs that a function enters

  is_one : (x : Web × Role) (r : ℕ) (b c : Bool) (w : Web) → is_entry x.1 ≡ b → (x.0.reg == r) ≡ c → Has w (if b && c then x.0 ∷ [] else []) → (x.0 ≡ w) × (x.1 ≡ Entry) × (x.0.reg ≡ r)
  is_one x r true true w e s (inl same) = (same, by_role x.1 e, eqb-true x.0.reg r s) where
    by_role : (role : Role) → is_entry role ≡ true → role ≡ Entry
    by_role Entry e = refl
    by_role Member e = absurd cc
  is_one x r true true w e s (inr h) = absurd h
  is_one x r true false w e s h = absurd h
  is_one x r false c w e s h = absurd h

  of_one : (webs : List (Web × Role)) (r : ℕ) (w : Web) → Has w (flat_map (of_register r) webs) → Has (w, Entry) webs × (w.reg ≡ r)
  of_one webs r w h =
      let x = has_flat_back (of_register r) w webs h in
      let k = is_one x.0 r (is_entry x.0.1) (x.0.0.reg == r) w refl refl x.2 in
      let pair : x.0 ≡ (w, Entry) = both x.0 k.0 k.1 in
      (subst (λ (v : Web × Role). Has v webs) pair x.1, sym (ap (λ (v : Web). v.reg) k.0) ∙ k.2)
    where
      both : (v : Web × Role) → v.0 ≡ w → v.1 ≡ Entry → v ≡ (w, Entry)
      both v e s = ap (λ (a : Web). (a, v.1)) e ∙ ap (λ (b : Role). (w, b)) s

  entered_has : (webs : List (Web × Role)) (w : Web) → Has w (entered_among webs) → Has (w, Entry) webs
  entered_has webs w h =
      let r = has_flat_back (λ (r : ℕ). flat_map (of_register r) webs) w kept_registers h in
      (of_one webs r.0 w r.2).0

  pub entered_role : (f : List ℕ) (w : Web) → Has w (entered_among (directives_of d f).webs) → HasRole d f w Entry
  entered_role f w h = there_role f w Entry (entered_has (directives_of d f).webs w h)

  -- of one register
  one_two : (webs : List (Web × Role)) (r : ℕ) → EachTwo (λ (x y : Web). x.global ≢ y.global) (map (λ w. w.0) webs) → EachTwo (λ (x y : Web). x.global ≢ y.global) (flat_map (of_register r) webs)
  one_two [] r two = tt
  one_two (x ∷ webs) r two =
      subst (EachTwo (λ (a b : Web). a.global ≢ b.global)) (sym (flat_map-cons (of_register r) x webs))
      (two_append (λ (a b : Web). a.global ≢ b.global) (of_register r x) (flat_map (of_register r) webs) (alone (is_entry x.1 && (x.0.reg == r))) (one_two webs r two.1)
      (λ a b h k.
      let first = is_one x r (is_entry x.1) (x.0.reg == r) a refl refl h in
      let later = (of_one webs r b k).0 in
      subst (λ (c : Web). c.global ≢ b.global) first.0 (has_each (λ (c : Web). x.0.global ≢ c.global) (map (λ w. w.0) webs) b two.0 (has_map (λ (w : Web × Role). w.0) (b, Entry) webs later))))
    where
      alone : (b : Bool) → EachTwo (λ (u v : Web). u.global ≢ v.global) (if b then x.0 ∷ [] else [])
      alone true = (tt, tt)
      alone false = tt

  entered_two : (webs : List (Web × Role)) → EachTwo (λ (x y : Web). x.global ≢ y.global) (map (λ w. w.0) webs) → EachTwo (λ (x y : Web). x.global ≢ y.global) (entered_among webs)
  entered_two webs two =
      two_flat (λ (x y : Web). x.global ≢ y.global) (λ (r : ℕ). flat_map (of_register r) webs) kept_registers (range_rises first_register register_count) (λ r. one_two webs r two)
      (λ r s x y lt h k.
      let a = of_one webs r x h in
      let b = of_one webs s y k in
      elim (two_of (λ (x y : Web). x.global ≢ y.global) (map (λ w. w.0) webs) x y two (has_map (λ (w : Web × Role). w.0) (x, Entry) webs a.0) (has_map (λ (w : Web × Role). w.0) (y, Entry) webs b.0)) [
        | inl e ↦ absurd (let same : r ≡ s = sym a.1 ∙ ap (λ (w : Web). w.reg) e ∙ b.1 in omega (arith, lt, same))
        | inr o ↦ elim o [ inl n ↦ n | inr n ↦ (λ e. n (sym e)) ]
      ])

  -- no two webs that a function enters have one global
  pub entered_apart : (f : List ℕ) → EachTwo (λ (x y : Web). x.global ≢ y.global) (entered_among (directives_of d f).webs)
  entered_apart f = by_webs (directives_of d f).webs refl where
    by_webs : (webs : List (Web × Role)) → (directives_of d f).webs ≡ webs → EachTwo (λ (x y : Web). x.global ≢ y.global) (entered_among webs)
    by_webs [] e = entered_two [] tt
    by_webs (w ∷ webs) e =
        let there : Has w (directives_of d f).webs = subst (λ (ws : List (Web × Role)). Has w ws) (sym e) (inl refl) in
        let lawful = lawful_there f w there in
        entered_two (w ∷ webs) (subst (λ (ws : List (Web × Role)). EachTwo (λ (x y : Web). x.global ≢ y.global) (map (λ v. v.0) ws)) e lawful.globals)
