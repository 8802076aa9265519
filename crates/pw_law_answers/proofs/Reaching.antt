-- Of a call graph can be told who calls whom, which functions a path leads to, what the region of a global has, and what is joined there.
use Rattle.std.proofs.Common.{◌≡◌, ◌⊎◌, ℕ, ◌<◌, List, length, refl, sym, subst, ◌∙◌, arith, inl, inr}
use Rattle.std.specs.Prelude.{Contains, Option, Some, None, slice_get}
use Rattle.std.proofs.lemmas.Bool.{cases_eq}
use Rattle.std.proofs.lemmas.Option.{same_Some, slice_get_within}
use Rattle.pw_files.proofs.Standing.{Has, has_by, contains_by}
use Rattle.pw_graph.specs.declared.graph.CallGraph.{CallGraph}
use Rattle.pw_graph.specs.CallGraph.{Calls, Path, call, on, Weighs, References, Writes, IsGraph}
use Rattle.pw_webs.specs.Webs.{Region, refers, between, outside, Joined, self, forth, back, HasCaller}
use Rattle.pw_webs.proofs.RegionLaws.{join}
use Rattle.pw_law_answers.proofs.Telling.{Told, told_both, told_either, told_same, told_some, told_below, told_less, told_has, Closed, least_set}

no_row : {X : Type 0} (x : X) → ◌≡◌ {A = Option X} None (Some x) → ⊥
no_row x e = cc

module _ (g : CallGraph) where
  -- ---- calls and references

  told_call : (a b : ℕ) → Told (Calls g a b)
  told_call a b = by (slice_get g.calls a) refl
    where
      in_row : (row : List ℕ) → slice_get g.calls a ≡ Some row → Told (Has b row) → Told (Calls g a b)
      in_row row at (inl h) = inl (record { row = row; at = at; stands = contains_by b row h })
      in_row row at (inr lacks) = inr (λ c. lacks (has_by b row (subst (λ (r : List ℕ). Contains r b) (same_Some c.row row (sym c.at ∙ at)) c.stands)))

      by : (o : Option (List ℕ)) → slice_get g.calls a ≡ o → Told (Calls g a b)
      by None at = inr (λ c. no_row c.row (sym at ∙ c.at))
      by (Some row) at = in_row row at (told_has b row)

  -- f refers to v in a way that can be told
  told_weighs : (P : ℕ → ℕ → Type 0) → ((r w : ℕ) → Told (P r w)) → (f v : ℕ) → Told ((r : ℕ) × (w : ℕ) × Weighs g f v r w × P r w)
  told_weighs P tell f v = by (slice_get g.refs f) refl
    where
      in_row : (row : List (ℕ × ℕ × ℕ)) → slice_get g.refs f ≡ Some row → Told ((t : ℕ × ℕ × ℕ) × Has t row × ((t.0 ≡ v) × P t.1 t.2)) → Told ((r : ℕ) × (w : ℕ) × Weighs g f v r w × P r w)
      in_row row at (inl h) =
          let t = h.0 in
          inl (t.1, t.2, record { row = row; at = at; stands = contains_by (v, t.1, t.2) row (subst (λ n. Has (n, t.1, t.2) row) h.2.0 h.1) }, h.2.1)
      in_row row at (inr none) = inr (λ h.
          let k = h.2 in
          let there = subst (λ (xs : List (ℕ × ℕ × ℕ)). Contains xs (v, h.0, h.1)) (same_Some k.row row (sym k.at ∙ at)) k.stands in
          none ((v, h.0, h.1), has_by (v, h.0, h.1) row there, (refl, h.3)))

      by : (o : Option (List (ℕ × ℕ × ℕ))) → slice_get g.refs f ≡ o → Told ((r : ℕ) × (w : ℕ) × Weighs g f v r w × P r w)
      by None at = inr (λ h. no_row h.2.row (sym at ∙ h.2.at))
      by (Some row) at = in_row row at (told_some (λ (t : ℕ × ℕ × ℕ). (t.0 ≡ v) × P t.1 t.2) row (λ t. told_both (cases_eq t.0 v) (tell t.1 t.2)))

  told_reference : (f v : ℕ) → Told (References g f v)
  told_reference f v =
      told_same (λ h. record { reads = h.0; writes = h.1; weighs = h.2; some = h.3 }) (λ r. (r.reads, r.writes, r.weighs, r.some))
      (told_weighs (λ r w. (0 < r) ⊎ (0 < w)) (λ r w. told_either (told_less 0 r) (told_less 0 w)) f v)

  pub told_write : (f v : ℕ) → Told (Writes g f v)
  told_write f v = told_same (λ h. record { reads = h.0; writes = h.1; weighs = h.2; some = h.3 }) (λ r. (r.reads, r.writes, r.weighs, r.some)) (told_weighs (λ r w. 0 < w) (λ r w. told_less 0 w) f v)

  module _ (graph : IsGraph g) where
    -- ---- paths

    abbrev Steps : ℕ → List ℕ → ℕ → Type 0
    Steps a set f = Calls g a f ⊎ ((m : ℕ) × Has m set × Calls g m f)

    told_step : (a : ℕ) (set : List ℕ) (f : ℕ) → Told (Steps a set f)
    told_step a set f = told_either (told_call a f) (told_some (λ m. Calls g m f) set (λ m. told_call m f))

    step_path : (a : ℕ) (set : List ℕ) → ((f : ℕ) → Has f set → Path g a f) → (f : ℕ) → Steps a set f → Path g a f
    step_path a set all f (inl c) = call a f c
    step_path a set all f (inr s) = join g (all s.0 s.1) (call s.0 f s.2)

    reached : (a : ℕ) → Closed (Steps a) (Path g a) (length g.functions)
    reached a = least_set (Steps a) (Path g a) (told_step a) (step_path a) (length g.functions)

    path_reached : (a : ℕ) (c : Closed (Steps a) (Path g a) (length g.functions)) {b f : ℕ} → Path g b f → (b ≡ a) ⊎ Has b c.set → Has f c.set
    path_reached a c (call b f calls) from = c.closed f (graph.calls_within b f calls) (elim from [ inl e ↦ inl (subst (λ x. Calls g x f) e calls) | inr h ↦ inr (b, h, calls) ])
    path_reached a c (on b d f calls path) from =
        path_reached a c path (inr (c.closed d (graph.calls_within b d calls) (elim from [ inl e ↦ inl (subst (λ x. Calls g x d) e calls) | inr h ↦ inr (b, h, calls) ])))

    told_path : (a f : ℕ) → Told (Path g a f)
    told_path a f = let c = reached a in elim (told_has f c.set) [ inl h ↦ inl (c.sound f h) | inr lacks ↦ inr (λ p. lacks (path_reached a c p (inl refl))) ]

    -- ---- the region of a global

    abbrev Belongs : ℕ → List ℕ → ℕ → Type 0
    Belongs v set f = References g f v ⊎ ((((a : ℕ) × Has a set × Path g a f) × ((b : ℕ) × Has b set × Path g f b)) ⊎ ((m : ℕ) × Has m set × (((a : ℕ) × Has a set × Calls g a m) × Calls g f m)))

    told_belongs : (v : ℕ) (set : List ℕ) (f : ℕ) → Told (Belongs v set f)
    told_belongs v set f =
        told_either (told_reference f v)
        (told_either (told_both (told_some (λ a. Path g a f) set (λ a. told_path a f)) (told_some (λ b. Path g f b) set (λ b. told_path f b)))
        (told_some (λ m. ((a : ℕ) × Has a set × Calls g a m) × Calls g f m) set (λ m. told_both (told_some (λ a. Calls g a m) set (λ a. told_call a m)) (told_call f m))))

    belongs_region : (v : ℕ) (set : List ℕ) → ((f : ℕ) → Has f set → Region g v f) → (f : ℕ) → Belongs v set f → Region g v f
    belongs_region v set all f (inl r) = refers f r
    belongs_region v set all f (inr (inl p)) = between p.0.0 f p.1.0 (all p.0.0 p.0.1) p.0.2 p.1.2 (all p.1.0 p.1.1)
    belongs_region v set all f (inr (inr o)) = outside o.2.0.0 o.0 f (all o.2.0.0 o.2.0.1) o.2.0.2 (all o.0 o.1) o.2.1

    path_within : {a f : ℕ} → Path g a f → f < length g.functions
    path_within (call a b calls) = graph.calls_within a b calls
    path_within (on a b c calls path) = path_within path

    pub region_within : {v f : ℕ} → Region g v f → f < length g.functions
    region_within (refers f r) = let lt = slice_get_within g.refs f r.weighs.row r.weighs.at in let rows = graph.ref_rows in omega (arith, lt, rows)
    region_within (between a f b ra down up rb) = path_within down
    region_within (outside a m f ra calls rm called) = let lt = slice_get_within g.calls f called.row called.at in let rows = graph.call_rows in omega (arith, lt, rows)

    grown : (v : ℕ) → Closed (Belongs v) (Region g v) (length g.functions)
    grown v = least_set (Belongs v) (Region g v) (told_belongs v) (belongs_region v) (length g.functions)

    region_grown : (v : ℕ) (c : Closed (Belongs v) (Region g v) (length g.functions)) {f : ℕ} → Region g v f → Has f c.set
    region_grown v c (refers f r) = c.closed f (region_within (refers f r)) (inl r)
    region_grown v c (between a f b ra down up rb) = c.closed f (path_within down) (inr (inl ((a, region_grown v c ra, down), (b, region_grown v c rb, up))))
    region_grown v c (outside a m f ra calls rm called) = c.closed f (region_within (outside a m f ra calls rm called)) (inr (inr (m, region_grown v c rm, ((a, region_grown v c ra, calls), called))))

    pub told_region : (v f : ℕ) → Told (Region g v f)
    told_region v f = let c = grown v in elim (told_has f c.set) [ inl h ↦ inl (c.sound f h) | inr lacks ↦ inr (λ r. lacks (region_grown v c r)) ]

    pub told_caller : (v f : ℕ) → Told (HasCaller g v f)
    told_caller v f =
        told_same (λ h. record { caller = h.0; calls = h.2.0; within = h.2.1 }) (λ c. (c.caller, region_within c.within, (c.calls, c.within)))
        (told_below (length g.functions) (λ a. Calls g a f × Region g v a) (λ a. told_both (told_call a f) (told_region v a)))

    -- ---- what is joined

    abbrev Beside : ℕ → ℕ → List ℕ → ℕ → Type 0
    Beside v root set f = Region g v f × ((root ≡ f) ⊎ ((m : ℕ) × Has m set × (Calls g m f ⊎ Calls g f m)))

    told_beside : (v root : ℕ) (set : List ℕ) (f : ℕ) → Told (Beside v root set f)
    told_beside v root set f = told_both (told_region v f) (told_either (cases_eq root f) (told_some (λ m. Calls g m f ⊎ Calls g f m) set (λ m. told_either (told_call m f) (told_call f m))))

    beside_joined : (v root : ℕ) (set : List ℕ) → ((f : ℕ) → Has f set → Joined g v root f) → (f : ℕ) → Beside v root set f → Joined g v root f
    beside_joined v root set all f h = elim h.1 [
      | inl e ↦ subst (Joined g v root) e (self root (subst (Region g v) (sym e) h.0))
      | inr s ↦ elim s.2 [ inl c ↦ forth root s.0 f (all s.0 s.1) c h.0 | inr c ↦ back root s.0 f (all s.0 s.1) c h.0 ]
    ]

    gathered : (v root : ℕ) → Closed (Beside v root) (Joined g v root) (length g.functions)
    gathered v root = least_set (Beside v root) (Joined g v root) (told_beside v root) (beside_joined v root) (length g.functions)

    joined_gathered : (v root : ℕ) (c : Closed (Beside v root) (Joined g v root) (length g.functions)) {a f : ℕ} → a ≡ root → Joined g v a f → Has f c.set
    joined_gathered v root c e (self a r) = c.closed a (region_within r) (r, inl (sym e))
    joined_gathered v root c e (forth a b f joined calls r) = c.closed f (region_within r) (r, inr (b, joined_gathered v root c e joined, inl calls))
    joined_gathered v root c e (back a b f joined calls r) = c.closed f (region_within r) (r, inr (b, joined_gathered v root c e joined, inr calls))

    pub told_joined : (v root f : ℕ) → Told (Joined g v root f)
    told_joined v root f = let c = gathered v root in elim (told_has f c.set) [ inl h ↦ inl (c.sound f h) | inr lacks ↦ inr (λ j. lacks (joined_gathered v root c refl j)) ]
