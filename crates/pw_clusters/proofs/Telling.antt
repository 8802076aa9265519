-- Of each function of a call graph one can tell whether it may work for another alone, since names, rows and paths are finite.
use Rattle.std.proofs.Common.{◌≡◌, ◌⊎◌, ℕ, zero, suc, ◌+◌, ◌<◌, ◌≤◌, ◌||◌, Bool, true, false, List, [], ◌∷◌, length, get_or, map, refl, sym, ap, subst, ◌∙◌, arith, inl, inr}
use Rattle.std.specs.Prelude.{◌≢◌, Some, slice_get, Contains}
use Rattle.std.specs.List.{flat_map, list_any, IsDistinct}
use Rattle.std.specs.Str.{bytes_eq}
use Rattle.std.proofs.lemmas.Bool.{cases_eq, eqb-true, or_cases, false≢true}
use Rattle.std.proofs.lemmas.Map.Keys.{IsDistinct-cons}
use Rattle.std.proofs.lemmas.Map.Steps.{length-le_from_distinct_below}
use Rattle.std.proofs.lemmas.Option.{same_Some, slice_get-get_or}
use Rattle.std.proofs.lemmas.Slice.Eq.{bytes_eq-Decides}
use Rattle.std.proofs.Math.Dec.{eqb}
use Rattle.pw_value.specs.ProgramNames.{start_name}
use Rattle.pw_files.proofs.Standing.{Has, has_by, contains_by, has_flat, has_flat_back}
use Rattle.pw_summary.specs.declared.summary.Summary.{Summary}
use Rattle.pw_graph.specs.declared.graph.CallGraph.{CallGraph}
use Rattle.pw_graph.specs.CallGraph.{Calls, Path, call, on}
use Rattle.pw_graph.specs.Program.{IsGraphOf, IsTaken, IsEscaped}
use Rattle.pw_clusters.specs.Clusters.{IsDefined, IsInner}
use Rattle.pw_clusters.proofs.Callers.{calls_by_row, search}
use Rattle.pw_clusters.proofs.Climbing.{is_false, all_other, none_distinct, caller_within}

-- of each function one can tell whether it may work for another alone
abbrev pub AreTold : List Summary → CallGraph → Type 0
AreTold ss g = (f : ℕ) → f < length g.functions → IsInner ss g f ⊎ (IsInner ss g f → ⊥)

flag : (b : Bool) → (b ≡ true) ⊎ (b ≡ false)
flag true = inl refl
flag false = inr refl

clash : (b : Bool) → b ≡ true → b ≡ false → ⊥
clash true x y = cc
clash false x y = cc

-- ---- items of a list

neither : {X : Type 0} (P : X → Type 0) (x : X) (xs : List X) → (P x → ⊥) → ((y : X) → Has y xs → P y → ⊥) → (y : X) → Has y (x ∷ xs) → P y → ⊥
neither P x xs one others y (inl e) p = one (subst P (sym e) p)
neither P x xs one others y (inr h) p = others y h p

-- one of them has it, or none
some_told : {X : Type 0} (P : X → Type 0) (xs : List X) → ((x : X) → Has x xs → P x ⊎ (P x → ⊥)) → ((x : X) × Has x xs × P x) ⊎ ((x : X) → Has x xs → P x → ⊥)
some_told P [] told = inr (λ x h p. h)
some_told P (x ∷ xs) told = elim (told x (inl refl)) [
  | inl p ↦ inl (x, inl refl, p)
  | inr one ↦ elim (some_told P xs (λ y h. told y (inr h))) [
    | inl found ↦ inl (found.0, inr found.1, found.2)
    | inr others ↦ inr (neither P x xs one others)
  ]
]

name_told : (name : List ℕ) (xs : List (List ℕ)) → Has name xs ⊎ (Has name xs → ⊥)
name_told name xs = elim (some_told (λ x. x ≡ name) xs (λ x h. same_told x)) [
  | inl found ↦ inl (subst (λ (x : List ℕ). Has x xs) found.2 found.1)
  | inr none ↦ inr (λ h. none name h refl)
] where
  same_told : (x : List ℕ) → (x ≡ name) ⊎ (x ≡ name → ⊥)
  same_told x = elim (flag (bytes_eq x name)) [
    | inl e ↦ inl ((bytes_eq-Decides x name).0 e)
    | inr e ↦ inr (λ same. clash (bytes_eq x name) ((bytes_eq-Decides x name).1 same) e)
  ]

-- ---- paths

-- calls lead from one function to another, and to none of these between
data PathPast (g : CallGraph) (past : List ℕ) : ℕ → ℕ → Type 0 where
  last : (a b : ℕ) → Calls g a b → PathPast g past a b
  more : (a c b : ℕ) → Calls g a c → list_any (eqb c) past ≡ false → PathPast g past c b → PathPast g past a b

-- from the second function on a path does not come back to the first
record IsOnward (g : CallGraph) (past : List ℕ) (a b c : ℕ) : Type 0 where
  free : list_any (eqb c) (a ∷ past) ≡ false
  path : PathPast g (a ∷ past) c b

or_false : (x y : Bool) → x ≡ false → y ≡ false → (x || y) ≡ false
or_false true y one two = one
or_false false y one two = two

right_false : (x y : Bool) → (x || y) ≡ false → y ≡ false
right_false true y e = absurd (false≢true (sym e))
right_false false y e = e

module _ (g : CallGraph) where
  -- a path that comes to a function once more leads from there
  cut : (past : List ℕ) (a : ℕ) {c b : ℕ} → PathPast g past c b → PathPast g (a ∷ past) c b ⊎ PathPast g (a ∷ past) a b
  cut past a (last c b calls) = inl (last c b calls)
  cut past a (more c d b calls free path) = elim (cut past a path) [
    | inr p ↦ inr p
    | inl p ↦ elim (cases_eq d a) [
      | inl e ↦ inr (subst (λ k. PathPast g (a ∷ past) k b) e p)
      | inr other ↦ inl (more c d b calls (or_false (eqb d a) (list_any (eqb d) past) (is_false (eqb d a) (λ t. other (eqb-true d a t))) free) p)
    ]
  ]

  fewer : (past : List ℕ) (a : ℕ) {c b : ℕ} → PathPast g (a ∷ past) c b → PathPast g past c b
  fewer past a (last c b calls) = last c b calls
  fewer past a (more c d b calls free path) = more c d b calls (right_false (eqb d a) (list_any (eqb d) past) free) (fewer past a path)

  no_path : (past : List ℕ) {a b : ℕ} → (Calls g a b → ⊥) → ((c : ℕ) → Calls g a c → list_any (eqb c) past ≡ false → PathPast g past c b → ⊥) → PathPast g past a b → ⊥
  no_path past none others (last a b calls) = none calls
  no_path past none others (more a c b calls free path) = others c calls free path

  to_past : {a b : ℕ} → Path g a b → PathPast g [] a b
  to_past (call a b calls) = last a b calls
  to_past (on a c b calls path) = more a c b calls refl (to_past path)

  from_past : (past : List ℕ) {a b : ℕ} → PathPast g past a b → Path g a b
  from_past past (last a b calls) = call a b calls
  from_past past (more a c b calls free path) = on a c b calls (from_past past path)

module _ (g : CallGraph) (rows : length g.calls ≡ length g.functions) (calls_within : (a b : ℕ) → Calls g a b → b < length g.functions) where
  -- functions that a path has behind it, no two of them the same
  record Behind (past : List ℕ) : Type 0 where
    distinct : IsDistinct eqb past
    within : (q : ℕ) → list_any (eqb q) past ≡ true → q < length g.functions

  behind_more : (past : List ℕ) (a : ℕ) → Behind past → list_any (eqb a) past ≡ false → a < length g.functions → Behind (a ∷ past)
  behind_more past a behind out lt = record {
    distinct = IsDistinct-cons eqb a past (all_other a past (λ t. clash (list_any (eqb a) past) t out)) behind.distinct;
    within = λ q h. elim (or_cases (eqb q a) (list_any (eqb q) past) h) [
      | inl e ↦ let same = eqb-true q a e in omega (arith, lt, same)
      | inr k ↦ behind.within q k
    ];
  }

  abbrev row_of : ℕ → List ℕ
  row_of a = get_or g.calls a []

  row_at : (a : ℕ) → a < length g.functions → slice_get g.calls a ≡ Some (row_of a)
  row_at a lt = slice_get-get_or g.calls a [] (omega (arith, lt, rows))

  in_row : (a c : ℕ) → a < length g.functions → Calls g a c → Has c (row_of a)
  in_row a c lt calls = has_by c (row_of a) (subst (λ (row : List ℕ). Contains row c) (same_Some calls.row (row_of a) (sym calls.at ∙ row_at a lt)) calls.stands)

  of_row : (a c : ℕ) → a < length g.functions → Has c (row_of a) → Calls g a c
  of_row a c lt h = record { row = row_of a; at = row_at a lt; stands = contains_by c (row_of a) h }

  past_told : (n : ℕ) (past : List ℕ) (a b : ℕ) → Behind past → list_any (eqb a) past ≡ false → a < length g.functions → length g.functions ≤ n + length past → PathPast g past a b ⊎ (PathPast g past a b → ⊥)
  past_told zero past a b behind out lt long =
      let now = behind_more past a behind out lt in
      let few : length (a ∷ past) ≤ length g.functions = length-le_from_distinct_below (a ∷ past) (length g.functions) now.distinct now.within in
      absurd (omega (arith, few, long))
  past_told (suc n) past a b behind out lt long =
      let now = behind_more past a behind out lt in
      elim (calls_by_row g a b (slice_get g.calls a) refl) [
        | inl calls ↦ inl (last a b calls)
        | inr none ↦ elim (some_told (IsOnward g past a b) (row_of a) (λ c h.
            elim (flag (list_any (eqb c) (a ∷ past))) [
              | inl t ↦ inr (λ p. clash (list_any (eqb c) (a ∷ past)) t p.free)
              | inr free ↦ elim (past_told n (a ∷ past) c b now free (calls_within a c (of_row a c lt h)) (omega (arith, long))) [
                | inl path ↦ inl (record { free = free; path = path })
                | inr lacks ↦ inr (λ p. lacks p.path)
              ]
            ])) [
              | inl found ↦ inl (more a found.0 b (of_row a found.0 lt found.1) (right_false (eqb found.0 a) (list_any (eqb found.0) past) found.2.free) (fewer g past a found.2.path))
              | inr others ↦
                  let all : PathPast g (a ∷ past) a b → ⊥ = no_path g (a ∷ past) none (λ c calls free path. others c (in_row a c lt calls) (record { free = free; path = path })) in
                  inr (λ path. elim (cut g past a path) [ inl p ↦ all p | inr p ↦ all p ])
            ]
      ]

  path_told : (a b : ℕ) → a < length g.functions → Path g a b ⊎ (Path g a b → ⊥)
  path_told a b lt = elim (past_told (length g.functions) [] a b (record { distinct = none_distinct; within = λ q h. absurd (false≢true h) }) refl lt (omega arith)) [
    | inl path ↦ inl (from_past g [] path)
    | inr none ↦ inr (λ path. none (to_past g path))
  ]

  caller_told : (f : ℕ) → ((c : ℕ) × Calls g c f) ⊎ ((c : ℕ) → Calls g c f → ⊥)
  caller_told f = elim (search g (λ c. 1) f 0 (length g.functions)) [
    | inr o ↦ inl (o.caller, o.calls)
    | inl none ↦ inr (λ c calls. let e = none c (caller_within g rows c f calls) calls in omega (arith, e))
  ]

-- ---- names

taken_told : (ss : List Summary) (name : List ℕ) → IsTaken ss name ⊎ (IsTaken ss name → ⊥)
taken_told ss name = elim (name_told name (flat_map (λ s. map (λ f. f.0) s.taken) ss)) [
  | inl h ↦
      let p = has_flat_back (λ (s : Summary). map (λ (f : List ℕ × List ℕ). f.0) s.taken) name ss h in
      inl (record { summary = p.0; stands = contains_by p.0 ss p.1; taken = contains_by name (map (λ f. f.0) p.0.taken) p.2 })
  | inr none ↦ inr (λ t. none (has_flat (λ (s : Summary). map (λ (f : List ℕ × List ℕ). f.0) s.taken) t.summary name ss (has_by t.summary ss t.stands) (has_by name (map (λ f. f.0) t.summary.taken) t.taken)))
]

escaped_told : (ss : List Summary) (name : List ℕ) → IsEscaped ss name ⊎ (IsEscaped ss name → ⊥)
escaped_told ss name = elim (name_told name (flat_map (λ s. s.escaped) ss)) [
  | inl h ↦
      let p = has_flat_back (λ (s : Summary). s.escaped) name ss h in
      inl (record { summary = p.0; stands = contains_by p.0 ss p.1; escaped = contains_by name p.0.escaped p.2 })
  | inr none ↦ inr (λ t. none (has_flat (λ (s : Summary). s.escaped) t.summary name ss (has_by t.summary ss t.stands) (has_by name t.summary.escaped t.escaped)))
]

defined_told : (ss : List Summary) (name : List ℕ) → IsDefined ss name ⊎ (IsDefined ss name → ⊥)
defined_told ss name = elim (name_told name (map (λ d. d.0) (flat_map (λ s. s.functions) ss))) [
  | inl h ↦ inl (contains_by name (map (λ d. d.0) (flat_map (λ s. s.functions) ss)) h)
  | inr none ↦ inr (λ c. none (has_by name (map (λ d. d.0) (flat_map (λ s. s.functions) ss)) c))
]

-- ---- functions

-- what of a function's name lets it be inner
record Allows (ss : List Summary) (name : List ℕ) : Type 0 where
  defined : IsDefined ss name
  no_start : name ≢ start_name
  not_taken : ¬ IsTaken ss name
  not_escaped : ¬ IsEscaped ss name

allowed_told : (ss : List Summary) (name : List ℕ) → Allows ss name ⊎ (Allows ss name → ⊥)
allowed_told ss name = elim (defined_told ss name) [
  | inr none ↦ inr (λ a. none a.defined)
  | inl defined ↦ elim (flag (bytes_eq name start_name)) [
    | inl e ↦ inr (λ a. a.no_start ((bytes_eq-Decides name start_name).0 e))
    | inr e ↦ elim (taken_told ss name) [
      | inl t ↦ inr (λ a. a.not_taken t)
      | inr untaken ↦ elim (escaped_told ss name) [
        | inl t ↦ inr (λ a. a.not_escaped t)
        | inr kept ↦ inl (record { defined = defined; no_start = λ same. clash (bytes_eq name start_name) ((bytes_eq-Decides name start_name).1 same) e; not_taken = untaken; not_escaped = kept })
      ]
    ]
  ]
]

pub told : (ss : List Summary) (g : CallGraph) → IsGraphOf ss g → AreTold ss g
told ss g of f lt =
    let name = get_or g.functions f [] in
    let at : slice_get g.functions f ≡ Some name = slice_get-get_or g.functions f [] lt in
    let same : (i : IsInner ss g f) → i.name ≡ name = λ i. same_Some i.name name (sym i.at ∙ at) in
    elim (allowed_told ss name) [
      | inr none ↦ inr (λ i. none (subst (Allows ss) (same i) (record { defined = i.defined; no_start = i.no_start; not_taken = i.not_taken; not_escaped = i.not_escaped })))
      | inl a ↦ elim (caller_told g of.call_rows of.calls_within f) [
        | inr none ↦ inr (λ i. none i.caller i.called)
        | inl c ↦ elim (path_told g of.call_rows of.calls_within f f lt) [
          | inl path ↦ inr (λ i. i.no_cycle path)
          | inr once ↦ inl (record { name = name; at = at; defined = a.defined; no_start = a.no_start; no_cycle = once; not_taken = a.not_taken; not_escaped = a.not_escaped; caller = c.0; called = c.1 })
        ]
      ]
    ]
