-- The functions of a database, in their order; and the database of a program.
use Rattle.std.proofs.Math.Nat.{mul-le-mul_left}
use Rattle.std.proofs.Common.{◌≡◌, ℕ, zero, suc, ◌+◌, ◌*◌, ◌^◌, ◌<◌, ◌≤◌, Bool, true, false, List, [], ◌∷◌, ◌++◌, length, get_or, take, map, refl, sym, ap, subst, ◌∙◌, arith, inl, inr, add-zero, append_assoc}
use Rattle.std.specs.Prelude.{Option, Some, None, Contains, if◌then◌else◌, slice_get}
use Rattle.std.specs.List.Sorted.{IsPermutation}
use Rattle.std.proofs.lemmas.Cmp.{nat_list_cmp_total}
use Rattle.std.proofs.lemmas.Grind.{take_at_read}
use Rattle.std.proofs.lemmas.List.{length-take-le, append-nil}
use Rattle.std.proofs.lemmas.Option.{same_Some}
use Rattle.pw_files.specs.Rising.{IsAbove, IsRisingBehind, IsRising}
use Rattle.pw_files.proofs.Standing.{Has, has_by, contains_by, has_left, has_right, has_split}
use Rattle.pw_value.specs.Limits.{function_limit, global_limit}
use Rattle.pw_db.specs.Database.{EachTwo, says_something}
use Rattle.pw_db.specs.declared.database.Directives.{Directives}
use Rattle.pw_summary.specs.declared.summary.Summary.{Summary}
use Rattle.pw_graph.specs.declared.graph.CallGraph.{CallGraph}
use Rattle.pw_graph.specs.Program.{IsGraphOf}
use Rattle.pw_webs.specs.declared.web.RawWeb.{RawWeb}
use Rattle.pw_webs.specs.Webs.{AreWebs}
use Rattle.pw_clusters.specs.Clusters.{AreRoots}
use Rattle.pw_colour.specs.Colours.{ComesFirst, AreColoured, numbered, directives_of, IsDatabaseOf}
use Rattle.pw_colour.specs.Giving.{paired, entry_of, entries_from}
use Rattle.pw_colour.proofs.Given.{paired_first}

-- ---- one function more

module _ (g : CallGraph) (roots : List ℕ) (ws : List (ℕ × RawWeb × ℕ)) where
  entries_push : (n : ℕ) (fs : List (List ℕ)) (f : List ℕ) → entries_from g roots ws n (fs ++ f ∷ []) ≡ entries_from g roots ws n fs ++ entry_of g roots ws (n + length fs) f
  entries_push n [] f = append-nil (entry_of g roots ws n f) ∙ ap (λ m. entry_of g roots ws m f) (sym (add-zero n))
  entries_push n (x ∷ fs) f =
      let e : suc n + length fs ≡ n + suc (length fs) = omega arith in
      ap (λ (es : List (List ℕ × Directives)). entry_of g roots ws n x ++ es) (entries_push (suc n) fs f ∙ ap (λ m. entries_from g roots ws (suc n) fs ++ entry_of g roots ws m f) e)
      ∙ sym (append_assoc (entry_of g roots ws n x) (entries_from g roots ws (suc n) fs) (entry_of g roots ws (n + suc (length fs)) f))

  entries_next : (fs : List (List ℕ)) (i : ℕ) (f : List ℕ) → i < length fs → f ≡ get_or fs i f → entries_from g roots ws 0 (take (i + 1) fs) ≡ entries_from g roots ws 0 (take i fs) ++ entry_of g roots ws i f
  entries_next fs i f lt at =
      let taken : length (take i fs) ≡ i = length-take-le i fs (omega (arith, lt)) in
      let size : 0 + length (take i fs) ≡ i = omega (arith, taken) in
      ap (λ (xs : List (List ℕ)). entries_from g roots ws 0 xs) ((take_at_read fs i f lt).1 ∙ ap (λ (y : List ℕ). take i fs ++ y ∷ []) (sym at))
      ∙ entries_push 0 (take i fs) f ∙ ap (λ m. entries_from g roots ws 0 (take i fs) ++ entry_of g roots ws m f) size

  some_said : (i : ℕ) (f : List ℕ) → says_something (f, directives_of g roots ws i) ≡ true → entry_of g roots ws i f ≡ (f, directives_of g roots ws i) ∷ []
  some_said i f said = ap (λ (b : Bool). if b then ((f, directives_of g roots ws i) ∷ []) else []) said

  pub entries_put : (fs : List (List ℕ)) (i : ℕ) (f : List ℕ) (d : Directives) (entries more : List (List ℕ × Directives)) → i < length fs → f ≡ get_or fs i f → d ≡ directives_of g roots ws i → says_something (f, d) ≡ true
      → more ≡ entries ++ (f, d) ∷ [] → entries ≡ entries_from g roots ws 0 (take i fs) → more ≡ entries_from g roots ws 0 (take (i + 1) fs)
  entries_put fs i f d entries more lt at same said pushed is =
      let here : says_something (f, directives_of g roots ws i) ≡ true = subst (λ (x : Directives). says_something (f, x) ≡ true) same said in
      pushed ∙ ap (λ (es : List (List ℕ × Directives)). es ++ (f, d) ∷ []) is
      ∙ ap (λ (es : List (List ℕ × Directives)). entries_from g roots ws 0 (take i fs) ++ es) (ap (λ (x : Directives). (f, x) ∷ []) same ∙ sym (some_said i f here)) ∙ sym (entries_next fs i f lt at)

  pub entries_skip : (fs : List (List ℕ)) (i : ℕ) (f : List ℕ) (d : Directives) (entries : List (List ℕ × Directives)) → i < length fs → f ≡ get_or fs i f → d ≡ directives_of g roots ws i → says_something (f, d) ≡ false
      → entries ≡ entries_from g roots ws 0 (take i fs) → entries ≡ entries_from g roots ws 0 (take (i + 1) fs)
  entries_skip fs i f d entries lt at same none is =
      let off : says_something (f, directives_of g roots ws i) ≡ false = subst (λ (x : Directives). says_something (f, x) ≡ false) same none in
      let here : entry_of g roots ws i f ≡ [] = ap (λ (b : Bool). if b then ((f, directives_of g roots ws i) ∷ []) else []) off in
      is ∙ sym (append-nil (entries_from g roots ws 0 (take i fs))) ∙ ap (λ (es : List (List ℕ × Directives)). entries_from g roots ws 0 (take i fs) ++ es) (sym here) ∙ sym (entries_next fs i f lt at)

-- ---- which functions there are

above_too : (before : Option (List ℕ)) (x y : List ℕ) → IsAbove before x → IsAbove (Some x) y → IsAbove before y
above_too None x y a b = tt
above_too (Some z) x y a b = nat_list_cmp_total.trans z x y a b

rises_from : (before : Option (List ℕ)) (x : List ℕ) (ys : List (List ℕ)) → IsAbove before x → IsRisingBehind (Some x) ys → IsRisingBehind before ys
rises_from before x [] a up = tt
rises_from before x (y ∷ ys) a up = (above_too before x y a up.0, up.1)

rise_if : (before : Option (List ℕ)) (b : Bool) (x : List ℕ) (d : Directives) (es : List (List ℕ × Directives)) → IsAbove before x → IsRisingBehind (Some x) (map (λ f. f.0) es) → IsRisingBehind before (map (λ f. f.0) ((if b then ((x, d) ∷ []) else []) ++ es))
rise_if before true x d es a up = (a, up)
rise_if before false x d es a up = rises_from before x (map (λ f. f.0) es) a up

entries_rise : (g : CallGraph) (roots : List ℕ) (ws : List (ℕ × RawWeb × ℕ)) (before : Option (List ℕ)) (n : ℕ) (fs : List (List ℕ)) → IsRisingBehind before fs → IsRisingBehind before (map (λ f. f.0) (entries_from g roots ws n fs))
entries_rise g roots ws before n [] up = tt
entries_rise g roots ws before n (x ∷ fs) up = rise_if before (says_something (x, directives_of g roots ws n)) x (directives_of g roots ws n) (entries_from g roots ws (suc n) fs) up.0 (entries_rise g roots ws (Some x) (suc n) fs up.1)

record IsEntry (g : CallGraph) (roots : List ℕ) (ws : List (ℕ × RawWeb × ℕ)) (n : ℕ) (fs : List (List ℕ)) (f : List ℕ) (d : Directives) : Type 0 where
  place : ℕ
  at : slice_get fs place ≡ Some f
  is : d ≡ directives_of g roots ws (n + place)
  said : says_something (f, d) ≡ true

in_if : (b : Bool) (x f : List ℕ) (c d : Directives) → Has {X = List ℕ × Directives} (f, d) (if b then ((x, c) ∷ []) else []) → (b ≡ true) × (x ≡ f) × (c ≡ d)
in_if true x f c d h = elim h [
  | inl e ↦ (refl, ap (λ (p : List ℕ × Directives). p.0) e, ap (λ (p : List ℕ × Directives). p.1) e)
  | inr n ↦ absurd n
]
in_if false x f c d h = absurd h

module _ (g : CallGraph) (roots : List ℕ) (ws : List (ℕ × RawWeb × ℕ)) where
  entry_there : (n : ℕ) (fs : List (List ℕ)) (f : List ℕ) (d : Directives) → Has (f, d) (entries_from g roots ws n fs) → IsEntry g roots ws n fs f d
  entry_there n [] f d h = absurd h
  entry_there n (x ∷ fs) f d h = elim (has_split (f, d) (entry_of g roots ws n x) (entries_from g roots ws (suc n) fs) h) [
    | inl k ↦
        let w = in_if (says_something (x, directives_of g roots ws n)) x f (directives_of g roots ws n) d k in
        let here : d ≡ directives_of g roots ws (n + 0) = sym w.2 ∙ ap (λ m. directives_of g roots ws m) (sym (add-zero n)) in
        record { place = 0; at = ap Some w.1; is = here; said = subst (λ (c : Directives). says_something (f, c) ≡ true) w.2 w.0 }
    | inr k ↦
        let e = entry_there (suc n) fs f d k in
        let shift : suc n + e.place ≡ n + suc e.place = omega arith in
        record { place = suc e.place; at = e.at; is = e.is ∙ ap (λ m. directives_of g roots ws m) shift; said = e.said }
  ]

  there_entry : (n : ℕ) (fs : List (List ℕ)) (f : List ℕ) (d : Directives) (k : ℕ) → slice_get fs k ≡ Some f → d ≡ directives_of g roots ws (n + k) → says_something (f, d) ≡ true → Has (f, d) (entries_from g roots ws n fs)
  there_entry n [] f d k at is said = absurd cc
  there_entry n (x ∷ fs) f d zero at is said =
      let here : d ≡ directives_of g roots ws n = is ∙ ap (λ m. directives_of g roots ws m) (add-zero n) in
      let same : x ≡ f = same_Some x f at in
      has_left (f, d) (entry_of g roots ws n x) (entries_from g roots ws (suc n) fs)
      (subst (λ (es : List (List ℕ × Directives)). Has (f, d) es) (sym (some_said g roots ws n x (subst (λ (c : Directives). says_something (x, c) ≡ true) here said)))
      (inl (ap (λ (y : List ℕ). (y, directives_of g roots ws n)) same ∙ ap (λ (c : Directives). (f, c)) (sym here))))
  there_entry n (x ∷ fs) f d (suc k) at is said =
      let shift : n + suc k ≡ suc n + k = omega arith in
      has_right (f, d) (entry_of g roots ws n x) (entries_from g roots ws (suc n) fs) (there_entry (suc n) fs f d k at (is ∙ ap (λ m. directives_of g roots ws m) shift) said)

-- ---- the database

pub is_database : (ss : List Summary) (g : CallGraph) (colours : ℕ) (ws ranked : List RawWeb) (rs : List (Option ℕ)) (qs : List (ℕ × RawWeb × ℕ)) (db : List (List ℕ × Directives)) (roots : List ℕ) → IsGraphOf ss g → AreRoots ss g roots → AreWebs g ws → IsPermutation ws ranked → EachTwo ComesFirst ranked
    → length rs ≡ length ranked → AreColoured colours [] (paired ranked rs) → qs ≡ numbered 0 (paired ranked rs) → db ≡ entries_from g roots qs 0 g.functions → IsDatabaseOf ss colours db
is_database ss g colours ws ranked rs qs db roots of_ss are_roots webs moved order count coloured numbers is =
    let firsts = paired_first ranked rs count in
    let all = numbered 0 (paired ranked rs) in
    let entries : db ≡ entries_from g roots all 0 g.functions = is ∙ ap (λ (xs : List (ℕ × RawWeb × ℕ)). entries_from g roots xs 0 g.functions) numbers in
    record {
      graph = g;
      graph_of = of_ss;
      webs = ws;
      are_webs = webs;
      coloured = paired ranked rs;
      same_webs = subst (λ (xs : List RawWeb). IsPermutation ws xs) (sym firsts) moved;
      order = subst (λ (xs : List RawWeb). EachTwo ComesFirst xs) (sym firsts) order;
      colours_of = coloured;
      roots = roots;
      are_roots = are_roots;
      rising = subst (λ (es : List (List ℕ × Directives)). IsRising (map (λ f. f.0) es)) (sym entries) (entries_rise g roots all None 0 g.functions of_ss.functions);
      of = λ f d. (
        λ c. let e = entry_there g roots all 0 g.functions f d (has_by (f, d) (entries_from g roots all 0 g.functions) (subst (λ (es : List (List ℕ × Directives)). Contains es (f, d)) entries c)) in let low : 0 + e.place ≡ e.place = omega arith in (e.place, e.at, e.is ∙ ap (λ m. directives_of g roots all m) low, e.said),
        λ p. subst (λ (es : List (List ℕ × Directives)). Contains es (f, d)) (sym entries) (contains_by (f, d) (entries_from g roots all 0 g.functions) (there_entry g roots all 0 g.functions f d p.0 p.1 (let low : p.0 ≡ 0 + p.0 = omega arith in p.2 ∙ ap (λ m. directives_of g roots all m) low) p.3)),
      );
    }

-- ---- few webs

pub few_webs : (n a b : ℕ) → n ≤ a * b → a ≤ global_limit → b ≤ function_limit + 3 → n < 2 ^ 32
few_webs n a b le ha hb = let most : a * b ≤ a * (function_limit + 3) = mul-le-mul_left a hb in omega (arith, le, most, ha)
