-- Webs have an order and registers, and so a program has a database.
use Rattle.std.proofs.Common.{◌≡◌, ◌⊎◌, ℕ, suc, ◌+◌, ◌-◌, ◌*◌, ◌<◌, ◌≤◌, List, [], ◌∷◌, length, refl, sym, ap, subst, arith, inl, inr}
use Rattle.std.specs.Prelude.{Option, Some, None, ◌↔◌, ℤ, pos, ◌<ℤ◌, ◌≤ℤ◌}
use Rattle.std.specs.List.{AllByRecursion}
use Rattle.std.specs.List.Sorted.{IsPermutation}
use Rattle.std.proofs.lemmas.Bool.{cases_eq}
use Rattle.std.specs.Ordering.{int_cmp}
use Rattle.std.proofs.lemmas.Cmp.{by_ranked, int_ranked}
use Rattle.std.proofs.lemmas.Int.{ints}
use Rattle.std.proofs.lemmas.Option.{same_Some}
use Rattle.std.proofs.lemmas.List.Sorted.{length_permutation, IsPermutation-refl, IsPermutation-trans, IsPermutation-cons, IsPermutation-swap}
use Rattle.pw_files.proofs.Standing.{Has, has_by, contains_by, each_by, has_each}
use Rattle.pw_fix.specs.Row.{Holds}
use Rattle.pw_fix.specs.declared.bit_row.BitRow.{BitRow}
use Rattle.pw_fix.proofs.Bits.{held_cases}
use Rattle.pw_summary.specs.declared.summary.Summary.{Summary}
use Rattle.pw_db.specs.Database.{EachTwo}
use Rattle.pw_db.specs.Limits.{first_register}
use Rattle.pw_db.specs.declared.database.Directives.{Directives}
use Rattle.pw_graph.specs.declared.graph.CallGraph.{CallGraph}
use Rattle.pw_graph.specs.CallGraph.{IsGraph}
use Rattle.pw_graph.specs.Program.{IsGraphOf}
use Rattle.pw_graph.proofs.Lists.{at_has}
use Rattle.pw_graph.proofs.Members.{held_within}
use Rattle.pw_webs.specs.declared.web.RawWeb.{RawWeb}
use Rattle.pw_webs.specs.Webs.{AreWebs, StandsBefore, Interfere}
use Rattle.pw_clusters.specs.Clusters.{AreRoots}
use Rattle.pw_colour.specs.Colours.{ComesFirst, IsFree, IsColour, AreColoured, numbered, IsDatabaseOf}
use Rattle.pw_colour.specs.Giving.{paired, entries_from}
use Rattle.pw_colour.proofs.Ranks.{two_at}
use Rattle.pw_colour.proofs.Given.{has_paired}
use Rattle.pw_colour.proofs.Entries.{is_database, few_webs}
use Rattle.pw_law_answers.proofs.Telling.{Told, told_both, told_same, told_some, told_below, told_not, Least, least_or_none}
use Rattle.pw_law_answers.proofs.Webs.{webs_exist}
use Rattle.pw_law_answers.proofs.Payloads.{IsSmall, entries_small}

-- ---- the order of webs

-- of two numbers the one is less, or it is not
less_or_not : (x y : ℤ) → (x <ℤ y) ⊎ (y ≤ℤ x)
less_or_not x y =
    by_ranked (x <ℤ y) (x ≡ y) (y <ℤ x) (int_cmp x y) (int_ranked x y (int_cmp x y) refl)
    (λ e lt. inl lt) (λ e same. inr (omega (arith, ints, same))) (λ e lt. inr (omega (arith, ints, lt)))

-- webs in order, with one more in its place
record Placed (w : RawWeb) (ws : List RawWeb) : Type 0 where
  list : List RawWeb
  moved : IsPermutation (w ∷ ws) list
  order : EachTwo ComesFirst list
  only : (u : RawWeb) → Has u list → (w ≡ u) ⊎ Has u ws

later_saves_less : (x y : RawWeb) → ComesFirst x y → y.priority ≤ℤ x.priority
later_saves_less x y (inl lt) = omega (arith, ints, lt)
later_saves_less x y (inr same) = let e = same.0 in omega (arith, ints, e)

before_it : (w u : RawWeb) → u.priority ≤ℤ w.priority → StandsBefore w u → ComesFirst w u
before_it w u le stands = by (less_or_not u.priority w.priority)
  where
    by : (u.priority <ℤ w.priority) ⊎ (w.priority ≤ℤ u.priority) → ComesFirst w u
    by (inl lt) = inl lt
    by (inr ge) = inr (omega (arith, ints, le, ge), stands)

-- two at the front change places
front_swapped : (x y : RawWeb) (ws : List RawWeb) → IsPermutation (x ∷ y ∷ ws) (y ∷ x ∷ ws)
front_swapped x y ws = IsPermutation-swap (x ∷ y ∷ ws) (y ∷ x ∷ ws) 0 1 (omega arith) (omega arith) refl

place : (w : RawWeb) (ws : List RawWeb) → AllByRecursion (StandsBefore w) ws → EachTwo ComesFirst ws → Placed w ws
place w [] before order = record { list = w ∷ []; moved = IsPermutation-refl (w ∷ []); order = (tt, tt); only = λ u h. h }
place w (x ∷ ws) before order = by (less_or_not w.priority x.priority) (place w ws before.1 order.1)
  where
    by : (w.priority <ℤ x.priority) ⊎ (x.priority ≤ℤ w.priority) → Placed w ws → Placed w (x ∷ ws)
    by (inl lt) p = record {
      list = x ∷ p.list;
      moved = IsPermutation-trans (w ∷ x ∷ ws) (x ∷ w ∷ ws) (x ∷ p.list) (front_swapped w x ws) (IsPermutation-cons x (w ∷ ws) p.list p.moved);
      order = (each_by (ComesFirst x) p.list (λ u h. elim (p.only u h) [ inl e ↦ inl (subst (λ (z : RawWeb). z.priority <ℤ x.priority) e lt) | inr k ↦ has_each (ComesFirst x) ws u order.0 k ]), p.order);
      only = λ u h. elim h [ inl e ↦ inr (inl e) | inr k ↦ elim (p.only u k) [ inl e ↦ inl e | inr j ↦ inr (inr j) ] ];
    }
    by (inr le) p = record {
      list = w ∷ x ∷ ws;
      moved = IsPermutation-refl (w ∷ x ∷ ws);
      order = (
        each_by (ComesFirst w) (x ∷ ws) (λ u h. before_it w u
            (elim h [ inl e ↦ subst (λ (z : RawWeb). z.priority ≤ℤ w.priority) e le | inr k ↦ (let less = later_saves_less x u (has_each (ComesFirst x) ws u order.0 k) in omega (arith, ints, less, le)) ])
            (has_each (StandsBefore w) (x ∷ ws) u before h)),
        order,
      );
      only = λ u h. h;
    }

pub ranked : (ws : List RawWeb) → EachTwo StandsBefore ws → (us : List RawWeb) × IsPermutation ws us × EachTwo ComesFirst us × ((u : RawWeb) → Has u us → Has u ws)
ranked [] before = ([], IsPermutation-refl [], tt, λ u h. h)
ranked (w ∷ ws) before =
    let rest = ranked ws before.1 in
    let p = place w rest.0 (each_by (StandsBefore w) rest.0 (λ u h. has_each (StandsBefore w) ws u before.0 (rest.3 u h))) rest.2 in
    (p.list, IsPermutation-trans (w ∷ ws) (w ∷ rest.0) p.list (IsPermutation-cons w ws rest.0 rest.1) p.moved, p.order, λ u h. elim (p.only u h) [ inl e ↦ inl e | inr k ↦ inr (rest.3 u k) ])

-- ---- which registers are free

told_like : (a b : BitRow) (f : ℕ) → Told (Holds a f ↔ Holds b f)
told_like a b f = by (held_cases a.words.items f) (held_cases b.words.items f)
  where
    by : Told (Holds a f) → Told (Holds b f) → Told (Holds a f ↔ Holds b f)
    by (inl h) (inl k) = inl (λ x. k, λ x. h)
    by (inl h) (inr lacks) = inr (λ same. lacks (same.0 h))
    by (inr lacks) (inl k) = inr (λ same. lacks (same.1 k))
    by (inr one) (inr other) = inl (λ x. absurd (one x), λ x. absurd (other x))

told_alike : (a b : BitRow) → Told ((f : ℕ) → Holds a f ↔ Holds b f)
told_alike a b = by (told_below (a.len + b.len) (λ f. (Holds a f ↔ Holds b f) → ⊥) (λ f. told_not (told_like a b f)))
  where
    here : (f : ℕ) → Told (Holds a f ↔ Holds b f) → (((k : ℕ) × (k < a.len + b.len) × ((Holds a k ↔ Holds b k) → ⊥)) → ⊥) → (Holds a f ↔ Holds b f)
    here f (inl same) none = same
    here f (inr differs) none = (
      λ h. absurd (none (f, (let lt = held_within a f h in omega (arith, lt)), differs)),
      λ h. absurd (none (f, (let lt = held_within b f h in omega (arith, lt)), differs)),
    )

    by : Told ((k : ℕ) × (k < a.len + b.len) × ((Holds a k ↔ Holds b k) → ⊥)) → Told ((f : ℕ) → Holds a f ↔ Holds b f)
    by (inl h) = inr (λ same. h.2 (same h.0))
    by (inr none) = inl (λ f. here f (told_like a b f) none)

told_interfere : (u w : RawWeb) → Told (Interfere u w)
told_interfere u w =
    told_same (λ h. record { function = h.0.0; in_one = h.0.2.0; in_other = h.0.2.1; differ = h.1 }) (λ i. ((i.function, held_within u.members i.function i.in_one, (i.in_one, i.in_other)), i.differ))
    (told_both (told_below u.members.len (λ f. Holds u.members f × Holds w.members f) (λ f. told_both (held_cases u.members.words.items f) (held_cases w.members.words.items f)))
    (told_not (told_both (cases_eq u.global w.global) (told_alike u.members w.members))))

told_given : (o : Option ℕ) (r : ℕ) → Told (o ≡ Some r)
told_given None r = inr none
  where
    none : None ≡ Some r → ⊥
    none e = cc
told_given (Some q) r = elim (cases_eq q r) [ inl e ↦ inl (ap (λ n. Some n) e) | inr other ↦ inr (λ e. other (same_Some q r e)) ]

told_free : (earlier : List (RawWeb × Option ℕ)) (w : RawWeb) (r : ℕ) → Told (IsFree earlier w r)
told_free earlier w r = by (told_some (λ (p : RawWeb × Option ℕ). (p.1 ≡ Some r) × Interfere p.0 w) earlier (λ p. told_both (told_given p.1 r) (told_interfere p.0 w)))
  where
    by : Told ((p : RawWeb × Option ℕ) × Has p earlier × ((p.1 ≡ Some r) × Interfere p.0 w)) → Told (IsFree earlier w r)
    by (inl h) = inr (λ free. free h.0.0 (contains_by (h.0.0, Some r) earlier (subst (λ (o : Option ℕ). Has (h.0.0, o) earlier) h.2.0 h.1)) h.2.1)
    by (inr none) = inl (λ u stands i. none ((u, Some r), has_by (u, Some r) earlier stands, (refl, i)))

colour_exists : (colours : ℕ) (earlier : List (RawWeb × Option ℕ)) (w : RawWeb) → (o : Option ℕ) × IsColour colours earlier w o
colour_exists colours earlier w = by (less_or_not (pos 0) w.priority) (least_or_none colours (λ k. IsFree earlier w (first_register + k)) (λ k. told_free earlier w (first_register + k)))
  where
    at : (P : ℕ → Type 0) (q k : ℕ) → first_register + k ≡ q → P q → P (first_register + k)
    at P q k e p = subst P (sym e) p

    by : (pos 0 <ℤ w.priority) ⊎ (w.priority ≤ℤ pos 0) → Least colours (λ k. IsFree earlier w (first_register + k)) ⊎ ((k : ℕ) → k < colours → IsFree earlier w (first_register + k) → ⊥) → (o : Option ℕ) × IsColour colours earlier w o
    by (inr le) found = (None, inl le)
    by (inl lt) (inr none) = (
      None,
      inr (λ r reg free.
          let low = reg.0 in
          let high = reg.1 in
          let e : first_register + (r - first_register) ≡ r = omega (arith, low) in
          none (r - first_register) (omega (arith, low, high)) (at (IsFree earlier w) r (r - first_register) e free)),
    )
    by (inl lt) (inl l) =
        let within = l.within in (
          Some (first_register + l.number),
          (
            lt,
            (omega arith, omega (arith, within)),
            l.is,
            λ q low below free.
                let e : first_register + (q - first_register) ≡ q = omega (arith, low) in
                l.least (q - first_register) (omega (arith, low, below)) (at (IsFree earlier w) q (q - first_register) e free),
          ),
        )

registers_exist : (colours : ℕ) (earlier : List (RawWeb × Option ℕ)) (ws : List RawWeb) → (rs : List (Option ℕ)) × (length rs ≡ length ws) × AreColoured colours earlier (paired ws rs)
registers_exist colours earlier [] = ([], refl, tt)
registers_exist colours earlier (w ∷ ws) =
    let r = colour_exists colours earlier w in
    let rest = registers_exist colours ((w, r.0) ∷ earlier) ws in
    (r.0 ∷ rest.0, ap suc rest.1, (r.1, rest.2))

-- ---- the database

pairs_few : (ws : List RawWeb) (rs : List (Option ℕ)) → length (paired ws rs) ≤ length ws
pairs_few [] rs = omega arith
pairs_few (w ∷ ws) [] = omega arith
pairs_few (w ∷ ws) (r ∷ rs) = let rest = pairs_few ws rs in omega (arith, rest)

global_within : (g : CallGraph) (ws us : List RawWeb) (rs : List (Option ℕ)) → AreWebs g ws → ((u : RawWeb) → Has u us → Has u ws) → (w : RawWeb) (o : Option ℕ) → Has (w, o) (paired us rs) → w.global < length g.globals
global_within g ws us rs webs over w o h = let p = at_has ws w (over w (has_paired us rs w o h)) in (webs.each p.0 w p.1).global

-- a call graph of summaries has an assignment of roots
abbrev pub RootsAreThere : Type 0
RootsAreThere = (ss : List Summary) (g : CallGraph) → IsGraphOf ss g → (roots : List ℕ) × AreRoots ss g roots

database_with : (ss : List Summary) (colours : ℕ) (g : CallGraph) (roots : List ℕ) (ws us : List RawWeb) (rs : List (Option ℕ)) → IsGraphOf ss g → IsGraph g → AreRoots ss g roots → AreWebs g ws → length ws ≤ length g.globals * length g.functions
    → IsPermutation ws us → EachTwo ComesFirst us → ((u : RawWeb) → Has u us → Has u ws) → length rs ≡ length us → AreColoured colours [] (paired us rs)
    → (db : List (List ℕ × Directives)) × IsDatabaseOf ss colours db × ((f : List ℕ × Directives) → Has f db → IsSmall g f)
database_with ss colours g roots ws us rs of graph are_roots webs count moved order over long coloured =
    let db = entries_from g roots (numbered 0 (paired us rs)) 0 g.functions in
    let few = few_webs (length ws) (length g.globals) (length g.functions) count graph.globals graph.functions in
    let same : length us ≡ length ws = length_permutation ws us moved in
    let fewer = pairs_few us rs in (
      db,
      is_database ss g colours ws us rs (numbered 0 (paired us rs)) db roots of are_roots webs moved order long coloured refl refl,
      entries_small g roots (paired us rs) (omega (arith, few, same, fewer)) (global_within g ws us rs webs over),
    )

pub database_of_graph : RootsAreThere → (ss : List Summary) (colours : ℕ) (g : CallGraph) → IsGraphOf ss g → IsGraph g → (db : List (List ℕ × Directives)) × IsDatabaseOf ss colours db × ((f : List ℕ × Directives) → Has f db → IsSmall g f)
database_of_graph there ss colours g of graph =
    let roots = there ss g of in
    let ws = webs_exist g graph in
    let us = ranked ws.0 (two_at StandsBefore ws.0 ws.1.order) in
    let rs = registers_exist colours [] us.0 in
    database_with ss colours g roots.0 ws.0 us.0 rs.0 of graph roots.1 ws.1 ws.2 us.1 us.2 us.3 rs.1 rs.2
