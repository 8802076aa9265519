-- The rows of callers, and rows that are joined.
use Rattle.std.proofs.Common.{◌≡◌, ◌⊎◌, ℕ, zero, suc, ◌+◌, ◌<◌, ◌≤◌, List, [], ◌∷◌, ◌++◌, length, get_or, set, take, refl, sym, ap, subst, ◌∙◌, arith, inl, inr, All}
use Rattle.std.specs.Prelude.{Some, slice_get, Contains, ◌↔◌}
use Rattle.std.proofs.lemmas.Bool.{cases_eq}
use Rattle.std.proofs.lemmas.Option.{slice_get_within, same_Some, get_or_from_slice_get}
use Rattle.std.proofs.lemmas.List.Elements.{Contains-append_left, Contains-append_right, Contains-append_cases, Contains-push, Contains-push_cases, All-get_or}
use Rattle.pw_fix.proofs.Places.{set_cases, slice_get-set_same, slice_get-set_other}
use Rattle.pw_graph.specs.declared.graph.CallGraph.{CallGraph}
use Rattle.pw_graph.specs.CallGraph.{Calls}
use Rattle.pw_graph.proofs.Steps.{take_whole}
use Rattle.pw_webs.specs.Walking.{Leads}
use Rattle.pw_webs.proofs.WalkLaws.{next_item}
use Rattle.pw_webs.proofs.RegionLaws.{call_leads, leads_call}

-- one more in a row
pub leads_put : (rows : List (List ℕ)) (n x : ℕ) (old new : List ℕ) → slice_get rows n ≡ Some old → new ≡ old ++ x ∷ [] → (a b : ℕ) → Leads (set rows n new) a b ↔ (Leads rows a b ⊎ ((a ≡ n) × (b ≡ x)))
leads_put rows n x old new at is a b =
    let there : n < length rows = slice_get_within rows n old at in (
      λ l. elim (set_cases rows n a new l.row l.at) [
        | inl w ↦ elim (Contains-push_cases old x b (subst (λ (ys : List ℕ). Contains ys b) (w.1 ∙ is) l.stands)) [
          | inl k ↦ inl (record { row = old; at = subst (λ m. slice_get rows m ≡ Some old) (sym w.0) at; stands = k })
          | inr e ↦ inr (w.0, sym e)
        ]
        | inr w ↦ inl (record { row = l.row; at = w.1; stands = l.stands })
      ],
      λ h. elim h [
        | inl l ↦ elim (cases_eq a n) [
          | inl same ↦
              let its : l.row ≡ old = same_Some l.row old (sym l.at ∙ subst (λ m. slice_get rows m ≡ Some old) (sym same) at) in
              record { row = new; at = subst (λ m. slice_get (set rows n new) m ≡ Some new) (sym same) (slice_get-set_same rows n new there); stands = subst (λ (ys : List ℕ). Contains ys b) (sym is) (Contains-append_left old (x ∷ []) b (subst (λ (ys : List ℕ). Contains ys b) its l.stands)) }
          | inr other ↦ record { row = l.row; at = slice_get-set_other rows n a new other ∙ l.at; stands = l.stands }
        ]
        | inr w ↦ record { row = new; at = subst (λ m. slice_get (set rows n new) m ≡ Some new) (sym w.0) (slice_get-set_same rows n new there); stands = subst (λ (ys : List ℕ). Contains ys b) (sym is) (subst (λ y. Contains (old ++ x ∷ []) y) (sym w.1) (Contains-push old x)) }
      ],
    )

pub caller_put : (callees : List ℕ) (i p caller : ℕ) (first now new : List (List ℕ)) (old row : List ℕ) → i < length callees → p ≡ get_or callees i p → slice_get now p ≡ Some old → row ≡ old ++ caller ∷ [] → new ≡ set now p row
    → ((a b : ℕ) → Leads now a b ↔ (Leads first a b ⊎ (Contains (take i callees) a × (b ≡ caller)))) → (a b : ℕ) → Leads new a b ↔ (Leads first a b ⊎ (Contains (take (i + 1) callees) a × (b ≡ caller)))
caller_put callees i p caller first now new old row lt at there pushed is before a b =
    let more = next_item callees i p lt at in
    let put = leads_put now p caller old row there pushed a b in (
      λ l. elim (put.0 (subst (λ (rs : List (List ℕ)). Leads rs a b) is l)) [
        | inl k ↦ elim ((before a b).0 k) [
          | inl f ↦ inl f
          | inr w ↦ inr (subst (λ (ys : List ℕ). Contains ys a) (sym more) (Contains-append_left (take i callees) (p ∷ []) a w.0), w.1)
        ]
        | inr w ↦ inr (subst (λ (ys : List ℕ). Contains ys a) (sym more) (subst (λ y. Contains (take i callees ++ p ∷ []) y) (sym w.0) (Contains-push (take i callees) p)), w.1)
      ],
      λ h. subst (λ (rs : List (List ℕ)). Leads rs a b) (sym is) (put.1 (elim h [
        | inl f ↦ inl ((before a b).1 (inl f))
        | inr w ↦ elim (Contains-push_cases (take i callees) p a (subst (λ (ys : List ℕ). Contains ys a) more w.0)) [
          | inl k ↦ inl ((before a b).1 (inr (k, w.1)))
          | inr e ↦ inr (sym e, w.1)
        ]
      ])),
    )

pub caller_first : (caller : ℕ) (first : List (List ℕ)) (a b : ℕ) → Leads first a b ↔ (Leads first a b ⊎ (Contains [] a × (b ≡ caller)))
caller_first caller first a b = (λ l. inl l, λ h. elim h [ inl l ↦ l | inr w ↦ let lt = w.0.1 in absurd (omega (arith, lt)) ])

pub caller_end : (callees : List ℕ) (i caller : ℕ) (first now : List (List ℕ)) → length callees ≤ i → ((a b : ℕ) → Leads now a b ↔ (Leads first a b ⊎ (Contains (take i callees) a × (b ≡ caller)))) → (a b : ℕ) → Leads now a b ↔ (Leads first a b ⊎ (Contains callees a × (b ≡ caller)))
caller_end callees i caller first now le holds = subst (λ (ys : List ℕ). (a b : ℕ) → Leads now a b ↔ (Leads first a b ⊎ (Contains ys a × (b ≡ caller)))) (take_whole callees i le) holds

pub none_lead : (calls rows : List (List ℕ)) → All (λ row. row ≡ []) rows → (a b : ℕ) → Leads rows a b ↔ ((b < 0) × Leads calls b a)
none_lead calls rows empty a b = (
  λ l.
      let lt = slice_get_within rows a l.row l.at in
      let none : l.row ≡ [] = sym (get_or_from_slice_get rows a l.row [] l.at) ∙ All-get_or (λ row. row ≡ []) rows a [] lt empty in
      let c = subst (λ (ys : List ℕ). Contains ys b) none l.stands in
      let lt0 = c.1 in
      absurd (omega (arith, lt0)),
  λ w. let lt0 = w.0 in absurd (omega (arith, lt0)),
)

pub callers_put : (calls now new : List (List ℕ)) (i : ℕ) (row : List ℕ) → slice_get calls i ≡ Some row → ((a b : ℕ) → Leads now a b ↔ ((b < i) × Leads calls b a)) → ((a b : ℕ) → Leads new a b ↔ (Leads now a b ⊎ (Contains row a × (b ≡ i))))
    → (a b : ℕ) → Leads new a b ↔ ((b < i + 1) × Leads calls b a)
callers_put calls now new i row at before after a b = (
  λ l. elim ((after a b).0 l) [
    | inl k ↦ let w = (before a b).0 k in let lt = w.0 in (omega (arith, lt), w.1)
    | inr w ↦ let same = w.1 in (omega (arith, same), subst (λ m. Leads calls m a) (sym same) (record { row = row; at = at; stands = w.0 }))
  ],
  λ w. elim (cases_eq b i) [
    | inl e ↦
        let its : Leads calls i a = subst (λ m. Leads calls m a) e w.1 in
        (after a b).1 (inr (subst (λ (ys : List ℕ). Contains ys a) (same_Some its.row row (sym its.at ∙ at)) its.stands, e))
    | inr other ↦ let lt = w.0 in (after a b).1 (inl ((before a b).1 (omega (arith, lt, other), w.1)))
  ],
)

pub callers_end : (calls now : List (List ℕ)) (i : ℕ) → length calls ≤ i → ((a b : ℕ) → Leads now a b ↔ ((b < i) × Leads calls b a)) → (a b : ℕ) → Leads now a b ↔ Leads calls b a
callers_end calls now i le holds a b = (
  λ l. ((holds a b).0 l).1,
  λ c. let lt = slice_get_within calls b c.row c.at in (holds a b).1 (omega (arith, lt, le), c),
)

-- ---- rows that are joined

at_last : {X : Type 0} (xs : List X) (x y : X) (a : ℕ) → slice_get (xs ++ x ∷ []) a ≡ Some y → ((a ≡ length xs) × (x ≡ y)) ⊎ (slice_get xs a ≡ Some y)
at_last [] x y zero e = inl (refl, same_Some x y e)
at_last [] x y (suc a) e = absurd cc
at_last (z ∷ xs) x y zero e = inr e
at_last (z ∷ xs) x y (suc a) e = elim (at_last xs x y a e) [ inl w ↦ inl (ap suc w.0, w.1) | inr k ↦ inr k ]

last_at : {X : Type 0} (xs : List X) (x : X) → slice_get (xs ++ x ∷ []) (length xs) ≡ Some x
last_at [] x = refl
last_at (z ∷ xs) x = last_at xs x

before_last : {X : Type 0} (xs : List X) (x y : X) (a : ℕ) → slice_get xs a ≡ Some y → slice_get (xs ++ x ∷ []) a ≡ Some y
before_last [] x y a e = absurd cc
before_last (z ∷ xs) x y zero e = e
before_last (z ∷ xs) x y (suc a) e = before_last xs x y a e

pub joined_put : (ones others now new : List (List ℕ)) (i : ℕ) (one other row : List ℕ) → slice_get ones i ≡ Some one → slice_get others i ≡ Some other → row ≡ one ++ other → length now ≡ i → new ≡ now ++ row ∷ []
    → ((a b : ℕ) → Leads now a b ↔ ((a < i) × (Leads ones a b ⊎ Leads others a b))) → (a b : ℕ) → Leads new a b ↔ ((a < i + 1) × (Leads ones a b ⊎ Leads others a b))
joined_put ones others now new i one other row at_one at_other is size pushed before a b = (
  λ l. elim (at_last now row l.row a (subst (λ (rs : List (List ℕ)). slice_get rs a ≡ Some l.row) pushed l.at)) [
    | inl w ↦
        let here : a ≡ i = w.0 ∙ size in
        let c = subst (λ (ys : List ℕ). Contains ys b) (sym w.1 ∙ is) l.stands in (
          omega (arith, here),
          elim (Contains-append_cases one other b c) [
            | inl k ↦ inl (record { row = one; at = subst (λ m. slice_get ones m ≡ Some one) (sym here) at_one; stands = k })
            | inr k ↦ inr (record { row = other; at = subst (λ m. slice_get others m ≡ Some other) (sym here) at_other; stands = k })
          ],
        )
    | inr k ↦ let w = (before a b).0 (record { row = l.row; at = k; stands = l.stands }) in let lt = w.0 in (omega (arith, lt), w.1)
  ],
  λ w. subst (λ (rs : List (List ℕ)). Leads rs a b) (sym pushed) (elim (cases_eq a i) [
    | inl here ↦ record {
      row = row;
      at = subst (λ m. slice_get (now ++ row ∷ []) m ≡ Some row) (size ∙ sym here) (last_at now row);
      stands = subst (λ (ys : List ℕ). Contains ys b) (sym is) (elim w.1 [
        | inl l ↦ Contains-append_left one other b (subst (λ (ys : List ℕ). Contains ys b) (same_Some l.row one (sym l.at ∙ subst (λ m. slice_get ones m ≡ Some one) (sym here) at_one)) l.stands)
        | inr l ↦ Contains-append_right one other b (subst (λ (ys : List ℕ). Contains ys b) (same_Some l.row other (sym l.at ∙ subst (λ m. slice_get others m ≡ Some other) (sym here) at_other)) l.stands)
      ]);
    }
    | inr apart ↦
        let lt = w.0 in
        let l = (before a b).1 (omega (arith, lt, apart), w.1) in
        record { row = l.row; at = before_last now row l.row a l.at; stands = l.stands }
  ]),
)

pub joined_none : (ones others : List (List ℕ)) (a b : ℕ) → Leads [] a b ↔ ((a < 0) × (Leads ones a b ⊎ Leads others a b))
joined_none ones others a b = (λ l. absurd (let e = l.at in cc), λ w. let lt = w.0 in absurd (omega (arith, lt)))

pub joined_end : (ones others now : List (List ℕ)) (i : ℕ) → length ones ≤ i → length ones ≡ length others → ((a b : ℕ) → Leads now a b ↔ ((a < i) × (Leads ones a b ⊎ Leads others a b))) → (a b : ℕ) → Leads now a b ↔ (Leads ones a b ⊎ Leads others a b)
joined_end ones others now i le same holds a b = (
  λ l. ((holds a b).0 l).1,
  λ h. (holds a b).1 (
    elim h [
      | inl l ↦ let lt = slice_get_within ones a l.row l.at in omega (arith, lt, le)
      | inr l ↦ let lt = slice_get_within others a l.row l.at in omega (arith, lt, le, same)
    ],
    h,
  ),
)

-- ---- of a graph

pub callers_of_graph : (g : CallGraph) (rows : List (List ℕ)) → ((a b : ℕ) → Leads rows a b ↔ Leads g.calls b a) → (a b : ℕ) → Leads rows a b ↔ Calls g b a
callers_of_graph g rows are a b = (λ l. leads_call g b a ((are a b).0 l), λ c. (are a b).1 (call_leads g b a c))

pub both_of_graph : (g : CallGraph) (callers both : List (List ℕ)) → ((a b : ℕ) → Leads callers a b ↔ Leads g.calls b a) → ((a b : ℕ) → Leads both a b ↔ (Leads g.calls a b ⊎ Leads callers a b)) → (a b : ℕ) → Leads both a b ↔ (Calls g a b ⊎ Calls g b a)
both_of_graph g callers both are is a b = (
  λ l. elim ((is a b).0 l) [ inl k ↦ inl (leads_call g a b k) | inr k ↦ inr (leads_call g b a ((are a b).0 k)) ],
  λ h. (is a b).1 (elim h [ inl c ↦ inl (call_leads g a b c) | inr c ↦ inr ((are a b).1 (call_leads g b a c)) ]),
)
