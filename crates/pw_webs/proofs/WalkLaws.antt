-- A walk by a list of places that wait.
use Rattle.std.proofs.Common.{◌≡◌, ◌⊎◌, ℕ, zero, suc, ◌+◌, ◌-◌, ◌<◌, ◌≤◌, Bool, true, false, List, [], ◌∷◌, ◌++◌, length, get_or, take, refl, sym, ap, subst, ◌∙◌, arith, inl, inr, All, length-append}
use Rattle.std.specs.Prelude.{Some, slice_get, Contains, ◌↔◌}
use Rattle.std.proofs.lemmas.Option.{same_Some, get_or_from_slice_get, slice_get-get_or}
use Rattle.std.proofs.lemmas.Grind.{take_at_read}
use Rattle.std.proofs.lemmas.List.Elements.{All-from_recursion, Contains-append_left, Contains-append_right, Contains-append_cases, Contains-push, Contains-push_cases}
use Rattle.pw_fix.specs.Row.{Holds, members, member_count}
use Rattle.pw_fix.proofs.Bits.{held_cases}
use Rattle.pw_files.proofs.Standing.{each_by, contains_by}
use Rattle.pw_fix.specs.RowLaws.{members_fit}
use Rattle.pw_fix.specs.declared.bit_row.BitRow.{BitRow}
use Rattle.pw_graph.proofs.Members.{more_members, no_fewer, in_members, held_within}
use Rattle.pw_graph.proofs.Steps.{union_more, take_whole}
use Rattle.pw_webs.specs.Walking.{Leads, AreSteps, Chain, start, step, IsVisit, IsNext, IsReached, Trail, first, next}

-- ---- one row

only : (p b : ℕ) → Contains (p ∷ []) b → b ≡ p
only p b (zero, lt, e) = sym e
only p b (suc k, lt, e) = absurd (omega (arith, lt))

this : (p b : ℕ) → b ≡ p → Contains (p ∷ []) b
this p b e = (0, omega arith, sym e)

pub visit_none : (within old : BitRow) (before : List ℕ) → IsVisit [] within old old before before
visit_none within old before = record {
  same = refl;
  found = λ b. (λ h. inl h, λ h. elim h [ inl k ↦ k | inr k ↦ absurd (omega (arith, k.0.1)) ]);
  waits = λ b h. inl h;
  kept = λ b h. h;
  known = λ b h. inl h;
  left = omega arith;
}

pub visit_then : (xs ys : List ℕ) (within a b c : BitRow) (p q r : List ℕ) → IsVisit xs within a b p q → IsVisit ys within b c q r → IsVisit (xs ++ ys) within a c p r
visit_then xs ys within a b c p q r one two = record {
  same = two.same ∙ one.same;
  found = λ x. (
    λ h. elim ((two.found x).0 h) [
      | inl k ↦ elim ((one.found x).0 k) [ inl o ↦ inl o | inr w ↦ inr (Contains-append_left xs ys x w.0, w.1) ]
      | inr w ↦ inr (Contains-append_right xs ys x w.0, w.1)
    ],
    λ h. elim h [
      | inl o ↦ (two.found x).1 (inl ((one.found x).1 (inl o)))
      | inr w ↦ elim (Contains-append_cases xs ys x w.0) [
        | inl k ↦ (two.found x).1 (inl ((one.found x).1 (inr (k, w.1))))
        | inr k ↦ (two.found x).1 (inr (k, w.1))
      ]
    ],
  );
  waits = λ x h. elim (two.waits x h) [
    | inl k ↦ elim (one.waits x k) [ inl o ↦ inl o | inr w ↦ inr (two.kept x w) ]
    | inr w ↦ inr w
  ];
  kept = λ x h. two.kept x (one.kept x h);
  known = λ x h. elim (two.known x h) [
    | inl k ↦ elim (one.known x k) [ inl o ↦ inl o | inr w ↦ inr ((two.found x).1 (inl w)) ]
    | inr w ↦ inr w
  ];
  left = omega (arith, one.left, two.left);
}

-- a place that does not stand within the set
pub visit_outside : (x : ℕ) (within old : BitRow) (before : List ℕ) → (Holds within x → ⊥) → IsVisit (x ∷ []) within old old before before
visit_outside x within old before lacks = record {
  same = refl;
  found = λ b. (λ h. inl h, λ h. elim h [ inl k ↦ k | inr k ↦ absurd (lacks (subst (Holds within) (only x b k.0) k.1)) ]);
  waits = λ b h. inl h;
  kept = λ b h. h;
  known = λ b h. inl h;
  left = omega arith;
}

-- one that was found before
pub visit_again : (x : ℕ) (within old new : BitRow) (before : List ℕ) → Holds within x → Holds old x → new.len ≡ old.len → ((b : ℕ) → Holds new b ↔ ((b ≡ x) ⊎ Holds old b)) → IsVisit (x ∷ []) within old new before before
visit_again x within old new before stands there same holds =
    let still : (b : ℕ) → Holds new b → Holds old b = λ b h. elim ((holds b).0 h) [ inl e ↦ subst (Holds old) (sym e) there | inr k ↦ k ] in
    let fewer : member_count old ≤ member_count new = no_fewer old new (sym same) (λ b h. (holds b).1 (inr h)) in
    record {
      same = same;
      found = λ b. (λ h. inl (still b h), λ h. elim h [ inl k ↦ (holds b).1 (inr k) | inr k ↦ (holds b).1 (inl (only x b k.0)) ]);
      waits = λ b h. inl (still b h);
      kept = λ b h. h;
      known = λ b h. inl h;
      left = omega (arith, same, fewer);
    }

-- one that is new
pub visit_new : (x : ℕ) (within old new : BitRow) (before after : List ℕ) → Holds within x → (Holds old x → ⊥) → new.len ≡ old.len → ((b : ℕ) → Holds new b ↔ ((b ≡ x) ⊎ Holds old b)) → after ≡ before ++ x ∷ [] → IsVisit (x ∷ []) within old new before after
visit_new x within old new before after stands lacks same holds pushed =
    let more : member_count old < member_count new = more_members old new x (sym same) (λ b h. (holds b).1 (inr h)) ((holds x).1 (inl refl)) lacks in
    let fit : member_count new ≤ new.len = members_fit new.len new refl in
    let size : length after ≡ length before + 1 = ap length pushed ∙ length-append before (x ∷ []) in
    record {
      same = same;
      found = λ b. (
        λ h. elim ((holds b).0 h) [ inl e ↦ inr (this x b e, subst (Holds within) (sym e) stands) | inr k ↦ inl k ],
        λ h. elim h [ inl k ↦ (holds b).1 (inr k) | inr k ↦ (holds b).1 (inl (only x b k.0)) ],
      );
      waits = λ b h. elim ((holds b).0 h) [ inl e ↦ inr (subst (λ (zs : List ℕ). Contains zs b) (sym pushed) (Contains-append_right before (x ∷ []) b (this x b e))) | inr k ↦ inl k ];
      kept = λ b h. subst (λ (zs : List ℕ). Contains zs b) (sym pushed) (Contains-append_left before (x ∷ []) b h);
      known = λ b h. elim (Contains-append_cases before (x ∷ []) b (subst (λ (zs : List ℕ). Contains zs b) pushed h)) [
        | inl k ↦ inl k
        | inr k ↦ inr ((holds b).1 (inl (only x b k)))
      ];
      left = omega (arith, more, fit, size, same);
    }

-- ---- the whole walk

pub record IsWalk (rows : List (List ℕ)) (within from found : BitRow) (waiting : List ℕ) : Type 0 where
  pub same : found.len ≡ from.len
  pub sound : (f : ℕ) → Holds found f → Chain rows within from f
  pub begun : (f : ℕ) → Holds from f → Holds found f
  pub known : (f : ℕ) → Contains waiting f → Holds found f
  pub done : (a : ℕ) → Holds found a → Contains waiting a ⊎ ((b : ℕ) → Leads rows a b → Holds within b → Holds found b)

pub walk_begins : (rows : List (List ℕ)) (within from : BitRow) (waiting : List ℕ) → ((b : ℕ) → Contains waiting b ↔ Holds from b) → IsWalk rows within from from waiting
walk_begins rows within from waiting all = record {
  same = refl;
  sound = λ f h. start f h;
  begun = λ f h. h;
  known = λ f h. (all f).0 h;
  done = λ a h. inl ((all a).1 h);
}

pub walk_on : (rows : List (List ℕ)) (within from found new : BitRow) (p : ℕ) (row waiting popped after : List ℕ) → IsWalk rows within from found waiting → waiting ≡ popped ++ p ∷ [] → slice_get rows p ≡ Some row
    → IsVisit row within found new popped after → IsWalk rows within from new after
walk_on rows within from found new p row waiting popped after w last at visit =
    let here : Holds found p = w.known p (subst (λ (zs : List ℕ). Contains zs p) (sym last) (Contains-push popped p)) in
    let leads : (b : ℕ) → Leads rows p b → Contains row b = λ b l. subst (λ (zs : List ℕ). Contains zs b) (same_Some l.row row (sym l.at ∙ at)) l.stands in
    let its : (b : ℕ) → Leads rows p b → Holds within b → Holds new b = λ b l h. (visit.found b).1 (inr (leads b l, h)) in
    let old : (b : ℕ) → Holds found b → Holds new b = λ b h. (visit.found b).1 (inl h) in
    record {
      same = visit.same ∙ w.same;
      sound = λ f h. elim ((visit.found f).0 h) [
        | inl k ↦ w.sound f k
        | inr k ↦ step p f (w.sound p here) (record { row = row; at = at; stands = k.0 }) k.1
      ];
      begun = λ f h. old f (w.begun f h);
      known = λ f h. elim (visit.known f h) [
        | inl k ↦ old f (w.known f (subst (λ (zs : List ℕ). Contains zs f) (sym last) (Contains-append_left popped (p ∷ []) f k)))
        | inr k ↦ k
      ];
      done = λ a h. elim (visit.waits a h) [
        | inr k ↦ inl k
        | inl k ↦ elim (w.done a k) [
          | inl c ↦ elim (Contains-push_cases popped p a (subst (λ (zs : List ℕ). Contains zs a) last c)) [
            | inl still ↦ inl (visit.kept a still)
            | inr e ↦ inr (subst (λ x. (b : ℕ) → Leads rows x b → Holds within b → Holds new b) e its)
          ]
          | inr closed ↦ inr (λ b l s. old b (closed b l s))
        ]
      ];
    }

walk_all : (rows : List (List ℕ)) (within from found : BitRow) → IsWalk rows within from found [] → {f : ℕ} → Chain rows within from f → Holds found f
walk_all rows within from found w (start a h) = w.begun a h
walk_all rows within from found w (step a b chain leads stands) =
    let here : Holds found a = walk_all rows within from found w chain in
    elim (w.done a here) [
      | inl c ↦ absurd (omega (arith, c.1))
      | inr closed ↦ closed b leads stands
    ]

pub no_items : {X : Type 0} (xs : List X) → length xs ≡ 0 → xs ≡ []
no_items [] e = refl
no_items (x ∷ xs) e = absurd (omega (arith, e))

pub walk_ends : (rows : List (List ℕ)) (within from found : BitRow) (waiting : List ℕ) → waiting ≡ [] → IsWalk rows within from found waiting → (f : ℕ) → Holds found f ↔ Chain rows within from f
walk_ends rows within from found waiting none w f = (w.sound f, λ c. walk_all rows within from found (subst (IsWalk rows within from found) none w) c)

-- ---- at least one step

pub chain_reached : (rows : List (List ℕ)) (all from near : BitRow) → ((f : ℕ) → Holds near f ↔ IsNext rows from f) → {f : ℕ} → Chain rows all near f → IsReached rows from f
chain_reached rows all from near is (start f h) = let n = (is f).0 h in record { place = n.place; is = n.is; trail = first n.place f n.leads }
chain_reached rows all from near is (step a b chain leads stands) = let r = chain_reached rows all from near is chain in record { place = r.place; is = r.is; trail = next r.place a b r.trail leads }

trail_chain : (rows : List (List ℕ)) (all from near : BitRow) → ((a b : ℕ) → Leads rows a b → Holds all b) → ((f : ℕ) → Holds near f ↔ IsNext rows from f) → {p f : ℕ} → Trail rows p f → Holds from p → Chain rows all near f
trail_chain rows all from near every is (first p f leads) h = start f ((is f).1 (record { place = p; is = h; leads = leads }))
trail_chain rows all from near every is (next p b f trail leads) h = step b f (trail_chain rows all from near every is trail h) leads (every b f leads)

pub reached_chain : (rows : List (List ℕ)) (all from near : BitRow) → ((a b : ℕ) → Leads rows a b → Holds all b) → ((f : ℕ) → Holds near f ↔ IsNext rows from f) → (f : ℕ) → IsReached rows from f → Chain rows all near f
reached_chain rows all from near every is f r = trail_chain rows all from near every is r.trail r.is

-- ---- loops

pub clash : (b : Bool) → b ≡ false → b ≡ true → ⊥
clash true x y = cc
clash false x y = cc

pub held_again : (row : BitRow) (i : ℕ) (new : Bool) → (new ≡ true) ↔ (Holds row i → ⊥) → new ≡ false → Holds row i
held_again row i new added old = elim (held_cases row.words.items i) [
  | inl h ↦ h
  | inr lacks ↦ absurd (clash new old (added.1 lacks))
]

pub next_item : {X : Type 0} (xs : List X) (i : ℕ) (x : X) → i < length xs → x ≡ get_or xs i x → take (i + 1) xs ≡ take i xs ++ x ∷ []
next_item {X} xs i x lt at = (take_at_read xs i x lt).1 ∙ ap (λ (y : X). take i xs ++ y ∷ []) (sym at)

pub item_at : {X : Type 0} (xs : List X) (i : ℕ) (d : X) → i < length xs → get_or xs i d ≡ get_or xs i (get_or xs i d)
item_at xs i d lt = sym (get_or_from_slice_get xs i (get_or xs i d) (get_or xs i d) (slice_get-get_or xs i d lt))

pub visit_next : (xs : List ℕ) (i x : ℕ) (within a b c : BitRow) (p q r : List ℕ) → i < length xs → x ≡ get_or xs i x → IsVisit (take i xs) within a b p q → IsVisit (x ∷ []) within b c q r → IsVisit (take (i + 1) xs) within a c p r
visit_next xs i x within a b c p q r lt at one two =
    subst (λ (ys : List ℕ). IsVisit ys within a c p r) (sym (next_item xs i x lt at)) (visit_then (take i xs) (x ∷ []) within a b c p q r one two)

pub visit_end : (xs : List ℕ) (i : ℕ) (within a b : BitRow) (p q : List ℕ) → length xs ≤ i → IsVisit (take i xs) within a b p q → IsVisit xs within a b p q
visit_end xs i within a b p q le one = subst (λ (ys : List ℕ). IsVisit ys within a b p q) (take_whole xs i le) one

pub row_put : (xs : List ℕ) (i x : ℕ) (old now new : BitRow) → i < length xs → x ≡ get_or xs i x → ((b : ℕ) → Holds now b ↔ (Holds old b ⊎ Contains (take i xs) b)) → ((b : ℕ) → Holds new b ↔ ((b ≡ x) ⊎ Holds now b))
    → (b : ℕ) → Holds new b ↔ (Holds old b ⊎ Contains (take (i + 1) xs) b)
row_put xs i x old now new lt at before after =
    union_more (Holds old) (Holds now) (Holds new) (take i xs) (x ∷ []) (take (i + 1) xs) (next_item xs i x lt at) before
    (λ b. (
      λ h. elim ((after b).0 h) [ inl e ↦ inr (this x b e) | inr k ↦ inl k ],
      λ h. elim h [ inl k ↦ (after b).1 (inr k) | inr k ↦ (after b).1 (inl (only x b k)) ],
    ))

pub row_end : (xs : List ℕ) (i : ℕ) (old now : BitRow) → length xs ≤ i → ((b : ℕ) → Holds now b ↔ (Holds old b ⊎ Contains (take i xs) b)) → (b : ℕ) → Holds now b ↔ (Holds old b ⊎ Contains xs b)
row_end xs i old now le holds = subst (λ (ys : List ℕ). (b : ℕ) → Holds now b ↔ (Holds old b ⊎ Contains ys b)) (take_whole xs i le) holds

-- what some places lead to
pub record IsNextOf (rows : List (List ℕ)) (ps : List ℕ) (f : ℕ) : Type 0 where
  pub place : ℕ
  pub is : Contains ps place
  pub leads : Leads rows place f

pub none_next : (rows : List (List ℕ)) (now : BitRow) → ((b : ℕ) → Holds now b → ⊥) → (f : ℕ) → Holds now f ↔ IsNextOf rows [] f
none_next rows now empty f = (λ h. absurd (empty f h), λ n. let lt = n.is.1 in absurd (omega (arith, lt)))

pub next_put : (rows : List (List ℕ)) (ps : List ℕ) (i p : ℕ) (row : List ℕ) (now new : BitRow) → i < length ps → p ≡ get_or ps i p → slice_get rows p ≡ Some row
    → ((f : ℕ) → Holds now f ↔ IsNextOf rows (take i ps) f) → ((b : ℕ) → Holds new b ↔ (Holds now b ⊎ Contains row b)) → (f : ℕ) → Holds new f ↔ IsNextOf rows (take (i + 1) ps) f
next_put rows ps i p row now new lt at there before after f =
    let more = next_item ps i p lt at in (
      λ h. elim ((after f).0 h) [
        | inl k ↦ let n = (before f).0 k in record { place = n.place; is = subst (λ (ys : List ℕ). Contains ys n.place) (sym more) (Contains-append_left (take i ps) (p ∷ []) n.place n.is); leads = n.leads }
        | inr c ↦ record { place = p; is = subst (λ (ys : List ℕ). Contains ys p) (sym more) (Contains-push (take i ps) p); leads = record { row = row; at = there; stands = c } }
      ],
      λ n. elim (Contains-push_cases (take i ps) p n.place (subst (λ (ys : List ℕ). Contains ys n.place) more n.is)) [
        | inl k ↦ (after f).1 (inl ((before f).1 (record { place = n.place; is = k; leads = n.leads })))
        | inr e ↦
            let its : Leads rows p f = subst (λ x. Leads rows x f) (sym e) n.leads in
            (after f).1 (inr (subst (λ (ys : List ℕ). Contains ys f) (same_Some its.row row (sym its.at ∙ there)) its.stands))
      ],
    )

pub next_end : (rows : List (List ℕ)) (from now : BitRow) (ps : List ℕ) (i : ℕ) → length ps ≤ i → ps ≡ members from → ((f : ℕ) → Holds now f ↔ IsNextOf rows (take i ps) f) → (f : ℕ) → Holds now f ↔ IsNext rows from f
next_end rows from now ps i le same holds f =
    let all = subst (λ (ys : List ℕ). (g : ℕ) → Holds now g ↔ IsNextOf rows ys g) (take_whole ps i le ∙ same) holds in (
      λ h. let n = (all f).0 h in record { place = n.place; is = (in_members from n.place).0 n.is; leads = n.leads },
      λ n. (all f).1 (record { place = n.place; is = (in_members from n.place).1 n.is; leads = n.leads }),
    )

pub row_below : (rows : List (List ℕ)) (p n : ℕ) (row : List ℕ) → AreSteps rows → length rows ≤ n → slice_get rows p ≡ Some row → All (λ b. b < n) row
row_below rows p n row steps le at =
    All-from_recursion (λ b. b < n) row (each_by (λ b. b < n) row (λ b h. let lt = steps p b (record { row = row; at = at; stands = contains_by b row h }) in omega (arith, lt, le)))

pub walk_first : (rows : List (List ℕ)) (within from : BitRow) (waiting : List ℕ) → waiting ≡ members from → IsWalk rows within from from waiting
walk_first rows within from waiting same = walk_begins rows within from waiting (subst (λ (ys : List ℕ). (b : ℕ) → Contains ys b ↔ Holds from b) (sym same) (in_members from))

-- a place that waits is one of the rows
pub waits_within : (rows : List (List ℕ)) (within from found : BitRow) (waiting popped : List ℕ) (p : ℕ) → IsWalk rows within from found waiting → waiting ≡ popped ++ p ∷ [] → from.len ≡ length rows → p < length rows
waits_within rows within from found waiting popped p w last size =
    let here : Holds found p = w.known p (subst (λ (zs : List ℕ). Contains zs p) (sym last) (Contains-push popped p)) in
    let lt = held_within found p here in
    let same = w.same in
    omega (arith, lt, same, size)

-- each step is fewer than before
pub fewer_left : (row : List ℕ) (within found new : BitRow) (waiting popped after : List ℕ) (p : ℕ) → waiting ≡ popped ++ p ∷ [] → IsVisit row within found new popped after → length after + (new.len - member_count new) < length waiting + (found.len - member_count found)
fewer_left row within found new waiting popped after p last visit =
    let size : length waiting ≡ length popped + 1 = ap length last ∙ length-append popped (p ∷ []) in
    let left = visit.left in
    omega (arith, size, left)
