-- The region of a global, step by step; and paths as trails.
use Rattle.std.proofs.Common.{◌≡◌, ◌⊎◌, ℕ, Bool, true, false, ◌+◌, ◌-◌, ◌<◌, ◌≤◌, List, [], ◌∷◌, length, get_or, take, refl, sym, subst, ◌∙◌, arith, inl, inr}
use Rattle.std.specs.Prelude.{Some, slice_get, Contains, ◌↔◌}
use Rattle.pw_fix.specs.Row.{Holds, members, member_count}
use Rattle.pw_fix.specs.Table.{HoldsAt}
use Rattle.pw_fix.specs.declared.bit_rows.BitRows.{BitRows}
use Rattle.std.proofs.lemmas.Bool.{cases_eq}
use Rattle.std.proofs.lemmas.Option.{slice_get_within, same_Some}
use Rattle.std.proofs.lemmas.List.Elements.{Contains-append_left, Contains-push, Contains-push_cases}
use Rattle.pw_graph.specs.declared.graph.RefSets.{RefSets}
use Rattle.pw_fix.specs.RowLaws.{members_fit}
use Rattle.pw_graph.proofs.Members.{held_within, in_members, more_members, no_fewer}
use Rattle.pw_graph.proofs.Steps.{take_whole}
use Rattle.std.specs.Bool.{MatchBool, OnTrue, OnFalse}
use Rattle.pw_webs.proofs.WalkLaws.{next_item, item_at}
use Rattle.pw_fix.specs.declared.bit_row.BitRow.{BitRow}
use Rattle.pw_graph.specs.declared.graph.CallGraph.{CallGraph}
use Rattle.pw_graph.specs.CallGraph.{Calls, Path, call, on, References, IsReachedFromUser, ReachesUser, AreRefSets, IsGraph}
use Rattle.pw_webs.specs.Webs.{Region, refers, between, outside}
use Rattle.pw_webs.specs.Walking.{Leads, AreSteps, IsMarked, Trail, first, next, IsReached, IsOutside, IsBetween}

-- ---- calls

pub call_leads : (g : CallGraph) (a b : ℕ) → Calls g a b → Leads g.calls a b
call_leads g a b c = record { row = c.row; at = c.at; stands = c.stands }

pub leads_call : (g : CallGraph) (a b : ℕ) → Leads g.calls a b → Calls g a b
leads_call g a b l = record { row = l.row; at = l.at; stands = l.stands }

-- ---- paths

pub join : (g : CallGraph) {a b c : ℕ} → Path g a b → Path g b c → Path g a c
join g (call a b calls) path = on a b _ calls path
join g (on a b c calls rest) path = on a b _ calls (join g rest path)

trail_path : (g : CallGraph) {a f : ℕ} → Trail g.calls a f → Path g a f
trail_path g (first a b leads) = call a b (leads_call g a b leads)
trail_path g (next a b c trail leads) = join g (trail_path g trail) (call b c (leads_call g b c leads))

before : (rows : List (List ℕ)) {a b c : ℕ} → Leads rows a b → Trail rows b c → Trail rows a c
before rows leads (first b c more) = next _ b c (first _ b leads) more
before rows leads (next b d c trail more) = next _ d c (before rows leads trail) more

path_trail : (g : CallGraph) {a f : ℕ} → Path g a f → Trail g.calls a f
path_trail g (call a b calls) = first a b (call_leads g a b calls)
path_trail g (on a b c calls path) = before g.calls (call_leads g a b calls) (path_trail g path)

back_path : (g : CallGraph) (callers : List (List ℕ)) → ((a b : ℕ) → Leads callers a b ↔ Calls g b a) → {b f : ℕ} → Trail callers b f → Path g f b
back_path g callers are (first b f leads) = call f b ((are b f).0 leads)
back_path g callers are (next b c f trail leads) = on f c b ((are c f).0 leads) (back_path g callers are trail)

path_back : (g : CallGraph) (callers : List (List ℕ)) → ((a b : ℕ) → Leads callers a b ↔ Calls g b a) → {f b : ℕ} → Path g f b → Trail callers b f
path_back g callers are (call f b calls) = first b f ((are b f).1 calls)
path_back g callers are (on f c b calls path) = next b c f (path_back g callers are path) ((are c f).1 calls)

-- ---- what stands between

pub between_is : (g : CallGraph) (callers : List (List ℕ)) (set down up new : BitRow) → ((a b : ℕ) → Leads callers a b ↔ Calls g b a)
    → ((f : ℕ) → Holds down f ↔ IsReached g.calls set f) → ((f : ℕ) → Holds up f ↔ IsReached callers set f) → ((f : ℕ) → Holds new f ↔ (Holds set f ⊎ (Holds down f × Holds up f)))
    → (f : ℕ) → Holds new f ↔ (Holds set f ⊎ IsBetween g set f)
between_is g callers set down up new are downs ups is f = (
  λ h. elim ((is f).0 h) [
    | inl k ↦ inl k
    | inr k ↦
        let d = (downs f).0 k.0 in
        let u = (ups f).0 k.1 in
        inr (record { above = d.place; below = u.place; is_above = d.is; is_below = u.is; down = trail_path g d.trail; up = back_path g callers are u.trail })
  ],
  λ h. elim h [
    | inl k ↦ (is f).1 (inl k)
    | inr b ↦ (is f).1 (inr (
      (downs f).1 (record { place = b.above; is = b.is_above; trail = path_trail g b.down }),
      (ups f).1 (record { place = b.below; is = b.is_below; trail = path_back g callers are b.up }),
    ))
  ],
)

-- ---- the region

-- what has been found of it: it is of the region, has all users, and all that stands between two of it
pub record IsSeed (g : CallGraph) (v : ℕ) (set : BitRow) : Type 0 where
  pub same : set.len ≡ length g.functions
  pub sound : (f : ℕ) → Holds set f → Region g v f
  pub users : (f : ℕ) → References g f v → Holds set f
  pub closed : (f : ℕ) → IsBetween g set f → Holds set f

abbrev IsUser : CallGraph → ℕ → ℕ → Type 0
IsUser g v f = References g f v ⊎ (IsReachedFromUser g f v × ReachesUser g f v)

user_region : (g : CallGraph) (v f : ℕ) → IsUser g v f → Region g v f
user_region g v f (inl r) = refers f r
user_region g v f (inr b) = between b.0.user f b.1.user (refers b.0.user b.0.refers) b.0.path b.1.path (refers b.1.user b.1.refers)

-- a path from a user, or from what a user reaches, is one from a user
from_user : (g : CallGraph) (v a f : ℕ) → IsUser g v a → Path g a f → IsReachedFromUser g f v
from_user g v a f (inl r) path = record { user = a; path = path; refers = r }
from_user g v a f (inr b) path = record { user = b.0.user; path = join g b.0.path path; refers = b.0.refers }

to_user : (g : CallGraph) (v f b : ℕ) → IsUser g v b → Path g f b → ReachesUser g f v
to_user g v f b (inl r) path = record { user = b; path = path; refers = r }
to_user g v f b (inr c) path = record { user = c.1.user; path = join g path c.1.path; refers = c.1.refers }

pub seed_users : (g : CallGraph) (v : ℕ) (set : BitRow) → set.len ≡ length g.functions → ((f : ℕ) → Holds set f ↔ IsUser g v f) → IsSeed g v set
seed_users g v set same is = record {
  same = same;
  sound = λ f h. user_region g v f ((is f).0 h);
  users = λ f r. (is f).1 (inl r);
  closed = λ f b. (is f).1 (inr (from_user g v b.above f ((is b.above).0 b.is_above) b.down, to_user g v f b.below ((is b.below).0 b.is_below) b.up));
}

-- what callers outside are put in, and then all that stands between
pub seed_more : (g : CallGraph) (v : ℕ) (callers : List (List ℕ)) (set more wide new : BitRow) → ((a b : ℕ) → Leads callers a b ↔ Calls g b a) → IsSeed g v set
    → ((f : ℕ) → Holds more f ↔ IsOutside callers set f) → ((f : ℕ) → Holds wide f ↔ (Holds set f ⊎ Holds more f)) → wide.len ≡ set.len
    → ((f : ℕ) → Holds new f ↔ (Holds wide f ⊎ IsBetween g wide f)) → new.len ≡ wide.len → IsSeed g v new
seed_more g v callers set more wide new are seed outs wides wide_len news new_len =
    let wide_sound : (f : ℕ) → Holds wide f → Region g v f = λ f h. elim ((wides f).0 h) [
      | inl k ↦ seed.sound f k
      | inr k ↦
          let o = (outs f).0 k in
          outside o.caller o.member f (seed.sound o.caller o.within) ((are o.member o.caller).0 o.called) (seed.sound o.member o.is) ((are o.member f).0 o.leads)
    ] in
    let above_wide : (f a : ℕ) → Holds new a → Path g a f → (b : ℕ) × Holds wide b × Path g b f = λ f a h path. elim ((news a).0 h) [
      | inl k ↦ (a, k, path)
      | inr k ↦ (k.above, k.is_above, join g k.down path)
    ] in
    let below_wide : (f b : ℕ) → Holds new b → Path g f b → (c : ℕ) × Holds wide c × Path g f c = λ f b h path. elim ((news b).0 h) [
      | inl k ↦ (b, k, path)
      | inr k ↦ (k.below, k.is_below, join g path k.up)
    ] in
    record {
      same = new_len ∙ wide_len ∙ seed.same;
      sound = λ f h. elim ((news f).0 h) [
        | inl k ↦ wide_sound f k
        | inr b ↦ between b.above f b.below (wide_sound b.above b.is_above) b.down b.up (wide_sound b.below b.is_below)
      ];
      users = λ f r. (news f).1 (inl ((wides f).1 (inl (seed.users f r))));
      closed = λ f b.
          let a = above_wide f b.above b.is_above b.down in
          let z = below_wide f b.below b.is_below b.up in
          (news f).1 (inr (record { above = a.0; below = z.0; is_above = a.1; is_below = z.1; down = a.2; up = z.2 }));
    }

module _ (g : CallGraph) (v : ℕ) (callers : List (List ℕ)) (set : BitRow) (are : (a b : ℕ) → Leads callers a b ↔ Calls g b a) (seed : IsSeed g v set) (full : (f : ℕ) → IsOutside callers set f → Holds set f) where
  region_held : {f : ℕ} → Region g v f → Holds set f
  region_held (refers f r) = seed.users f r
  region_held (between a f b ra down up rb) = seed.closed f (record { above = a; below = b; is_above = region_held ra; is_below = region_held rb; down = down; up = up })
  region_held (outside a m f ra calls rm called) =
      full f (record { member = m; caller = a; is = region_held rm; within = region_held ra; called = (are m a).1 calls; leads = (are m f).1 called })

  pub region_is : (f : ℕ) → Holds set f ↔ Region g v f
  region_is f = (seed.sound f, λ r. region_held r)

-- the end of the walk: nothing more is outside
pub region_end : (g : CallGraph) (v : ℕ) (callers : List (List ℕ)) (set more new : BitRow) → ((a b : ℕ) → Leads callers a b ↔ Calls g b a) → IsSeed g v set → ((f : ℕ) → Holds more f ↔ IsOutside callers set f) → ((f : ℕ) → Holds new f ↔ (Holds set f ⊎ Holds more f))
    → ((f : ℕ) → Holds more f → Holds set f) → (f : ℕ) → Holds new f ↔ Region g v f
region_end g v callers set more new are seed outs holds still f = (
  λ h. elim ((holds f).0 h) [ inl k ↦ seed.sound f k | inr k ↦ seed.sound f (still f k) ],
  λ r. (holds f).1 (inl ((region_is g v callers set are seed (λ x o. still x ((outs x).1 o)) f).1 r)),
)

-- and before the end each step finds more
pub region_less : (set more wide new : BitRow) → wide.len ≡ set.len → new.len ≡ wide.len → ((f : ℕ) → Holds wide f ↔ (Holds set f ⊎ Holds more f)) → ((f : ℕ) → Holds wide f → Holds new f) → (k : ℕ) × Holds more k × (Holds set k → ⊥) → new.len - member_count new < set.len - member_count set
region_less set more wide new wide_len new_len holds wider added =
    let one : member_count set < member_count wide = more_members set wide added.0 (sym wide_len) (λ f h. (holds f).1 (inl h)) ((holds added.0).1 (inr added.1)) added.2 in
    let two : member_count wide ≤ member_count new = no_fewer wide new (sym new_len) wider in
    let fit : member_count new ≤ new.len = members_fit new.len new refl in
    omega (arith, one, two, fit, wide_len, new_len)

-- ---- whether one of a row stands in a set

pub if_true : (b : Bool) (P Q : Type 0) → MatchBool b P Q → b ≡ true → P
if_true true P Q h e = h
if_true false P Q h e = absurd cc

pub if_false : (b : Bool) (P Q : Type 0) → MatchBool b P Q → b ≡ false → Q
if_false true P Q h e = absurd cc
if_false false P Q h e = h

pub on_true : (b : Bool) (P : Type 0) → OnTrue b P → b ≡ true → P
on_true true P h e = h
on_true false P h e = absurd cc

pub on_false : (b : Bool) (P : Type 0) → OnFalse b P → b ≡ false → P
on_false true P h e = absurd cc
on_false false P h e = h

pub none_first : (P : ℕ → Type 0) (b : ℕ) → Contains [] b → P b → ⊥
none_first P b c h = let lt = c.1 in omega (arith, lt)

pub none_more : (P : ℕ → Type 0) (row : List ℕ) (i p : ℕ) → i < length row → p ≡ get_or row i p → (P p → ⊥) → ((b : ℕ) → Contains (take i row) b → P b → ⊥) → (b : ℕ) → Contains (take (i + 1) row) b → P b → ⊥
none_more P row i p lt at lacks before b c h = elim (Contains-push_cases (take i row) p b (subst (λ (ys : List ℕ). Contains ys b) (next_item row i p lt at) c)) [
  | inl k ↦ before b k h
  | inr e ↦ lacks (subst P (sym e) h)
]

pub none_end : (P : ℕ → Type 0) (row : List ℕ) (i : ℕ) → length row ≤ i → ((b : ℕ) → Contains (take i row) b → P b → ⊥) → (b : ℕ) → Contains row b → P b → ⊥
none_end P row i le before = subst (λ (ys : List ℕ). (b : ℕ) → Contains ys b → P b → ⊥) (take_whole row i le) before

pub stands_at : (row : List ℕ) (i d : ℕ) → i < length row → Contains row (get_or row i d)
stands_at row i d lt = (i, lt, sym (item_at row i d lt))

-- ---- the loops

pub none_user : (P : ℕ → Type 0) (now : BitRow) → ((b : ℕ) → Holds now b → ⊥) → (f : ℕ) → Holds now f ↔ ((f < 0) × P f)
none_user P now empty f = (λ h. absurd (empty f h), λ w. absurd (omega (arith, w.0)))

pub user_put : (P : ℕ → Type 0) (i : ℕ) (now new : BitRow) → ((f : ℕ) → Holds now f ↔ ((f < i) × P f)) → ((f : ℕ) → Holds new f ↔ (Holds now f ⊎ ((f ≡ i) × P i))) → (f : ℕ) → Holds new f ↔ ((f < i + 1) × P f)
user_put P i now new before after f = (
  λ h. elim ((after f).0 h) [
    | inl k ↦ let w = (before f).0 k in (omega (arith, w.0), w.1)
    | inr w ↦ (omega (arith, w.0), subst P (sym w.0) w.1)
  ],
  λ w. elim (cases_eq f i) [
    | inl e ↦ (after f).1 (inr (e, subst P e w.1))
    | inr other ↦ (after f).1 (inl ((before f).1 (omega (arith, w.0, other), w.1)))
  ],
)

row_there : (table : BitRows) (f v : ℕ) → HoldsAt table f v → f < length table.rows.items
row_there table f v h = slice_get_within table.rows.items f h.0 h.1

pub users_end : (g : CallGraph) (sets : RefSets) (v n : ℕ) (now : BitRow) → AreRefSets g sets → length g.functions ≤ n → n ≤ length g.functions → ((f : ℕ) → Holds now f ↔ ((f < n) × IsMarked sets f v)) → (f : ℕ) → Holds now f ↔ (References g f v ⊎ (IsReachedFromUser g f v × ReachesUser g f v))
users_end g sets v n now are le ge holds f = (
  λ h. elim ((holds f).0 h).1 [
    | inl k ↦ inl ((are.itself.of f v).0 k)
    | inr k ↦ inr ((are.from_callers.of f v).0 k.0, (are.from_callees.of f v).0 k.1)
  ],
  λ u. elim u [
    | inl r ↦
        let k = (are.itself.of f v).1 r in
        let lt = row_there sets.l_ref f v k in
        let size = are.itself.count in
        (holds f).1 (omega (arith, lt, size, le, sets.l_ref.rows.ok.0), inl k)
    | inr b ↦
        let p = (are.from_callers.of f v).1 b.0 in
        let c = (are.from_callees.of f v).1 b.1 in
        let lt = row_there sets.p_ref f v p in
        let size = are.from_callers.count in
        (holds f).1 (omega (arith, lt, size, le, sets.p_ref.rows.ok.0), inr (p, c))
  ],
)

pub both_put : (one other : BitRow) (i : ℕ) (old now new : BitRow) → ((f : ℕ) → Holds now f ↔ (Holds old f ⊎ ((f < i) × Holds one f × Holds other f))) → ((f : ℕ) → Holds new f ↔ (Holds now f ⊎ ((f ≡ i) × Holds one i × Holds other i)))
    → (f : ℕ) → Holds new f ↔ (Holds old f ⊎ ((f < i + 1) × Holds one f × Holds other f))
both_put one other i old now new before after f = (
  λ h. elim ((after f).0 h) [
    | inl k ↦ elim ((before f).0 k) [ inl o ↦ inl o | inr w ↦ inr (omega (arith, w.0), w.1, w.2) ]
    | inr w ↦ inr (omega (arith, w.0), subst (Holds one) (sym w.0) w.1, subst (Holds other) (sym w.0) w.2)
  ],
  λ h. elim h [
    | inl o ↦ (after f).1 (inl ((before f).1 (inl o)))
    | inr w ↦ elim (cases_eq f i) [
      | inl e ↦ (after f).1 (inr (e, subst (Holds one) e w.1, subst (Holds other) e w.2))
      | inr apart ↦ (after f).1 (inl ((before f).1 (inr (omega (arith, w.0, apart), w.1, w.2))))
    ]
  ],
)

pub both_end : (one other : BitRow) (i : ℕ) (old now : BitRow) → one.len ≤ i → ((f : ℕ) → Holds now f ↔ (Holds old f ⊎ ((f < i) × Holds one f × Holds other f))) → (f : ℕ) → Holds now f ↔ (Holds old f ⊎ (Holds one f × Holds other f))
both_end one other i old now le holds f = (
  λ h. elim ((holds f).0 h) [ inl o ↦ inl o | inr w ↦ inr (w.1, w.2) ],
  λ h. elim h [
    | inl o ↦ (holds f).1 (inl o)
    | inr w ↦ let lt = held_within one f w.0 in (holds f).1 (inr (omega (arith, lt, le), w.0, w.1))
  ],
)

-- callers outside, member by member
pub record IsOutsideOf (callers : List (List ℕ)) (set : BitRow) (ps : List ℕ) (f : ℕ) : Type 0 where
  pub member : ℕ
  pub caller : ℕ
  pub is : Contains ps member
  pub within : Holds set caller
  pub called : Leads callers member caller
  pub leads : Leads callers member f

pub none_outside : (callers : List (List ℕ)) (set now : BitRow) → ((b : ℕ) → Holds now b → ⊥) → (f : ℕ) → Holds now f ↔ IsOutsideOf callers set [] f
none_outside callers set now empty f = (λ h. absurd (empty f h), λ n. let lt = n.is.1 in absurd (omega (arith, lt)))

pub outside_put : (callers : List (List ℕ)) (set : BitRow) (ps : List ℕ) (i p : ℕ) (row : List ℕ) (now new : BitRow) → i < length ps → p ≡ get_or ps i p → slice_get callers p ≡ Some row
    → ((f : ℕ) → Holds now f ↔ IsOutsideOf callers set (take i ps) f) → ((f : ℕ) → Holds new f ↔ (Holds now f ⊎ (Contains row f × ((b : ℕ) × Contains row b × Holds set b)))) → (f : ℕ) → Holds new f ↔ IsOutsideOf callers set (take (i + 1) ps) f
outside_put callers set ps i p row now new lt at there before after f =
    let more = next_item ps i p lt at in (
      λ h. elim ((after f).0 h) [
        | inl k ↦ let n = (before f).0 k in record { member = n.member; caller = n.caller; is = subst (λ (ys : List ℕ). Contains ys n.member) (sym more) (Contains-append_left (take i ps) (p ∷ []) n.member n.is); within = n.within; called = n.called; leads = n.leads }
        | inr c ↦ record { member = p; caller = c.1.0; is = subst (λ (ys : List ℕ). Contains ys p) (sym more) (Contains-push (take i ps) p); within = c.1.2; called = record { row = row; at = there; stands = c.1.1 }; leads = record { row = row; at = there; stands = c.0 } }
      ],
      λ n. elim (Contains-push_cases (take i ps) p n.member (subst (λ (ys : List ℕ). Contains ys n.member) more n.is)) [
        | inl k ↦ (after f).1 (inl ((before f).1 (record { member = n.member; caller = n.caller; is = k; within = n.within; called = n.called; leads = n.leads })))
        | inr e ↦
            let its : Leads callers p f = subst (λ x. Leads callers x f) (sym e) n.leads in
            let by : Leads callers p n.caller = subst (λ x. Leads callers x n.caller) (sym e) n.called in
            (after f).1 (inr (
              subst (λ (ys : List ℕ). Contains ys f) (same_Some its.row row (sym its.at ∙ there)) its.stands,
              (n.caller, subst (λ (ys : List ℕ). Contains ys n.caller) (same_Some by.row row (sym by.at ∙ there)) by.stands, n.within),
            ))
      ],
    )

pub outside_end : (callers : List (List ℕ)) (set now : BitRow) (ps : List ℕ) (i : ℕ) → length ps ≤ i → ps ≡ members set → ((f : ℕ) → Holds now f ↔ IsOutsideOf callers set (take i ps) f) → (f : ℕ) → Holds now f ↔ IsOutside callers set f
outside_end callers set now ps i le same holds f =
    let all = subst (λ (ys : List ℕ). (g : ℕ) → Holds now g ↔ IsOutsideOf callers set ys g) (take_whole ps i le ∙ same) holds in (
      λ h. let n = (all f).0 h in record { member = n.member; caller = n.caller; is = (in_members set n.member).0 n.is; within = n.within; called = n.called; leads = n.leads },
      λ n. (all f).1 (record { member = n.member; caller = n.caller; is = (in_members set n.member).1 n.is; within = n.within; called = n.called; leads = n.leads }),
    )

pub steps_callees : (g : CallGraph) → IsGraph g → (rows : List (List ℕ)) → rows ≡ g.calls → AreSteps rows
steps_callees g graph rows same = subst AreSteps (sym same) (λ a b l. let lt = graph.calls_within a b (leads_call g a b l) in let size = graph.call_rows in omega (arith, lt, size))

pub steps_callers : (g : CallGraph) → IsGraph g → (rows : List (List ℕ)) → ((a b : ℕ) → Leads rows a b ↔ Calls g b a) → length rows ≡ length g.functions → AreSteps rows
steps_callers g graph rows are size a b l =
    let c = (are a b).0 l in
    let lt = slice_get_within g.calls b c.row c.at in
    let calls = graph.call_rows in
    omega (arith, lt, size, calls)

pub steps_both : (g : CallGraph) → IsGraph g → (rows : List (List ℕ)) → ((a b : ℕ) → Leads rows a b ↔ (Calls g a b ⊎ Calls g b a)) → length rows ≡ length g.functions → AreSteps rows
steps_both g graph rows are size a b l = elim ((are a b).0 l) [
  | inl c ↦ let lt = graph.calls_within a b c in omega (arith, lt, size)
  | inr c ↦ let lt = slice_get_within g.calls b c.row c.at in let calls = graph.call_rows in omega (arith, lt, size, calls)
]
