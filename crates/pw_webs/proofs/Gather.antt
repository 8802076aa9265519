-- The webs of one global, root by root; and those of all globals.
use Rattle.std.proofs.Common.{◌≡◌, ◌⊎◌, ℕ, zero, suc, ◌+◌, ◌<◌, ◌≤◌, ◌*◌, List, [], ◌∷◌, ◌++◌, length, length-append, get_or, take, refl, sym, ap, subst, ◌∙◌, arith, inl, inr}
use Rattle.std.specs.Prelude.{Some, slice_get, Contains, ◌↔◌}
use Rattle.std.proofs.lemmas.Bool.{cases_eq, cases_lt}
use Rattle.std.proofs.lemmas.Option.{slice_get_within, same_Some}
use Rattle.std.proofs.lemmas.List.Elements.{Contains-append_left, Contains-append_right, Contains-push, Contains-push_cases}
use Rattle.pw_fix.specs.Row.{Holds}
use Rattle.pw_fix.specs.declared.bit_row.BitRow.{BitRow}
use Rattle.pw_files.proofs.Standing.{has_by, contains_by}
use Rattle.pw_graph.specs.declared.graph.CallGraph.{CallGraph}
use Rattle.pw_graph.proofs.Members.{in_members, held_within}
use Rattle.pw_graph.proofs.Lists.{has_at, at_has}
use Rattle.pw_graph.proofs.Steps.{take_whole}
use Rattle.pw_webs.specs.declared.web.RawWeb.{RawWeb}
use Rattle.pw_webs.specs.Webs.{Region, Joined, self, forth, back, IsRawWeb, IsLeastMember, StandsBefore, AreWebs, IsWebAt, IsNextWeb, AreWebsAt}
use Rattle.pw_webs.specs.Walking.{Leads, Chain, start, step, Part, alone, beside, AreEntries}
use Rattle.pw_webs.proofs.WalkLaws.{next_item}
use Rattle.pw_webs.proofs.Closed.{in_region}

-- ---- one part

module _ (rows : List (List ℕ)) (within from : BitRow) (root : ℕ) (stands : Holds within root) (only : (f : ℕ) → Holds from f ↔ (f ≡ root)) where
  chain_part : {f : ℕ} → Chain rows within from f → Part rows within root f
  chain_part (start a h) = subst (Part rows within root) (sym ((only a).0 h)) (alone stands)
  chain_part (step a b chain leads h) = beside a b (chain_part chain) leads h

  part_chain : {f : ℕ} → Part rows within root f → Chain rows within from f
  part_chain (alone h) = start root ((only root).1 refl)
  part_chain (beside a b part leads h) = step a b (part_chain part) leads h

  pub part_is_chain : (found : BitRow) → ((f : ℕ) → Holds found f ↔ Chain rows within from f) → (f : ℕ) → Holds found f ↔ Part rows within root f
  part_is_chain found holds f = (λ h. chain_part ((holds f).0 h), λ p. (holds f).1 (part_chain p))

pub one_root : (from none : BitRow) (root : ℕ) → ((f : ℕ) → Holds none f → ⊥) → ((f : ℕ) → Holds from f ↔ ((f ≡ root) ⊎ Holds none f)) → (f : ℕ) → Holds from f ↔ (f ≡ root)
one_root from none root empty put f = (λ h. elim ((put f).0 h) [ inl e ↦ e | inr k ↦ absurd (empty f k) ], λ e. (put f).1 (inl e))

-- ---- entries

pub no_entries : (callers : List (List ℕ)) (set now : BitRow) → ((f : ℕ) → Holds now f → ⊥) → AreEntries callers set [] now
no_entries callers set now empty = record {
  within = λ f h. absurd (empty f h);
  entry = λ f b h l s. empty f h;
  others = λ f c. let lt = c.1 in absurd (omega (arith, lt));
}

pub entry_put : (callers : List (List ℕ)) (set : BitRow) (ps : List ℕ) (i p : ℕ) (row : List ℕ) (now new : BitRow) → i < length ps → p ≡ get_or ps i p → slice_get callers p ≡ Some row → AreEntries callers set (take i ps) now
    → ((f : ℕ) → Holds now f → Holds new f) → ((f : ℕ) → Holds new f → Holds now f ⊎ ((f ≡ p) × ((b : ℕ) → Contains row b → Holds set b → ⊥))) → Holds new p ⊎ ((b : ℕ) × Contains row b × Holds set b)
    → AreEntries callers set (take (i + 1) ps) new
entry_put callers set ps i p row now new lt at there before kept added either =
    let more = next_item ps i p lt at in
    record {
      within = λ f h. subst (λ (ys : List ℕ). Contains ys f) (sym more) (elim (added f h) [
        | inl k ↦ Contains-append_left (take i ps) (p ∷ []) f (before.within f k)
        | inr w ↦ subst (λ x. Contains (take i ps ++ p ∷ []) x) (sym w.0) (Contains-push (take i ps) p)
      ]);
      entry = λ f b h l s. elim (added f h) [
        | inl k ↦ before.entry f b k l s
        | inr w ↦
            let its : Leads callers p b = subst (λ x. Leads callers x b) w.0 l in
            w.1 b (subst (λ (ys : List ℕ). Contains ys b) (same_Some its.row row (sym its.at ∙ there)) its.stands) s
      ];
      others = λ f c. elim (Contains-push_cases (take i ps) p f (subst (λ (ys : List ℕ). Contains ys f) more c)) [
        | inl k ↦ elim (before.others f k) [ inl h ↦ inl (kept f h) | inr b ↦ inr b ]
        | inr e ↦ elim either [
          | inl h ↦ inl (subst (Holds new) e h)
          | inr b ↦ inr (b.0, subst (λ x. Leads callers x b.0) e (record { row = row; at = there; stands = b.1 }), b.2)
        ]
      ];
    }

pub entries_end : (callers : List (List ℕ)) (set : BitRow) (ps : List ℕ) (i : ℕ) (now : BitRow) → length ps ≤ i → AreEntries callers set (take i ps) now → AreEntries callers set ps now
entries_end callers set ps i now le are = subst (λ (ys : List ℕ). AreEntries callers set ys now) (take_whole ps i le) are

-- ---- joined functions

-- what is joined with one that the other is joined with too is joined with it
pub joined_back : (g : CallGraph) (v r : ℕ) {root h : ℕ} → Joined g v root h → Joined g v r h → Joined g v r root
joined_back g v r (self a region) other = other
joined_back g v r (forth a b c joined calls region) other = joined_back g v r joined (back r c b other calls (in_region joined))
joined_back g v r (back a b c joined calls region) other = joined_back g v r joined (forth r c b other calls (in_region joined))

-- ---- the webs of a global

pub record IsGathered (g : CallGraph) (v : ℕ) (root : ℕ) (ws : List RawWeb) (done : BitRow) : Type 0 where
  pub each : (i : ℕ) (w : RawWeb) → slice_get ws i ≡ Some w → IsWebAt g v w
  pub order : (i j : ℕ) (w u : RawWeb) → i < j → slice_get ws i ≡ Some w → slice_get ws j ≡ Some u → (f h : ℕ) → IsLeastMember w f → IsLeastMember u h → f < h
  pub low : (i : ℕ) (w : RawWeb) → slice_get ws i ≡ Some w → (f : ℕ) × Holds w.members f × (f < root)
  pub done_by : (f : ℕ) → Holds done f ↔ ((i : ℕ) × (w : RawWeb) × (slice_get ws i ≡ Some w) × Holds w.members f)
  pub seen : (f : ℕ) → f < root → Region g v f → Holds done f
  pub count : length ws ≤ root

pub none_gathered : (g : CallGraph) (v : ℕ) (done : BitRow) → ((f : ℕ) → Holds done f → ⊥) → IsGathered g v 0 [] done
none_gathered g v done empty = record {
  each = λ i w e. absurd cc;
  order = λ i j w u lt e d. absurd cc;
  low = λ i w e. absurd cc;
  done_by = λ f. (λ h. absurd (empty f h), λ w. let e = w.2 in absurd cc);
  seen = λ f lt r. absurd (omega (arith, lt));
  count = omega arith;
}

pub gather_skip : (g : CallGraph) (v root : ℕ) (ws : List RawWeb) (done : BitRow) → IsGathered g v root ws done → (Region g v root → Holds done root) → IsGathered g v (root + 1) ws done
gather_skip g v root ws done k here = record {
  each = k.each;
  order = k.order;
  low = λ i w e. let l = k.low i w e in let lt = l.2 in (l.0, l.1, omega (arith, lt));
  done_by = k.done_by;
  seen = λ f lt r. elim (cases_eq f root) [
    | inl e ↦ subst (Holds done) (sym e) (here (subst (Region g v) e r))
    | inr other ↦ k.seen f (omega (arith, lt, other)) r
  ];
  count = let few = k.count in omega (arith, few);
}

at_last : {X : Type 0} (xs : List X) (x y : X) (a : ℕ) → slice_get (xs ++ x ∷ []) a ≡ Some y → ((a ≡ length xs) × (x ≡ y)) ⊎ (slice_get xs a ≡ Some y)
at_last [] x y zero e = inl (refl, same_Some x y e)
at_last [] x y (suc a) e = absurd cc
at_last (z ∷ xs) x y zero e = inr e
at_last (z ∷ xs) x y (suc a) e = elim (at_last xs x y a e) [ inl w ↦ inl (ap suc w.0, w.1) | inr k ↦ inr k ]

last_at : {X : Type 0} (xs : List X) (x : X) → slice_get (xs ++ x ∷ []) (length xs) ≡ Some x
last_at [] x = refl
last_at (z ∷ xs) x = last_at xs x

before_last : {X : Type 0} (xs : List X) (x y : X) (a : ℕ) → slice_get xs a ≡ Some y → slice_get (xs ++ x ∷ []) a ≡ Some y
before_last [] x y a e = absurd cc
before_last (z ∷ xs) x y zero e = e
before_last (z ∷ xs) x y (suc a) e = before_last xs x y a e

pub gather_put : (g : CallGraph) (v root : ℕ) (ws : List RawWeb) (done new : BitRow) (w : RawWeb) → IsGathered g v root ws done → IsNextWeb g v done root w → ((f : ℕ) → Holds new f ↔ (Holds done f ⊎ Holds w.members f)) → IsGathered g v (root + 1) (ws ++ w ∷ []) new
gather_put g v root ws done new w k is put =
    let here : Holds w.members root = (is.of root).1 (self root is.within) in
    -- no member is below the root: it would stand in a web that is done, and so would the root
    let above : (h : ℕ) → Holds w.members h → root ≤ h = λ h m. elim (cases_lt h root) [
      | inr le ↦ le
      | inl lt ↦
          let j = (is.of h).0 m in
          let d = (k.done_by h).0 (k.seen h lt (in_region j)) in
          let u = (k.each d.0 d.1 d.2).raw.web in
          let its = k.each d.0 d.1 d.2 in
          let other : Joined g v u.root h = subst (λ x. Joined g x u.root h) its.its ((u.of h).0 ((in_members d.1.members h).1 d.3)) in
          let root_there : Joined g v u.root root = joined_back g v u.root j other in
          let in_old : Holds d.1.members root = (in_members d.1.members root).0 ((u.of root).1 (subst (λ x. Joined g x u.root root) (sym its.its) root_there)) in
          absurd (is.free ((k.done_by root).1 (d.0, d.1, d.2, in_old)))
    ] in
    record {
      each = λ i u e. elim (at_last ws w u i e) [
        | inl p ↦ subst (IsWebAt g v) p.1 is.web
        | inr q ↦ k.each i u q
      ];
      order = λ i j a b lt ea eb f h lf lh. elim (at_last ws w b j eb) [
        | inl p ↦ elim (at_last ws w a i ea) [
          | inl q ↦ let x = p.0 in let y = q.0 in absurd (omega (arith, x, y, lt))
          | inr q ↦
              let l = k.low i a q in
              let below : f ≤ l.0 = lf.least l.0 l.1 in
              let far = l.2 in
              let up : root ≤ h = above h (subst (λ (z : RawWeb). Holds z.members h) (sym p.1) lh.is) in
              omega (arith, below, far, up)
        ]
        | inr p ↦ elim (at_last ws w a i ea) [
          | inl q ↦ let x = q.0 in let y = slice_get_within ws j b p in absurd (omega (arith, x, y, lt))
          | inr q ↦ k.order i j a b lt q p f h lf lh
        ]
      ];
      low = λ i u e. elim (at_last ws w u i e) [
        | inl p ↦ (root, subst (λ (z : RawWeb). Holds z.members root) p.1 here, omega arith)
        | inr q ↦ let l = k.low i u q in let lt = l.2 in (l.0, l.1, omega (arith, lt))
      ];
      done_by = λ f. (
        λ h. elim ((put f).0 h) [
          | inl d ↦ let p = (k.done_by f).0 d in (p.0, p.1, before_last ws w p.1 p.0 p.2, p.3)
          | inr m ↦ (length ws, w, last_at ws w, m)
        ],
        λ p. elim (at_last ws w p.1 p.0 p.2) [
          | inl q ↦ (put f).1 (inr (subst (λ (z : RawWeb). Holds z.members f) (sym q.1) p.3))
          | inr q ↦ (put f).1 (inl ((k.done_by f).1 (p.0, p.1, q, p.3)))
        ],
      );
      seen = λ f lt r. elim (cases_eq f root) [
        | inl e ↦ (put f).1 (inr (subst (Holds w.members) (sym e) here))
        | inr other ↦ (put f).1 (inl (k.seen f (omega (arith, lt, other)) r))
      ];
      count = let few = k.count in let size : length (ws ++ w ∷ []) ≡ length ws + 1 = length-append ws (w ∷ []) in omega (arith, few, size);
    }

pub gather_end : (g : CallGraph) (v root : ℕ) (ws : List RawWeb) (done region : BitRow) → ((f : ℕ) → Holds region f ↔ Region g v f) → region.len ≤ root → IsGathered g v root ws done → AreWebsAt g v ws
gather_end g v root ws done region is le k = record {
  each = k.each;
  order = k.order;
  all = λ f r.
      let lt = held_within region f ((is f).1 r) in
      let p = (k.done_by f).0 (k.seen f (omega (arith, lt, le)) r) in
      (p.1, contains_by p.1 ws (has_at ws p.0 p.1 p.2), p.3);
}

-- ---- the webs of all globals

pub record AreFound (g : CallGraph) (v : ℕ) (ws : List RawWeb) : Type 0 where
  pub each : (i : ℕ) (w : RawWeb) → slice_get ws i ≡ Some w → IsRawWeb g w × (w.global < v)
  pub order : (i j : ℕ) (w u : RawWeb) → i < j → slice_get ws i ≡ Some w → slice_get ws j ≡ Some u → StandsBefore w u
  pub all : (x f : ℕ) → x < v → Region g x f → (w : RawWeb) × Contains ws w × (w.global ≡ x) × Holds w.members f
  pub count : length ws ≤ v * length g.functions

pub none_found : (g : CallGraph) → AreFound g 0 []
none_found g = record {
  each = λ i w e. absurd cc;
  order = λ i j w u lt e d. absurd cc;
  all = λ x f lt r. absurd (omega (arith, lt));
  count = omega arith;
}

append_at : {X : Type 0} (xs ys : List X) (i : ℕ) (x : X) → slice_get (xs ++ ys) i ≡ Some x → ((slice_get xs i ≡ Some x) × (i < length xs)) ⊎ ((k : ℕ) × (i ≡ length xs + k) × (slice_get ys k ≡ Some x))
append_at [] ys i x e = inr (i, omega arith, e)
append_at (z ∷ xs) ys zero x e = inl (e, omega arith)
append_at (z ∷ xs) ys (suc i) x e = elim (append_at xs ys i x e) [
  | inl p ↦ let lt = p.1 in inl (p.0, omega (arith, lt))
  | inr p ↦ let same = p.1 in inr (p.0, omega (arith, same), p.2)
]

pub found_more : (g : CallGraph) (v : ℕ) (old ws : List RawWeb) → AreFound g v old → AreWebsAt g v ws → length ws ≤ length g.functions → AreFound g (v + 1) (old ++ ws)
found_more g v old ws found more few = record {
  each = λ i w e. elim (append_at old ws i w e) [
    | inl p ↦ let k = found.each i w p.0 in let lt = k.1 in (k.0, omega (arith, lt))
    | inr p ↦ let k = more.each p.0 w p.2 in let same = k.its in (k.raw, omega (arith, same))
  ];
  order = λ i j w u lt e d. elim (append_at old ws i w e) [
    | inl p ↦ elim (append_at old ws j u d) [
      | inl q ↦ found.order i j w u lt p.0 q.0
      | inr q ↦ let low = (found.each i w p.0).1 in let same = (more.each q.0 u q.2).its in inl (omega (arith, low, same))
    ]
    | inr p ↦ elim (append_at old ws j u d) [
      | inl q ↦ let x = p.1 in let y = q.1 in absurd (omega (arith, x, y, lt))
      | inr q ↦
          let x = p.1 in let y = q.1 in
          inr ((more.each p.0 w p.2).its ∙ sym (more.each q.0 u q.2).its, more.order p.0 q.0 w u (omega (arith, x, y, lt)) p.2 q.2)
    ]
  ];
  all = λ x f lt r. elim (cases_eq x v) [
    | inl e ↦
        let k = more.all f (subst (λ y. Region g y f) e r) in
        let at = at_has ws k.0 (has_by k.0 ws k.1) in
        (k.0, Contains-append_right old ws k.0 k.1, (more.each at.0 k.0 at.1).its ∙ sym e, k.2)
    | inr other ↦ let k = found.all x f (omega (arith, lt, other)) r in (k.0, Contains-append_left old ws k.0 k.1, k.2, k.3)
  ];
  count =
      let size : length (old ++ ws) ≡ length old + length ws = length-append old ws in
      let before = found.count in
      omega (arith, size, before, few);
}

pub found_all : (g : CallGraph) (v : ℕ) (ws : List RawWeb) → v ≤ length g.globals → length g.globals ≤ v → AreFound g v ws → AreWebs g ws
found_all g v ws low high found = record {
  each = λ i w e. (found.each i w e).0;
  order = found.order;
  all = λ x f lt r. found.all x f (omega (arith, lt, high)) r;
}

pub found_few : (g : CallGraph) (v : ℕ) (ws : List RawWeb) → v ≤ length g.globals → length g.globals ≤ v → AreFound g v ws → length ws ≤ length g.globals * length g.functions
found_few g v ws low high found = let e : v ≡ length g.globals = omega (arith, low, high) in subst (λ n. length ws ≤ n * length g.functions) e found.count
