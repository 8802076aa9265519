-- The parts of a region are its webs.
use Rattle.std.proofs.Common.{◌≡◌, ◌≢◌, ◌⊎◌, ℕ, suc, ◌+◌, ◌*◌, ◌<◌, ◌≤◌, ◌==◌, Bool, true, false, List, [], ◌∷◌, length, get_or, map, take, refl, sym, ap, subst, ◌∙◌, arith, inl, inr}
use Rattle.std.specs.Prelude.{Some, slice_get, Contains, ◌↔◌, if◌then◌else◌, IsTrue, ℤ, pos, ◌+ℤ◌}
use Rattle.std.specs.List.{sum_by, AllByRecursion}
use Rattle.std.specs.List.Sorted.{IsStrictlyIncreasing}
use Rattle.std.specs.Bool.{MatchBool}
use Rattle.std.proofs.lemmas.Bool.{eq-eqb, ne_eqb}
use Rattle.std.proofs.lemmas.Option.{slice_get_read, get_or_from_slice_get, same_Some}
use Rattle.std.proofs.lemmas.List.Elements.{Contains-push_cases}
use Rattle.std.proofs.lemmas.List.Sums.{sum_by-cons}
use Rattle.pw_graph.proofs.Steps.{take_whole}
use Rattle.pw_webs.proofs.WalkLaws.{next_item, item_at}
use Rattle.pw_fix.specs.Row.{Holds, members as numbers}
use Rattle.pw_fix.specs.declared.bit_row.BitRow.{BitRow}
use Rattle.pw_files.proofs.Standing.{Has, has_by, contains_by, has_each, each_by}
use Rattle.pw_graph.specs.declared.graph.CallGraph.{CallGraph}
use Rattle.pw_graph.specs.CallGraph.{Calls, Writes, IsGraph}
use Rattle.pw_graph.proofs.Members.{in_members}
use Rattle.pw_graph.proofs.Lists.{has_at}
use Rattle.pw_webs.specs.Webs.{Region, Joined, self, forth, back, IsWeb, weight}
use Rattle.pw_webs.specs.Walking.{Leads, Part, alone, beside, AreEntries}

module _ (g : CallGraph) (v : ℕ) (both callers : List (List ℕ)) (region : BitRow) (is_both : (a b : ℕ) → Leads both a b ↔ (Calls g a b ⊎ Calls g b a)) (are : (a b : ℕ) → Leads callers a b ↔ Calls g b a) (is : (f : ℕ) → Holds region f ↔ Region g v f) where
  part_joined : {root f : ℕ} → Part both region root f → Joined g v root f
  part_joined (alone h) = self _ ((is _).0 h)
  part_joined (beside a b part leads within) = elim ((is_both a b).0 leads) [
    | inl calls ↦ forth _ a b (part_joined part) calls ((is b).0 within)
    | inr calls ↦ back _ a b (part_joined part) calls ((is b).0 within)
  ]

  joined_part : {root f : ℕ} → Joined g v root f → Part both region root f
  joined_part (self a r) = alone ((is a).1 r)
  joined_part (forth a b c joined calls r) = beside b c (joined_part joined) ((is_both b c).1 (inl calls)) ((is c).1 r)
  joined_part (back a b c joined calls r) = beside b c (joined_part joined) ((is_both b c).1 (inr calls)) ((is c).1 r)

  pub part_is : (root f : ℕ) → Part both region root f ↔ Joined g v root f
  part_is root f = (λ p. part_joined p, λ j. joined_part j)

  part_within : {root f : ℕ} → Part both region root f → Holds region f
  part_within (alone h) = h
  part_within (beside a b part leads within) = within

  -- the members with their entries are a web
  pub is_web : (root : ℕ) (members entries : BitRow) → Holds region root → ((f : ℕ) → Holds members f ↔ Part both region root f) → AreEntries callers region (numbers members) entries → IsWeb g v (numbers members) (numbers entries)
  is_web root members entries stands parts are_entries = record {
    root = root;
    within = (is root).0 stands;
    of = λ f. (
      λ c. part_joined ((parts f).0 ((in_members members f).0 c)),
      λ j. (in_members members f).1 ((parts f).1 (joined_part j)),
    );
    entries_within = λ f c. are_entries.within f ((in_members entries f).0 c);
    entry = λ f c has. are_entries.entry f has.caller ((in_members entries f).0 c) ((are f has.caller).1 has.calls) ((is has.caller).1 has.within);
    others = λ f c. elim (are_entries.others f c) [
      | inl e ↦ inl ((in_members entries f).1 e)
      | inr b ↦ inr (record { caller = b.0; calls = (are f b.0).0 b.1; within = (is b.0).0 b.2 })
    ];
  }

-- ---- weights

abbrev pub counted : ℕ → ℕ × ℕ × ℕ → ℕ
counted v r = if r.0 == v then r.1 + r.2 else 0

sum_none : (v : ℕ) (row : List (ℕ × ℕ × ℕ)) → ((x : ℕ × ℕ × ℕ) → Has x row → x.0 ≢ v) → sum_by (counted v) row ≡ 0
sum_none v [] none = refl
sum_none v (x ∷ row) none =
    let here : counted v x ≡ 0 = ap (λ (b : Bool). if b then (x.1 + x.2) else 0) (ne_eqb x.0 v (none x (inl refl))) in
    sum_by-cons (counted v) x row ∙ omega (arith, here, sum_none v row (λ y h. none y (inr h)))

-- the keys of a row rise
abbrev Rises : List (ℕ × ℕ × ℕ) → Type 0
Rises [] = Unit {0}
Rises (x ∷ row) = AllByRecursion (λ y. x.0 < y.0) row × Rises row

sum_one : (v r w : ℕ) (row : List (ℕ × ℕ × ℕ)) → Rises row → Has (v, r, w) row → sum_by (counted v) row ≡ r + w
sum_one v r w [] up h = absurd h
sum_one v r w (x ∷ row) up (inl e) =
    let key : x.0 ≡ v = ap (λ (t : ℕ × ℕ × ℕ). t.0) e in
    let here : counted v x ≡ x.1 + x.2 = ap (λ (b : Bool). if b then (x.1 + x.2) else 0) (eq-eqb x.0 v key) in
    let reads : x.1 ≡ r = ap (λ (t : ℕ × ℕ × ℕ). t.1) e in
    let writes : x.2 ≡ w = ap (λ (t : ℕ × ℕ × ℕ). t.2) e in
    let rest : sum_by (counted v) row ≡ 0 = sum_none v row (λ y k same. let lt : x.0 < y.0 = has_each (λ z. x.0 < z.0) row y up.0 k in omega (arith, lt, key, same)) in
    sum_by-cons (counted v) x row ∙ omega (arith, here, reads, writes, rest)
sum_one v r w (x ∷ row) up (inr h) =
    let lt : x.0 < v = has_each (λ z. x.0 < z.0) row (v, r, w) up.0 h in
    let here : counted v x ≡ 0 = ap (λ (b : Bool). if b then (x.1 + x.2) else 0) (ne_eqb x.0 v (λ e. omega (arith, lt, e))) in
    sum_by-cons (counted v) x row ∙ omega (arith, here, sum_one v r w row up.1 h)

up_shifted : (x : ℕ × ℕ × ℕ) (row : List (ℕ × ℕ × ℕ)) (k : ℕ) → get_or (map (λ t. t.0) (x ∷ row)) (suc k) 0 < get_or (map (λ t. t.0) (x ∷ row)) (suc k + 1) 0 → get_or (map (λ t. t.0) row) k 0 < get_or (map (λ t. t.0) row) (k + 1) 0
up_shifted x row k lt = let e : suc k + 1 ≡ suc (k + 1) = omega arith in subst (λ m. get_or (map (λ t. t.0) row) k 0 < get_or (map (λ t. t.0) (x ∷ row)) m 0) e lt

key_below : (x : ℕ × ℕ × ℕ) (row : List (ℕ × ℕ × ℕ)) → IsStrictlyIncreasing (map (λ t. t.0) (x ∷ row)) → IsStrictlyIncreasing (map (λ t. t.0) row)
key_below x row up k lt =
    let at : suc k + 1 < length (map (λ t. t.0) (x ∷ row)) = omega (arith, lt) in
    up_shifted x row k (up (suc k) at)

-- from the keys by places
first_below : (x : ℕ × ℕ × ℕ) (row : List (ℕ × ℕ × ℕ)) → IsStrictlyIncreasing (map (λ t. t.0) (x ∷ row)) → AllByRecursion (λ y. x.0 < y.0) row
first_below x [] up = tt
first_below x (y ∷ row) up =
    let lt : x.0 < y.0 = up 0 (omega arith) in
    (lt, each_by (λ z. x.0 < z.0) row (λ z h. let far : y.0 < z.0 = has_each (λ t. y.0 < t.0) row z (first_below y row (key_below x (y ∷ row) up)) h in omega (arith, lt, far)))

rises : (row : List (ℕ × ℕ × ℕ)) → IsStrictlyIncreasing (map (λ t. t.0) row) → Rises row
rises [] up = tt
rises (x ∷ row) up = (first_below x row up, rises row (key_below x row up))

pub row_weight : (v r w : ℕ) (row : List (ℕ × ℕ × ℕ)) → IsStrictlyIncreasing (map (λ t. t.0) row) → Contains row (v, r, w) ⊎ ((r ≡ 0) × (w ≡ 0) × ((reads writes : ℕ) → Contains row (v, reads, writes) → ⊥)) → sum_by (counted v) row ≡ r + w
row_weight v r w row up (inl c) = sum_one v r w row (rises row up) (has_by (v, r, w) row c)
row_weight v r w row up (inr none) =
    let sum : sum_by (counted v) row ≡ 0 = sum_none v row (λ x h e. none.2 x.1 x.2 (contains_by (v, x.1, x.2) row (subst (λ (t : ℕ × ℕ × ℕ). Has t row) (ap (λ k. (k, x.1, x.2)) e) h))) in
    omega (arith, sum, none.0, none.1)

each_at : {X : Type 0} (P : X → Type 0) (xs : List X) (i : ℕ) (x : X) → AllByRecursion P xs → slice_get xs i ≡ Some x → P x
each_at P xs i x all at = has_each P xs x all (has_at xs i x at)

-- the weight of a function, from its row
pub weight_at : (g : CallGraph) → IsGraph g → (v f r w : ℕ) (row : List (ℕ × ℕ × ℕ)) → slice_get g.refs f ≡ Some row → Contains row (v, r, w) ⊎ ((r ≡ 0) × (w ≡ 0) × ((reads writes : ℕ) → Contains row (v, reads, writes) → ⊥)) → weight g v f ≡ r + w
weight_at g graph v f r w row at found =
    ap (λ (xs : List (ℕ × ℕ × ℕ)). sum_by (counted v) xs) (get_or_from_slice_get g.refs f row [] at)
    ∙ row_weight v r w row (each_at (λ (xs : List (ℕ × ℕ × ℕ)). IsStrictlyIncreasing (map (λ t. t.0) xs)) g.refs f row graph.refs_rise at) found

pub weight_small : (g : CallGraph) → IsGraph g → (v f r w : ℕ) (row : List (ℕ × ℕ × ℕ)) → slice_get g.refs f ≡ Some row → Contains row (v, r, w) ⊎ ((r ≡ 0) × (w ≡ 0) × ((reads writes : ℕ) → Contains row (v, reads, writes) → ⊥)) → (r < 4294967296) × (w < 4294967296)
weight_small g graph v f r w row at (inl c) = graph.weights f v r w (record { row = row; at = at; stands = c })
weight_small g graph v f r w row at (inr none) = (omega (arith, none.0), omega (arith, none.1))

-- whether it writes
pub writes_at : (g : CallGraph) (v f r w : ℕ) (row : List (ℕ × ℕ × ℕ)) → slice_get g.refs f ≡ Some row → Contains row (v, r, w) ⊎ ((r ≡ 0) × (w ≡ 0) × ((reads writes : ℕ) → Contains row (v, reads, writes) → ⊥)) → 0 < w → Writes g f v
writes_at g v f r w row at (inl c) lt = record { reads = r; writes = w; weighs = record { row = row; at = at; stands = c }; some = lt }
writes_at g v f r w row at (inr none) lt = absurd (omega (arith, none.1, lt))

same_key : (v r w a b : ℕ) (row : List (ℕ × ℕ × ℕ)) → Rises row → Has (v, r, w) row → Has (v, a, b) row → w ≡ b
same_key v r w a b [] up h k = absurd h
same_key v r w a b (x ∷ row) up (inl e) (inl d) = sym (ap (λ (t : ℕ × ℕ × ℕ). t.2) e) ∙ ap (λ (t : ℕ × ℕ × ℕ). t.2) d
same_key v r w a b (x ∷ row) up (inl e) (inr k) = let lt : x.0 < v = has_each (λ z. x.0 < z.0) row (v, a, b) up.0 k in let key : x.0 ≡ v = ap (λ (t : ℕ × ℕ × ℕ). t.0) e in absurd (omega (arith, lt, key))
same_key v r w a b (x ∷ row) up (inr h) (inl d) = let lt : x.0 < v = has_each (λ z. x.0 < z.0) row (v, r, w) up.0 h in let key : x.0 ≡ v = ap (λ (t : ℕ × ℕ × ℕ). t.0) d in absurd (omega (arith, lt, key))
same_key v r w a b (x ∷ row) up (inr h) (inr k) = same_key v r w a b row up.1 h k

pub no_write_at : (g : CallGraph) → IsGraph g → (v f r w : ℕ) (row : List (ℕ × ℕ × ℕ)) → slice_get g.refs f ≡ Some row → Contains row (v, r, w) ⊎ ((r ≡ 0) × (w ≡ 0) × ((reads writes : ℕ) → Contains row (v, reads, writes) → ⊥)) → w ≤ 0 → Writes g f v → ⊥
no_write_at g graph v f r w row at (inl c) le writes =
    let k = writes.weighs in
    let row_is : k.row ≡ row = same_Some k.row row (sym k.at ∙ at) in
    let there = subst (λ (xs : List (ℕ × ℕ × ℕ)). Contains xs (v, writes.reads, writes.writes)) row_is k.stands in
    let e : w ≡ writes.writes = same_key v r w writes.reads writes.writes row (rises row (each_at (λ (xs : List (ℕ × ℕ × ℕ)). IsStrictlyIncreasing (map (λ t. t.0) xs)) g.refs f row graph.refs_rise at)) (has_by (v, r, w) row c) (has_by (v, writes.reads, writes.writes) row there) in
    omega (arith, e, le, writes.some)
no_write_at g graph v f r w row at (inr none) le writes =
    let k = writes.weighs in
    let row_is : k.row ≡ row = same_Some k.row row (sym k.at ∙ at) in
    none.2 writes.reads writes.writes (subst (λ (xs : List (ℕ × ℕ × ℕ)). Contains xs (v, writes.reads, writes.writes)) row_is k.stands)

-- ---- looking for a global in a row

pub key_none : (v reads writes : ℕ) → Contains {X = ℕ × ℕ × ℕ} [] (v, reads, writes) → ⊥
key_none v reads writes c = let lt = c.1 in omega (arith, lt)

pub key_here : (row : List (ℕ × ℕ × ℕ)) (i v : ℕ) → i < length row → (get_or row i (0, 0, 0)).0 ≡ v → Contains row (v, (get_or row i (0, 0, 0)).1, (get_or row i (0, 0, 0)).2)
key_here row i v lt same =
    let x = get_or row i (0, 0, 0) in
    subst (λ k. Contains row (k, x.1, x.2)) same (i, lt, sym (item_at row i (0, 0, 0) lt))

pub key_more : (row : List (ℕ × ℕ × ℕ)) (i v : ℕ) → i < length row → ((get_or row i (0, 0, 0)).0 ≡ v → ⊥) → ((reads writes : ℕ) → Contains (take i row) (v, reads, writes) → ⊥) → (reads writes : ℕ) → Contains (take (i + 1) row) (v, reads, writes) → ⊥
key_more row i v lt other before reads writes c =
    let x = get_or row i (0, 0, 0) in
    elim (Contains-push_cases (take i row) x (v, reads, writes) (subst (λ (ys : List (ℕ × ℕ × ℕ)). Contains ys (v, reads, writes)) (next_item row i x lt (item_at row i (0, 0, 0) lt)) c)) [
      | inl k ↦ before reads writes k
      | inr e ↦ other (ap (λ (t : ℕ × ℕ × ℕ). t.0) e)
    ]

pub key_end : (row : List (ℕ × ℕ × ℕ)) (i v : ℕ) → length row ≤ i → ((reads writes : ℕ) → Contains (take i row) (v, reads, writes) → ⊥) → (reads writes : ℕ) → Contains row (v, reads, writes) → ⊥
key_end row i v le before = subst (λ (ys : List (ℕ × ℕ × ℕ)). (reads writes : ℕ) → Contains ys (v, reads, writes) → ⊥) (take_whole row i le) before

-- ---- sums of weights

pub row_at : (g : CallGraph) (f : ℕ) (row read : List (ℕ × ℕ × ℕ)) (refs : List (List (ℕ × ℕ × ℕ))) → refs ≡ g.refs → f < length refs → row ≡ get_or refs f row → read ≡ row → slice_get g.refs f ≡ Some read
row_at g f row read refs same lt at is =
    let there : slice_get refs f ≡ Some row = slice_get_read refs (length refs) f row refl lt at in
    subst (λ (xs : List (ℕ × ℕ × ℕ)). slice_get g.refs f ≡ Some xs) (sym is) (subst (λ (rs : List (List (ℕ × ℕ × ℕ))). slice_get rs f ≡ Some row) same there)

-- ---- what a web says of itself

pub writes_iff : (g : CallGraph) (v : ℕ) (members : BitRow) (ps : List ℕ) (b : Bool) → ps ≡ numbers members → MatchBool b ((f : ℕ) × Contains ps f × Writes g f v) ((f : ℕ) → Contains ps f → Writes g f v → ⊥) → IsTrue b ↔ ((f : ℕ) × Holds members f × Writes g f v)
writes_iff g v members ps true same h = (λ t. (h.0, (in_members members h.0).0 (subst (λ (ys : List ℕ). Contains ys h.0) same h.1), h.2), λ w. refl)
writes_iff g v members ps false same h = (λ t. absurd (let e : false ≡ true = t in cc), λ w. absurd (h w.0 (subst (λ (ys : List ℕ). Contains ys w.0) (sym same) ((in_members members w.0).1 w.1)) w.2))

pub priority_is : (p q : ℤ) (k n m t s : ℕ) → p ≡ q → q +ℤ pos (k * n) ≡ pos t → n ≡ m → t ≡ s → p +ℤ pos (k * m) ≡ pos s
priority_is p q k n m t s same saved size sums = ap (λ (z : ℤ). z +ℤ pos (k * m)) same ∙ ap (λ x. q +ℤ pos (k * x)) (sym size) ∙ saved ∙ ap pos sums
