-- What blocks the code of a statement begins.
use Rattle.std.proofs.Common.{◌≡◌, ℕ, ◌+◌, ◌<◌, ◌≤◌, ◌==◌, Bool, true, false, true≢false, ◌||◌, if◌then◌else◌, nat_eq, Option, Some, None, List, [], ◌∷◌, ◌++◌, map, length, refl, ap, sym, subst, ◌∙◌, arith, eqb-true, append_assoc}
use Rattle.std.specs.Prelude.{not, cond, nat_lt, option_to_list, Contains}
use Rattle.std.specs.List.{AllByRecursion, IsDistinct}
use Rattle.std.proofs.lemmas.List.{append-nil}
use Rattle.std.proofs.lemmas.List.Elements.{recursion_from_All}
use Rattle.pw_value.specs.declared.value.Kind.{Kind}
use Rattle.pw_types.specs.Labels.{labels_in, labels_among, labels_of_arms, labels_behind, cases_in, cases_among, cases_of_arms, cases_behind}
use Rattle.pw_types.specs.TypedModules.{IsSwitch, IsStatement, AreStatements, AreArms, IsElse}
use Rattle.pw_types.specs.WellTyped.{type_in}
use Rattle.pw_types.specs.TypeTrees.{CType, RecordValue}
use Rattle.pw_types.specs.TypedTrees.{Expression, Initialiser, Value, Bytes, Hidden, CaseValue, Statement, Empty, Evaluate, Block, If, While, Do, For, Switch, Label, Return, Arms, NoArm, Arm, Otherwise, NoElse, Else, Statements, NoStatement, OneStatement, LocalValue, FunctionValue, ModuleValue}
use Rattle.pw_flow.specs.declared.flow.Op.TheVariants as op
use Rattle.pw_flow.specs.declared.flow.BinKind.{BinKind}
use Rattle.pw_flow.specs.declared.flow.BinKind.TheVariants.{Eq}
use Rattle.pw_flow.specs.declared.flow.End.TheVariants.{Jump, Branch, Return as Returns}
use Rattle.pw_lower.specs.declared.code.Code.{Code}
use Rattle.pw_lower.specs.declared.place.Ways.{Ways}
use Rattle.pw_lower.specs.declared.place.LocalPlace.{LocalPlace}
use Rattle.pw_lower.specs.declared.place.LocalPlace.TheVariants.{Temp, Slot}
use Rattle.pw_lower.specs.declared.place.Target.{Target}
use Rattle.pw_lower.specs.declared.place.Target.TheVariants.{Kept, Named, Led}
use Rattle.pw_lower.specs.Codes.{Lowered, temp_of, constant, reserve, cut, cut_here, leave, block_of_label, named_from}
use Rattle.pw_lower.specs.Places.{place_at}
use Rattle.pw_lower.specs.Operators.{with, kind_of, bytes_of, unit_of}
use Rattle.pw_lower.specs.Expressions.{Home, full_name, address_of_global, address_of_local, target_of_local, write, stored, copied, lower}
use Rattle.pw_lower.specs.Statements.{inserted, labels_of, local_type, initialised_by, copied_from, initialised, initialised_all, effects, test, test_or_go, choose, default_or, chosen, begun as begun_labels, looping, repeating, counting, switching, returning, Frame, lower_statement, lower_arms, lower_otherwise, lower_statements}
use Rattle.pw_cmean.specs.Execution.{holds}
use Rattle.pw_law_refine_steps.specs.FromLawRefine.Containing.{same, given, times, Spreads}
use Rattle.pw_law_refine_code.specs.Opening.{open_labels, Fits}
use Rattle.pw_law_refine_code.proofs.Spreads.{Spread, OfExpressions, none, joins, within, same_code, and, emits, adds, reserves, cuts, turns, leaves, given-more, given-two, given-three, given-four, lower-spreads as spreads_by}
use Rattle.pw_law_refine_code.proofs.Totals.{total, look, of_list, holds-append, total-among, numbered-length, numbered-other, numbered-total, holds-contained}
use Rattle.pw_law_refine_code.proofs.Opening.{Opens, settled, behind, before, around, only, joined, split, neither, opened, unless}

-- ---- steps

constant-adds : (n : ℕ) (c : Code) → Spread c (constant n c).code none none
constant-adds n c = adds (λ t. op.Const t n) c

with-adds : (k : BinKind) (a : ℕ) (x : Lowered) → Spread x.code (with k a x).code none none
with-adds k a x = adds (λ t. op.Bin k t a (temp_of x)) x.code

write-adds : (k : Kind) (target : Target) (v : ℕ) (c : Code) → Spread c (write k target v c) none none
write-adds k (Kept x) v c = emits (op.Copy x v) c
write-adds k (Named g) v c = emits (op.StoreG g v k) c
write-adds k (Led p) v c = emits (op.Store k p v) c

address_of_global-adds : (g : List ℕ) (c : Code) → Spread c (address_of_global g c).code none none
address_of_global-adds g c = adds (λ t. op.AddrGlobal t g 0) c

address_of_local-adds : (p : LocalPlace) (c : Code) → Spread c (address_of_local p c).code none none
address_of_local-adds (Temp x) c = same_code c
address_of_local-adds (Slot s) c = adds (λ t. op.AddrSlot t s) c

target_of_local-adds : (p : LocalPlace) (c : Code) → Spread c (target_of_local p c).code none none
target_of_local-adds (Temp x) c = same_code c
target_of_local-adds (Slot s) c = adds (λ t. op.AddrSlot t s) c

stored-adds : (k : Kind) (target : Target) (x : Lowered) → Spread x.code (stored k target x).code none none
stored-adds k target x = write-adds k target (temp_of x) x.code

copied-adds : (records : List RecordValue) (ty : CType) (to : ℕ) (x : Lowered) → Spread x.code (copied records ty to x).code none none
copied-adds records ty to x = emits (op.Move to (temp_of x) (bytes_of records ty) (unit_of records ty)) x.code

-- ---- the labels of a switch

abbrev pub case_labels : List CaseValue → List ℕ
case_labels cases = map (λ (k : CaseValue). k.label) cases

all-inserted : (P : ℕ → Type 0) (k : ℕ) (xs : List ℕ) → AllByRecursion P (xs ++ k ∷ []) → AllByRecursion P (inserted k xs)
all-inserted P k [] h = h
all-inserted P k (m ∷ rest) h = by_order (nat_lt k m) (all-inserted P k rest h.1)
  where
    last : (ys : List ℕ) → AllByRecursion P (ys ++ k ∷ []) → P k × AllByRecursion P ys
    last [] g = (g.0, tt)
    last (y ∷ ys) g = let inner = last ys g.1 in (inner.0, (g.0, inner.1))

    by_order : (v : Bool) → AllByRecursion P (inserted k rest) → AllByRecursion P (if v then k ∷ m ∷ rest else m ∷ inserted k rest)
    by_order true behind = ((last rest h.1).0, (h.0, (last rest h.1).1))
    by_order false behind = (h.0, behind)

distinct-inserted : (k : ℕ) (xs : List ℕ) → IsDistinct nat_eq (xs ++ k ∷ []) → IsDistinct nat_eq (inserted k xs)
unfolding IsDistinct
distinct-inserted k [] h = h
distinct-inserted k (m ∷ rest) h = by_order (nat_lt k m) (distinct-inserted k rest h.1)
  where
    last : (P : ℕ → Type 0) (ys : List ℕ) → AllByRecursion P (ys ++ k ∷ []) → P k
    last P [] g = g.0
    last P (y ∷ ys) g = last P ys g.1

    front : (ys : List ℕ) → IsDistinct nat_eq (ys ++ k ∷ []) → AllByRecursion (λ y. nat_eq k y ≡ false) ys × IsDistinct nat_eq ys
    front [] g = (tt, tt)
    front (y ∷ ys) g =
        let inner = front ys g.1 in
        let other : nat_eq y k ≡ false = last (λ z. nat_eq y z ≡ false) ys g.0 in
        ((grind (arith, other), inner.0), (shorter (λ z. nat_eq y z ≡ false) ys g.0, inner.1))
      where
        shorter : (P : ℕ → Type 0) (zs : List ℕ) → AllByRecursion P (zs ++ k ∷ []) → AllByRecursion P zs
        shorter P [] g = tt
        shorter P (z ∷ zs) g = (g.0, shorter P zs g.1)

    by_order : (v : Bool) → IsDistinct nat_eq (inserted k rest) → IsDistinct nat_eq (if v then k ∷ m ∷ rest else m ∷ inserted k rest)
    by_order true behind = front (m ∷ rest) h
    by_order false behind = (all-inserted (λ z. nat_eq m z ≡ false) k rest h.0, behind)

holds-inserted : (k : ℕ) (xs : List ℕ) (l : ℕ) → holds (inserted k xs) l ≡ holds (xs ++ k ∷ []) l
holds-inserted k [] l = refl
holds-inserted k (m ∷ rest) l = by_order (nat_lt k m) (holds-inserted k rest l)
  where
    turned : (p q r : Bool) → (p || (q || r)) ≡ (q || (r || (p || false)))
    turned true true r = refl
    turned true false true = refl
    turned true false false = refl
    turned false true r = refl
    turned false false true = refl
    turned false false false = refl

    by_order : (v : Bool) → holds (inserted k rest) l ≡ holds (rest ++ k ∷ []) l → holds (if v then k ∷ m ∷ rest else m ∷ inserted k rest) l ≡ ((m == l) || holds (rest ++ k ∷ []) l)
    by_order true behind = turned (k == l) (m == l) (holds rest l) ∙ ap (λ (v : Bool). (m == l) || v) (sym (holds-append rest (k ∷ []) l))
    by_order false behind = ap (λ (v : Bool). (m == l) || v) behind

-- ---- the labels of a part

-- They differ, its cases differ, and there is room for them.
pub record FitsIn (n : ℕ) (own cased : List ℕ) : Type 0 where
  pub once : IsDistinct nat_eq own
  pub one_use : IsDistinct nat_eq cased
  pub below : AllByRecursion (λ l. l < n) own

all-front : (P : ℕ → Type 0) (xs ys : List ℕ) → AllByRecursion P (xs ++ ys) → AllByRecursion P xs
all-front P [] ys h = tt
all-front P (x ∷ xs) ys h = (h.0, all-front P xs ys h.1)

all-back : (P : ℕ → Type 0) (xs ys : List ℕ) → AllByRecursion P (xs ++ ys) → AllByRecursion P ys
all-back P [] ys h = h
all-back P (x ∷ xs) ys h = all-back P xs ys h.1

pub fits-in : (c : Code) (own cased : List ℕ) → Fits c own cased → FitsIn (length c.labels) own cased
fits-in c own cased f = record { once = f.once; one_use = f.one_use; below = recursion_from_All (λ l. l < length c.labels) own f.below }

pub fits-front : (n : ℕ) (own1 own2 cased1 cased2 : List ℕ) → FitsIn n (own1 ++ own2) (cased1 ++ cased2) → FitsIn n own1 cased1
fits-front n own1 own2 cased1 cased2 f = record {
  once = (split own1 own2 f.once).0;
  one_use = (split cased1 cased2 f.one_use).0;
  below = all-front (λ l. l < n) own1 own2 f.below;
}

pub fits-back : (n m : ℕ) (own1 own2 cased1 cased2 : List ℕ) → m ≡ n → FitsIn n (own1 ++ own2) (cased1 ++ cased2) → FitsIn m own2 cased2
fits-back n m own1 own2 cased1 cased2 e f = record {
  once = (split own1 own2 f.once).1;
  one_use = (split cased1 cased2 f.one_use).1;
  below = subst (λ (k : ℕ). AllByRecursion (λ l. l < k) own2) (sym e) (all-back (λ l. l < n) own1 own2 f.below);
}

pub fits-at : (n m : ℕ) (own cased : List ℕ) → m ≡ n → FitsIn n own cased → FitsIn m own cased
fits-at n m own cased e f = subst (λ (k : ℕ). FitsIn k own cased) (sym e) f

with-nothing : (xs own : List ℕ) → own ≡ [] → xs ≡ (xs ++ []) ++ own
with-nothing xs own e = sym (ap (λ (os : List ℕ). (xs ++ []) ++ os) e ∙ append-nil (xs ++ []) ∙ append-nil xs)

-- which labels a switch names
pub holds-cases : (cases : List CaseValue) (default : Option ℕ) (cased : List ℕ) (l : ℕ) → holds (case_labels cases ++ (option_to_list default ++ cased)) l ≡ (holds (labels_of cases default) l || holds cased l)
holds-cases cases None cased l = holds-append (case_labels cases) cased l
holds-cases cases (Some k) cased l =
    ap (λ (ls : List ℕ). holds ls l) (sym (append_assoc (case_labels cases) (k ∷ []) cased)) ∙ holds-append (case_labels cases ++ k ∷ []) cased l
    ∙ ap (λ (v : Bool). v || holds cased l) (sym (holds-inserted k (case_labels cases) l))

pub all-named : (P : ℕ → Type 0) (cases : List CaseValue) (default : Option ℕ) → AllByRecursion P (case_labels cases ++ option_to_list default) → AllByRecursion P (labels_of cases default)
all-named P cases None h = all-front P (case_labels cases) [] h
all-named P cases (Some k) h = all-inserted P k (case_labels cases) h

distinct-named : (cases : List CaseValue) (default : Option ℕ) (cased : List ℕ) → IsDistinct nat_eq (case_labels cases ++ (option_to_list default ++ cased)) → IsDistinct nat_eq (labels_of cases default)
distinct-named cases None cased h = (split (case_labels cases) cased h).0
distinct-named cases (Some k) cased h =
    distinct-inserted k (case_labels cases)
    (split (case_labels cases ++ k ∷ []) cased (subst (λ (ls : List ℕ). IsDistinct nat_eq ls) (sym (append_assoc (case_labels cases) (k ∷ []) cased)) h)).0

all-three : (P : ℕ → Type 0) (xs ys zs : List ℕ) → AllByRecursion P (xs ++ ys) → AllByRecursion P zs → AllByRecursion P (xs ++ (ys ++ zs))
all-three P [] [] zs g h = h
all-three P [] (y ∷ ys) zs g h = (g.0, all-three P [] ys zs g.1 h)
all-three P (x ∷ xs) ys zs g h = (g.0, all-three P xs ys zs g.1 h)

-- what holds of labels holds of those among them
pub all-held : (P : ℕ → Type 0) (own ls : List ℕ) → AllByRecursion P own → AllByRecursion (λ l. holds own l ≡ true) ls → AllByRecursion P ls
all-held P own [] h held = tt
all-held P own (l ∷ ls) h held = (at' own h held.0, all-held P own ls h held.1)
  where
    at' : (xs : List ℕ) → AllByRecursion P xs → holds xs l ≡ true → P l
    at' [] g e = absurd (true≢false (sym e))
    at' (x ∷ xs) g e = by_test (x == l) refl (λ later. at' xs g.1 later)
      where
        by_test : (v : Bool) → (x == l) ≡ v → (holds xs l ≡ true → P l) → P l
        by_test true is behind = subst P (eqb-true x l is) g.0
        by_test false is behind = behind (sym (ap (λ (v : Bool). v || holds xs l) is) ∙ e)

-- the labels that a well-typed switch names stand in its body
pub named-held :
    (value : CType) (cases : List CaseValue) (default : Option ℕ) (body : Statement) → IsSwitch value cases default body
    → AllByRecursion (λ l. holds (labels_in body) l ≡ true) (case_labels cases ++ option_to_list default)
named-held value cases default body is =
    all-three (λ l. holds (labels_in body) l ≡ true) (case_labels cases) [] (option_to_list default)
    (all-front-nil (case_labels cases) (each cases (recursion_from_All (λ (k : CaseValue). Contains (labels_in body) k.label) cases is.labels)))
    (last default is.default_label)
  where
    each : (ks : List CaseValue) → AllByRecursion (λ (k : CaseValue). Contains (labels_in body) k.label) ks → AllByRecursion (λ l. holds (labels_in body) l ≡ true) (case_labels ks)
    each [] h = tt
    each (k ∷ ks) h = (holds-contained (labels_in body) k.label h.0, each ks h.1)

    last : (d : Option ℕ) → ((n : ℕ) → d ≡ Some n → Contains (labels_in body) n) → AllByRecursion (λ l. holds (labels_in body) l ≡ true) (option_to_list d)
    last None h = tt
    last (Some n) h = (holds-contained (labels_in body) n (h n refl), tt)

    all-front-nil : (xs : List ℕ) → AllByRecursion (λ l. holds (labels_in body) l ≡ true) xs → AllByRecursion (λ l. holds (labels_in body) l ≡ true) (xs ++ [])
    all-front-nil xs h = subst (λ (ls : List ℕ). AllByRecursion (λ l. holds (labels_in body) l ≡ true) ls) (sym (append-nil xs)) h

-- ---- by what is known of expressions

module _ (known : OfExpressions) where
  lower-spreads : (h : Home) (e : Expression) (c : Code) → Spread c (lower h e c).code none none
  lower-spreads h e c = spreads_by known h e c

  -- ---- initialisers

  initialised_by-spreads : (h : Home) (k : Option Kind) (ty : CType) (p : LocalPlace) (e : Expression) (c : Code) → Spread c (initialised_by h k ty p e c) none none
  initialised_by-spreads h (Some kind) ty p e c =
      let q = target_of_local p c in
      and (target_of_local-adds p c) (and (lower-spreads h e q.code) (stored-adds kind q.target (lower h e q.code)))
  initialised_by-spreads h None ty p e c =
      let x = address_of_local p c in
      and (address_of_local-adds p c) (and (lower-spreads h e x.code) (copied-adds h.records ty (temp_of x) (lower h e x.code)))

  copied_from-spreads : (h : Home) (ty : CType) (p : LocalPlace) (hidden : ℕ) (c : Code) → Spread c (copied_from h ty p hidden c) none none
  copied_from-spreads h ty p hidden c =
      let x = address_of_local p c in
      let g = full_name h.name (Hidden hidden) in
      and (address_of_local-adds p c) (and (address_of_global-adds g x.code) (copied-adds h.records ty (temp_of x) (address_of_global g x.code)))

  pub initialised_all-spreads : (h : Home) (locals : List LocalValue) (all : List Initialiser) (c : Code) → Spread c (initialised_all h locals all c) none none
  initialised_all-spreads h locals [] c = same_code c
  initialised_all-spreads h locals (Value k e ∷ rest) c =
      let i : Initialiser = Value k e in
      and (initialised_by-spreads h (kind_of (local_type locals k)) (local_type locals k) (place_at h.places k) e c) (initialised_all-spreads h locals rest (initialised h locals i c))
  initialised_all-spreads h locals (Bytes k hidden parts ∷ rest) c =
      let i : Initialiser = Bytes k hidden parts in
      and (copied_from-spreads h (local_type locals k) (place_at h.places k) hidden c) (initialised_all-spreads h locals rest (initialised h locals i c))

  -- ---- parts of statements

  pub effects-spread : (h : Home) (e : Option Expression) (c : Code) → Spread c (effects h e c) none none
  effects-spread h None c = same_code c
  effects-spread h (Some e) c = lower-spreads h e c

  test-spreads : (h : Home) (e : Expression) (so other next depth : ℕ) (c : Code) → Spread c (test h e so other next depth c) none (λ b. same next b)
  test-spreads h e so other next depth c =
      let x = lower h e c in within (joins (lower-spreads h e c) (cuts (Branch (temp_of x) so other) next depth x.code)) (λ b. omega arith)

  pub test_or_go-spreads : (h : Home) (e : Option Expression) (so other depth : ℕ) (c : Code) → Spread c (test_or_go h e so other depth c) none (λ b. same so b)
  test_or_go-spreads h None so other depth c = cuts (Jump so) so depth c
  test_or_go-spreads h (Some e) so other depth c = test-spreads h e so other so depth c

  pub choose-spreads : (v : ℕ) (cases : List CaseValue) (c : Code) → Spread c (choose v cases c) none none
  choose-spreads v [] c = same_code c
  choose-spreads v (k ∷ rest) c =
      let x = with Eq v (constant k.value c) in
      let end = Branch (temp_of x) (block_of_label x.code k.label) x.code.blocks in
      and (constant-adds k.value c) (and (with-adds Eq v (constant k.value c)) (and (leaves end x.code) (choose-spreads v rest (leave end x.code))))

  returning-spreads : (h : Home) (e : Option Expression) (c : Code) → Spread c (returning h e c) none none
  returning-spreads h None c = leaves (Returns None) c
  returning-spreads h (Some e) c = let x = lower h e c in and (lower-spreads h e c) (leaves (Returns x.temp) x.code)

  -- the labels of a statement begin their blocks
  pub begun-opens : (own : List ℕ) (c : Code) → Opens c (begun_labels own c) own [] none none
  begun-opens [] c = only (same_code c)
  begun-opens (l ∷ own) c =
      let d = cut_here (Jump (block_of_label c l)) (block_of_label c l) c in
      let first = turns (Jump (block_of_label c l)) (block_of_label c l) c in
      let rest = begun-opens own d in
      record {
        blocks = λ b. omega (arith, first.blocks b, rest.blocks b);
        counts = omega (arith, first.counts, rest.counts);
        temps = omega (arith, first.temps, rest.temps);
        size = rest.size;
        kept = rest.kept;
        among = tt;
      }

  -- ---- loops, by what lowers their bodies

  module _ (own cased : List ℕ) where
    abbrev Lowers : (Ways → Code → Code) → ℕ → Type 0
    Lowers body n = (w : Ways) (d : Code) → length d.labels ≡ n → Opens d (body w d) own cased none none

    looping-opens : (h : Home) (e : Expression) (body : Ways → Code → Code) (c : Code) → Lowers body (length c.labels) → Opens c (looping h e body c) own cased none none
    looping-opens h e body c g =
        let head = c.blocks in
        let inner = c.blocks + 1 in
        let out = c.blocks + 2 in
        let before = cut (Jump head) head (c.depth + 1) (reserve 3 c) in
        let entered = test h e inner out inner (c.depth + 1) before in
        let ways : Ways = record { out = out; on = head } in
        let front = joins (reserves 3 c) (joins (cuts (Jump head) head (c.depth + 1) (reserve 3 c)) (test-spreads h e inner out inner (c.depth + 1) before)) in
        around front (g ways entered (ap (λ (ls : List ℕ). length ls) front.labels)) (cuts (Jump head) out c.depth (body ways entered)) (λ b. omega (arith, given-three b c.blocks))

    repeating-opens : (h : Home) (e : Expression) (body : Ways → Code → Code) (c : Code) → Lowers body (length c.labels) → Opens c (repeating h e body c) own cased none none
    repeating-opens h e body c g =
        let inner = c.blocks in
        let on = c.blocks + 1 in
        let out = c.blocks + 2 in
        let before = cut (Jump inner) inner (c.depth + 1) (reserve 3 c) in
        let ways : Ways = record { out = out; on = on } in
        let turned = body ways before in
        around (joins (reserves 3 c) (cuts (Jump inner) inner (c.depth + 1) (reserve 3 c))) (g ways before refl)
        (joins (cuts (Jump on) on (c.depth + 1) turned) (test-spreads h e inner out out c.depth (cut (Jump on) on (c.depth + 1) turned)))
        (λ b. omega (arith, given-three b c.blocks))

    counting-opens :
        (h : Home) (first condition third : Option Expression) (body : Ways → Code → Code) (c : Code) → Lowers body (length c.labels)
        → Opens c (counting h first condition third body c) own cased none none
    counting-opens h first condition third body c g =
        let head = c.blocks in
        let inner = c.blocks + 1 in
        let on = c.blocks + 2 in
        let out = c.blocks + 3 in
        let ready = effects h first (reserve 4 c) in
        let before = cut (Jump head) head (c.depth + 1) ready in
        let entered = test_or_go h condition inner out (c.depth + 1) before in
        let ways : Ways = record { out = out; on = on } in
        let turned = cut (Jump on) on (c.depth + 1) (body ways entered) in
        let front = joins (reserves 4 c) (joins (effects-spread h first (reserve 4 c)) (joins (cuts (Jump head) head (c.depth + 1) ready) (test_or_go-spreads h condition inner out (c.depth + 1) before))) in
        around front (g ways entered (ap (λ (ls : List ℕ). length ls) front.labels))
        (joins (cuts (Jump on) on (c.depth + 1) (body ways entered)) (joins (effects-spread h third turned) (cuts (Jump head) out c.depth (effects h third turned))))
        (λ b. omega (arith, given-four b c.blocks))

    -- ---- `switch`

    opened-switch :
        (b : ℕ) (blocks later names all ls : List ℕ) → ((l : ℕ) → holds all l ≡ (holds names l || holds cased l))
        → ((l : ℕ) → holds names l ≡ false → look later l ≡ look blocks l)
        → opened b later ls cased ≤ opened b blocks ls all + total (of_list names (λ l. same (look later l) b)) ls
    opened-switch b blocks later names all [] is kept = omega arith
    opened-switch b blocks later names all (l ∷ ls) is kept =
        let first = each (holds names l) (holds cased l) refl in
        omega (arith, ap (λ (v : Bool). unless v (same (look blocks l) b)) (is l), first, opened-switch b blocks later names all ls is kept)
      where
        each : (p r : Bool) → holds names l ≡ p
            → (if r then 0 else same (look later l) b) ≤ (if p || r then 0 else same (look blocks l) b) + (if p then same (look later l) b else 0)
        each true true e = omega arith
        each true false e = omega arith
        each false true e = omega arith
        each false false e = omega (arith, ap (λ (n : ℕ). same n b) (kept l e))

    switching-opens :
        (h : Home) (e : Expression) (cases : List CaseValue) (default : Option ℕ) (body : ℕ → Code → Code) (c : Code)
        → ((out : ℕ) (d : Code) → length d.labels ≡ length c.labels → Opens d (body out d) own cased none none)
        → IsDistinct nat_eq own → IsDistinct nat_eq (labels_of cases default) → AllByRecursion (λ l. l < length c.labels) own
        → AllByRecursion (λ l. holds own l ≡ true) (case_labels cases ++ option_to_list default)
        → Opens c (switching h e cases default body c) own (case_labels cases ++ (option_to_list default ++ cased)) none none
    switching-opens h e cases default body c g distinct once room held =
        let all = case_labels cases ++ (option_to_list default ++ cased) in
        let is : (l : ℕ) → holds all l ≡ (holds (labels_of cases default) l || holds cased l) = holds-cases cases default cased in
        let below : AllByRecursion (λ l. l < length c.labels) (labels_of cases default) = all-named (λ l. l < length c.labels) cases default (all-held (λ l. l < length c.labels) own (case_labels cases ++ option_to_list default) room held) in
        let out = c.blocks in
        let names = labels_of cases default in
        let named = named_from (c.blocks + 1) names (reserve (1 + length names) c) in
        let x = lower h e named in
        let compared = choose (temp_of x) cases x.code in
        let entered = chosen default out compared in
        let front : Spread named entered none none = and (lower-spreads h e named) (and (choose-spreads (temp_of x) cases x.code) (leaves (Jump (default_or compared default out)) compared)) in
        let size : length entered.labels ≡ length c.labels = ap (λ (ls : List ℕ). length ls) front.labels ∙ numbered-length (c.blocks + 1) names c.labels in
        let o = g out entered size in
        let q = cuts (Jump out) out c.depth (body out entered) in
        record {
          blocks = λ b. omega (
            arith,
            front.blocks b,
            o.blocks b,
            q.blocks b,
            given-more b c.blocks,
            ap (λ (ls : List ℕ). opened b ls own cased) front.labels,
            ap (λ (n : ℕ). given b n) (let sum : (c.blocks + 1) + length names ≡ c.blocks + (1 + length names) = omega arith in sum),
            numbered-total b (c.blocks + 1) names c.labels once below,
            total-among (λ l. same (look named.labels l) b) names own distinct,
            opened-switch b c.labels named.labels names all own is (λ l other. numbered-other (c.blocks + 1) names c.labels l other),
          );
          counts = omega (arith, front.counts, o.counts, q.counts);
          temps = omega (arith, front.temps, o.temps, q.temps);
          size = o.size ∙ size;
          kept = λ l absent. (let two = neither (holds names l) (holds cased l) (sym (is l) ∙ absent) in
              o.kept l two.1 ∙ ap (λ (ls : List ℕ). look ls l) front.labels ∙ numbered-other (c.blocks + 1) names c.labels l two.0);
          among = all-three (λ l. holds own l ≡ true) (case_labels cases) (option_to_list default) cased held o.among;
        }

  -- ---- statements

  -- one arm of an `if`, and what stands behind it
  two-ways :
      (h : Home) (e : Expression) (c : Code) (first second : Code → Code) (own1 cased1 own2 cased2 : List ℕ) → IsDistinct nat_eq (own1 ++ own2)
      → ((d : Code) → length d.labels ≡ length c.labels → Opens d (first d) own1 cased1 none none)
      → ((d : Code) → length d.labels ≡ length c.labels → Opens d (second d) own2 cased2 none none)
      → Opens c
      (let x = lower h e c in
      let so = x.code.blocks in
      let other = x.code.blocks + 1 in
      let join = x.code.blocks + 2 in
      let entered = cut_here (Branch (temp_of x) so other) so (reserve 3 x.code) in
      cut_here (Jump join) join (second (cut_here (Jump join) other (first entered)))) (own1 ++ own2) (cased1 ++ cased2) none none
  two-ways h e c first second own1 cased1 own2 cased2 once f g =
      let x = lower h e c in
      let so = x.code.blocks in
      let other = x.code.blocks + 1 in
      let join = x.code.blocks + 2 in
      let entered = cut_here (Branch (temp_of x) so other) so (reserve 3 x.code) in
      let ahead = cut_here (Jump join) other (first entered) in
      let front = joins (lower-spreads h e c) (joins (reserves 3 x.code) (turns (Branch (temp_of x) so other) so (reserve 3 x.code))) in
      let size : length entered.labels ≡ length c.labels = ap (λ (ls : List ℕ). length ls) front.labels in
      let one = before (behind front (f entered size)) (turns (Jump join) other (first entered)) in
      let two = before (g ahead one.size) (turns (Jump join) join (second ahead)) in
      settled (joined once one two) (λ b. omega (arith, given-three b x.code.blocks))

  -- what stands behind the arms of an `if`
  abbrev pub LastOpens : Option (Code → Code) → (own cased : List ℕ) → ℕ → Type 0
  LastOpens None own cased n = (own ≡ []) × (cased ≡ [])
  LastOpens (Some g) own cased n = (c : Code) → length c.labels ≡ n → Opens c (g c) own cased none none

  mutual
    unfolding lower_statement IsStatement

    pub statement-opens :
        (m : ModuleValue) (f : FunctionValue) (breaks continues : Bool) (from : ℕ) (frame : Frame) (ways : Ways) (s : Statement) (c : Code)
        → IsStatement m f breaks continues from s → FitsIn (length c.labels) (labels_in s) (cases_in s)
        → Opens c (lower_statement frame ways s c) (labels_in s) (cases_in s) none none
    statement-opens m f breaks continues from frame ways (Empty t) c typed fits = only (same_code c)
    statement-opens m f breaks continues from frame ways (Evaluate t e) c typed fits = only (lower-spreads frame.home e c)
    statement-opens m f breaks continues from frame ways (Block t first count initialisers items) c typed fits =
        let start = initialised_all-spreads frame.home frame.locals initialisers c in
        let d = initialised_all frame.home frame.locals initialisers c in
        settled (behind start (statements-open m f breaks continues (first + count) frame ways items d typed.3 (fits-at (length c.labels) (length d.labels) (labels_among items) (cases_among items) (ap (λ (ls : List ℕ). length ls) start.labels) fits))) (λ b. omega arith)
    statement-opens m f breaks continues from frame ways (If t arms otherwise) c typed fits =
        arms-open m f breaks continues from frame ways arms (lower_otherwise frame ways otherwise) (labels_behind otherwise) (cases_behind otherwise) c typed.1
        (otherwise-opens m f breaks continues from frame ways otherwise (length c.labels) typed.2 (fits-back (length c.labels) (length c.labels) (labels_of_arms arms) (labels_behind otherwise) (cases_of_arms arms) (cases_behind otherwise) refl fits)) fits
    statement-opens m f breaks continues from frame ways (While t e body) c typed fits =
        looping-opens (labels_in body) (cases_in body) frame.home e (λ own d. lower_statement frame own body d) c
        (λ own d h. statement-opens m f true true from frame own body d typed.1 (fits-at (length c.labels) (length d.labels) (labels_in body) (cases_in body) h fits))
    statement-opens m f breaks continues from frame ways (Do t body e) c typed fits =
        repeating-opens (labels_in body) (cases_in body) frame.home e (λ own d. lower_statement frame own body d) c
        (λ own d h. statement-opens m f true true from frame own body d typed.1 (fits-at (length c.labels) (length d.labels) (labels_in body) (cases_in body) h fits))
    statement-opens m f breaks continues from frame ways (For t first condition third body) c typed fits =
        counting-opens (labels_in body) (cases_in body) frame.home first condition third (λ own d. lower_statement frame own body d) c
        (λ own d h. statement-opens m f true true from frame own body d typed.3 (fits-at (length c.labels) (length d.labels) (labels_in body) (cases_in body) h fits))
    statement-opens m f breaks continues from frame ways (Switch t e cases default body) c typed fits =
        let cased = cases_in body in
        let used = (split (case_labels cases) (option_to_list default ++ cased) fits.one_use).1 in
        let inner : FitsIn (length c.labels) (labels_in body) cased = record {
          once = fits.once;
          one_use = (split (option_to_list default) cased used).1;
          below = fits.below;
        } in
        switching-opens (labels_in body) cased frame.home e cases default (λ out d. lower_statement frame (record ways { out = out }) body d) c
        (λ out d h. statement-opens m f true continues from frame (record ways { out = out }) body d typed.2 (fits-at (length c.labels) (length d.labels) (labels_in body) cased h inner))
        fits.once (distinct-named cases default cased fits.one_use) fits.below (named-held (type_in e) cases default body typed.1)
    statement-opens m f breaks continues from frame ways (Label t own body) c typed fits =
        let start = begun-opens own c in
        settled (joined fits.once start (statement-opens m f breaks continues from frame ways body (begun_labels own c) typed.1 (fits-back (length c.labels) (length (begun_labels own c).labels) own (labels_in body) [] (cases_in body) start.size fits))) (λ b. omega arith)
    statement-opens m f breaks continues from frame ways (Return t e) c typed fits = only (returning-spreads frame.home e c)
    -- a jump
    statement-opens m f breaks continues from frame ways s c typed fits = only (leaves _ c)

    pub statements-open :
        (m : ModuleValue) (f : FunctionValue) (breaks continues : Bool) (from : ℕ) (frame : Frame) (ways : Ways) (all : Statements) (c : Code)
        → AreStatements m f breaks continues from all → FitsIn (length c.labels) (labels_among all) (cases_among all)
        → Opens c (lower_statements frame ways all c) (labels_among all) (cases_among all) none none
    statements-open m f breaks continues from frame ways NoStatement c typed fits = only (same_code c)
    statements-open m f breaks continues from frame ways (OneStatement s rest) c typed fits =
        let d = lower_statement frame ways s c in
        let first = statement-opens m f breaks continues from frame ways s c typed.0 (fits-front (length c.labels) (labels_in s) (labels_among rest) (cases_in s) (cases_among rest) fits) in
        settled (joined fits.once first
        (statements-open m f breaks continues from frame ways rest d typed.1 (fits-back (length c.labels) (length d.labels) (labels_in s) (labels_among rest) (cases_in s) (cases_among rest) first.size fits)))
        (λ b. omega arith)

    pub otherwise-opens :
        (m : ModuleValue) (f : FunctionValue) (breaks continues : Bool) (from : ℕ) (frame : Frame) (ways : Ways) (otherwise : Otherwise) (n : ℕ)
        → IsElse m f breaks continues from otherwise → FitsIn n (labels_behind otherwise) (cases_behind otherwise)
        → LastOpens (lower_otherwise frame ways otherwise) (labels_behind otherwise) (cases_behind otherwise) n
    otherwise-opens m f breaks continues from frame ways NoElse n typed fits = (refl, refl)
    otherwise-opens m f breaks continues from frame ways (Else s) n typed fits =
        λ c h. statement-opens m f breaks continues from frame ways s c typed (fits-at n (length c.labels) (labels_in s) (cases_in s) h fits)

    pub arms-open :
        (m : ModuleValue) (f : FunctionValue) (breaks continues : Bool) (from : ℕ) (frame : Frame) (ways : Ways) (arms : Arms) (last : Option (Code → Code)) (own cased : List ℕ) (c : Code)
        → AreArms m f breaks continues from arms → LastOpens last own cased (length c.labels)
        → FitsIn (length c.labels) (labels_of_arms arms ++ own) (cases_of_arms arms ++ cased)
        → Opens c (lower_arms frame ways arms last c) (labels_of_arms arms ++ own) (cases_of_arms arms ++ cased) none none
    arms-open m f breaks continues from frame ways NoArm None own cased c typed last fits =
        subst (λ (ls : List ℕ). Opens c c ls cased none none) (sym last.0) (subst (λ (ks : List ℕ). Opens c c [] ks none none) (sym last.1) (only (same_code c)))
    arms-open m f breaks continues from frame ways NoArm (Some g) own cased c typed last fits = last c refl
    arms-open m f breaks continues from frame ways (Arm t e s NoArm) None own cased c typed h fits =
        let x = lower frame.home e c in
        let so = x.code.blocks in
        let join = x.code.blocks + 1 in
        let entered = cut_here (Branch (temp_of x) so join) so (reserve 2 x.code) in
        let front = joins (lower-spreads frame.home e c) (joins (reserves 2 x.code) (turns (Branch (temp_of x) so join) so (reserve 2 x.code))) in
        let n = length c.labels in
        let arm = fits-front n (labels_in s) [] (cases_in s) [] (fits-front n (labels_in s ++ []) own (cases_in s ++ []) cased fits) in
        let inner = statement-opens m f breaks continues from frame ways s entered typed.1 (fits-at n (length entered.labels) (labels_in s) (cases_in s) (ap (λ (ls : List ℕ). length ls) front.labels) arm) in
        let all = around front inner (turns (Jump join) join (lower_statement frame ways s entered)) (λ b. omega (arith, given-two b x.code.blocks)) in
        subst (λ (ls : List ℕ). Opens c (lower_arms frame ways (Arm t e s NoArm) None c) ls ((cases_in s ++ []) ++ cased) none none) (with-nothing (labels_in s) own h.0)
        (subst (λ (ks : List ℕ). Opens c (lower_arms frame ways (Arm t e s NoArm) None c) (labels_in s) ks none none) (with-nothing (cases_in s) cased h.1) all)
    arms-open m f breaks continues from frame ways (Arm t e s NoArm) (Some g) own cased c typed h fits =
        let n = length c.labels in
        let arm = fits-front n (labels_in s) [] (cases_in s) [] (fits-front n (labels_in s ++ []) own (cases_in s ++ []) cased fits) in
        let os : (labels_in s ++ []) ++ own ≡ labels_in s ++ own = append_assoc (labels_in s) [] own in
        let ks : (cases_in s ++ []) ++ cased ≡ cases_in s ++ cased = append_assoc (cases_in s) [] cased in
        subst (λ (ls : List ℕ). Opens c (lower_arms frame ways (Arm t e s NoArm) (Some g) c) ls ((cases_in s ++ []) ++ cased) none none) (sym os)
        (subst (λ (ls : List ℕ). Opens c (lower_arms frame ways (Arm t e s NoArm) (Some g) c) (labels_in s ++ own) ls none none) (sym ks)
        (two-ways frame.home e c (λ d. lower_statement frame ways s d) g (labels_in s) (cases_in s) own cased (subst (λ (ls : List ℕ). IsDistinct nat_eq ls) os fits.once)
        (λ d k. statement-opens m f breaks continues from frame ways s d typed.1 (fits-at n (length d.labels) (labels_in s) (cases_in s) k arm)) h))
    arms-open m f breaks continues from frame ways (Arm t e s (Arm u a r rest)) last own cased c typed h fits =
        let n = length c.labels in
        let more = Arm u a r rest in
        let os : (labels_in s ++ labels_of_arms more) ++ own ≡ labels_in s ++ (labels_of_arms more ++ own) = append_assoc (labels_in s) (labels_of_arms more) own in
        let ks : (cases_in s ++ cases_of_arms more) ++ cased ≡ cases_in s ++ (cases_of_arms more ++ cased) = append_assoc (cases_in s) (cases_of_arms more) cased in
        let both : FitsIn n (labels_in s ++ (labels_of_arms more ++ own)) (cases_in s ++ (cases_of_arms more ++ cased)) =
        subst (λ (ls : List ℕ). FitsIn n ls (cases_in s ++ (cases_of_arms more ++ cased))) os
        (subst (λ (ls : List ℕ). FitsIn n ((labels_in s ++ labels_of_arms more) ++ own) ls) ks fits) in
        subst (λ (ls : List ℕ). Opens c (lower_arms frame ways (Arm t e s more) last c) ls ((cases_in s ++ cases_of_arms more) ++ cased) none none) (sym os)
        (subst (λ (ls : List ℕ). Opens c (lower_arms frame ways (Arm t e s more) last c) (labels_in s ++ (labels_of_arms more ++ own)) ls none none) (sym ks)
        (two-ways frame.home e c (λ d. lower_statement frame ways s d) (λ d. lower_arms frame ways more last d) (labels_in s) (cases_in s) (labels_of_arms more ++ own) (cases_of_arms more ++ cased) both.once
        (λ d k. statement-opens m f breaks continues from frame ways s d typed.1 (fits-at n (length d.labels) (labels_in s) (cases_in s) k (fits-front n (labels_in s) (labels_of_arms more ++ own) (cases_in s) (cases_of_arms more ++ cased) both)))
        (λ d k. arms-open m f breaks continues from frame ways (Arm u a r rest) last own cased d typed.2 (subst (λ (j : ℕ). LastOpens last own cased j) (sym k) h)
        (fits-back n (length d.labels) (labels_in s) (labels_of_arms more ++ own) (cases_in s) (cases_of_arms more ++ cased) k both))))

  -- what is opened, as a list
  times-open : (b : ℕ) (c : Code) (own cased : List ℕ) → opened b c.labels own cased ≡ times b (map (block_of_label c) (open_labels own cased))
  times-open b c [] cased = refl
  times-open b c (l ∷ own) cased = by_test (holds cased l) (times-open b c own cased)
    where
      by_test :
          (v : Bool) → opened b c.labels own cased ≡ times b (map (block_of_label c) (open_labels own cased))
          → unless v (same (look c.labels l) b) + opened b c.labels own cased ≡ times b (map (block_of_label c) (cond (not v) (l ∷ open_labels own cased) (open_labels own cased)))
      by_test true rest = omega (arith, rest)
      by_test false rest = ap (λ (n : ℕ). same (look c.labels l) b + n) rest

  pub statement-spreads :
      (m : ModuleValue) (f : FunctionValue) (breaks continues : Bool) (from : ℕ) (frame : Frame) (ways : Ways) (s : Statement) (c : Code)
      → IsStatement m f breaks continues from s → Fits c (labels_in s) (cases_in s)
      → Spreads c (lower_statement frame ways s c) (map (block_of_label c) (open_labels (labels_in s) (cases_in s)))
  statement-spreads m f breaks continues from frame ways s c typed fits =
      let o = statement-opens m f breaks continues from frame ways s c typed (fits-in c (labels_in s) (cases_in s) fits) in
      record {
        blocks = λ b. omega (arith, o.blocks b, times-open b c (labels_in s) (cases_in s));
        counts = o.counts;
        temps = o.temps;
      }
