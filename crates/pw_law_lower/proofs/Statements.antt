-- What the code of a statement adds, by its nodes, the labels that stand in it, and its cases.
use Rattle.std.proofs.Common.{◌≡◌, ℕ, ◌+◌, ◌*◌, ◌<◌, ◌≤◌, Option, Some, None, List, [], ◌∷◌, ◌++◌, map, length, refl, arith, length-append}
use Rattle.std.proofs.lemmas.List.Sums.{sum_by-cons}
use Rattle.std.specs.Prelude.{option_to_list, sum_by}
use Rattle.pw_value.specs.declared.value.Kind.{Kind}
use Rattle.pw_types.specs.Labels.{labels_in, labels_among, labels_of_arms, labels_behind, cases_in, cases_among, cases_of_arms, cases_behind}
use Rattle.pw_types.specs.Rooms.{expr_nodes, optional_nodes, initialiser_nodes, stmt_nodes, arm_nodes, else_nodes, nodes_of_statements}
use Rattle.pw_types.specs.TypeTrees.{CType}
use Rattle.pw_types.specs.TypedTrees.{Expression, Node, Initialiser, Value, Bytes, Hidden, CaseValue, Statement, Empty, Evaluate, Block, If, While, Do, For, Switch, Label, Return, Arms, NoArm, Arm, Otherwise, NoElse, Else, Statements, NoStatement, OneStatement, LocalValue}
use Rattle.pw_flow.specs.declared.flow.BinKind.TheVariants.{Eq}
use Rattle.pw_flow.specs.declared.flow.End.TheVariants.{Jump, Branch, Return as Returns}
use Rattle.pw_lower.specs.declared.code.Code.{Code}
use Rattle.pw_lower.specs.declared.place.Ways.{Ways}
use Rattle.pw_lower.specs.declared.place.LocalPlace.{LocalPlace}
use Rattle.pw_lower.specs.Codes.{temp_of, constant, reserve, cut, cut_here, block_of_label, named_from}
use Rattle.pw_lower.specs.Places.{place_at}
use Rattle.pw_lower.specs.Operators.{with, kind_of}
use Rattle.pw_lower.specs.Expressions.{Home, full_name, address_of_global, address_of_local, target_of_local, lower}
use Rattle.pw_lower.specs.Statements.{labels_of, local_type, initialised_by, copied_from, initialised, initialised_all, effects, test, test_or_go, choose, default_or, chosen, begun, looping, repeating, counting, switching, returning, Frame, lower_statement, lower_arms, lower_otherwise, lower_statements}
use Rattle.pw_law_lower.specs.Parts.{partless_in, partless, partless_of_arms, partless_behind, partless_among}
use Rattle.pw_law_lower.proofs.Growth.{Grows, joins, within, same, reserves, cuts, turns, leaves, names}
use Rattle.pw_law_lower.proofs.Expressions.{constant-adds, with-adds, address_of_local-adds, address_of_global-adds, target_of_local-adds, stored-adds, copied-adds, lower-adds}

-- ---- initialisers

initialised_by-adds : (h : Home) (k : Option Kind) (ty : CType) (p : LocalPlace) (e : Expression) (c : Code) → Grows c (initialised_by h k ty p e c) 0 (4 * expr_nodes e)
initialised_by-adds h (Some kind) ty p e c =
    let q = target_of_local p c in
    within (joins (target_of_local-adds p c) (joins (lower-adds h e q.code) (stored-adds kind q.target (lower h e q.code)))) (omega arith)
initialised_by-adds h None ty p e c =
    let x = address_of_local p c in
    within (joins (address_of_local-adds p c) (joins (lower-adds h e x.code) (copied-adds h.records ty (temp_of x) (lower h e x.code)))) (omega arith)

copied_from-adds : (h : Home) (ty : CType) (p : LocalPlace) (hidden : ℕ) (c : Code) → Grows c (copied_from h ty p hidden c) 0 2
copied_from-adds h ty p hidden c =
    let x = address_of_local p c in
    let g = full_name h.name (Hidden hidden) in
    within (joins (address_of_local-adds p c) (joins (address_of_global-adds g x.code) (copied-adds h.records ty (temp_of x) (address_of_global g x.code)))) (omega arith)

nodes_positive : (e : Expression) → 0 < expr_nodes e
nodes_positive (Node t ty form) = omega arith

-- by whether there are parts
parts_bound : (parts : List Expression) (k hidden : ℕ) → 2 ≤ 4 * sum_by expr_nodes parts + 2 * partless_in (Bytes k hidden parts)
parts_bound [] k hidden = omega arith
parts_bound (e ∷ rest) k hidden = omega (arith, nodes_positive e, sum_by-cons expr_nodes e rest)

initialised-adds : (h : Home) (locals : List LocalValue) (i : Initialiser) (c : Code) → Grows c (initialised h locals i c) 0 (4 * initialiser_nodes i + 2 * partless_in i)
initialised-adds h locals (Value k e) c =
    within (initialised_by-adds h (kind_of (local_type locals k)) (local_type locals k) (place_at h.places k) e c) (omega arith)
initialised-adds h locals (Bytes k hidden parts) c =
    within (copied_from-adds h (local_type locals k) (place_at h.places k) hidden c) (omega (arith, parts_bound parts k hidden))

initialised_all-adds : (h : Home) (locals : List LocalValue) (all : List Initialiser) (c : Code) → Grows c (initialised_all h locals all c) 0 (4 * sum_by initialiser_nodes all + 2 * sum_by partless_in all)
initialised_all-adds h locals [] c = within (same c) (omega arith)
initialised_all-adds h locals (i ∷ rest) c =
    within (joins (initialised-adds h locals i c) (initialised_all-adds h locals rest (initialised h locals i c))) (omega (arith, sum_by-cons initialiser_nodes i rest, sum_by-cons partless_in i rest))

-- ---- parts of statements

effects-adds : (h : Home) (e : Option Expression) (c : Code) → Grows c (effects h e c) 0 (4 * optional_nodes e)
effects-adds h None c = within (same c) (omega arith)
effects-adds h (Some e) c = within (lower-adds h e c) (omega arith)

test-adds : (h : Home) (e : Expression) (so other next depth : ℕ) (c : Code) → Grows c (test h e so other next depth c) 0 (4 * expr_nodes e)
test-adds h e so other next depth c =
    let x = lower h e c in within (joins (lower-adds h e c) (cuts (Branch (temp_of x) so other) next depth x.code)) (omega arith)

test_or_go-adds : (h : Home) (e : Option Expression) (so other depth : ℕ) (c : Code) → Grows c (test_or_go h e so other depth c) 0 (4 * optional_nodes e)
test_or_go-adds h None so other depth c = within (cuts (Jump so) so depth c) (omega arith)
test_or_go-adds h (Some e) so other depth c = test-adds h e so other so depth c

choose-adds : (v : ℕ) (cases : List CaseValue) (c : Code) → Grows c (choose v cases c) 0 (2 * length cases)
choose-adds v [] c = within (same c) (omega arith)
choose-adds v (k ∷ rest) c =
    let x = with Eq v (constant k.value c) in
    let d = cut_here (Branch (temp_of x) (block_of_label x.code k.label) x.code.blocks) x.code.blocks (reserve 1 x.code) in
    within
    (joins (constant-adds k.value c) (joins (with-adds Eq v (constant k.value c)) (joins (reserves 1 x.code)
    (joins (turns (Branch (temp_of x) (block_of_label x.code k.label) x.code.blocks) x.code.blocks (reserve 1 x.code)) (choose-adds v rest d)))))
    (omega arith)

begun-adds : (labels : List ℕ) (c : Code) → Grows c (begun labels c) 0 0
begun-adds [] c = same c
begun-adds (l ∷ rest) c =
    within (joins (turns (Jump (block_of_label c l)) (block_of_label c l) c) (begun-adds rest (cut_here (Jump (block_of_label c l)) (block_of_label c l) c))) (omega arith)

returning-adds : (h : Home) (e : Option Expression) (c : Code) → Grows c (returning h e c) 0 (4 * optional_nodes e)
returning-adds h None c = within (leaves (Returns None) c) (omega arith)
returning-adds h (Some e) c =
    let x = lower h e c in within (joins (lower-adds h e c) (leaves (Returns x.temp) x.code)) (omega arith)

-- ---- loops and `switch`, by what their bodies add

looping-adds : (h : Home) (e : Expression) (body : Ways → Code → Code) (c : Code) (k m : ℕ) → ((w : Ways) (d : Code) → Grows d (body w d) k m) → Grows c (looping h e body c) k (4 * expr_nodes e + m)
looping-adds h e body c k m g =
    let head = c.blocks in
    let inner = c.blocks + 1 in
    let out = c.blocks + 2 in
    let before = cut (Jump head) head (c.depth + 1) (reserve 3 c) in
    let entered = test h e inner out inner (c.depth + 1) before in
    let ways : Ways = record { out = out; on = head } in
    within
    (joins (reserves 3 c) (joins (cuts (Jump head) head (c.depth + 1) (reserve 3 c)) (joins (test-adds h e inner out inner (c.depth + 1) before)
    (joins (g ways entered) (cuts (Jump head) out c.depth (body ways entered))))))
    (omega arith)

repeating-adds : (h : Home) (e : Expression) (body : Ways → Code → Code) (c : Code) (k m : ℕ) → ((w : Ways) (d : Code) → Grows d (body w d) k m) → Grows c (repeating h e body c) k (4 * expr_nodes e + m)
repeating-adds h e body c k m g =
    let inner = c.blocks in
    let on = c.blocks + 1 in
    let out = c.blocks + 2 in
    let before = cut (Jump inner) inner (c.depth + 1) (reserve 3 c) in
    let ways : Ways = record { out = out; on = on } in
    let turned = body ways before in
    within
    (joins (reserves 3 c) (joins (cuts (Jump inner) inner (c.depth + 1) (reserve 3 c)) (joins (g ways before)
    (joins (cuts (Jump on) on (c.depth + 1) turned) (test-adds h e inner out out c.depth (cut (Jump on) on (c.depth + 1) turned))))))
    (omega arith)

counting-adds :
    (h : Home) (first condition third : Option Expression) (body : Ways → Code → Code) (c : Code) (k m : ℕ)
    → ((w : Ways) (d : Code) → Grows d (body w d) k m)
    → Grows c (counting h first condition third body c) k (4 * (optional_nodes first + optional_nodes condition + optional_nodes third) + m)
counting-adds h first condition third body c k m g =
    let head = c.blocks in
    let inner = c.blocks + 1 in
    let on = c.blocks + 2 in
    let out = c.blocks + 3 in
    let ready = effects h first (reserve 4 c) in
    let before = cut (Jump head) head (c.depth + 1) ready in
    let entered = test_or_go h condition inner out (c.depth + 1) before in
    let ways : Ways = record { out = out; on = on } in
    let turned = cut (Jump on) on (c.depth + 1) (body ways entered) in
    within
    (joins (reserves 4 c) (joins (effects-adds h first (reserve 4 c)) (joins (cuts (Jump head) head (c.depth + 1) ready) (joins (test_or_go-adds h condition inner out (c.depth + 1) before)
    (joins (g ways entered) (joins (cuts (Jump on) on (c.depth + 1) (body ways entered)) (joins (effects-adds h third turned) (cuts (Jump head) out c.depth (effects h third turned)))))))))
    (omega arith)

switching-adds :
    (h : Home) (e : Expression) (cases : List CaseValue) (default : Option ℕ) (body : ℕ → Code → Code) (c : Code) (k m : ℕ)
    → ((out : ℕ) (d : Code) → Grows d (body out d) k m)
    → Grows c (switching h e cases default body c) k (4 * expr_nodes e + 2 * length cases + m)
switching-adds h e cases default body c k m g =
    let out = c.blocks in
    let own = labels_of cases default in
    let named = named_from (c.blocks + 1) own (reserve (1 + length own) c) in
    let x = lower h e named in
    let compared = choose (temp_of x) cases x.code in
    let entered = chosen default out compared in
    within
    (joins (reserves (1 + length own) c) (joins (names (c.blocks + 1) own (reserve (1 + length own) c)) (joins (lower-adds h e named) (joins (choose-adds (temp_of x) cases x.code)
    (joins (leaves (Jump (default_or compared default out)) compared) (joins (g out entered) (cuts (Jump out) out c.depth (body out entered))))))))
    (omega arith)

-- ---- statements

length-map_of : (cases : List CaseValue) → length (map (λ (k : CaseValue). k.label) cases) ≡ length cases
length-map_of [] = refl
length-map_of (k ∷ rest) = omega (arith, length-map_of rest)

cases_bound : (cases : List CaseValue) (default : Option ℕ) (inner : List ℕ) → length cases + length inner ≤ length (map (λ (k : CaseValue). k.label) cases ++ (option_to_list default ++ inner))
cases_bound cases default inner = omega (arith, length-map_of cases, length-append (map (λ (k : CaseValue). k.label) cases) (option_to_list default ++ inner), length-append (option_to_list default) inner)

-- what stands behind the arms of an `if` saves and adds so much
abbrev LastAdds : Option (Code → Code) → ℕ → ℕ → Type 0
LastAdds None k m = k ≡ 0
LastAdds (Some g) k m = (c : Code) → Grows c (g c) k m

mutual
  unfolding lower_statement

  pub statement-adds :
      (f : Frame) (ways : Ways) (s : Statement) (c : Code)
      → Grows c (lower_statement f ways s c) (4 * length (labels_in s)) (4 * stmt_nodes s + 2 * length (cases_in s) + 2 * partless s)
  statement-adds f ways (Empty t) c = within (same c) (omega arith)
  statement-adds f ways (Evaluate t e) c = within (lower-adds f.home e c) (omega arith)
  statement-adds f ways (Block t first count initialisers items) c =
      within (joins (initialised_all-adds f.home f.locals initialisers c) (statements-add f ways items (initialised_all f.home f.locals initialisers c))) (omega arith)
  statement-adds f ways (If t arms otherwise) c =
      within (arms-add f ways arms (lower_otherwise f ways otherwise) _ _ (otherwise-adds f ways otherwise) c) (omega (arith, length-append (labels_of_arms arms) (labels_behind otherwise), length-append (cases_of_arms arms) (cases_behind otherwise)))
  statement-adds f ways (While t e body) c =
      within (looping-adds f.home e (λ own d. lower_statement f own body d) c _ _ (λ own d. statement-adds f own body d)) (omega arith)
  statement-adds f ways (Do t body e) c =
      within (repeating-adds f.home e (λ own d. lower_statement f own body d) c _ _ (λ own d. statement-adds f own body d)) (omega arith)
  statement-adds f ways (For t first condition third body) c =
      within (counting-adds f.home first condition third (λ own d. lower_statement f own body d) c _ _ (λ own d. statement-adds f own body d)) (omega arith)
  statement-adds f ways (Switch t e cases default body) c =
      within
      (switching-adds f.home e cases default (λ out d. lower_statement f (record ways { out = out }) body d) c _ _ (λ out d. statement-adds f (record ways { out = out }) body d))
      (omega (arith, cases_bound cases default (cases_in body)))
  statement-adds f ways (Label t labels body) c =
      within (joins (begun-adds labels c) (statement-adds f ways body (begun labels c))) (omega (arith, length-append labels (labels_in body)))
  statement-adds f ways (Return t e) c = within (returning-adds f.home e c) (omega arith)
  -- a jump
  statement-adds f ways s c = within (leaves _ c) (omega arith)

  arms-add :
      (f : Frame) (ways : Ways) (arms : Arms) (last : Option (Code → Code)) (k m : ℕ) → LastAdds last k m → (c : Code)
      → Grows c (lower_arms f ways arms last c) (4 * length (labels_of_arms arms) + k) (4 * arm_nodes arms + 2 * length (cases_of_arms arms) + 2 * partless_of_arms arms + m)
  arms-add f ways NoArm None k m h c = within (same c) (omega (arith, h))
  arms-add f ways NoArm (Some last) k m h c = within (h c) (omega arith)
  arms-add f ways (Arm t e s NoArm) None k m h c =
      let x = lower f.home e c in
      let so = x.code.blocks in
      let join = x.code.blocks + 1 in
      let entered = cut_here (Branch (temp_of x) so join) so (reserve 2 x.code) in
      within
      (joins (lower-adds f.home e c) (joins (reserves 2 x.code) (joins (turns (Branch (temp_of x) so join) so (reserve 2 x.code)) (joins (statement-adds f ways s entered) (turns (Jump join) join (lower_statement f ways s entered))))))
      (omega (arith, h, length-append (labels_in s) [], length-append (cases_in s) []))
  arms-add f ways (Arm t e s NoArm) (Some last) k m h c =
      let x = lower f.home e c in
      let so = x.code.blocks in
      let other = x.code.blocks + 1 in
      let join = x.code.blocks + 2 in
      let entered = cut_here (Branch (temp_of x) so other) so (reserve 3 x.code) in
      let behind = cut_here (Jump join) other (lower_statement f ways s entered) in
      within
      (joins (lower-adds f.home e c) (joins (reserves 3 x.code) (joins (turns (Branch (temp_of x) so other) so (reserve 3 x.code)) (joins (statement-adds f ways s entered) (joins (turns (Jump join) other (lower_statement f ways s entered))
      (joins (arms-add f ways NoArm (Some last) k m h behind) (turns (Jump join) join (lower_arms f ways NoArm (Some last) behind))))))))
      (omega (arith, length-append (labels_in s) (labels_of_arms NoArm), length-append (cases_in s) (cases_of_arms NoArm)))
  arms-add f ways (Arm t e s (Arm u g r rest)) last k m h c =
      let x = lower f.home e c in
      let so = x.code.blocks in
      let other = x.code.blocks + 1 in
      let join = x.code.blocks + 2 in
      let entered = cut_here (Branch (temp_of x) so other) so (reserve 3 x.code) in
      let behind = cut_here (Jump join) other (lower_statement f ways s entered) in
      within
      (joins (lower-adds f.home e c) (joins (reserves 3 x.code) (joins (turns (Branch (temp_of x) so other) so (reserve 3 x.code)) (joins (statement-adds f ways s entered) (joins (turns (Jump join) other (lower_statement f ways s entered))
      (joins (arms-add f ways (Arm u g r rest) last k m h behind) (turns (Jump join) join (lower_arms f ways (Arm u g r rest) last behind))))))))
      (omega (arith, length-append (labels_in s) (labels_of_arms (Arm u g r rest)), length-append (cases_in s) (cases_of_arms (Arm u g r rest))))

  otherwise-adds :
      (f : Frame) (ways : Ways) (o : Otherwise)
      → LastAdds (lower_otherwise f ways o) (4 * length (labels_behind o)) (4 * else_nodes o + 2 * length (cases_behind o) + 2 * partless_behind o)
  otherwise-adds f ways NoElse = refl
  otherwise-adds f ways (Else s) = λ c. statement-adds f ways s c

  statements-add :
      (f : Frame) (ways : Ways) (all : Statements) (c : Code)
      → Grows c (lower_statements f ways all c) (4 * length (labels_among all)) (4 * nodes_of_statements all + 2 * length (cases_among all) + 2 * partless_among all)
  statements-add f ways NoStatement c = within (same c) (omega arith)
  statements-add f ways (OneStatement s rest) c =
      within
      (joins (statement-adds f ways s c) (statements-add f ways rest (lower_statement f ways s c)))
      (omega (arith, length-append (labels_in s) (labels_among rest), length-append (cases_in s) (cases_among rest)))
