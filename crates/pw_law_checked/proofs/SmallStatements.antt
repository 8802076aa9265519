-- Statements: their expressions keep the limit on sizes, and their calls that on arguments (ISO C90 5.2.4.1).
use Rattle.std.specs.Prelude.{ℕ, ◌≡◌, nat_lt, Option, None, Some, List, [], ◌∷◌, refl}
use Rattle.std.proofs.Common.{sym, subst}
use Rattle.pw_tree.specs.Trees.{Expr, Decl, Stmt, Alternative, Block, Stmts, Label}
use Rattle.pw_tree.specs.Trees as S
use Rattle.pw_tree.specs.Spelling.{spell_expr, spell_optional, spell_decls, spell_label, spell_labels, spell_stmt, spell_alternative, spell_block, spell_stmts}
use Rattle.pw_tree.specs.Symbols.{Symbol}
use Rattle.pw_types.specs.TypeTrees.{type_of, RecordValue}
use Rattle.pw_types.specs.TypedTrees.{Expression, Statement, Statements}
use Rattle.pw_law_checked.specs.Bounded.{IsBounded, IsBoundedOrAbsent, IsBoundedStatement, AreBoundedStatements, AreBoundedArms, IsBoundedElse}
use Rattle.pw_check_walk.specs.Walks.{Walk, bind}
use Rattle.pw_check_rules.specs.Declarations.{decls_rule}
use Rattle.pw_check_rules.specs.Operators.{value_rule}
use Rattle.pw_check_rules.specs.States.{State, Rule, BodyState, SwitchState, scoped, one_deeper, leave_scope}
use Rattle.pw_check_rules.specs.Statements.{Behind, new_label, case_rule, inside_switch, default_rule, name_label_rule, label_rule, labels_rule, whole_rule, optional_rule, condition_rule, optional_condition, switch_rule, in_switch, in_loop, return_rule, stmt_rule, alternative_rule, block_rule, stmts_rule}
use Rattle.pw_law_checked.proofs.Bare.{Bare, Going, statement_of, bare_post}
use Rattle.pw_law_checked.proofs.Walking.{Post, post_bind, post_weaken, post_both, truth}
use Rattle.pw_law_checked.proofs.Lists.{get_filter}
use Rattle.pw_law_checked.proofs.Types.{extends_same}
use Rattle.pw_law_checked.proofs.States.{Grows}
use Rattle.pw_law_checked.proofs.Changes.{deeper_lawful, left_lawful_alone, left_sound_alone}
use Rattle.pw_law_checked.proofs.Adding.{Declaring, decls_declare}
use Rattle.pw_law_checked.proofs.LabelLaws.{asked_post}
use Rattle.pw_law_checked.proofs.Sizes.{IsKeptFrom, kept_from}
use Rattle.pw_law_checked.proofs.NullCasts.{assigned_null}
use Rattle.pw_law_checked.proofs.Small.{cast_keeps, value_keeps, promote_keeps}
use Rattle.pw_check_rules.specs.declared.names.Entry.{Entry}
use Rattle.pw_law_checked.proofs.Sound.{Sound}
use Rattle.pw_law_checked.proofs.SmallLinkage.{AreNarrowed, places_so, narrowed_grows}
use Rattle.pw_law_checked.proofs.SmallLeaves.{IsReady, Reaches, KeptValue, AreSmallFrom}
use Rattle.pw_law_checked.proofs.Spelled.{AreShort, expr_rest, optional_rest, decls_rest, label_rest, labels_rest, stmt_rest}
use Rattle.pw_law_checked.proofs.SmallPhrases.{from_expr, from_valued, expr_made}
use Rattle.pw_law_checked.proofs.SmallGlobals.{Declared}
use Rattle.pw_law_checked.proofs.SmallDecls.{Onward, onward_same, onward_trans, onward_grows, onward_adds, reaches_on, decls_declared}

-- ---- states

-- a state in a function, whose result keeps the limits
abbrev pub IsSet : State → Type 0
IsSet s = IsReady s × (IsKeptFrom s.types.records (type_of s.body.result) × (Sound None s × AreNarrowed s))

set_on : {s t : State} → IsReady t → Onward s t → Sound None t → AreNarrowed t → IsSet s → IsSet t
set_on {s} {t} ready o sound narrowed h =
    (ready, (subst (λ q. IsKeptFrom t.types.records (type_of q)) (sym o.result) (kept_from s.types.records t.types.records (type_of s.body.result) o.extends h.1.0), (sound, narrowed)))

set_grows : {s t : State} → IsReady t → Grows s t → IsSet s → IsSet t
set_grows {s} {t} ready g h = set_on {s = s} {t = t} ready (onward_grows g) (g.sound None h.1.1.0) (narrowed_grows {s = s} {t = t} (places_so s h.1.1.0) g h.1.1.1) h

abbrev pub Goes : {A : Type 0} → State → (State → A → Type 0) → A × State → Type 0
Goes s Q r = (IsSet r.1 × Onward s r.1) × Q r.1 r.0

then_goes : {A B : Type 0} (s : State) (w : Walk (A × State)) (next : A × State → Walk (B × State)) (Q : State → A → Type 0) (P : State → B → Type 0) → Post w (Goes s Q)
    → ((r : A × State) → IsSet r.1 → Onward s r.1 → Q r.1 r.0 → Post (next r) (Goes r.1 P)) → Post (bind w next) (Goes s P)
then_goes {A} {B} s w next Q P h k =
    post_bind w next (Goes s Q) (Goes s P) h (λ r g. post_weaken (next r) (Goes r.1 P) (Goes s P) (k r g.0.0 g.0.1 g.1) (λ u f. ((f.0.0, onward_trans {s = s} {t = r.1} {u = u.1} g.0.1 f.0.1), f.1)))

-- what a state later stands for
abbrev Ever : (List RecordValue → Type 0) → State → Type 0
Ever P s = (r : List RecordValue) → Reaches s r → P r

ever_on : {s t : State} (P : List RecordValue → Type 0) → Onward s t → Ever P s → Ever P t
ever_on {s} {t} P o h r c = h r (reaches_on {s = s} {t = t} o c)

abbrev Nothing : {A : Type 0} → State → A → Type 0
Nothing s a = Unit {0}

abbrev SmallValue : State → Expression → Type 0
SmallValue s e = Ever (λ r. IsBounded r e) s

abbrev SmallIfAny : State → Option Expression → Type 0
SmallIfAny s o = Ever (λ r. IsBoundedOrAbsent r o) s

abbrev pub SmallStatement : State → Statement → Type 0
SmallStatement s x = Ever (λ r. IsBoundedStatement r x) s

abbrev SmallStatements : State → Statements → Type 0
SmallStatements s xs = Ever (λ r. AreBoundedStatements r xs) s

abbrev SmallBehind : State → Behind → Type 0
SmallBehind s b = Ever (λ r. AreBoundedArms r b.arms × IsBoundedElse r b.otherwise) s

abbrev SmallSwitch : State → Statement × SwitchState → Type 0
SmallSwitch s x = SmallStatement s x.0

pub left_narrowed : (s : State) → AreNarrowed s → AreNarrowed (leave_scope s)
left_narrowed s h i e x at there = let y = get_filter (λ (p : List ℕ × Entry). nat_lt p.1.depth s.scopes.depth) s.scopes.ordinary i e at in h y.0 e x y.1 there

-- a change of the body alone
set_in : (s : State) (body : BodyState) → body.result ≡ s.body.result → IsSet s → IsSet (record { types = s.types; scopes = s.scopes; made = s.made; body = body })
set_in s body same h = (
  (
    record { contents = h.0.0.contents; begun = h.0.0.begun; counted = h.0.0.counted; entities = h.0.0.entities; tags = h.0.0.tags; linked = h.0.0.linked; laid = h.0.0.laid; apart = h.0.0.apart; depths = h.0.0.depths },
    record { entities = h.0.1.entities; members = h.0.1.members; strings = h.0.1.strings },
  ),
  (subst (λ q. IsKeptFrom s.types.records (type_of q)) (sym same) h.1.0, (record { backed = h.1.1.0.backed; spelled = h.1.1.0.spelled; functions = h.1.1.0.functions; slots = h.1.1.0.slots }, h.1.1.1)),
)

onward_in : (s : State) (body : BodyState) → body.result ≡ s.body.result → Onward s (record { types = s.types; scopes = s.scopes; made = s.made; body = body })
onward_in s body same = record { extends = extends_same s.types.records; result = same }

-- ---- parts of statements

whole_goes : (e : Expr) (z : List Symbol) (sh : AreShort (spell_expr e z)) (s : State) → IsSet s → Post (whole_rule e s) (Goes s KeptValue)
unfolding whole_rule value_rule bind
whole_goes e z sh s h =
    from_expr e s _ (Goes s KeptValue) h.0.0 (expr_made e z sh s h.0) (λ r m g a met.
    let o : Onward s r.1 = onward_grows g in
    ((set_grows {s = s} {t = r.1} m g h, o), λ x c. value_keeps x r.0 (a x c)))

optional_goes : (o : Option Expr) (z : List Symbol) (sh : AreShort (spell_optional o z)) (s : State) → IsSet s → Post (optional_rule o s) (Goes s SmallIfAny)
unfolding optional_rule
optional_goes None z sh s h = ((h, onward_same s), λ r c. tt)
optional_goes (Some e) z sh s h = then_goes s _ _ KeptValue SmallIfAny (whole_goes e z sh s h) (λ r k o v. ((k, onward_same r.1), λ x c. (v x c).small))

condition_goes : (t : ℕ) (e : Expr) (z : List Symbol) (sh : AreShort (spell_expr e z)) (s : State) → IsSet s → Post (condition_rule t e s) (Goes s SmallValue)
unfolding condition_rule bind
condition_goes t e z sh s h = then_goes s (whole_rule e s) _ KeptValue SmallValue (whole_goes e z sh s h) (λ r k o v met. ((k, onward_same r.1), λ x c. (v x c).small))

optional_condition_goes : (t : ℕ) (o : Option Expr) (z : List Symbol) (sh : AreShort (spell_optional o z)) (s : State) → IsSet s → Post (optional_condition t o s) (Goes s SmallIfAny)
unfolding optional_condition bind
optional_condition_goes t o z sh s h = then_goes s (optional_rule o s) _ SmallIfAny SmallIfAny (optional_goes o z sh s h) (λ r k x v met. ((k, onward_same r.1), v))

switch_goes : (t : ℕ) (e : Expr) (z : List Symbol) (sh : AreShort (spell_expr e z)) (s : State) → IsSet s → Post (switch_rule t e s) (Goes s SmallValue)
unfolding switch_rule bind
switch_goes t e z sh s h = then_goes s (whole_rule e s) _ KeptValue SmallValue (whole_goes e z sh s h) (λ r k o v met. ((k, onward_same r.1), λ x c. (promote_keeps x r.0 (v x c)).small))

label_goes : (l : Label) (z : List Symbol) (sh : AreShort (spell_label l z)) (s : State) → IsSet s → Post (label_rule l s) (Goes s Nothing)
unfolding label_rule inside_switch case_rule default_rule name_label_rule new_label value_rule bind
label_goes (S.CaseLabel t e) z sh s h = λ met.
    from_expr e s _ (Goes s Nothing) h.0.0 (expr_made e _ sh.1 s h.0) (λ r m g a met2 met3.
    let o : Onward s r.1 = onward_grows g in
    ((set_in r.1 _ refl (set_grows {s = s} {t = r.1} m g h), onward_trans {s = s} {t = r.1} o (onward_in r.1 _ refl)), tt))
label_goes (S.DefaultLabel t) z sh s h = λ met. ((set_in s _ refl h, onward_in s _ refl), tt)
label_goes (S.NameLabel x) z sh s h = λ met. ((set_in s _ refl h, onward_in s _ refl), tt)

labels_goes : (ls : List Label) (z : List Symbol) (sh : AreShort (spell_labels ls z)) (s : State) → IsSet s → Post (labels_rule ls s) (Goes s Nothing)
unfolding labels_rule
labels_goes [] z sh s h = ((h, onward_same s), tt)
labels_goes (l ∷ rest) z sh s h = then_goes s _ _ Nothing Nothing (label_goes l _ sh s h) (λ r k o v. then_goes r.1 _ _ Nothing Nothing (labels_goes rest z (label_rest l _ sh) r.1 k) (λ u j p w. ((j, onward_same u.1), tt)))

bare_small : (s : State) (b : Bare) → SmallStatement s (statement_of b)
bare_small s (Going t n) = λ r c. tt
bare_small s b = λ r c. tt

return_goes : (t : ℕ) (o : Option Expr) (z : List Symbol) (sh : AreShort (spell_optional o z)) (s : State) → IsSet s → Post (return_rule t o s) (Goes s SmallStatement)
unfolding return_rule bind
return_goes t None z sh s h = ((h, onward_same s), λ r c. tt)
return_goes t (Some e) z sh s h =
    then_goes s (whole_rule e s) _ KeptValue SmallStatement (whole_goes e z sh s h) (λ r k o v met.
    ((k, onward_same r.1), λ x c. (cast_keeps x (type_of r.1.body.result) r.0 (k.1.0 x c.0 c.1) (assigned_null (type_of r.1.body.result) r.0 (truth _ met.1.0)) (v x c)).small))

scoped_goes : (inside : Rule Statement) (s : State) → IsSet s → ((t : State) → IsSet t → Post (inside t) (Goes t SmallStatement)) → Post (scoped inside s) (Goes s SmallStatement)
unfolding scoped bind
scoped_goes inside s h k =
    post_bind (inside (one_deeper s)) _ (Goes (one_deeper s) SmallStatement) (Goes s SmallStatement)
    (k (one_deeper s) ((deeper_lawful s h.0.0, record { entities = h.0.1.entities; members = h.0.1.members; strings = h.0.1.strings }), (h.1.0, (record { backed = h.1.1.0.backed; spelled = h.1.1.0.spelled; functions = h.1.1.0.functions; slots = h.1.1.0.slots }, h.1.1.1)))) (λ r g. (
      (((left_lawful_alone r.1 g.0.0.0.0, record { entities = g.0.0.0.1.entities; members = g.0.0.0.1.members; strings = g.0.0.0.1.strings }), (g.0.0.1.0, (left_sound_alone r.1 None g.0.0.1.1.0, left_narrowed r.1 g.0.0.1.1.1))), record { extends = g.0.1.extends; result = g.0.1.result }),
      λ x c. g.1 x c,
    ))

in_loop_goes : (body : Rule Statement) (s : State) → IsSet s → ((t : State) → IsSet t → Post (body t) (Goes t SmallStatement)) → Post (in_loop body s) (Goes s SmallStatement)
unfolding in_loop bind
in_loop_goes body s h k =
    post_bind (body _) _ (Goes _ SmallStatement) (Goes s SmallStatement) (k _ (set_in s _ refl h)) (λ r g. (
      (set_in r.1 _ refl g.0.0, record { extends = g.0.1.extends; result = g.0.1.result }),
      λ x c. g.1 x c,
    ))

in_switch_goes : (e : Expression) (body : Rule Statement) (s : State) → IsSet s → ((t : State) → IsSet t → Post (body t) (Goes t SmallStatement)) → Post (in_switch e body s) (Goes s SmallSwitch)
unfolding in_switch bind
in_switch_goes e body s h k =
    post_bind (body _) _ (Goes _ SmallStatement) (Goes s SmallSwitch) (k _ (set_in s _ refl h)) (λ r g. (
      (set_in r.1 _ refl g.0.0, record { extends = g.0.1.extends; result = g.0.1.result }),
      λ x c. g.1 x c,
    ))

-- ---- statements

-- the declarations of a block
declared : (ds : List Decl) (z : List Symbol) (sh : AreShort (spell_decls ds z)) (s : State) → IsSet s → Post (decls_rule ds s) (Goes s AreSmallFrom)
declared ds z sh s h =
    post_weaken (decls_rule ds s) (λ r. Declaring s r × Declared r) (Goes s AreSmallFrom) (post_both (decls_rule ds s) (Declaring s) Declared (decls_declare ds s h.0.0) (decls_declared ds z sh s (h.0, h.1.1)))
    (λ r g. let o : Onward s r.1 = onward_adds g.0.1 g.0.2.0 in ((set_on {s = s} {t = r.1} (g.0.0, g.1.0.0) o (g.0.1.sound h.1.1.0) g.1.0.1 h, o), g.1.1))

mutual
  unfolding stmt_rule spell_stmt

  stmt_small : (st : Stmt) (z : List Symbol) → AreShort (spell_stmt st z) → (s : State) → IsSet s → Post (stmt_rule st s) (Goes s SmallStatement)
  stmt_small (S.Compound b) z sh s h = scoped_goes (block_rule b) s h (λ t k. block_small b z sh t k)
  stmt_small (S.Expression e) z sh s h =
      from_valued e s _ (Goes s SmallStatement) h.0.0 (expr_made e _ sh s h.0) (λ r m g v.
      let o : Onward s r.1 = onward_grows g in ((set_grows {s = s} {t = r.1} m g h, o), λ x c. (v x c).small))
  stmt_small (S.Labeled ls st) z sh s h = then_goes s _ _ Nothing SmallStatement (labels_goes ls _ sh s h) (λ r k o v. then_goes r.1 _ _ SmallStatement SmallStatement (stmt_small st z (labels_rest ls _ sh) r.1 k) (λ u j p w. ((j, onward_same u.1), w)))
  stmt_small (S.If t c st a) z sh s h =
      then_goes s _ _ SmallValue SmallStatement (condition_goes t c _ sh.1.1 s h) (λ q i o v.
      then_goes q.1 _ _ SmallStatement SmallStatement (stmt_small st _ (expr_rest c _ sh.1.1).1 q.1 i) (λ r j p w.
      then_goes r.1 _ _ SmallBehind SmallStatement (alternative_small a z (stmt_rest st _ (expr_rest c _ sh.1.1).1) r.1 j) (λ u k n x.
      ((k, onward_same u.1), λ y c. let d = reaches_on {s = r.1} {t = u.1} n c in ((v y (reaches_on {s = q.1} {t = r.1} p d), w y d, (x y c).0), (x y c).1)))))
  stmt_small (S.Switch t e st) z sh s h =
      then_goes s _ _ SmallValue SmallStatement (switch_goes t e _ sh.1.1 s h) (λ q i o v.
      then_goes q.1 _ _ SmallSwitch SmallStatement (in_switch_goes q.0 (stmt_rule st) q.1 i (λ u k. stmt_small st z (expr_rest e _ sh.1.1).1 u k)) (λ r j p w.
      ((j, onward_same r.1), λ y c. (v y (reaches_on {s = q.1} {t = r.1} p c), w y c))))
  stmt_small (S.While t e st) z sh s h =
      then_goes s _ _ SmallValue SmallStatement (condition_goes t e _ sh.1.1 s h) (λ q i o v.
      then_goes q.1 _ _ SmallStatement SmallStatement (in_loop_goes (stmt_rule st) q.1 i (λ u k. stmt_small st z (expr_rest e _ sh.1.1).1 u k)) (λ r j p w.
      ((j, onward_same r.1), λ y c. (v y (reaches_on {s = q.1} {t = r.1} p c), w y c))))
  stmt_small (S.Do t st e) z sh s h =
      then_goes s _ _ SmallStatement SmallStatement (in_loop_goes (stmt_rule st) s h (λ u k. stmt_small st _ sh.1 u k)) (λ q i o v.
      then_goes q.1 _ _ SmallValue SmallStatement (condition_goes t e _ (stmt_rest st _ sh.1).1.1 q.1 i) (λ r j p w.
      ((j, onward_same r.1), λ y c. (w y c, v y (reaches_on {s = q.1} {t = r.1} p c)))))
  stmt_small (S.For t a b c st) z sh s h =
      then_goes s _ _ SmallIfAny SmallStatement (optional_goes a _ sh.1.1 s h) (λ x1 k1 o1 v1.
      then_goes x1.1 _ _ SmallIfAny SmallStatement (optional_condition_goes t b _ (optional_rest a _ sh.1.1).1 x1.1 k1) (λ x2 k2 o2 v2.
      then_goes x2.1 _ _ SmallIfAny SmallStatement (optional_goes c _ (optional_rest b _ (optional_rest a _ sh.1.1).1).1 x2.1 k2) (λ x3 k3 o3 v3.
      then_goes x3.1 _ _ SmallStatement SmallStatement (in_loop_goes (stmt_rule st) x3.1 k3 (λ u k. stmt_small st z (optional_rest c _ (optional_rest b _ (optional_rest a _ sh.1.1).1).1).1 u k)) (λ x4 k4 o4 v4. (
        (k4, onward_same x4.1),
        λ y d.
            let d3 = reaches_on {s = x3.1} {t = x4.1} o4 d in
            let d2 = reaches_on {s = x2.1} {t = x3.1} o3 d3 in
            (v1 y (reaches_on {s = x1.1} {t = x2.1} o2 d2), v2 y d2, v3 y d3, v4 y d),
      )))))
  stmt_small (S.Return t e) z sh s h = return_goes t e _ sh.1 s h
  stmt_small st z sh s h = bare_post (Goes s SmallStatement) st refl s (λ b. ((h, onward_same s), bare_small s b))

  alternative_small : (a : Alternative) (z : List Symbol) → AreShort (spell_alternative a z) → (s : State) → IsSet s → Post (alternative_rule a s) (Goes s SmallBehind)
  alternative_small S.NoElse z sh s h = ((h, onward_same s), λ r c. (tt, tt))
  alternative_small (S.Otherwise st) z sh s h = then_goes s _ _ SmallStatement SmallBehind (stmt_small st z sh.1 s h) (λ r k o v. ((k, onward_same r.1), λ x c. (tt, v x c)))
  alternative_small (S.ElseIf t c st a) z sh s h =
      then_goes s _ _ SmallValue SmallBehind (condition_goes t c _ sh.1.1.1 s h) (λ q i o v.
      then_goes q.1 _ _ SmallStatement SmallBehind (stmt_small st _ (expr_rest c _ sh.1.1.1).1 q.1 i) (λ r j p w.
      then_goes r.1 _ _ SmallBehind SmallBehind (alternative_small a z (stmt_rest st _ (expr_rest c _ sh.1.1.1).1) r.1 j) (λ u k n x.
      ((k, onward_same u.1), λ y c. let d = reaches_on {s = r.1} {t = u.1} n c in ((v y (reaches_on {s = q.1} {t = r.1} p d), w y d, (x y c).0), (x y c).1)))))

  pub block_small : (b : Block) (z : List Symbol) → AreShort (spell_block b z) → (s : State) → IsSet s → Post (block_rule b s) (Goes s SmallStatement)
  block_small (S.Braced t ds ss) z sh s h =
      asked_post s _ _ (Goes s SmallStatement)
      (then_goes s _ _ AreSmallFrom SmallStatement (declared ds _ sh.1 s h) (λ r k o v.
      asked_post r.1 _ _ (Goes r.1 SmallStatement)
      (then_goes r.1 _ _ SmallStatements SmallStatement (stmts_small ss _ (decls_rest ds _ sh.1) r.1 k) (λ u j p w.
      ((j, onward_same u.1), λ x c. (v x (reaches_on {s = r.1} {t = u.1} p c), w x c))))))

  stmts_small : (ss : Stmts) (z : List Symbol) → AreShort (spell_stmts ss z) → (s : State) → IsSet s → Post (stmts_rule ss s) (Goes s SmallStatements)
  stmts_small S.NoStmt z sh s h = ((h, onward_same s), λ r c. tt)
  stmts_small (S.Next st rest) z sh s h =
      then_goes s _ _ SmallStatement SmallStatements (stmt_small st _ sh s h) (λ r k o v.
      then_goes r.1 _ _ SmallStatements SmallStatements (stmts_small rest z (stmt_rest st _ sh) r.1 k) (λ u j p w.
      ((j, onward_same u.1), λ x c. (v x (reaches_on {s = r.1} {t = u.1} p c), w x c))))
