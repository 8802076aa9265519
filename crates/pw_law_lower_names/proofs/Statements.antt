-- What the code of a statement names the statement names.
use Rattle.std.proofs.Common.{ℕ, ◌+◌, Bool, Option, Some, None, List, [], ◌∷◌, length}
use Rattle.std.specs.Prelude.{All}
use Rattle.std.specs.List.{AllByRecursion}
use Rattle.std.proofs.lemmas.List.Elements.{All-head, All-tail}
use Rattle.pw_value.specs.declared.value.Kind.{Kind}
use Rattle.pw_types.specs.TypeTrees.{CType}
use Rattle.pw_types.specs.TypedTrees.{Expression, Initialiser, Value, Bytes, Hidden, CaseValue, Statement, Evaluate, Block, If, While, Do, For, Switch, Label, Return, Arms, NoArm, Arm, Otherwise, NoElse, Else, Statements, NoStatement, OneStatement, FunctionValue, ModuleValue}
use Rattle.pw_types.specs.TypedModules.{Initialises, Returns, IsStatement, AreStatements, AreArms, IsElse}
use Rattle.pw_types.specs.WellTyped.{IsTyped, IsTypedOrAbsent, IsConditionOrAbsent}
use Rattle.pw_flow.specs.declared.flow.Op.TheVariants as op
use Rattle.pw_flow.specs.declared.flow.BinKind.TheVariants.{Eq}
use Rattle.pw_flow.specs.declared.flow.End.TheVariants.{Jump, Branch, Return as Leaves}
use Rattle.pw_lower.specs.declared.code.Code.{Code}
use Rattle.pw_lower.specs.declared.place.Ways.{Ways}
use Rattle.pw_lower.specs.declared.place.LocalPlace.{LocalPlace}
use Rattle.pw_lower.specs.declared.place.LocalPlace.TheVariants.{Temp, Slot}
use Rattle.pw_lower.specs.Codes.{temp_of, constant, reserve, cut, cut_here, block_of_label, named_from}
use Rattle.pw_lower.specs.Places.{place_at}
use Rattle.pw_lower.specs.Operators.{with, kind_of}
use Rattle.pw_lower.specs.Expressions.{full_name, address_of_global, address_of_local, target_of_local, lower}
use Rattle.pw_lower.specs.Statements.{labels_of, local_type, initialised_by, initialised, initialised_all, effects, test, test_or_go, choose, default_or, chosen, begun, looping, repeating, counting, switching, returning, Frame, lower_statement, lower_arms, lower_otherwise, lower_statements}
use Rattle.pw_law_lower.specs.Kept.{Keeps}
use Rattle.pw_law_lower_walk.specs.Parts.{IfAny}
use Rattle.pw_law_lower_walk.specs.Folds.{EachNode, InStatement, InStatements, InArms, InOtherwise}
use Rattle.pw_law_lower_walk.specs.Named.{NodeAmong, InitialiserAmong}
use Rattle.pw_law_lower_names.proofs.Backward.{Holds, kept_back, fresh_back, cut_back, leave_back, constant_back, with_back, stored_back, copied_back}
use Rattle.pw_law_lower_names.proofs.Expressions.{expression_names, lowered_back}

module _ (objects functions : List (List ℕ)) (m : ModuleValue) (f : FunctionValue) (frame : Frame) (keep : (e : Expression) (c : Code) → Keeps c (lower frame.home e c).code) (keeps : (ways : Ways) (s : Statement) (c : Code) → Keeps c (lower_statement frame ways s c)) where
  abbrev Names : Expression → Type 0
  Names e = EachNode (NodeAmong objects functions frame.home.name) e

  abbrev Initialise : Initialiser → Type 0
  Initialise i = InitialiserAmong objects functions frame.home.name i

  abbrev Have : Code → Type 0
  Have c = Holds objects functions c

  told : (e : Expression) → IsTyped m f.locals e → (c : Code) → Have (lower frame.home e c).code → Names e
  told e w c g = expression_names objects functions frame.home m f.locals keep e w c g

  before : (e : Expression) (c : Code) → Have (lower frame.home e c).code → Have c
  before e c g = lowered_back objects functions frame.home m f.locals keep e c g

  earlier : (ways : Ways) (s : Statement) (c : Code) → Have (lower_statement frame ways s c) → Have c
  earlier ways s c g = kept_back objects functions c (lower_statement frame ways s c) (keeps ways s c) g

  -- ---- initialisers

  address_back : (p : LocalPlace) (c : Code) → Have (address_of_local p c).code → Have c
  address_back (Temp x) c g = g
  address_back (Slot s) c g = (fresh_back objects functions (λ t. op.AddrSlot t s) c g).0

  target_back : (p : LocalPlace) (c : Code) → Have (target_of_local p c).code → Have c
  target_back (Temp x) c g = g
  target_back (Slot s) c g = (fresh_back objects functions (λ t. op.AddrSlot t s) c g).0

  value_names : (k : Option Kind) (ty : CType) (p : LocalPlace) (e : Expression) → IsTyped m f.locals e → (c : Code) → Have (initialised_by frame.home k ty p e c) → Names e × Have c
  value_names (Some kind) ty p e w c g =
      let q = target_of_local p c in
      let r = stored_back objects functions kind q.target (lower frame.home e q.code) g in
      (told e w q.code r.0, target_back p c (before e q.code r.0))
  value_names None ty p e w c g =
      let x = address_of_local p c in
      let r = copied_back objects functions frame.home.records ty (temp_of x) (lower frame.home e x.code) g in
      (told e w x.code r, address_back p c (before e x.code r))

  initialiser_names : (first count : ℕ) (i : Initialiser) → Initialises m f.locals first count i → (c : Code) → Have (initialised frame.home frame.locals i c) → Initialise i × Have c
  initialiser_names first count (Value k e) w c g = value_names (kind_of (local_type frame.locals k)) (local_type frame.locals k) (place_at frame.home.places k) e w.2 c g
  initialiser_names first count (Bytes k hidden parts) w c g =
      let x = address_of_local (place_at frame.home.places k) c in
      let r = fresh_back objects functions (λ t. op.AddrGlobal t (full_name frame.home.name (Hidden hidden)) 0) x.code
      (copied_back objects functions frame.home.records (local_type frame.locals k) (temp_of x) (address_of_global (full_name frame.home.name (Hidden hidden)) x.code) g) in
      (r.1, address_back (place_at frame.home.places k) c r.0)

  initialisers_name : (first count : ℕ) (is : List Initialiser) → All (Initialises m f.locals first count) is → (c : Code) → Have (initialised_all frame.home frame.locals is c) → AllByRecursion Initialise is × Have c
  initialisers_name first count [] w c g = (tt, g)
  initialisers_name first count (i ∷ rest) w c g =
      let r = initialisers_name first count rest (All-tail (Initialises m f.locals first count) i rest w) (initialised frame.home frame.locals i c) g in
      let s = initialiser_names first count i (All-head (Initialises m f.locals first count) i rest w) c r.1 in
      ((s.0, r.0), s.1)

  -- ---- parts of statements

  effects_name : (e : Option Expression) → IsTypedOrAbsent m f.locals e → (c : Code) → Have (effects frame.home e c) → IfAny Names e × Have c
  effects_name None w c g = (tt, g)
  effects_name (Some e) w c g = (told e w c g, before e c g)

  test_names : (e : Expression) → IsTyped m f.locals e → (so other next depth : ℕ) (c : Code) → Have (test frame.home e so other next depth c) → Names e × Have c
  test_names e w so other next depth c g =
      let x = lower frame.home e c in
      let r = cut_back objects functions (Branch (temp_of x) so other) next depth x.code g in
      (told e w c r, before e c r)

  test_or_go_names : (e : Option Expression) → IsConditionOrAbsent m f.locals e → (so other depth : ℕ) (c : Code) → Have (test_or_go frame.home e so other depth c) → IfAny Names e × Have c
  test_or_go_names None w so other depth c g = (tt, cut_back objects functions (Jump so) so depth c g)
  test_or_go_names (Some e) w so other depth c g = test_names e w.0 so other so depth c g

  choose_back : (v : ℕ) (cases : List CaseValue) (c : Code) → Have (choose v cases c) → Have c
  choose_back v [] c g = g
  choose_back v (k ∷ rest) c g =
      let x = with Eq v (constant k.value c) in
      let d = cut_here (Branch (temp_of x) (block_of_label x.code k.label) x.code.blocks) x.code.blocks (reserve 1 x.code) in
      constant_back objects functions k.value c (with_back objects functions Eq v (constant k.value c)
      (cut_back objects functions (Branch (temp_of x) (block_of_label x.code k.label) x.code.blocks) x.code.blocks x.code.depth (reserve 1 x.code) (choose_back v rest d g)))

  returning_names : (e : Option Expression) → Returns m f e → (c : Code) → Have (returning frame.home e c) → IfAny Names e
  returning_names None w c g = tt
  returning_names (Some e) w c g = let x = lower frame.home e c in told e w.0 c (leave_back objects functions (Leaves x.temp) x.code g)

  -- ---- loops and `switch`, by what their bodies name

  abbrev Tells : (Code → Code) → Type 0 → Type 0
  Tells body B = (d : Code) → Have (body d) → B × Have d

  looping_names : (B : Type 0) (e : Expression) → IsTyped m f.locals e → (body : Ways → Code → Code) → ((w : Ways) → Tells (body w) B) → (c : Code) → Have (looping frame.home e body c) → Names e × B
  looping_names B e w body tells c g =
      let head = c.blocks in
      let inner = c.blocks + 1 in
      let out = c.blocks + 2 in
      let begin = cut (Jump head) head (c.depth + 1) (reserve 3 c) in
      let entered = test frame.home e inner out inner (c.depth + 1) begin in
      let ways : Ways = record { out = out; on = head } in
      let r = tells ways entered (cut_back objects functions (Jump head) out c.depth (body ways entered) g) in
      ((test_names e w inner out inner (c.depth + 1) begin r.1).0, r.0)

  repeating_names : (B : Type 0) (e : Expression) → IsTyped m f.locals e → (body : Ways → Code → Code) → ((w : Ways) → Tells (body w) B) → (c : Code) → Have (repeating frame.home e body c) → Names e × B
  repeating_names B e w body tells c g =
      let inner = c.blocks in
      let on = c.blocks + 1 in
      let out = c.blocks + 2 in
      let begin = cut (Jump inner) inner (c.depth + 1) (reserve 3 c) in
      let ways : Ways = record { out = out; on = on } in
      let turned = body ways begin in
      let r = test_names e w inner out out c.depth (cut (Jump on) on (c.depth + 1) turned) g in
      (r.0, (tells ways begin (cut_back objects functions (Jump on) on (c.depth + 1) turned r.1)).0)

  counting_names : (B : Type 0) (first condition third : Option Expression) → IsTypedOrAbsent m f.locals first → IsConditionOrAbsent m f.locals condition → IsTypedOrAbsent m f.locals third
      → (body : Ways → Code → Code) → ((w : Ways) → Tells (body w) B) → (c : Code) → Have (counting frame.home first condition third body c)
      → IfAny Names first × IfAny Names condition × IfAny Names third × B
  counting_names B first condition third u v w body tells c g =
      let head = c.blocks in
      let inner = c.blocks + 1 in
      let on = c.blocks + 2 in
      let out = c.blocks + 3 in
      let ready = effects frame.home first (reserve 4 c) in
      let begin = cut (Jump head) head (c.depth + 1) ready in
      let entered = test_or_go frame.home condition inner out (c.depth + 1) begin in
      let ways : Ways = record { out = out; on = on } in
      let turned = cut (Jump on) on (c.depth + 1) (body ways entered) in
      let x = effects_name third w turned (cut_back objects functions (Jump head) out c.depth (effects frame.home third turned) g) in
      let y = tells ways entered (cut_back objects functions (Jump on) on (c.depth + 1) (body ways entered) x.1) in
      let z = test_or_go_names condition v inner out (c.depth + 1) begin y.1 in
      let q = effects_name first u (reserve 4 c) (cut_back objects functions (Jump head) head (c.depth + 1) ready z.1) in
      (q.0, z.0, x.0, y.0)

  switching_names : (B : Type 0) (e : Expression) → IsTyped m f.locals e → (cases : List CaseValue) (default : Option ℕ) (body : ℕ → Code → Code) → ((out : ℕ) → Tells (body out) B) → (c : Code)
      → Have (switching frame.home e cases default body c) → Names e × B
  switching_names B e w cases default body tells c g =
      let out = c.blocks in
      let own = labels_of cases default in
      let named = named_from (c.blocks + 1) own (reserve (1 + length own) c) in
      let x = lower frame.home e named in
      let compared = choose (temp_of x) cases x.code in
      let entered = chosen default out compared in
      let r = tells out entered (cut_back objects functions (Jump out) out c.depth (body out entered) g) in
      (told e w named (choose_back (temp_of x) cases x.code (leave_back objects functions (Jump (default_or compared default out)) compared r.1)), r.0)

  -- ---- statements

  -- what stands behind the arms of an `if`
  abbrev LastTells : Option (Code → Code) → Type 0 → Type 0
  LastTells None B = B
  LastTells (Some last) B = Tells last B

  mutual
    unfolding lower_statement IsStatement

    pub statement_names : (s : Statement) (breaks continues : Bool) (from : ℕ) → IsStatement m f breaks continues from s → (ways : Ways) (c : Code) → Have (lower_statement frame ways s c) → InStatement Names Initialise s
    statement_names (Evaluate t e) breaks continues from w ways c g = told e w c g
    statement_names (Block t first count initialisers items) breaks continues from w ways c g =
        let d = initialised_all frame.home frame.locals initialisers c in
        ((initialisers_name first count initialisers w.2 c (statements_back items ways d g)).0, statements_name items breaks continues (first + count) w.3 ways d g)
    statement_names (If t arms otherwise) breaks continues from w ways c g =
        let r = arms_name arms breaks continues from w.1 otherwise ways (lower_otherwise frame ways otherwise) (otherwise_tells otherwise breaks continues from w.2 ways) c g in
        (r.0, r.1)
    statement_names (While t e body) breaks continues from w ways c g =
        looping_names (InStatement Names Initialise body) e w.0.0 (λ own d. lower_statement frame own body d) (λ own d k. (statement_names body _ _ from w.1 own d k, earlier own body d k)) c g
    statement_names (Do t body e) breaks continues from w ways c g =
        repeating_names (InStatement Names Initialise body) e w.0.0 (λ own d. lower_statement frame own body d) (λ own d k. (statement_names body _ _ from w.1 own d k, earlier own body d k)) c g
    statement_names (For t first condition third body) breaks continues from w ways c g =
        counting_names (InStatement Names Initialise body) first condition third w.0 w.1 w.2 (λ own d. lower_statement frame own body d) (λ own d k. (statement_names body _ _ from w.3 own d k, earlier own body d k)) c g
    statement_names (Switch t e cases default body) breaks continues from w ways c g =
        switching_names (InStatement Names Initialise body) e w.0 cases default (λ out d. lower_statement frame (record ways { out = out }) body d)
        (λ out d k. (statement_names body _ continues from w.2 (record ways { out = out }) d k, earlier (record ways { out = out }) body d k)) c g
    statement_names (Label t own body) breaks continues from w ways c g = statement_names body breaks continues from w.1 ways (begun own c) g
    statement_names (Return t e) breaks continues from w ways c g = returning_names e w c g
    statement_names _ breaks continues from w ways c g = tt

    arms_name : (arms : Arms) (breaks continues : Bool) (from : ℕ) → AreArms m f breaks continues from arms → (o : Otherwise) (ways : Ways) (last : Option (Code → Code)) → LastTells last (InOtherwise Names Initialise o) → (c : Code)
        → Have (lower_arms frame ways arms last c) → InArms Names Initialise arms × InOtherwise Names Initialise o × Have c
    arms_name NoArm breaks continues from w o ways None tells c g = (tt, tells, g)
    arms_name NoArm breaks continues from w o ways (Some last) tells c g = let r = tells c g in (tt, r.0, r.1)
    arms_name (Arm t e s NoArm) breaks continues from w o ways None tells c g =
        let x = lower frame.home e c in
        let so = x.code.blocks in
        let join = x.code.blocks + 1 in
        let entered = cut_here (Branch (temp_of x) so join) so (reserve 2 x.code) in
        let k = cut_back objects functions (Jump join) join (lower_statement frame ways s entered).depth (lower_statement frame ways s entered) g in
        let r = cut_back objects functions (Branch (temp_of x) so join) so x.code.depth (reserve 2 x.code) (earlier ways s entered k) in
        ((told e w.0.0 c r, statement_names s breaks continues from w.1 ways entered k, tt), tells, before e c r)
    arms_name (Arm t e s NoArm) breaks continues from w o ways (Some last) tells c g =
        let x = lower frame.home e c in
        let so = x.code.blocks in
        let other = x.code.blocks + 1 in
        let join = x.code.blocks + 2 in
        let entered = cut_here (Branch (temp_of x) so other) so (reserve 3 x.code) in
        let behind = cut_here (Jump join) other (lower_statement frame ways s entered) in
        let z = tells behind (cut_back objects functions (Jump join) join (last behind).depth (last behind) g) in
        let k = cut_back objects functions (Jump join) other (lower_statement frame ways s entered).depth (lower_statement frame ways s entered) z.1 in
        let r = cut_back objects functions (Branch (temp_of x) so other) so x.code.depth (reserve 3 x.code) (earlier ways s entered k) in
        ((told e w.0.0 c r, statement_names s breaks continues from w.1 ways entered k, tt), z.0, before e c r)
    arms_name (Arm t e s (Arm u d b rest)) breaks continues from w o ways last tells c g =
        let x = lower frame.home e c in
        let so = x.code.blocks in
        let other = x.code.blocks + 1 in
        let join = x.code.blocks + 2 in
        let entered = cut_here (Branch (temp_of x) so other) so (reserve 3 x.code) in
        let behind = cut_here (Jump join) other (lower_statement frame ways s entered) in
        let z = arms_name (Arm u d b rest) breaks continues from w.2 o ways last tells behind
        (cut_back objects functions (Jump join) join (lower_arms frame ways (Arm u d b rest) last behind).depth (lower_arms frame ways (Arm u d b rest) last behind) g) in
        let k = cut_back objects functions (Jump join) other (lower_statement frame ways s entered).depth (lower_statement frame ways s entered) z.2 in
        let r = cut_back objects functions (Branch (temp_of x) so other) so x.code.depth (reserve 3 x.code) (earlier ways s entered k) in
        ((told e w.0.0 c r, statement_names s breaks continues from w.1 ways entered k, z.0), z.1, before e c r)

    otherwise_tells : (o : Otherwise) (breaks continues : Bool) (from : ℕ) → IsElse m f breaks continues from o → (ways : Ways) → LastTells (lower_otherwise frame ways o) (InOtherwise Names Initialise o)
    otherwise_tells NoElse breaks continues from w ways = tt
    otherwise_tells (Else s) breaks continues from w ways = λ c g. (statement_names s breaks continues from w ways c g, earlier ways s c g)

    statements_name : (all : Statements) (breaks continues : Bool) (from : ℕ) → AreStatements m f breaks continues from all → (ways : Ways) (c : Code) → Have (lower_statements frame ways all c) → InStatements Names Initialise all
    statements_name NoStatement breaks continues from w ways c g = tt
    statements_name (OneStatement s rest) breaks continues from w ways c g =
        (statement_names s breaks continues from w.0 ways c (statements_back rest ways (lower_statement frame ways s c) g), statements_name rest breaks continues from w.1 ways (lower_statement frame ways s c) g)

    statements_back : (all : Statements) (ways : Ways) (c : Code) → Have (lower_statements frame ways all c) → Have c
    statements_back NoStatement ways c g = g
    statements_back (OneStatement s rest) ways c g = earlier ways s c (statements_back rest ways (lower_statement frame ways s c) g)
