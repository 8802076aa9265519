-- Functions and modules: the state at a module's end is lawful.
use Rattle.pw_law_checked.proofs.Conversions.{scalar_no_function}
use Rattle.pw_law_checked.proofs.Objects.{object_later, small}
use Rattle.pw_law_checked.proofs.ObjectTypes.{function_keeps, AreWithin}
use Rattle.pw_scope.specs.Visible.{visible}
use Rattle.pw_law_checked.proofs.Named.{Asked, end_met, tentative_object}
use Rattle.pw_law_checked.proofs.Outside.{AreShallow, StaysOutside, filter_more}
use Rattle.pw_check_rules.specs.Compatible.{compatible}
use Rattle.pw_law_checked.proofs.Settled.{symbol_continues, Settled, origins_same, scopes_settled, settles}
use Rattle.pw_law_checked.proofs.Ending.{start_sound, globals_apart, kinds_apart, functions_external, globals_declared, all_at}
use Rattle.pw_types.specs.TypedModules.{IsDeclaredIfExternal}
use Rattle.pw_check_rules.specs.Kinds.{is_function}
use Rattle.pw_check_rules.specs.Limits.{Spot}
use Rattle.pw_law_checked.proofs.Composite.{Covers, covers_trans, covers_same}
use Rattle.pw_law_checked.proofs.States.{Grows}
use Rattle.pw_law_checked.proofs.Declaring.{declared_goes, GoodPlace, DeclaredAt, Linkable, function_after, mapped}
use Rattle.pw_law_checked.proofs.Sound.{Sound, Spelled, plain_spelled, IsFunctionNamed, continues_same, filling_same}
use Rattle.pw_check_rules.specs.SpecifierLists.{Specified}
use Rattle.std.specs.Option.{option_map_or}
use Rattle.std.proofs.lemmas.Bool.{eqb-true}
use Rattle.std.specs.Prelude.{ℕ, ◌≡◌, ◌+◌, ◌==◌, ◌≤◌, ◌⊎◌, not, ◌&&◌, Option, None, Some, unwrap_or, List, [], ◌∷◌, map, filter, slice_get, All, refl, ◌≢◌, ◌<◌, AllPairs, length, if◌then◌else◌, Bool, true, false, zero, suc}
use Rattle.std.proofs.Common.{arith, ap, sym, subst, inl, inr, subst₂, ◌∙◌}
use Rattle.std.proofs.lemmas.List.Kept.{AllPairs-filter}
use Rattle.std.proofs.lemmas.Option.{slice_get-get_or, get_or_from_slice_get}
use Rattle.pw_tree.specs.Trees.{Word, Function, External, Definition, Declaration, Module, Block, Decl}
use Rattle.pw_types.specs.Records.{IsLaid, IsObjectType}
use Rattle.pw_types.specs.TypeTrees.{QType, type_of, RecordValue, CType, Void, Int, Pointer, Array, Function as FunctionType, Record, Qualified}
use Rattle.pw_types.specs.TypedTrees.{FunctionValue, DeclaredValue, ModuleValue, Symbol, External as Shared, Internal, Hidden, LocalValue}
use Rattle.pw_types.specs.WellTyped.{IsKnownType, IsScalar}
use Rattle.pw_check_walk.specs.Walks.{Done, bind, Walk}
use Rattle.pw_check_rules.specs.Declarations.{name_of}
use Rattle.pw_check_rules.specs.Derivations.{Bindings, spot_of, Declared, Derivation, ToPointer, ToArray, ToFunction, built, stepped, step_type, ParameterValue}
use Rattle.pw_check_rules.specs.Functions.{function_of, bindings_of, no_bindings, enter_body, definition_asking, measured_rule, body_rule, function_rule, add_function, definition_rules, ends_in_function, parameter_local}
use Rattle.pw_check_rules.specs.Leaves.{first_of_declaration}
use Rattle.pw_check_rules.specs.Linkage.{define_function, symbol_of_linked, linked_before, place_for, is_linked}
use Rattle.pw_check_rules.specs.Modules.{external_rule, externals_rule, end_rule, module_in, module_rule, declared_value, final_type}
use Rattle.pw_check_rules.specs.States.{State, LinkedName, leave_scope, one_deeper, linked_in, start, put_linked, Entity, entity_here}
use Rattle.pw_check_rules.specs.Statements.{block_rule, labels_in_block}
use Rattle.pw_check_rules.specs.declared.names.Entry.{Entry}
use Rattle.pw_check_rules.specs.declared.names.Tag.{Tag}
use Rattle.pw_check_rules.specs.declared.names.TagEntry.{TagEntry}
use Rattle.pw_law_checked.specs.Lawful.{IsLawful, IsLawfulTag, IsLawfulType, IsObjectLike, Extends}
use Rattle.pw_law_checked.proofs.Walking.{Post, post_bind, truth, AreMet, post_weaken, post_both}
use Rattle.pw_law_checked.proofs.Lists.{get_either, get_map, get_filter, get_within, some_same, never_some, get_more, put_same, get_append}
use Rattle.pw_law_checked.proofs.Types.{lawful_later, lawful_known, no, not_true, extends_same}
use Rattle.pw_law_checked.proofs.Changes.{left_lawful_alone, tag_later, like_later}
use Rattle.pw_law_checked.proofs.Leaves.{GoodType, GoodSpecified, GoodDeclared, GoodBindings, GoodIfAny, bindings_later, built_runs, scalars_later, AreScalars}
use Rattle.pw_law_checked.proofs.Phrases.{declarator_post}
use Rattle.pw_law_checked.proofs.Declarations.{specified_goes, decl_goes}
use Rattle.pw_law_checked.proofs.Statements.{block_goes}
use Rattle.pw_law_checked.proofs.Keeping.{After, after_same, after_trans, Kept, Goes, of_runs, met_first, Anything, none_named, place_is, named_before, weaker, after_by, plain_stays, Later, later_after, later_trans, after_grows, scope_after, shallow_sound, shallow_settled}

-- ---- functions

pub good_if_any : (r : List RecordValue) (es : List Entity) (o : Option Bindings) → GoodIfAny r es o → GoodBindings r es (unwrap_or o no_bindings)
good_if_any r es None h = record { scalars = tt; tags = λ i t e. never_some e; plain = λ i t e. never_some e }
good_if_any r es (Some b) h = h

pub good_bindings : (s : State) (o : Option Bindings) → GoodIfAny s.types.records s.scopes.entities o → GoodBindings s.types.records s.scopes.entities (unwrap_or o no_bindings)
good_bindings s None h = record { scalars = tt; tags = λ i t e. never_some e; plain = λ i t e. never_some e }
good_bindings s (Some b) h = h

-- a state with the names of a parameter list stays lawful
pub body_lawful : (s : State) (es : List Entity) (q : QType) (b : Bindings) (names : List (List ℕ)) → IsLawful s → GoodBindings s.types.records es b → IsLawful (enter_body q b names s)
body_lawful s es q b names l h = record {
  contents = l.contents;
  begun = l.begun;
  counted = l.counted;
  entities = l.entities;
  tags = λ i t e. by_tag i t (get_either s.scopes.tags (map (λ (x : List ℕ × Tag). (x.0, record { tag = x.1; depth = s.scopes.depth + 1 })) b.tags) i t e);
  linked = l.linked;
  laid = l.laid;
  apart = l.apart;
  depths = λ i e g. by_entry i e (get_either s.scopes.ordinary (map (λ (x : List ℕ × ℕ). (x.0, record { place = x.1; depth = s.scopes.depth + 1 })) b.ordinary) i e g);
}
  where
    by_tag : (i : ℕ) (t : List ℕ × TagEntry)
        → (slice_get s.scopes.tags i ≡ Some t) ⊎ ((j : ℕ) × (slice_get (map (λ (x : List ℕ × Tag). (x.0, record { tag = x.1; depth = s.scopes.depth + 1 })) b.tags) j ≡ Some t))
        → IsLawfulTag s.types.records t.1.tag
    by_tag i t (inl g) = l.tags i t g
    by_tag i t (inr g) =
        let x = get_map (λ (x : List ℕ × Tag). let e : List ℕ × TagEntry = (x.0, record { tag = x.1; depth = s.scopes.depth + 1 }) in e) b.tags g.0 t g.1 in
        subst (λ (y : List ℕ × TagEntry). IsLawfulTag s.types.records y.1.tag) x.2 (h.tags g.0 x.0 x.1)

    by_entry : (i : ℕ) (e : List ℕ × Entry)
        → (slice_get s.scopes.ordinary i ≡ Some e) ⊎ ((j : ℕ) × (slice_get (map (λ (x : List ℕ × ℕ). (x.0, record { place = x.1; depth = s.scopes.depth + 1 })) b.ordinary) j ≡ Some e))
        → e.1.depth ≤ s.scopes.depth + 1
    by_entry i e (inl g) = let k : e.1.depth ≤ s.scopes.depth = l.depths i e g in omega (arith, k)
    by_entry i e (inr g) =
        let x = get_map (λ (x : List ℕ × ℕ). let e : List ℕ × Entry = (x.0, record { place = x.1; depth = s.scopes.depth + 1 }) in e) b.ordinary g.0 e g.1 in
        let same : s.scopes.depth + 1 ≡ e.1.depth = ap (λ (y : List ℕ × Entry). y.1.depth) x.2 in
        omega (arith, same)

never_zero : (n : ℕ) → (n + 1 == 0) ≡ false
never_zero n = by (n + 1 == 0) refl
  where
    by : (b : Bool) → (n + 1 == 0) ≡ b → b ≡ false
    by true e = let z : n + 1 ≡ 0 = eqb-true (n + 1) 0 e in grind (arith, z)
    by false e = refl

-- the body is entered some time behind its declarator
-- parameters are scalars
scalar_object : (r : List RecordValue) (ty : CType) → IsScalar ty → IsObjectType r ty
scalar_object r (Int k) h = small k
scalar_object r (Pointer q) h = omega arith
scalar_object r Void h = absurd h
scalar_object r (Array q n) h = absurd h
scalar_object r (FunctionType q ps) h = absurd h
scalar_object r (Record n) h = absurd h

scalar_like : (r : List RecordValue) (q : QType) → IsLawfulType r (type_of q) → IsScalar (type_of q) → IsObjectLike r q
scalar_like r (Qualified ty c v) lawful h = record { lawful = lawful; object = λ f. (scalar_no_function ty h f) }

parameters_like : (s : State) (ps : List ParameterValue) → AreScalars s.types.records ps → (k : ℕ) (l : LocalValue) → slice_get (map parameter_local ps) k ≡ Some l
    → IsObjectLike s.types.records l.ty × IsObjectType s.types.records (type_of l.ty)
parameters_like s [] h k l e = never_some e
parameters_like s (p ∷ ps) h zero l e =
    subst (λ (x : LocalValue). IsObjectLike s.types.records x.ty × IsObjectType s.types.records (type_of x.ty)) (some_same e) (scalar_like s.types.records p.ty h.0 h.1, scalar_object s.types.records (type_of p.ty) h.1)
parameters_like s (p ∷ ps) h (suc k) l e = parameters_like s ps h.2 k l e

pub body_entered : (v s : State) (q : QType) (b : Bindings) (names : List (List ℕ)) → After v s → IsLawful s → GoodBindings v.types.records v.scopes.entities b → AreShallow v.scopes → Kept (one_deeper v) (enter_body q b names s)
body_entered v s q b names a l h shallow = (
  body_lawful s v.scopes.entities q b names l (record { scalars = scalars_later v.types.records s.types.records a.extends b.parameters h.scalars; tags = λ i t e. tag_later v.types.records s.types.records a.extends t.1 (h.tags i t e); plain = h.plain }),
  after_by (record { extends = a.extends; names = a.names; functions = a.functions; hidden = a.hidden; depth = ap (λ n. n + 1) a.depth }) (λ hv. a.entities (shallow_sound hv))
      (λ hv.
      let hs = a.sound (shallow_sound hv) in
      record {
        backed = hs.backed;
        spelled = λ i e g. by_spelled (shallow_sound hv) i e (get_either s.scopes.ordinary (map (λ (x : List ℕ × ℕ). (x.0, record { place = x.1; depth = s.scopes.depth + 1 })) b.ordinary) i e g);
        functions = hs.functions;
        slots = hs.slots;
      })
      (λ z. parameters_like s b.parameters (scalars_later v.types.records s.types.records a.extends b.parameters h.scalars)) a.within
      (λ z. outside (a.outside shallow))
      (λ hv deep z. scopes_settled None s (enter_body q b names s) refl refl refl stays (a.settled (shallow_sound hv) shallow (shallow_settled z))),
)
  where
    stays : StaysOutside s.scopes (enter_body q b names s).scopes
    stays name e f =
        ap (λ xs. visible xs name)
        (filter_more (λ (y : List ℕ × Entry). y.1.depth == 0) s.scopes.ordinary (map (λ (y : List ℕ × ℕ). (y.0, record { place = y.1; depth = s.scopes.depth + 1 })) b.ordinary) (λ i y g.
        let k = get_map (λ (y : List ℕ × ℕ). let e : List ℕ × Entry = (y.0, record { place = y.1; depth = s.scopes.depth + 1 }) in e) b.ordinary i y g in
        let same : s.scopes.depth + 1 ≡ y.1.depth = ap (λ (z : List ℕ × Entry). z.1.depth) k.2 in
        subst (λ n. (n == 0) ≡ false) same (never_zero s.scopes.depth)))
        ∙ f

    outside : AreShallow s.scopes × StaysOutside v.scopes s.scopes → AreShallow (enter_body q b names s).scopes × StaysOutside (one_deeper v).scopes (enter_body q b names s).scopes
    outside x = (
      (body_lawful s v.scopes.entities q b names l (record { scalars = scalars_later v.types.records s.types.records a.extends b.parameters h.scalars; tags = λ i t e. tag_later v.types.records s.types.records a.extends t.1 (h.tags i t e); plain = h.plain })).depths,
      (λ name e f. stays name e (x.1 name e f)),
    )

    by_spelled : Sound None v → (i : ℕ) (e : List ℕ × Entry)
        → (slice_get s.scopes.ordinary i ≡ Some e) ⊎ ((j : ℕ) × (slice_get (map (λ (x : List ℕ × ℕ). (x.0, record { place = x.1; depth = s.scopes.depth + 1 })) b.ordinary) j ≡ Some e))
        → (y : Entity) × (slice_get s.scopes.entities e.1.place ≡ Some y) × Spelled s.types.linked e.0 y
    by_spelled hv i e (inl g) = (a.sound hv).spelled i e g
    by_spelled hv i e (inr g) =
        let x = get_map (λ (x : List ℕ × ℕ). let e : List ℕ × Entry = (x.0, record { place = x.1; depth = s.scopes.depth + 1 }) in e) b.ordinary g.0 e g.1 in
        let y = h.plain g.0 x.0 x.1 in
        let z = a.entities hv x.0.1 y.0 y.1 in
        subst (λ (e : List ℕ × Entry). (y : Entity) × (slice_get s.scopes.entities e.1.place ≡ Some y) × Spelled s.types.linked e.0 y) x.2
        (z.0, z.1, plain_spelled s.types.linked x.0.0 z.0 (plain_stays y.0 z.0 y.2 z.2))

measured_goes : (s : State) (w : Word) (f : FunctionValue) → IsLawful s → Goes s (measured_rule w f s) Anything
unfolding measured_rule bind
measured_goes s w f l = λ met. (l, after_same s, tt)

-- ---- functions are defined once

text_of : Symbol → List ℕ
text_of (Shared name) = name
text_of (Internal name) = name
text_of (Hidden k) = []

symbol_text : (l : LinkedName) → text_of (symbol_of_linked l) ≡ l.name
unfolding text_of
symbol_text l = by l.internal
  where
    by : (b : Bool) → text_of (if b then Internal l.name else Shared l.name) ≡ l.name
    by true = refl
    by false = refl

-- the function is that of a name that is defined
abbrev pub PlacedAt : State → FunctionValue → Type 0
PlacedAt s f = (place : ℕ) × (l : LinkedName) × (slice_get s.types.linked place ≡ Some l) × (l.defined ≡ true) × (f.name ≡ symbol_of_linked l)

-- each local of a function has a type that an object can have
abbrev pub HasLocals : List RecordValue → FunctionValue → Type 0
HasLocals r f = (k : ℕ) (l : LocalValue) → slice_get f.locals k ≡ Some l → IsObjectLike r l.ty × IsObjectType r (type_of l.ty)

locals_later : (a b : List RecordValue) (f : FunctionValue) → Extends a b → HasLocals a f → HasLocals b f
locals_later a b f x h k l e = let y = h k l e in (like_later x y.0, object_later a b x (type_of l.ty) y.1)

pub record OnceDefined (s : State) : Type 0 where
  pub locals : (i : ℕ) (f : FunctionValue) → slice_get s.made.functions i ≡ Some f → HasLocals s.types.records f
  pub placed : (i : ℕ) (f : FunctionValue) → slice_get s.made.functions i ≡ Some f → PlacedAt s f
  pub apart : (i j : ℕ) (f g : FunctionValue) → slice_get s.made.functions i ≡ Some f → slice_get s.made.functions j ≡ Some g → f.name ≡ g.name → i ≡ j

once_later : {s t : State} → After s t → OnceDefined s → OnceDefined t
once_later {s} {t} a o = record {
  locals = λ i f e. locals_later s.types.records t.types.records f a.extends (o.locals i f (subst (λ xs. slice_get xs i ≡ Some f) a.functions e));
  placed = λ i f e.
      let p = o.placed i f (subst (λ xs. slice_get xs i ≡ Some f) a.functions e) in
      let n = a.names p.0 p.1 p.2 in
      (p.0, n.0, n.1, n.2.defined p.3, p.4 ∙ sym (symbol_continues p.1 n.0 n.2));
  apart = λ i j f g e h same.
      o.apart i j f g (subst (λ xs. slice_get xs i ≡ Some f) a.functions e) (subst (λ xs. slice_get xs j ≡ Some g) a.functions h) same;
}

then_post : {A B : Type 0} {s : State} (w : Walk (A × State)) (next : A × State → Walk (B × State)) (Good : State → A → Type 0) (P : B × State → Type 0) → Goes s w Good
    → ((r : A × State) → IsLawful r.1 → After s r.1 → Good r.1 r.0 → Post (next r) P) → Post (bind w next) P
then_post {A} {B} {s} w next Good P h k = post_bind w next (λ r. IsLawful r.1 × After s r.1 × Good r.1 r.0) P h (λ r g. k r g.0 g.1 g.2)

done_post : {A B : Type 0} (a : A) (next : A → Walk B) (P : B → Type 0) → Post (next a) P → Post (bind (Done a) next) P
unfolding bind
done_post a next P h = h

abbrev Once : {A : Type 0} → A × State → Type 0
Once r = IsLawful r.1 × OnceDefined r.1

-- not defined in the state
abbrev NotDefined : State → List ℕ → Type 0
NotDefined s name = option_map_or (λ (l : LinkedName). l.defined) (linked_before s name) false ≡ false

no_place : (s : State) (name : List ℕ) (place : ℕ) (x : LinkedName) → IsLawful s → NotDefined s name → slice_get s.types.linked place ≡ Some x → x.name ≡ name → x.defined ≡ true → ⊥
no_place s name place x l none e same defined = by (linked_before s name) refl none
  where
    by : (o : Option LinkedName) → linked_before s name ≡ o → option_map_or (λ (l : LinkedName). l.defined) o false ≡ false → ⊥
    by None f g = none_named s name f place x e same
    by (Some y) f g =
        let here : slice_get s.types.linked (place_for s name) ≡ Some y = place_is s name y f in
        let one : place ≡ place_for s name = l.apart place (place_for s name) x y e here (same ∙ sym (named_before s name y f)) in
        let alike : x ≡ y = some_same (sym e ∙ (ap (slice_get s.types.linked) one ∙ here)) in
        no (sym g ∙ (ap (λ (z : LinkedName). z.defined) (sym alike) ∙ defined))

function_added : (s t : State) (name : List ℕ) (f : FunctionValue) (place : ℕ) (x : LinkedName) → IsLawful s → OnceDefined s → NotDefined s name → After s t
    → slice_get t.types.linked place ≡ Some x → x.name ≡ name → x.defined ≡ true → f.name ≡ symbol_of_linked x → HasLocals t.types.records f → OnceDefined (add_function f t)
function_added s t name f place x l o none a e named defined symbol whole = record {
  locals = λ i g h. by_locals i g (get_more t.made.functions f i g h);
  placed = λ i g h. by_place i g (get_more t.made.functions f i g h);
  apart = λ i j g h d k same. by_two i j g h (get_more t.made.functions f i g d) (get_more t.made.functions f j h k) same;
}
  where
    later : OnceDefined t
    later = once_later a o

    by_locals : (i : ℕ) (g : FunctionValue) → (slice_get t.made.functions i ≡ Some g) ⊎ ((i ≡ length t.made.functions) × (f ≡ g)) → HasLocals t.types.records g
    by_locals i g (inl h) = later.locals i g h
    by_locals i g (inr h) = subst (HasLocals t.types.records) h.1 whole

    by_place : (i : ℕ) (g : FunctionValue) → (slice_get t.made.functions i ≡ Some g) ⊎ ((i ≡ length t.made.functions) × (f ≡ g)) → PlacedAt t g
    by_place i g (inl h) = later.placed i g h
    by_place i g (inr h) = (place, x, e, defined, ap (λ (y : FunctionValue). y.name) (sym h.1) ∙ symbol)

    never : (i : ℕ) (g : FunctionValue) → slice_get t.made.functions i ≡ Some g → g.name ≡ f.name → ⊥
    never i g h same =
        let p = o.placed i g (subst (λ xs. slice_get xs i ≡ Some g) a.functions h) in
        no_place s name p.0 p.1 l none p.2
        (sym (symbol_text p.1) ∙ (ap text_of (sym p.4 ∙ (same ∙ symbol)) ∙ (symbol_text x ∙ named))) p.3

    by_two : (i j : ℕ) (g h : FunctionValue) → (slice_get t.made.functions i ≡ Some g) ⊎ ((i ≡ length t.made.functions) × (f ≡ g))
        → (slice_get t.made.functions j ≡ Some h) ⊎ ((j ≡ length t.made.functions) × (f ≡ h)) → g.name ≡ h.name → i ≡ j
    by_two i j g h (inl d) (inl k) same = later.apart i j g h d k same
    by_two i j g h (inl d) (inr k) same = absurd (never i g d (same ∙ ap (λ (y : FunctionValue). y.name) (sym k.1)))
    by_two i j g h (inr d) (inl k) same = absurd (never j h k (sym same ∙ ap (λ (y : FunctionValue). y.name) (sym d.1)))
    by_two i j g h (inr d) (inr k) same = d.0 ∙ sym k.0

added_lawful : (s : State) (f : FunctionValue) → IsLawful s → IsLawful (add_function f s)
added_lawful s f l = record { contents = l.contents; begun = l.begun; counted = l.counted; entities = l.entities; tags = l.tags; linked = l.linked; laid = l.laid; apart = l.apart; depths = l.depths }

-- at the place stands the name, which is defined
abbrev DefinedAt : List ℕ → QType → State → ℕ → Type 0
DefinedAt name q t place = (x : LinkedName) × (slice_get t.types.linked place ≡ Some x) × (x.name ≡ name) × (x.defined ≡ true) × Covers x.ty q

-- what stands behind a function or a declaration outside of functions
abbrev pub Onwards : {A : Type 0} → State → A × State → Type 0
Onwards s r = IsLawful r.1 × OnceDefined r.1 × Later s r.1

later_function : (s t : State) (f : FunctionValue) → After s t → IsFunctionNamed t.types.linked f → Later s (add_function f t)
later_function s t f a named = record {
  extends = a.extends;
  names = a.names;
  functions = λ i g e. get_append t.made.functions (f ∷ []) i g (subst (λ xs. slice_get xs i ≡ Some g) (sym a.functions) e);
  hidden = a.hidden;
  entities = a.entities;
  sound = λ h.
      let k = a.sound h in
      record { backed = k.backed; spelled = k.spelled; functions = λ i g e. by k i g (get_more t.made.functions f i g e); slots = k.slots };
  within = a.within;
  outside = a.outside;
  settled = λ h shallow z. function_settled (a.settled h shallow z);
  depth = a.depth;
}
  where
    function_settled : Settled None t → Settled None (add_function f t)
    function_settled z =
        settles None None t (add_function f t) (record {
          extends = extends_same t.types.records;
          names = λ n x e. (x, e, continues_same x);
          hidden = filling_same t.made.hidden;
          entities = λ k n r e. (r, e, covers_same r);
          outside = λ name e g. g;
          counting = refl;
        }) (origins_same None t (add_function f t) refl refl) z

    by : Sound None t → (i : ℕ) (g : FunctionValue) → (slice_get t.made.functions i ≡ Some g) ⊎ ((i ≡ length t.made.functions) × (f ≡ g)) → IsFunctionNamed t.types.linked g
    by k i g (inl e) = k.functions i g e
    by k i g (inr e) = subst (IsFunctionNamed t.types.linked) e.1 named

body_post : (old s : State) (w : Word) (place : ℕ) (q : QType) (b : Bindings) (block : Block) → IsLawful old → OnceDefined old → NotDefined old w.text → After old s
    → DefinedAt w.text q s place → is_function (type_of q) ≡ true → IsLawful s → GoodBindings old.types.records old.scopes.entities b → Post (body_rule w place q b block s) (Onwards old)
unfolding body_rule bind
body_post old s w place q b block lo o none a x kind l h =
    let c : Kept (one_deeper old) (enter_body q b (labels_in_block block) s) = body_entered old s q b (labels_in_block block) a l h lo.depths in
    then_post (block_rule block (enter_body q b (labels_in_block block) s)) _ Anything (Onwards old) (block_goes block (enter_body q b (labels_in_block block) s) c.0) (λ r m y k.
    let d : Kept old (leave_scope r.1) = (left_lawful_alone r.1 m, scope_after old r.1 (after_trans c.1 y)) in
    then_post (measured_rule w (function_of r.1 w place q b r.0) (leave_scope r.1)) _ Anything (Onwards old) (measured_goes (leave_scope r.1) w (function_of r.1 w place q b r.0) d.0) (λ u n z j.
    let whole : After old u.1 = after_trans d.1 z in
    let at = y.names place x.0 x.1 in
    let end = z.names place at.0 at.1 in
    let covers : Covers end.0.ty q = covers_trans end.2.covers (covers_trans at.2.covers x.4) in
    let named : (function_of r.1 w place q b r.0).name ≡ symbol_of_linked end.0 =
    ap (λ p. option_map_or symbol_of_linked p (Shared [])) at.1 ∙ sym (symbol_continues at.0 end.0 end.2) in (
      added_lawful u.1 (function_of r.1 w place q b r.0) n,
      function_added old u.1 w.text (function_of r.1 w place q b r.0) place end.0 lo o none whole end.1
          (end.2.name ∙ (at.2.name ∙ x.2)) (end.2.defined (at.2.defined x.3)) named
          (locals_later r.1.types.records u.1.types.records (function_of r.1 w place q b r.0) z.extends
          (y.locals (parameters_like s b.parameters (scalars_later old.types.records s.types.records a.extends b.parameters h.scalars)))),
      later_function old u.1 (function_of r.1 w place q b r.0) whole (place, end.0, end.1, named, covers, covers.function ∙ kind),
    )))

defined_at : (s : State) (place : ℕ) (name : List ℕ) (q : QType) → DeclaredAt name q s place → DefinedAt name q (define_function place s) place
defined_at s place name q x =
    subst (λ p. DefinedAt name q (option_map_or (λ y. put_linked place (record y { defined = true }) s) p s) place) (sym x.1) (
      record x.0 { defined = true },
      put_same place (record x.0 { defined = true }) s.types.linked (get_within s.types.linked place x.0 x.1),
      x.2,
      refl,
      x.3,
    )

not_yet : (s : State) (w : Word) (b : Specified) (d : Declared) (ds : List Decl) (q : QType) → AreMet (definition_rules s w b d ds q) → NotDefined s w.text
not_yet s w b d ds q met =
    not_true (option_map_or (λ (l : LinkedName). l.defined) (linked_before s w.text) false)
    (truth (not (option_map_or (λ (l : LinkedName). l.defined) (linked_before s w.text) false))
    met.1.1.1.0)

-- where the step nearest to the name is a function, the type is one
stepped_kind : (steps : List Derivation) (spot : Spot) (q : QType) (s : State) → Post (stepped spot steps q s) (λ r. ends_in_function steps ≡ true → is_function (type_of r.0) ≡ true)
unfolding stepped ends_in_function bind
stepped_kind [] spot q s = λ e. no e
stepped_kind (ToFunction ps ∷ []) spot q s = λ met e. refl
stepped_kind (ToPointer t qs ∷ []) spot q s = λ met e. no e
stepped_kind (ToArray n ∷ []) spot q s = λ met e. no e
stepped_kind (ToFunction ps ∷ next ∷ rest) spot q s = λ met. stepped_kind (next ∷ rest) spot (step_type (ToFunction ps) q) s
stepped_kind (ToPointer t qs ∷ next ∷ rest) spot q s = λ met. stepped_kind (next ∷ rest) spot (step_type (ToPointer t qs) q) s
stepped_kind (ToArray n ∷ next ∷ rest) spot q s = λ met. stepped_kind (next ∷ rest) spot (step_type (ToArray n) q) s

pub built_kind : (steps : List Derivation) (spot : Spot) (q : QType) (s : State) → Post (built spot steps q s) (λ r. ends_in_function steps ≡ true → is_function (type_of r.0) ≡ true)
unfolding built bind
built_kind steps spot q s = λ met. stepped_kind steps spot q s

is_kind : (s : State) (w : Word) (b : Specified) (d : Declared) (ds : List Decl) (q : QType) → AreMet (definition_rules s w b d ds q) → ends_in_function d.derivations ≡ true
is_kind s w b d ds q met = truth (ends_in_function d.derivations) met.1.1.1.1.0

pub is_linkable : (s : State) (w : Word) (b : Specified) (d : Declared) (ds : List Decl) (q : QType) → AreMet (definition_rules s w b d ds q) → Linkable s w.text q
is_linkable s w b d ds q met = record {
  linked = λ x e. mapped is_linked (entity_here s w.text) x (truth _ met.0) e;
  alike = λ l e. mapped (λ (l : LinkedName). compatible l.ty q) (linked_before s w.text) l (truth _ met.1.1.0) e;
}

-- what is known where a function's name is declared
abbrev Placed : State → Word → QType → List Derivation → State → ℕ → Type 0
Placed before w q steps t place = GoodPlace w.text q (place_for before w.text) t place × NotDefined before w.text × (ends_in_function steps ≡ true)

function_post : (s : State) (f : Function) → IsLawful s → OnceDefined s → Post (function_rule f s) (Onwards s)
unfolding function_rule
function_post s f l o =
    then_post _ _ GoodSpecified (Onwards s) (specified_goes s f.specifiers (first_of_declaration f.specifiers f.declarator) l) (λ r m x h.
    then_post _ _ GoodDeclared (Onwards s) (of_runs _ _ GoodDeclared (declarator_post f.declarator r.1 m)) (λ u n y k.
    post_bind _ _ (λ v. (IsLawful v.1 × Grows u.1 v.1 × GoodType v.1 v.0) × (ends_in_function u.0.derivations ≡ true → is_function (type_of v.0) ≡ true)) (Onwards s)
    (post_both _ _ _
    (built_runs u.1 (spot_of u.0.name r.0.first r.0.tag) u.0.derivations r.0.ty n k.0 (lawful_later r.1.types.records u.1.types.records y.extends (type_of r.0.ty) h))
    (built_kind u.0.derivations (spot_of u.0.name r.0.first r.0.tag) r.0.ty u.1)) (λ v good.
    let z : After u.1 v.1 = after_grows good.0.1 in
    let before : After s v.1 = after_trans x (after_trans y z) in
    done_post _ _ (Onwards s)
    (then_post _ _ (Placed v.1 (name_of u.0) v.0 u.0.derivations) (Onwards s)
    (met_first v.1 _ _ (Placed v.1 (name_of u.0) v.0 u.0.derivations) (λ met.
    weaker _ _ (GoodPlace (name_of u.0).text v.0 (place_for v.1 (name_of u.0).text)) (Placed v.1 (name_of u.0) v.0 u.0.derivations)
    (declared_goes None v.1 (name_of u.0).text (name_of u.0).token r.0.tag (definition_asking r.0) v.0 good.0.0 good.0.2 (function_keeps v.1.types.records (type_of v.0) (good.1 (is_kind v.1 (name_of u.0) r.0 u.0 f.declarations v.0 met))) (is_linkable v.1 (name_of u.0) r.0 u.0 f.declarations v.0 met)
    (λ hs none e g. no (sym g ∙ good.1 (is_kind v.1 (name_of u.0) r.0 u.0 f.declarations v.0 met))))
    (λ t place g. (g, not_yet v.1 (name_of u.0) r.0 u.0 f.declarations v.0 met, is_kind v.1 (name_of u.0) r.0 u.0 f.declarations v.0 met))))
    (λ e p q g.
    let kind : is_function (type_of v.0) ≡ true = good.1 g.2 in
    let c : Kept e.1 (define_function e.0 e.1) = function_after e.1 e.0 g.0.1.0 p g.0.1.1 (g.0.1.3.function ∙ kind) in
    done_post _ _ (Onwards s)
    (post_weaken _ (Onwards v.1) (Onwards s)
    (body_post v.1 (define_function e.0 e.1) (name_of u.0) e.0 v.0 (bindings_of u.0) f.body good.0.0 (once_later before o) g.1 (after_trans q c.1)
    (defined_at e.1 e.0 (name_of u.0).text v.0 g.0.1) kind c.0
    (good_bindings v.1 u.0.bindings
    (bindings_later u.1.types.records v.1.types.records u.1.scopes.entities v.1.scopes.entities good.0.1.extends good.0.1.entities u.0.bindings k.1)))
    (λ r done. (done.0, done.1, later_trans (later_after before) done.2))))))))

-- ---- modules

pub external_post : (s : State) (x : External) → IsLawful s → OnceDefined s → Post (external_rule x s) (Onwards s)
unfolding external_rule
external_post s (Definition f) l o = function_post s f l o
external_post s (Declaration d) l o = then_post _ _ Anything (Onwards s) (decl_goes s d l) (λ r m x h. (m, once_later x o, later_after x))

externals_post : (xs : List External) (s : State) → IsLawful s → OnceDefined s → Post (externals_rule xs s) (Onwards s)
unfolding externals_rule
externals_post [] s l o = (l, o, later_after (after_same s))
externals_post (x ∷ rest) s l o =
    post_bind _ _ (Onwards s) (Onwards s) (external_post s x l o) (λ r h.
    post_weaken _ (Onwards r.1) (Onwards s) (externals_post rest r.1 h.0 h.1) (λ u k. (k.0, k.1, later_trans h.2 k.2)))

end_goes : (names : List LinkedName) (s : State) → IsLawful s → Goes s (end_rule names s) Anything
unfolding end_rule bind
end_goes [] s l = (l, after_same s, tt)
end_goes (x ∷ rest) s l = λ met. end_goes rest s l

-- each object that is defined tentatively has a type that objects can have
abbrev pub AreTentatives : State → Type 0
AreTentatives s = (n : ℕ) (l : LinkedName) → slice_get s.types.linked n ≡ Some l → (l.tentative && not l.defined) ≡ true → IsObjectType s.types.records (type_of (final_type s l))

abbrev pub IsWhole : ModuleValue × State → Type 0
IsWhole r =
    IsLawful r.1 × OnceDefined r.1 × Sound None r.1 × (r.0 ≡ module_in r.1) × AreWithin r.1.types.records r.1.types.linked × AreTentatives r.1 × (r.1.scopes.depth ≡ 0) × Settled None r.1

pub module_post : (m : Module) (s : State) → IsLawful s → OnceDefined s → Sound None s → AreWithin s.types.records s.types.linked → s.scopes.depth ≡ 0 → Settled None s → Post (module_rule m s) IsWhole
unfolding module_rule
module_post m s l o h within outer settled =
    post_bind _ _ (λ r. Onwards s r × (r.0 ≡ linked_in r.1)) IsWhole
    (post_bind _ _ (Onwards s) (λ r. Onwards s r × (r.0 ≡ linked_in r.1)) (externals_post m.externals s l o) (λ r k. (k, refl))) (λ r k.
    post_bind (end_rule r.0 r.1) _ (λ u. (IsLawful u.1 × After r.1 u.1 × Unit {0}) × ((u.1 ≡ r.1) × Asked r.0 r.1)) IsWhole
    (post_both (end_rule r.0 r.1) (λ u. IsLawful u.1 × After r.1 u.1 × Unit {0}) (λ u. (u.1 ≡ r.1) × Asked r.0 r.1) (end_goes r.0 r.1 k.0.0) (end_met r.0 r.1)) (λ u i.
    let tentatives : AreTentatives r.1 =
    (λ n x at e. tentative_object r.1 n x k.0.0 (k.0.2.sound h) (k.0.2.within within) at e (i.1.1 n x (subst (λ xs. slice_get xs n ≡ Some x) (sym k.1) at))) in (
      i.0.0,
      once_later i.0.1 k.0.1,
      i.0.1.sound (k.0.2.sound h),
      refl,
      i.0.1.within (k.0.2.within within),
      subst AreTentatives (sym i.1.0) tentatives,
      i.0.1.depth ∙ (k.0.2.depth ∙ outer),
      i.0.1.settled (k.0.2.sound h) (k.0.2.outside l.depths).0 (k.0.2.settled h l.depths settled),
    )))

functions_apart : (s : State) → OnceDefined s → AllPairs (λ (f g : FunctionValue). f.name ≢ g.name) s.made.functions
functions_apart s o i j d below within same =
    let lower : i < length s.made.functions = omega (arith, below, within) in
    let k : i ≡ j = o.apart i j _ _ (slice_get-get_or s.made.functions i d lower) (slice_get-get_or s.made.functions j d within) same in
    grind (arith, below, k)

declared_known : (s : State) → IsLawful s → All (λ d. IsKnownType s.types.records (type_of d.ty)) (map declared_value (filter (λ l. not l.internal) (linked_in s)))
declared_known s l k d below =
    let x = get_map declared_value (filter (λ (y : LinkedName). not y.internal) (linked_in s)) k _ (slice_get-get_or _ k d below) in
    let y = get_filter (λ (y : LinkedName). not y.internal) (linked_in s) k x.0 x.1 in
    subst (λ (z : DeclaredValue). IsKnownType s.types.records (type_of z.ty)) x.2 (lawful_known s.types.records (type_of x.0.ty) (l.linked y.0 x.0 y.1))

apart_listed : (s : State) → IsLawful s → AllPairs (λ (x y : LinkedName). x.name ≢ y.name) (linked_in s)
apart_listed s l i j d below within same =
    let lower : i < length (linked_in s) = omega (arith, below, within) in
    let k : i ≡ j = l.apart i j _ _ (slice_get-get_or (linked_in s) i d lower) (slice_get-get_or (linked_in s) j d within) same in
    grind (arith, below, k)

-- pairs of what is made of the elements
pairs_map : {X Y : Type 0} (f : X → Y) (R : X → X → Type 0) (Q : Y → Y → Type 0) (xs : List X) → ((a b : X) → R a b → Q (f a) (f b)) → AllPairs R xs → AllPairs Q (map f xs)
pairs_map f R Q xs so h i j d below within =
    let lower : i < length (map f xs) = omega (arith, below, within) in
    let a = get_map f xs i _ (slice_get-get_or (map f xs) i d lower) in
    let b = get_map f xs j _ (slice_get-get_or (map f xs) j d within) in
    subst₂ Q a.2 b.2 (so a.0 b.0
    (subst₂ R (get_or_from_slice_get xs i a.0 a.0 a.1) (get_or_from_slice_get xs j b.0 a.0 b.1) (h i j a.0 below (get_within xs j b.0 b.1))))

declared_apart : (s : State) → IsLawful s → AllPairs (λ (d e : DeclaredValue). d.name ≢ e.name) (map declared_value (filter (λ l. not l.internal) (linked_in s)))
declared_apart s l =
    pairs_map declared_value (λ x y. x.name ≢ y.name) (λ d e. d.name ≢ e.name) (filter (λ (x : LinkedName). not x.internal) (linked_in s)) (λ a b h. h)
    (AllPairs-filter (λ (x y : LinkedName). x.name ≢ y.name) (λ (x : LinkedName). not x.internal) (linked_in s) (apart_listed s l))

pub record IsSound (m : ModuleValue) : Type 0 where
  pub laid : IsLaid m.records
  pub known : All (λ d. IsKnownType m.records (type_of d.ty)) m.declared
  pub locals : All (λ f. All (λ l. IsObjectType m.records (type_of l.ty) × IsKnownType m.records (type_of l.ty)) f.locals) m.functions
  pub one_declared : AllPairs (λ d e. d.name ≢ e.name) m.declared
  pub one_function : AllPairs (λ f g. f.name ≢ g.name) m.functions
  pub one_global : AllPairs (λ g h. g.name ≢ h.name) m.globals
  pub one_kind : All (λ g. All (λ f. g.name ≢ f.name) m.functions) m.globals
  pub external : All (λ f. IsDeclaredIfExternal m f.name f.ty) m.functions
  pub declared : All (λ g. IsDeclaredIfExternal m g.name g.ty) m.globals

functions_locals : (s : State) → OnceDefined s → All (λ f. All (λ l. IsObjectType s.types.records (type_of l.ty) × IsKnownType s.types.records (type_of l.ty)) f.locals) s.made.functions
functions_locals s o =
    all_at (λ (f : FunctionValue). All (λ (l : LocalValue). IsObjectType s.types.records (type_of l.ty) × IsKnownType s.types.records (type_of l.ty)) f.locals) s.made.functions (λ i f e.
    all_at (λ (l : LocalValue). IsObjectType s.types.records (type_of l.ty) × IsKnownType s.types.records (type_of l.ty)) f.locals (λ k l g.
    let x = o.locals i f e k l g in (x.1, lawful_known s.types.records (type_of l.ty) x.0.lawful)))

sound : (s : State) → IsLawful s → OnceDefined s → Sound None s → IsSound (module_in s)
sound s l o h = record {
  laid = l.laid;
  known = declared_known s l;
  locals = functions_locals s o;
  one_declared = declared_apart s l;
  one_function = functions_apart s o;
  one_global = globals_apart s l h;
  one_kind = kinds_apart s l h;
  external = functions_external s l h;
  declared = globals_declared s l h;
}

pub none_defined : OnceDefined start
none_defined = record { locals = λ i f e. never_some e; placed = λ i f e. never_some e; apart = λ i j f g e h same. never_some e }

pub start_settled : Settled None start
start_settled = record { counting = refl; names = λ n l e f. never_some e; hidden = λ k h e. never_some e }

pub checking_sound : (m : Module) → IsLawful start → Post (bind (module_rule m start) (λ r. Done r.0)) IsSound
checking_sound m l =
    post_bind (module_rule m start) (λ r. Done r.0) IsWhole IsSound (module_post m start l none_defined start_sound (λ n x e. never_some e) refl start_settled)
    (λ r h. subst IsSound (sym h.3) (sound r.1 h.0 h.1 h.2))
