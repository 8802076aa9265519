-- The bodies of functions: their statements are well typed in each module that the names of a later state stand for.
use Rattle.std.specs.Prelude.{ℕ, zero, suc, ◌≡◌, ◌<◌, ◌≤◌, ◌+◌, ◌⊎◌, true, false, Option, None, Some, unwrap_or, option_and_then, List, [], ◌∷◌, length, map, slice_get, All, Ok, refl}
use Rattle.std.specs.Option.{option_map_or}
use Rattle.std.proofs.Common.{arith, ap, sym, subst, ◌∙◌, inl, inr}
use Rattle.std.proofs.lemmas.Option.{slice_get-get_or}
use Rattle.pw_tree.specs.Trees.{Word, Function, External, Definition, Declaration, Module, Block}
use Rattle.pw_tree.specs.Trees as S
use Rattle.pw_tree.specs.WellFormed.{WellFormedModule}
use Rattle.pw_types.specs.TypeTrees.{CType, QType, QTypes, type_of}
use Rattle.pw_types.specs.TypeTrees as Y
use Rattle.pw_types.specs.TypedTrees.{Statement, LocalValue, FunctionValue, ModuleValue}
use Rattle.pw_types.specs.TypedModules.{IsStatement}
use Rattle.pw_types.specs.WellTyped.{IsResult}
use Rattle.pw_check_walk.specs.Walks.{Walk, Done, Passing, bind}
use Rattle.pw_check_rules.specs.Checks.{Checks, checking}
use Rattle.pw_check_rules.specs.Declarations.{name_of}
use Rattle.pw_check_rules.specs.Derivations.{ParameterValue, Bindings, spot_of, Declared}
use Rattle.pw_check_rules.specs.Functions.{ends_in_function, function_of, bindings_of, no_bindings, parameter_local, enter_body, definition_asking, definition_rules, measured_rule, body_rule, function_rule, add_function}
use Rattle.pw_check_rules.specs.Kinds.{result_of, is_function}
use Rattle.pw_check_rules.specs.Leaves.{first_of_declaration}
use Rattle.pw_check_rules.specs.Linkage.{Asking, declare_linked, define_function, note_here, linked_before, place_for, linked_again, linked_anew, is_internal_by, type_here, is_linked}
use Rattle.pw_check_rules.specs.Modules.{external_rule, externals_rule, module_rule, module_in, global_in, hidden_global}
use Rattle.pw_check_rules.specs.SpecifierLists.{Specified}
use Rattle.pw_check_rules.specs.States.{State, Entity, TypeName, EnumerationConstant, LocalObject, StaticObject, Linked, LinkedName, HiddenObject, enter, put_entity, put_at, put_linked, add_linked, entry_here, entity_here, linked_at, leave_scope, one_deeper, start}
use Rattle.pw_check_rules.specs.Statements as R
use Rattle.pw_check_rules.specs.Statements.{block_rule}
use Rattle.pw_check_rules.specs.declared.names.Entry.{Entry}
use Rattle.pw_check_rules.specs.declared.names.Slot.TheVariants as slot
use Rattle.pw_law_checked.specs.Lawful.{IsLawful, IsLawfulType, Extends}
use Rattle.pw_law_checked.proofs.Texts.{BlockHasText, ExternalHasText, ExternalsHaveText, ModuleHasText, module_text}
use Rattle.pw_law_checked.specs.Words.{WordsInStatement}
use Rattle.pw_law_checked.proofs.Walking.{Post, post_end, post_bind, post_weaken, post_both, truth, AreMet}
use Rattle.pw_law_checked.proofs.Lists.{Longer, get_append, get_either, get_map, get_more, put_either, some_same, never_some}
use Rattle.pw_law_checked.proofs.Types.{no, extends_trans, lawful_later, lawful_result}
use Rattle.pw_law_checked.proofs.States.{Grows, grows_trans, HasEntity, stands_back}
use Rattle.pw_law_checked.proofs.Leaves.{GoodType, GoodSpecified, GoodDeclared, GoodBindings, bindings_later, built_runs}
use Rattle.pw_law_checked.proofs.Phrases.{declarator_post}
use Rattle.pw_law_checked.proofs.Locals.{IsPlaced, ArePlaced, longer_same, left_placed}
use Rattle.pw_law_checked.proofs.Parameters.{IsParameter, IsBoundThere, IsBoundIfAny, bound_later, declarator_there}
use Rattle.pw_law_checked.proofs.Sound.{Sound}
use Rattle.pw_law_checked.proofs.ObjectTypes.{function_keeps}
use Rattle.pw_law_checked.proofs.Keeping.{deeper_sound, After, Later, Kept, after_same, after_trans, later_after, later_trans}
use Rattle.pw_law_checked.proofs.Declaring.{declared_goes, function_after, GoodPlace}
use Rattle.pw_law_checked.proofs.Ending.{contains_at, start_sound}
use Rattle.pw_law_checked.proofs.Backward.{Names, names_later_back, names_end, get_flat}
use Rattle.pw_law_checked.proofs.Statements.{block_goes}
use Rattle.pw_law_checked.proofs.Modules.{OnceDefined, Onwards, none_defined, body_entered, good_bindings, good_if_any, built_kind, is_linkable, external_post}
use Rattle.pw_law_checked.proofs.Adding.{IsOwned, IsReady, Adds, Declaring, adds_trans, adds_grows, declared_adds, changed_adds, specified_all, decl_declares}
use Rattle.pw_law_checked.proofs.LabelLaws.{Steady, IsLabelled, block_labelled, asked_post}
use Rattle.pw_law_checked.proofs.StatementTypes.{Inside, Frame, IsKept, block_kept}
use Rattle.pw_law_checked.proofs.FunctionTypes.{last_of, IsBoundDeclared, IsBuiltBy, declarator_bound, built_by}
use Rattle.pw_law_checked.proofs.FunctionLaws.{Declares, typed_function, ends_here, met_post, length_map, end_same}

-- ---- the state at a body's start

-- at file scope no local is visible
outside : (ls more : List LocalValue) (depth : ℕ) (x : Entity) → depth ≤ 0 → IsPlaced ls depth x → IsPlaced more depth x
outside ls more depth (TypeName q) least h = tt
outside ls more depth (EnumerationConstant n) least h = tt
outside ls more depth (LocalObject k q register) least h = let deep : 0 < depth = h.1 in grind (arith, least, deep)
outside ls more depth (StaticObject k q) least h = tt
outside ls more depth (Linked place q) least h = tt

get_mapped : {X Y : Type 0} (f : X → Y) (xs : List X) (i : ℕ) (x : X) → slice_get xs i ≡ Some x → slice_get (map f xs) i ≡ Some (f x)
get_mapped f [] i x e = never_some e
get_mapped f (y ∷ xs) zero x e = ap (λ z. Some (f z)) (some_same e)
get_mapped f (y ∷ xs) (suc i) x e = get_mapped f xs i x e

parameter_placed : (ps : List ParameterValue) (depth : ℕ) (x : Entity) → 0 < depth → IsParameter ps x → IsPlaced (map parameter_local ps) depth x
parameter_placed ps depth (TypeName q) deep h = tt
parameter_placed ps depth (EnumerationConstant n) deep h = tt
parameter_placed ps depth (LocalObject k q register) deep h = ((parameter_local h.0, get_mapped parameter_local ps k h.0 h.1, h.2), deep)
parameter_placed ps depth (StaticObject k q) deep h = tt
parameter_placed ps depth (Linked place q) deep h = tt

pub body_placed : (s : State) (q : QType) (b : Bindings) (names : List (List ℕ)) → ArePlaced s → s.scopes.depth ≡ 0 → IsLawful s → IsBoundThere s b → ArePlaced (enter_body q b names s)
body_placed s q b names ready outer l bound = placed
  where
    placed : ArePlaced (enter_body q b names s)
    placed i e at = by (get_either s.scopes.ordinary (map (λ (x : List ℕ × ℕ). (x.0, record { place = x.1; depth = s.scopes.depth + 1 })) b.ordinary) i e at)
      where
        by : (slice_get s.scopes.ordinary i ≡ Some e) ⊎ ((j : ℕ) × (slice_get (map (λ (x : List ℕ × ℕ). (x.0, record { place = x.1; depth = s.scopes.depth + 1 })) b.ordinary) j ≡ Some e))
            → HasEntity (IsPlaced (map parameter_local b.parameters) e.1.depth) (enter_body q b names s) e.1.place
        by (inl f) =
            let x = ready i e f in
            let k : e.1.depth ≤ s.scopes.depth = l.depths i e f in
            (x.0, x.1, outside s.body.locals (map parameter_local b.parameters) e.1.depth x.0 (omega (arith, k, outer)) x.2)
        by (inr f) =
            let y = get_map (λ (x : List ℕ × ℕ). let z : List ℕ × Entry = (x.0, record { place = x.1; depth = s.scopes.depth + 1 }) in z) b.ordinary f.0 e f.1 in
            let x = bound f.0 y.0 y.1 in
            subst (λ (z : List ℕ × Entry). HasEntity (IsPlaced (map parameter_local b.parameters) z.1.depth) (enter_body q b names s) z.1.place) y.2
            (x.0, x.1, parameter_placed b.parameters (s.scopes.depth + 1) x.0 (omega arith) x.2)

-- ---- what is bound stays so where a function's name is declared

here_bound : (n : State) (name : List ℕ) (place : ℕ) (q : QType) (b : Bindings) → option_map_or is_linked (entity_here n name) true ≡ true → IsBoundThere n b → IsBoundThere (note_here name place q n) b
here_bound n name place q b linked bound = by (entry_here n name) refl
  where
    by : (o : Option Entry) → entry_here n name ≡ o
        → IsBoundThere (option_map_or (λ (e : Entry). put_entity e.place (Linked place (type_here q (unwrap_or (entity_here n name) (TypeName q)))) n) o (enter name (Linked place q) n)) b
    by None same i e at = let x = bound i e at in (x.0, get_append n.scopes.entities (Linked place q ∷ []) e.1 x.0 x.1, x.2)
    by (Some here) same i e at = put (bound i e at) (put_either here.place (Linked place (type_here q (unwrap_or (entity_here n name) (TypeName q)))) n.scopes.entities e.1)
      where
        never : (x : Entity) → is_linked x ≡ true → IsParameter b.parameters x → ⊥
        never (TypeName q) h k = no h
        never (EnumerationConstant n) h k = no h
        never (LocalObject k q register) h z = no h
        never (StaticObject k q) h z = no h
        never (Linked place q) h k = k

        put : HasEntity (IsParameter b.parameters) n e.1
            → ((e.1 ≡ here.place) × (slice_get (put_at here.place (Linked place (type_here q (unwrap_or (entity_here n name) (TypeName q)))) n.scopes.entities) e.1 ≡ Some (Linked place (type_here q (unwrap_or (entity_here n name) (TypeName q))))))
            ⊎ (slice_get (put_at here.place (Linked place (type_here q (unwrap_or (entity_here n name) (TypeName q)))) n.scopes.entities) e.1 ≡ slice_get n.scopes.entities e.1)
            → HasEntity (IsParameter b.parameters) (put_entity here.place (Linked place (type_here q (unwrap_or (entity_here n name) (TypeName q)))) n) e.1
        put x (inr f) = (x.0, f ∙ x.1, x.2)
        put x (inl f) =
            let found : entity_here n name ≡ Some x.0 =
            ap (λ o. option_and_then (Rattle.pw_check_rules.specs.States.entity_at n) o) same ∙ subst (λ k. slice_get n.scopes.entities k ≡ Some x.0) f.0 x.1 in
            absurd (never x.0 (sym (ap (λ o. option_map_or is_linked o true) found) ∙ linked) x.2)

pub declared_bound : (s : State) (name : List ℕ) (token : ℕ) (tag : Option ℕ) (asking : Asking) (q : QType) (b : Bindings) → option_map_or is_linked (entity_here s name) true ≡ true → IsBoundThere s b
    → Post (declare_linked name token tag asking q s) (λ r. Adds s r.1 × IsBoundThere r.1 b)
unfolding declare_linked bind
declared_bound s name token tag asking q b linked bound = (declared_adds s name token tag asking q, by (linked_before s name))
  where
    by : (o : Option LinkedName)
        → IsBoundThere (note_here name (place_for s name) q (option_map_or (λ l. put_linked (place_for s name) (linked_again q l) s) o (add_linked (linked_anew name (is_internal_by s name asking) q token tag) s))) b
    by None = here_bound (add_linked (linked_anew name (is_internal_by s name asking) q token tag) s) name (place_for s name) q b linked bound
    by (Some l) = here_bound (put_linked (place_for s name) (linked_again q l) s) name (place_for s name) q b linked bound

pub defined_bound : (s : State) (place : ℕ) (b : Bindings) → IsBoundThere s b → IsBoundThere (define_function place s) b
defined_bound s place b bound = by (linked_at s place)
  where
    by : (o : Option LinkedName) → IsBoundThere (option_map_or (λ x. put_linked place (record x { defined = true }) s) o s) b
    by None = bound
    by (Some x) = bound

-- ---- bodies

-- what objects the state knows, the module has
abbrev pub AreOwned : State → ModuleValue → Type 0
AreOwned t m = (k : ℕ) (h : HiddenObject) → slice_get t.made.hidden k ≡ Some h → IsOwned m k h.ty

-- a function of which the state is the end, or of an end before
abbrev pub IsStated : State → FunctionValue → Type 0
IsStated t f = (m : ModuleValue) → Names t m → AreOwned t m → WordsInStatement f.body → IsStatement m f false false f.params f.body

abbrev pub AreStated : State → Type 0
AreStated t = (i : ℕ) (f : FunctionValue) → slice_get t.made.functions i ≡ Some f → IsStated t f

-- each function that is there was there, or is stated
abbrev AreAdded : State → State → Type 0
AreAdded s t = (i : ℕ) (f : FunctionValue) → slice_get t.made.functions i ≡ Some f → (slice_get s.made.functions i ≡ Some f) ⊎ IsStated t f

-- from one state to another in a module
pub record Proceeds (s t : State) : Type 0 where
  pub placed : ArePlaced s → ArePlaced t
  pub counting : t.made.counting ≡ s.made.counting
  pub hidden : Longer s.made.hidden t.made.hidden
  pub depth : t.scopes.depth ≡ s.scopes.depth

proceeds_same : (s : State) → Proceeds s s
proceeds_same s = record { placed = λ p. p; counting = refl; hidden = longer_same s.made.hidden; depth = refl }

proceeds_trans : {s t u : State} → Proceeds s t → Proceeds t u → Proceeds s u
proceeds_trans {s} {t} {u} a b = record {
  placed = λ p. b.placed (a.placed p);
  counting = b.counting ∙ a.counting;
  hidden = λ k o e. b.hidden k o (a.hidden k o e);
  depth = b.depth ∙ a.depth;
}

proceeds_adds : {s t : State} → Adds s t → Proceeds s t
proceeds_adds {s} {t} a = record { placed = a.placed; counting = a.counting; hidden = a.hidden; depth = a.depth }

-- names tell nothing of scopes and of functions that are made
names_around : (t u : State) (m : ModuleValue) → u.types ≡ t.types → u.made.hidden ≡ t.made.hidden → u.scopes.entities ≡ t.scopes.entities → Names u m → Names t m
names_around t u m types hidden entities n = record {
  records = subst (λ x. Extends x.records m.records) types n.records;
  strings = λ k o e. n.strings k o (subst (λ xs. slice_get xs k ≡ Some o) (sym hidden) e);
  entities = λ k x e. stands_back t u m (ap (λ y. y.linked) types) x (n.entities k x (subst (λ xs. slice_get xs k ≡ Some x) (sym entities) e));
}

-- what is known of a definition where its body begins, some time behind its declarator
record Begins (v s : State) (q : QType) (d : Declared) : Type 0 where
  before : IsLawful v
  lawful : IsLawful s
  after : After v s
  good : GoodBindings v.types.records v.scopes.entities (bindings_of d)
  sound : Sound None v
  declares : Declares s q d
  placed : ArePlaced s
  counting : s.made.counting ≡ true
  outer : s.scopes.depth ≡ 0
  bound : IsBoundThere s (bindings_of d)

abbrev States : State → Unit {0} × State → Type 0
States s r = Proceeds s r.1 × AreAdded s r.1

-- the function, where its result and its names are those of its declarator
framed : (s t : State) (w : Word) (place : ℕ) (q : QType) (d : Declared) (block : Block) (x : Statement) → Declares s q d → Extends s.types.records t.types.records
    → Steady (enter_body q (bindings_of d) (R.labels_in_block block) s).body t.body → (m : ModuleValue) → Names t m
    → Frame (enter_body q (bindings_of d) (R.labels_in_block block) s).body m (function_of t w place q (bindings_of d) x)
framed s t w place q d block x h a steady m names =
    let typed = typed_function s t w place q d block x h steady m in
    let same : result_of (type_of q) ≡ typed.result = ap result_of typed.type_is in
    record {
      returns = (typed.params, typed.type_is ∙ ap (λ r. Y.Function r typed.params) (sym same));
      gives = subst (λ r. IsResult (type_of r)) (sym same) typed.gives;
      lawful = subst (λ r. IsLawfulType m.records (type_of r)) (sym same)
          (lawful_later s.types.records m.records (extends_trans a names.records) (type_of typed.result)
          (lawful_result s.types.records typed.result typed.params (subst (IsLawfulType s.types.records) typed.type_is h.lawful)).0);
      named = ap (λ (xs : List (List ℕ)). Rattle.pw_check_rules.specs.Functions.numbers_below (length xs)) steady.names;
    }

body_stated : (v s : State) (w : Word) (place : ℕ) (q : QType) (d : Declared) (block : Block) → BlockHasText block → Begins v s q d → Post (body_rule w place q (bindings_of d) block s) (States s)
unfolding body_rule measured_rule bind
body_stated v s w place q d block text h =
    let entry : IsLawful (enter_body q (bindings_of d) (R.labels_in_block block) s) × After (one_deeper v) (enter_body q (bindings_of d) (R.labels_in_block block) s) =
    body_entered v s q (bindings_of d) (R.labels_in_block block) h.after h.lawful h.good h.before.depths in
    let ready : IsReady (enter_body q (bindings_of d) (R.labels_in_block block) s) = record {
      placed = body_placed s q (bindings_of d) (R.labels_in_block block) h.placed h.outer h.lawful h.bound;
      counting = h.counting;
      sound = entry.1.sound (deeper_sound h.sound);
    } in
    post_bind (block_rule block (enter_body q (bindings_of d) (R.labels_in_block block) s)) _
    (λ r. (IsLawful r.1 × After (enter_body q (bindings_of d) (R.labels_in_block block) s) r.1 × Unit {0})
    × (IsLabelled (enter_body q (bindings_of d) (R.labels_in_block block) s).body (R.labels_in_block block) r × IsKept (enter_body q (bindings_of d) (R.labels_in_block block) s) r)) (States s)
    (post_both _ (λ r. IsLawful r.1 × After (enter_body q (bindings_of d) (R.labels_in_block block) s) r.1 × Unit {0})
    (λ r. IsLabelled (enter_body q (bindings_of d) (R.labels_in_block block) s).body (R.labels_in_block block) r × IsKept (enter_body q (bindings_of d) (R.labels_in_block block) s) r)
    (block_goes block (enter_body q (bindings_of d) (R.labels_in_block block) s) entry.0)
    (post_both _ (IsLabelled (enter_body q (bindings_of d) (R.labels_in_block block) s).body (R.labels_in_block block)) (IsKept (enter_body q (bindings_of d) (R.labels_in_block block) s))
    (block_labelled block (enter_body q (bindings_of d) (R.labels_in_block block) s) entry.0) (block_kept block (enter_body q (bindings_of d) (R.labels_in_block block) s) entry.0 text)))
    (λ r g met.
    let f : FunctionValue = function_of r.1 w place q (bindings_of d) r.0 in
    let inside : Inside (enter_body q (bindings_of d) (R.labels_in_block block) s) r.1 = g.1.1.0 in (
      record {
        placed = λ p. left_placed r.1 (inside.placed ready.placed);
        counting = inside.counting;
        hidden = inside.hidden;
        depth = let e : r.1.scopes.depth ≡ s.scopes.depth + 1 = inside.depth in omega (arith, e);
      },
      λ i e at. by f r.1 g.0.1.functions (λ m names owned words.
          g.1.1.1 m (function_of r.1 w place q (bindings_of d) r.0) (record {
            names = names_around r.1 (add_function (function_of r.1 w place q (bindings_of d) r.0) (leave_scope r.1)) m refl refl refl names;
            owned = owned;
            locals_are = longer_same r.1.body.locals;
          })
          (framed s r.1 w place q d block r.0 h.declares g.0.1.extends g.1.0.1 m (names_around r.1 (add_function (function_of r.1 w place q (bindings_of d) r.0) (leave_scope r.1)) m refl refl refl names))
          ready words (length (bindings_of d).parameters) (let k : length (map parameter_local (bindings_of d).parameters) ≡ length (bindings_of d).parameters = length_map parameter_local (bindings_of d).parameters in omega (arith, k))) i e
          (get_more r.1.made.functions f i e at),
    ))
  where
    by : (f : FunctionValue) (t : State) → t.made.functions ≡ s.made.functions → IsStated (add_function f (leave_scope t)) f → (i : ℕ) (e : FunctionValue)
        → (slice_get t.made.functions i ≡ Some e) ⊎ ((i ≡ length t.made.functions) × (f ≡ e)) → (slice_get s.made.functions i ≡ Some e) ⊎ IsStated (add_function f (leave_scope t)) e
    by f t same new i e (inl k) = inl (subst (λ fs. slice_get fs i ≡ Some e) same k)
    by f t same new i e (inr k) = inr (subst (IsStated (add_function f (leave_scope t))) k.1 new)

-- ---- definitions

linked_here : (s : State) (w : Word) (b : Specified) (d : Declared) (ds : List S.Decl) (q : QType) → AreMet (definition_rules s w b d ds q) → option_map_or is_linked (entity_here s w.text) true ≡ true
linked_here s w b d ds q met = truth (option_map_or is_linked (entity_here s w.text) true) met.0

states_later : (s t : State) (w : Walk (Unit {0} × State)) → Proceeds s t → t.made.functions ≡ s.made.functions → Post w (States t) → Post w (States s)
states_later s t w x same h =
    post_weaken w (States t) (States s) h (λ r g. (proceeds_trans x g.0, λ i f e. by r.1 i f (g.1 i f e)))
  where
    by : (u : State) (i : ℕ) (f : FunctionValue) → (slice_get t.made.functions i ≡ Some f) ⊎ IsStated u f → (slice_get s.made.functions i ≡ Some f) ⊎ IsStated u f
    by u i f (inl k) = inl (subst (λ fs. slice_get fs i ≡ Some f) same k)
    by u i f (inr k) = inr k

bound_of : (s : State) (o : Option Bindings) → IsBoundIfAny s o → IsBoundThere s (unwrap_or o no_bindings)
bound_of s None h = λ i e at. never_some at
bound_of s (Some b) h = h

-- what is known behind the name of a definition
abbrev Named : State → Declared → QType → ℕ × State → Type 0
Named v d q e =
    (IsLawful e.1 × After v e.1 × GoodPlace (name_of d).text q (place_for v (name_of d).text) e.1 e.0) × ((Adds v e.1 × IsBoundThere e.1 (bindings_of d)) × (ends_in_function d.derivations ≡ true))

name_stated : (v : State) (d : Declared) (b : Specified) (ds : List S.Decl) (q : QType) → IsLawful v → IsLawfulType v.types.records (type_of q) → IsBoundIfAny v d.bindings
    → (ends_in_function d.derivations ≡ true → is_function (type_of q) ≡ true)
    → Post (bind {A = Unit {0} × State} (Passing (definition_rules v (name_of d) b d ds q) (Done (tt, v))) (λ r. declare_linked (name_of d).text (name_of d).token b.tag (definition_asking b) q r.1)) (Named v d q)
name_stated v d b ds q l h bound kind =
    met_post v (definition_rules v (name_of d) b d ds q) (λ r. declare_linked (name_of d).text (name_of d).token b.tag (definition_asking b) q r.1) (Named v d q) (λ met.
    post_weaken _ (λ e. (IsLawful e.1 × After v e.1 × GoodPlace (name_of d).text q (place_for v (name_of d).text) e.1 e.0) × (Adds v e.1 × IsBoundThere e.1 (bindings_of d))) (Named v d q)
    (post_both _ (λ e. IsLawful e.1 × After v e.1 × GoodPlace (name_of d).text q (place_for v (name_of d).text) e.1 e.0) (λ e. Adds v e.1 × IsBoundThere e.1 (bindings_of d))
    (declared_goes None v (name_of d).text (name_of d).token b.tag (definition_asking b) q l h (function_keeps v.types.records (type_of q) (kind (ends_here v (name_of d) b d ds q met))) (is_linkable v (name_of d) b d ds q met)
    (λ hs none e g. no (sym g ∙ kind (ends_here v (name_of d) b d ds q met))))
    (declared_bound v (name_of d).text (name_of d).token b.tag (definition_asking b) q (bindings_of d) (linked_here v (name_of d) b d ds q met) (bound_of v d.bindings bound)))
    (λ e g. (g.0, (g.1, ends_here v (name_of d) b d ds q met))))

function_stated : (s : State) (f : Function) → IsLawful s → IsReady s → s.scopes.depth ≡ 0 → BlockHasText f.body → Post (function_rule f s) (States s)
unfolding function_rule
function_stated s f l ready outer text =
    post_bind _ _ (λ r. IsLawful r.1 × Grows s r.1 × GoodSpecified r.1 r.0) (States s) (specified_all s f.specifiers (first_of_declaration f.specifiers f.declarator) l) (λ r g.
    post_bind _ _ (λ u. (IsLawful u.1 × Grows r.1 u.1 × GoodDeclared u.1 u.0) × (IsBoundDeclared u.0 × IsBoundIfAny u.1 u.0.bindings)) (States s)
    (post_both _ (λ u. IsLawful u.1 × Grows r.1 u.1 × GoodDeclared u.1 u.0) (λ u. IsBoundDeclared u.0 × IsBoundIfAny u.1 u.0.bindings) (declarator_post f.declarator r.1 g.0)
    (post_both _ (λ u. IsBoundDeclared u.0) (λ u. IsBoundIfAny u.1 u.0.bindings) (declarator_bound f.declarator r.1) (declarator_there f.declarator r.1 g.0))) (λ u h.
    post_bind _ _ (λ v. (IsLawful v.1 × Grows u.1 v.1 × GoodType v.1 v.0) × (IsBuiltBy (last_of u.0.derivations) v.0 × (ends_in_function u.0.derivations ≡ true → is_function (type_of v.0) ≡ true))) (States s)
    (post_both _ (λ v. IsLawful v.1 × Grows u.1 v.1 × GoodType v.1 v.0) (λ v. IsBuiltBy (last_of u.0.derivations) v.0 × (ends_in_function u.0.derivations ≡ true → is_function (type_of v.0) ≡ true))
    (built_runs u.1 (spot_of u.0.name r.0.first r.0.tag) u.0.derivations r.0.ty h.0.0 h.0.2.0 (lawful_later r.1.types.records u.1.types.records h.0.1.extends (type_of r.0.ty) g.2))
    (post_both _ (λ v. IsBuiltBy (last_of u.0.derivations) v.0) (λ v. ends_in_function u.0.derivations ≡ true → is_function (type_of v.0) ≡ true)
    (built_by (spot_of u.0.name r.0.first r.0.tag) u.0.derivations r.0.ty u.1 refl) (built_kind u.0.derivations (spot_of u.0.name r.0.first r.0.tag) r.0.ty u.1))) (λ v i.
    asked_post v.1 _ _ (States s)
    (post_bind _ _ (Named v.1 u.0 v.0) (States s)
    (name_stated v.1 u.0 r.0 f.declarations v.0 i.0.0 i.0.2 (bound_later {s = u.1} {t = v.1} u.0.bindings i.0.1 h.1.1) i.1.1) (λ e j.
    let kind : is_function (type_of v.0) ≡ true = i.1.1 j.1.1 in
    let c : Kept e.1 (define_function e.0 e.1) = function_after e.1 e.0 j.0.2.1.0 j.0.0 j.0.2.1.1 (j.0.2.1.3.function ∙ kind) in
    let grown : Grows s v.1 = grows_trans g.1 (grows_trans h.0.1 i.0.1) in
    let first : Adds s (define_function e.0 e.1) = adds_trans (adds_grows grown) (adds_trans j.1.0.0 (changed_adds e.1 e.0 (λ x. record x { defined = true }))) in
    let later : After v.1 (define_function e.0 e.1) = after_trans j.0.1 c.1 in
    let bindings = bindings_later u.1.types.records v.1.types.records u.1.scopes.entities v.1.scopes.entities i.0.1.extends i.0.1.entities u.0.bindings h.0.2.1 in
    asked_post _ _ _ (States s)
    (states_later s (define_function e.0 e.1) (body_rule (name_of u.0) e.0 v.0 (bindings_of u.0) f.body (define_function e.0 e.1)) (proceeds_adds first)
    (later.functions ∙ grown.functions)
    (body_stated v.1 (define_function e.0 e.1) (name_of u.0) e.0 v.0 u.0 f.body text (record {
      before = i.0.0;
      lawful = c.0;
      after = later;
      good = good_bindings v.1 u.0.bindings bindings;
      sound = grown.sound None ready.sound;
      declares = record {
        ends = j.1.1;
        bound = h.1.0;
        made = i.1.0;
        lawful = lawful_later v.1.types.records (define_function e.0 e.1).types.records later.extends (type_of v.0) i.0.2;
        entities = v.1.scopes.entities;
        bindings = good_if_any (define_function e.0 e.1).types.records v.1.scopes.entities u.0.bindings
            (bindings_later v.1.types.records (define_function e.0 e.1).types.records v.1.scopes.entities v.1.scopes.entities later.extends (λ k x y. y) u.0.bindings bindings);
      };
      placed = first.placed ready.placed;
      counting = first.counting ∙ ready.counting;
      outer = first.depth ∙ outer;
      bound = defined_bound e.1 e.0 (bindings_of u.0) j.1.0.1;
    }))))))))

-- ---- modules

-- how a module goes on at file scope
abbrev GoesOn : {A : Type 0} → State → A × State → Type 0
GoesOn s r = Onwards s r × (Proceeds s r.1 × (AreStated s → AreStated r.1))

external_states : (s : State) (x : External) → IsLawful s → IsReady s → s.scopes.depth ≡ 0 → ExternalHasText x → Post (external_rule x s) (States s)
unfolding external_rule
external_states s (Definition f) l ready outer text = function_stated s f l ready outer text
external_states s (Declaration d) l ready outer text =
    post_bind _ _ (Declaring s) (States s) (decl_declares d s l) (λ r g. (proceeds_adds g.2.0, λ i f e. inl (subst (λ fs. slice_get fs i ≡ Some f) g.1.functions e)))

-- what was stated is stated at a later state
stated_on : (s t : State) → Later s t → Sound None s → Longer s.made.hidden t.made.hidden → AreAdded s t → AreStated s → AreStated t
stated_on s t later sound hidden added all i f e = by (added i f e)
  where
    by : (slice_get s.made.functions i ≡ Some f) ⊎ IsStated t f → IsStated t f
    by (inl k) = λ m names owned words. all i f k m (names_later_back m later sound names) (λ j o at. owned j o (hidden j o at)) words
    by (inr k) = k

external_stated : (s : State) (x : External) → IsLawful s → OnceDefined s → IsReady s → s.scopes.depth ≡ 0 → ExternalHasText x → Post (external_rule x s) (GoesOn s)
external_stated s x l o ready outer text =
    post_weaken _ (λ r. Onwards s r × States s r) (GoesOn s) (post_both _ (Onwards s) (States s) (external_post s x l o) (external_states s x l ready outer text))
    (λ r g. (g.0, (g.1.0, stated_on s r.1 g.0.2 ready.sound g.1.0.hidden g.1.1)))

externals_stated : (xs : List External) (s : State) → IsLawful s → OnceDefined s → IsReady s → s.scopes.depth ≡ 0 → ExternalsHaveText xs → Post (externals_rule xs s) (GoesOn s)
unfolding externals_rule
externals_stated [] s l o ready outer text = ((l, o, later_after (after_same s)), (proceeds_same s, λ all. all))
externals_stated (x ∷ rest) s l o ready outer text =
    post_bind _ _ (GoesOn s) (GoesOn s) (external_stated s x l o ready outer text.0) (λ r g.
    let next : IsReady r.1 = record { placed = g.1.0.placed ready.placed; counting = g.1.0.counting ∙ ready.counting; sound = g.0.2.sound ready.sound } in
    post_weaken (externals_rule rest r.1) (GoesOn r.1) (GoesOn s) (externals_stated rest r.1 g.0.0 g.0.1 next (g.1.0.depth ∙ outer) text.1)
    (λ u k. ((k.0.0, k.0.1, later_trans g.0.2 k.0.2), (proceeds_trans g.1.0 k.1.0, λ all. k.1.1 (g.1.1 all)))))

-- at a module's end each function that it defines is stated
abbrev pub IsWhollyStated : ModuleValue × State → Type 0
IsWhollyStated r = (r.0 ≡ module_in r.1) × (IsLawful r.1 × (Sound None r.1 × AreStated r.1))

start_ready : IsReady start
start_ready = record { placed = λ i e h. never_some h; counting = refl; sound = start_sound }

pub module_stated : (m : Module) → IsLawful start → ModuleHasText m → Post (module_rule m start) IsWhollyStated
unfolding module_rule
module_stated m l text =
    post_bind _ _ (GoesOn start) IsWhollyStated
    (post_bind _ _ (GoesOn start) (GoesOn start) (externals_stated m.externals start l none_defined start_ready refl text) (λ r h. h)) (λ r h.
    post_bind _ _ (λ u. u.1 ≡ r.1) IsWhollyStated (end_same r.0 r.1) (λ u e.
    (refl, subst (λ t. IsLawful t × (Sound None t × AreStated t)) (sym e) (h.0.0, (h.0.2.sound start_sound, h.1.1 (λ i f k. never_some k))))))

-- ---- each hidden object is the module's

hidden_owned : (t : State) → Sound None t → AreOwned t (module_in t)
hidden_owned t sound k h at =
    let i = sound.slots.strings k h at in
    let r = get_flat (global_in t) t.made.slots i.0 (slot.Hidden k) 0 (hidden_global k h) i.1 (ap (λ o. slice_get (option_map_or (λ (z : HiddenObject). hidden_global k z ∷ []) o []) 0) at) in
    (hidden_global k h, contains_at (module_in t).globals r.0 (hidden_global k h) r.1, refl, refl)

-- the body of each function is well typed
abbrev pub HasTypedBody : ModuleValue → FunctionValue → Type 0
HasTypedBody m f = WordsInStatement f.body → IsStatement m f false false f.params f.body

bodies_typed : (t : State) → IsLawful t → Sound None t → AreStated t → All (HasTypedBody (module_in t)) (module_in t).functions
bodies_typed t l sound all = λ k d below. all k _ (slice_get-get_or t.made.functions k d below) (module_in t) (names_end t l sound) (hidden_owned t sound)

pub checking_stated : (m : Module) → IsLawful start → ModuleHasText m → Post (bind (module_rule m start) (λ r. Done r.0)) (λ v. All (HasTypedBody v) v.functions)
checking_stated m l text =
    post_bind (module_rule m start) (λ r. Done r.0) IsWhollyStated (λ v. All (HasTypedBody v) v.functions) (module_stated m l text)
    (λ r h. subst (λ v. All (HasTypedBody v) v.functions) (sym h.0) (bodies_typed r.1 h.1.0 h.1.1.0 h.1.1.1))

pub module_bodies : (tree : Module) (m : ModuleValue) → WellFormedModule tree → Checks tree (Ok m) → All (HasTypedBody m) m.functions
unfolding checking
module_bodies tree m text h = post_end (checking tree) m (λ v. All (HasTypedBody v) v.functions) h (checking_stated tree Rattle.pw_law_checked.proofs.Laws.start_lawful (module_text tree text))
