-- The names that a list of parameters declares: each is a parameter of its type, or an enumeration constant.
use Rattle.std.specs.Prelude.{ℕ, ◌≡◌, ◌+◌, ◌≤◌, ◌⊎◌, ◌==◌, Bool, true, false, not, ◌&&◌, ◌||◌, Option, None, Some, is_none, List, [], ◌∷◌, ◌++◌, length, filter, slice_get, if◌then◌else◌, refl}
use Rattle.std.specs.Option.{option_or}
use Rattle.std.proofs.Common.{arith, ap, sym, subst, ◌∙◌, inl, inr}
use Rattle.std.proofs.lemmas.Bool.{eqb-true}
use Rattle.pw_tree.specs.FirstTokens.{first_of_expr}
use Rattle.pw_tree.specs.Trees.{Declarator, Core, Suffixes, Parameters, Word}
use Rattle.pw_tree.specs.Trees as S
use Rattle.pw_types.specs.TypeTrees.{Void, Int, Pointer, Array, Function, Record, QType, Qualified, type_of}
use Rattle.pw_check_walk.specs.Walks.{bind}
use Rattle.pw_check_rules.specs.Derivations.{ParameterValue, Bindings, Declared, built, spot_of}
use Rattle.pw_check_rules.specs.Kinds.{is_void}
use Rattle.pw_check_rules.specs.Leaves.{adjusted, is_nil, is_last, says_none, named_point, parameter_rule, enter_parameter, without_void, bindings_rule, first_of_declaration}
use Rattle.pw_check_rules.specs.Phrases.{declarator_rule, core_rule, suffixes_rule, parameters_rule}
use Rattle.pw_check_rules.specs.SpecifierLists.{Specified, nothing_gathered, is_register}
use Rattle.pw_check_rules.specs.States.{State, Entity, TypeName, EnumerationConstant, LocalObject, StaticObject, Linked, enter, scoped, one_deeper}
use Rattle.pw_check_rules.specs.declared.names.Entry.{Entry}
use Rattle.pw_law_checked.specs.Lawful.{IsLawful}
use Rattle.pw_law_checked.proofs.Walking.{Post, post_bind, post_weaken, post_both, truth, met_right}
use Rattle.pw_law_checked.proofs.Lists.{get_append, get_either, get_one, get_last, get_more, get_map, get_filter}
use Rattle.pw_law_checked.proofs.Types.{no}
use Rattle.pw_law_checked.proofs.States.{Fine, FineValue, Grows, Widens, HasEntity, IsConstant, grows_trans, widely, goes_widely, goes_on}
use Rattle.pw_law_checked.proofs.Operations.{value_runs}
use Rattle.pw_law_checked.proofs.Changes.{deeper_lawful, scoped_runs}
use Rattle.pw_law_checked.proofs.Leaves.{Nothing, GoodType, GoodGathered, GoodSpecified, GoodDeclared, GoodParameters, scalars_later, specified_runs, built_runs, length_runs, parameter_storage_runs, parameter_runs, GoodBindings, bindings_runs}
use Rattle.pw_law_checked.proofs.Phrases.{expr_post, specifiers_post, declarator_post, core_post, suffixes_post, parameters_post, later_type, scalars_only, GoodSuffixed}

-- what the scope of a parameter list has: a constant, or a parameter of its type, which is not void
abbrev pub IsParameter : List ParameterValue → Entity → Type 0
IsParameter ps (TypeName q) = ⊥
IsParameter ps (EnumerationConstant n) = Unit {0}
IsParameter ps (LocalObject k q register) = (p : ParameterValue) × (slice_get ps k ≡ Some p) × (p.ty ≡ q) × (is_void (type_of q) ≡ false)
IsParameter ps (StaticObject k q) = ⊥
IsParameter ps (Linked place q) = ⊥

constant_parameter : (ps : List ParameterValue) (x : Entity) → IsConstant x → IsParameter ps x
constant_parameter ps (TypeName q) h = absurd h
constant_parameter ps (EnumerationConstant n) h = tt
constant_parameter ps (LocalObject k q register) h = absurd h
constant_parameter ps (StaticObject k q) h = absurd h
constant_parameter ps (Linked place q) h = absurd h

one_parameter_more : (ps : List ParameterValue) (p : ParameterValue) (x : Entity) → IsParameter ps x → IsParameter (ps ++ p ∷ []) x
one_parameter_more ps p (TypeName q) h = absurd h
one_parameter_more ps p (EnumerationConstant n) h = tt
one_parameter_more ps p (LocalObject k q register) h = (h.0, get_append ps (p ∷ []) k h.0 h.1, h.2, h.3)
one_parameter_more ps p (StaticObject k q) h = absurd h
one_parameter_more ps p (Linked place q) h = absurd h

-- each name of the scope that is read is one of those
abbrev AreListed : State → List ParameterValue → Type 0
AreListed t ps = (i : ℕ) (e : List ℕ × Entry) → slice_get t.scopes.ordinary i ≡ Some e → e.1.depth ≡ t.scopes.depth → HasEntity (IsParameter ps) t e.1.place

listed_grows : {t u : State} (ps : List ParameterValue) → Grows t u → AreListed t ps → AreListed u ps
listed_grows {t} {u} ps g h i e at deep = by (get_either t.scopes.ordinary g.more i e (subst (λ xs. slice_get xs i ≡ Some e) g.ordinary at))
  where
    by : (slice_get t.scopes.ordinary i ≡ Some e) ⊎ ((j : ℕ) × (slice_get g.more j ≡ Some e)) → HasEntity (IsParameter ps) u e.1.place
    by (inl f) = let x = h i e f (deep ∙ g.depth) in (x.0, g.entities e.1.place x.0 x.1, x.2)
    by (inr f) = let x = g.entered f.0 e f.1 in (x.0, x.1, constant_parameter ps x.0 x.2)

none_listed : (s : State) → IsLawful s → AreListed (one_deeper s) []
none_listed s l i e at deep =
    let k : e.1.depth ≤ s.scopes.depth = l.depths i e at in
    let d : e.1.depth ≡ s.scopes.depth + 1 = deep in
    grind (arith, k, d)

adjusted_void : (q : QType) → is_void (type_of (adjusted q)) ≡ is_void (type_of q)
adjusted_void (Qualified (Array q n) c v) = refl
adjusted_void (Qualified (Function q ps) c v) = refl
adjusted_void (Qualified Void c v) = refl
adjusted_void (Qualified (Int k) c v) = refl
adjusted_void (Qualified (Pointer q) c v) = refl
adjusted_void (Qualified (Record n) c v) = refl

-- a parameter with a name is not void
named_value : (sole : Bool) (b : Specified) (w : Word) (q : QType) → (not (is_void (type_of q)) || says_none sole b (Some w) q) ≡ true → is_void (type_of (adjusted q)) ≡ false
named_value sole b w q e = adjusted_void q ∙ by (is_void (type_of q)) e
  where
    never : (x : Bool) (y z u : Bool) → (((x && false) && y) && z && u) ≡ true → ⊥
    never true y z u h = no h
    never false y z u h = no h

    by : (x : Bool) → (not x || says_none sole b (Some w) q) ≡ true → x ≡ false
    by true h = no_more sole h
      where
        no_more : (x : Bool) → (x && is_none (Some w) && is_none b.storage && not (Rattle.pw_types.specs.TypeTrees.is_constant q) && not (Rattle.pw_types.specs.TypeTrees.is_volatile q)) ≡ true → true ≡ false
        no_more true k = no k
        no_more false k = no k
    by false h = refl

listed_entered : (t : State) (ps : List ParameterValue) (name : Option Word) (q : QType) (register : Bool) → AreListed t ps
    → ((w : Word) → name ≡ Some w → is_void (type_of q) ≡ false) → AreListed (enter_parameter name (LocalObject (length ps) q register) t) (ps ++ record { name = name; ty = q } ∷ [])
listed_entered t ps None q register h value i e at deep =
    let x = h i e at deep in (x.0, x.1, one_parameter_more ps (record { name = None; ty = q }) x.0 x.2)
listed_entered t ps (Some w) q register h value i e at deep = by (get_more t.scopes.ordinary (w.text, record { place = length t.scopes.entities; depth = t.scopes.depth }) i e at)
  where
    by : (slice_get t.scopes.ordinary i ≡ Some e) ⊎ ((i ≡ length t.scopes.ordinary) × ((w.text, record { place = length t.scopes.entities; depth = t.scopes.depth }) ≡ e))
        → HasEntity (IsParameter (ps ++ record { name = Some w; ty = q } ∷ [])) (enter w.text (LocalObject (length ps) q register) t) e.1.place
    by (inl f) =
        let x = h i e f deep in
        (x.0, get_append t.scopes.entities (LocalObject (length ps) q register ∷ []) e.1.place x.0 x.1, one_parameter_more ps (record { name = Some w; ty = q }) x.0 x.2)
    by (inr f) =
        subst (λ (y : List ℕ × Entry). HasEntity (IsParameter (ps ++ record { name = Some w; ty = q } ∷ [])) (enter w.text (LocalObject (length ps) q register) t) y.1.place) f.1
        (LocalObject (length ps) q register, get_last t.scopes.entities (LocalObject (length ps) q register), (record { name = Some w; ty = q }, get_last ps (record { name = Some w; ty = q }), refl, value w refl))

parameter_listed : (s : State) (ended : Bool) (b : Specified) (d : Declared) (ps : List ParameterValue) → IsLawful s → GoodSpecified s b → GoodDeclared s d → AreListed s ps
    → Post (parameter_rule (is_nil ps && ended) b d ps s) (λ r. AreListed r.1 r.0)
unfolding parameter_rule bind
parameter_listed s ended b d ps l h k listed =
    post_bind (built (spot_of d.name b.first b.tag) d.derivations b.ty s) _ (λ r. IsLawful r.1 × Grows s r.1 × GoodType r.1 r.0) (λ r. AreListed r.1 r.0)
    (built_runs s (spot_of d.name b.first b.tag) d.derivations b.ty l k.0 h)
    (λ r g met.
    let own = met_right (named_point r.1 d.name) _ met in
    listed_entered r.1 ps d.name (adjusted r.0) (is_register b.storage) (listed_grows ps g.1 listed) (λ w same.
    named_value (is_nil ps && ended) b w r.0 (subst (λ name. (not (is_void (type_of r.0)) || says_none (is_nil ps && ended) b name r.0) ≡ true) same (truth _ own.0))))

parameters_listed : (rest : Parameters) (ps : List ParameterValue) (s : State) → IsLawful s → GoodParameters s.types.records (is_last rest) ps → AreListed s ps
    → Post (parameters_rule rest ps s) (λ r. AreListed r.1 r.0)
unfolding parameters_rule
parameters_listed S.NoParameter ps s l h listed = listed
parameters_listed (S.Parameter specifiers d rest) ps s l h listed =
    post_bind _ _ (λ r. IsLawful r.1 × Grows s r.1 × GoodGathered r.1 r.0) (λ r. AreListed r.1 r.0) (specifiers_post specifiers (first_of_declaration specifiers d) nothing_gathered s l tt) (λ r1 g1.
    post_bind _ _ (λ r. IsLawful r.1 × Grows r1.1 r.1 × GoodSpecified r.1 r.0) (λ r. AreListed r.1 r.0) (specified_runs r1.1 (first_of_declaration specifiers d) r1.0 g1.0 g1.2) (λ r2 g2.
    post_bind _ _ (λ r. IsLawful r.1 × Grows r2.1 r.1 × GoodDeclared r.1 r.0) (λ r. AreListed r.1 r.0)
    (goes_on _ _ Nothing GoodDeclared (parameter_storage_runs r2.1 r2.0 g2.0) (λ r m g f. declarator_post d r.1 m)) (λ r3 g3.
    let all : Grows s r3.1 = grows_trans g1.1 (grows_trans g2.1 g3.1) in
    let scalars = scalars_later s.types.records r3.1.types.records all.extends ps (scalars_only s.types.records ps h) in
    post_bind _ _ (λ r. (IsLawful r.1 × Widens r3.1 r.1 × GoodParameters r.1.types.records (is_last rest) r.0) × AreListed r.1 r.0) (λ r. AreListed r.1 r.0)
    (post_both _ (λ r. IsLawful r.1 × Widens r3.1 r.1 × GoodParameters r.1.types.records (is_last rest) r.0) (λ r. AreListed r.1 r.0)
    (parameter_runs r3.1 (is_last rest) r2.0 r3.0 ps g3.0 (later_type r2.0.ty g3.1 g2.2) g3.2 scalars)
    (parameter_listed r3.1 (is_last rest) r2.0 r3.0 ps g3.0 (later_type r2.0.ty g3.1 g2.2) g3.2 (listed_grows ps all listed))) (λ r4 g4.
    parameters_listed rest r4.0 r4.1 g4.0.0 g4.0.2 g4.1))))

-- ---- what is bound

abbrev pub IsBoundThere : State → Bindings → Type 0
IsBoundThere s b = (i : ℕ) (e : List ℕ × ℕ) → slice_get b.ordinary i ≡ Some e → HasEntity (IsParameter b.parameters) s e.1

abbrev pub IsBoundIfAny : State → Option Bindings → Type 0
IsBoundIfAny s None = Unit {0}
IsBoundIfAny s (Some b) = IsBoundThere s b

-- a parameter of type void by itself has no name
value_parameter : (ps : List ParameterValue) (x : Entity) → IsParameter ps x → IsParameter (without_void ps) x
value_parameter [] x h = h
value_parameter (p ∷ []) x h = by (is_void (type_of p.ty)) refl x h
  where
    by : (b : Bool) → is_void (type_of p.ty) ≡ b → (x : Entity) → IsParameter (p ∷ []) x → IsParameter (if b then [] else p ∷ []) x
    by true e (TypeName q) h = absurd h
    by true e (EnumerationConstant n) h = tt
    by true e (LocalObject k q register) h =
        no (sym (ap (λ (y : ParameterValue). is_void (type_of y.ty)) (get_one p k h.0 h.1) ∙ ap (λ y. is_void (type_of y)) h.2 ∙ h.3) ∙ e)
    by true e (StaticObject k q) h = absurd h
    by true e (Linked place q) h = absurd h
    by false e x h = h
value_parameter (p ∷ y ∷ ps) x h = h

bindings_bound : (s : State) (ps : List ParameterValue) → AreListed s ps → Post (bindings_rule ps s) (λ r. IsBoundThere r.1 r.0)
unfolding bindings_rule bind
bindings_bound s ps listed i e at =
    let x = get_map (λ (y : List ℕ × Entry). (y.0, y.1.place)) (filter (λ (y : List ℕ × Entry). y.1.depth == s.scopes.depth) s.scopes.ordinary) i e at in
    let y = get_filter (λ (y : List ℕ × Entry). y.1.depth == s.scopes.depth) s.scopes.ordinary i x.0 x.1 in
    let z = listed y.0 x.0 y.1 (eqb-true x.0.1.depth s.scopes.depth y.2) in
    subst (λ (w : List ℕ × ℕ). HasEntity (IsParameter (without_void ps)) s w.1) x.2 (z.0, z.1, value_parameter ps z.0 z.2)

pub bound_later : {s t : State} (o : Option Bindings) → Grows s t → IsBoundIfAny s o → IsBoundIfAny t o
bound_later None g h = tt
bound_later (Some b) g h = λ i e at. let x = h i e at in (x.0, g.entities e.1 x.0 x.1, x.2)

scope_bound : (s : State) (parameters : Parameters) → IsLawful s
    → Post (scoped (λ t. bind (parameters_rule parameters [] t) (λ ps. bindings_rule ps.0 ps.1)) s) (λ r. IsBoundThere r.1 r.0)
unfolding scoped bind
scope_bound s parameters l =
    post_bind (bind (parameters_rule parameters [] (one_deeper s)) (λ ps. bindings_rule ps.0 ps.1)) _ (λ r. IsBoundThere r.1 r.0) (λ r. IsBoundThere r.1 r.0)
    (post_bind (parameters_rule parameters [] (one_deeper s)) (λ ps. bindings_rule ps.0 ps.1) (λ r. AreListed r.1 r.0) (λ r. IsBoundThere r.1 r.0)
    (parameters_listed parameters [] (one_deeper s) (deeper_lawful s l) (inl tt) (none_listed s l)) (λ r h. bindings_bound r.1 r.0 h)) (λ r h. h)

scope_lawful : (s : State) (parameters : Parameters) → IsLawful s
    → Post (scoped (λ t. bind (parameters_rule parameters [] t) (λ ps. bindings_rule ps.0 ps.1)) s) (λ r. IsLawful r.1 × Unit {0})
scope_lawful s parameters l =
    post_weaken _ (λ r. IsLawful r.1 × Grows s r.1 × GoodBindings r.1.types.records r.1.scopes.entities r.0) (λ r. IsLawful r.1 × Unit {0})
    (scoped_runs s (λ t. bind (parameters_rule parameters [] t) (λ ps. bindings_rule ps.0 ps.1)) GoodBindings l
    (goes_widely _ _ (λ u ps. GoodParameters u.types.records true ps) (λ u b. GoodBindings u.types.records u.scopes.entities b)
    (parameters_post parameters [] (one_deeper s) (deeper_lawful s l) (inl tt)) (λ r m g f. widely _ _ (λ u b. GoodBindings u.types.records u.scopes.entities b) (bindings_runs r.1 s true r.0 m l g f)))) (λ r g. (g.0, tt))

either_bound : (s : State) (a b : Option Bindings) → IsBoundIfAny s a → IsBoundIfAny s b → IsBoundIfAny s (option_or a b)
either_bound s None b h k = k
either_bound s (Some x) b h k = h

mutual
  unfolding declarator_rule

  pub declarator_there : (d : Declarator) (s : State) → IsLawful s → Post (declarator_rule d s) (λ r. IsBoundIfAny r.1 r.0.bindings)
  declarator_there (S.Declaring pointers core suffixes) s l =
      post_bind _ _ (λ r. (IsLawful r.1 × Grows s r.1 × GoodDeclared r.1 r.0) × IsBoundIfAny r.1 r.0.bindings) (λ r. IsBoundIfAny r.1 r.0.bindings)
      (post_both _ (λ r. IsLawful r.1 × Grows s r.1 × GoodDeclared r.1 r.0) (λ r. IsBoundIfAny r.1 r.0.bindings) (core_post core s l) (core_there core s l)) (λ r h.
      post_bind _ _ (λ u. (IsLawful u.1 × Grows r.1 u.1 × GoodSuffixed u.1 u.0) × IsBoundIfAny u.1 u.0.bindings) (λ u. IsBoundIfAny u.1 u.0.bindings)
      (post_both _ (λ u. IsLawful u.1 × Grows r.1 u.1 × GoodSuffixed u.1 u.0) (λ u. IsBoundIfAny u.1 u.0.bindings) (suffixes_post suffixes r.1 h.0.0) (suffixes_there suffixes r.1 h.0.0)) (λ u k.
      either_bound u.1 r.0.bindings u.0.bindings (bound_later {s = r.1} {t = u.1} r.0.bindings k.0.1 h.1) k.1))

  core_there : (core : Core) (s : State) → IsLawful s → Post (core_rule core s) (λ r. IsBoundIfAny r.1 r.0.bindings)
  core_there S.Absent s l = tt
  core_there (S.Name w) s l = tt
  core_there (S.Enclosed t d) s l = declarator_there d s l

  suffixes_there : (suffixes : Suffixes) (s : State) → IsLawful s → Post (suffixes_rule suffixes s) (λ r. IsBoundIfAny r.1 r.0.bindings)
  suffixes_there S.NoSuffix s l = tt
  suffixes_there (S.Array t e rest) s l =
      post_bind _ _ (λ r. IsLawful r.1 × Grows s r.1 × Fine r.1 r.0) (λ r. IsBoundIfAny r.1 r.0.bindings) (expr_post e s l) (λ r1 g1.
      post_bind _ _ (λ r. IsLawful r.1 × Grows r1.1 r.1 × FineValue r.1 r.0) (λ r. IsBoundIfAny r.1 r.0.bindings) (value_runs r1.1 r1.0 g1.0 g1.2) (λ r2 g2.
      post_bind _ _ (λ r. IsLawful r.1 × Grows r2.1 r.1 × Unit {0}) (λ r. IsBoundIfAny r.1 r.0.bindings) (length_runs r2.1 (first_of_expr e) r2.0 g2.0) (λ r3 g3.
      post_bind _ _ (λ r. IsBoundIfAny r.1 r.0.bindings) (λ r. IsBoundIfAny r.1 r.0.bindings) (suffixes_there rest r3.1 g3.0) (λ r h. h))))
  suffixes_there (S.OpenArray t rest) s l =
      post_bind _ _ (λ r. IsBoundIfAny r.1 r.0.bindings) (λ r. IsBoundIfAny r.1 r.0.bindings) (suffixes_there rest s l) (λ r h. h)
  suffixes_there (S.Prototype t parameters rest) s l =
      post_bind _ _ (λ r. (IsLawful r.1 × Unit {0}) × IsBoundThere r.1 r.0) (λ r. IsBoundIfAny r.1 r.0.bindings)
      (post_both _ (λ r. IsLawful r.1 × Unit {0}) (λ r. IsBoundThere r.1 r.0) (scope_lawful s parameters l) (scope_bound s parameters l)) (λ r h.
      post_bind _ _ (λ u. IsLawful u.1 × Grows r.1 u.1 × GoodSuffixed u.1 u.0) (λ u. IsBoundIfAny u.1 u.0.bindings) (suffixes_post rest r.1 h.0.0) (λ u k.
      bound_later {s = r.1} {t = u.1} (Some r.0) k.1 h.1))
  suffixes_there (S.Variadic t parameters rest) s l = tt
  suffixes_there (S.Identifiers t ws rest) s l = tt
