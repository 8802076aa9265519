-- Functions and modules: a module makes no more objects without a name than its text has tokens, and each has a number below that.
use Rattle.std.specs.Prelude.{ℕ, ◌≡◌, ◌+◌, ◌<◌, ◌≤◌, Bool, true, false, if◌then◌else◌, Option, None, Some, List, [], ◌∷◌, length, slice_get, All, Ok, refl}
use Rattle.std.specs.List.{AllByRecursion}
use Rattle.std.specs.Option.{option_map_or}
use Rattle.std.proofs.Common.{arith, sym, subst, ◌∙◌}
use Rattle.std.proofs.lemmas.List.Elements.{All-from_recursion}
use Rattle.pw_tree.specs.Trees.{Word, Decl, Block, Function, External, Module}
use Rattle.pw_tree.specs.Trees as S
use Rattle.pw_tree.specs.Spelling.{symbols, spell_declarator, spell_decls, spell_block, spell_external, spell_externals}
use Rattle.pw_tree.specs.Symbols.{Symbol}
use Rattle.pw_types.specs.TypeTrees.{QType}
use Rattle.pw_types.specs.TypedTrees.{External as Shared, Internal, GlobalValue, ModuleValue}
use Rattle.pw_flow.proofs.Lists.{all_flat}
use Rattle.pw_check_walk.specs.Walks.{Done, bind}
use Rattle.pw_check_rules.specs.Checks.{Checks, checking}
use Rattle.pw_check_rules.specs.Declarations.{name_of}
use Rattle.pw_check_rules.specs.Derivations.{Bindings, Declared, spot_of}
use Rattle.pw_check_rules.specs.Functions.{bindings_of, enter_body, definition_asking, definition_rules, measured_rule, body_rule, function_rule}
use Rattle.pw_check_rules.specs.Leaves.{is_nil, first_of_declaration}
use Rattle.pw_check_rules.specs.Linkage.{symbol_of_linked, define_function}
use Rattle.pw_check_rules.specs.Modules.{external_rule, externals_rule, module_rule, module_in, global_in, named_global, hidden_global}
use Rattle.pw_check_rules.specs.SpecifierLists.{Specified}
use Rattle.pw_check_rules.specs.States.{State, HiddenObject, LinkedName, linked_at, next_hidden, start}
use Rattle.pw_check_rules.specs.Statements.{block_rule, labels_in_block}
use Rattle.pw_check_rules.specs.declared.names.Slot.{Slot}
use Rattle.pw_check_rules.specs.declared.names.Slot.TheVariants as slot
use Rattle.pw_law_valid.specs.Numbered.{IsNumberedBelow}
use Rattle.pw_law_checked.proofs.Walking.{Post, AreMet, post_end, post_bind, post_weaken, truth}
use Rattle.pw_law_checked.proofs.Lists.{get_within}
use Rattle.pw_law_checked.proofs.Still.{built_still}
use Rattle.pw_law_checked.proofs.FunctionLaws.{met_post, end_same}
use Rattle.pw_law_checked.proofs.LabelLaws.{asked_post}
use Rattle.pw_law_valid.proofs.Spending.{Spends, Same, stays, then_spends, still_spends}
use Rattle.pw_law_valid.proofs.Phrases.{declarator_spends}
use Rattle.pw_law_valid.proofs.Declarations.{declared_same, changed_same, changed_spends, specified_spends, decl_spends}
use Rattle.pw_law_valid.proofs.Statements.{block_spends}

-- ---- functions

body_spends : (w : Word) (place : ℕ) (q : QType) (b : Bindings) (block : Block) (z : List Symbol) (s : State) → Post (body_rule w place q b block s) (Spends (length (spell_block block z)) (length z) s)
unfolding body_rule measured_rule bind
body_spends w place q b block z s =
    then_spends (length (spell_block block z)) (length z) (length z) (enter_body q b (labels_in_block block) s) (block_rule block (enter_body q b (labels_in_block block) s)) _
    (block_spends block z (enter_body q b (labels_in_block block) s)) (λ r met. stays (next_hidden r.1) (length z))

-- a definition has no declarations between its declarator and its body (ISO C90 6.7.1)
none_between : (ds : List Decl) (xs : List Symbol) → is_nil ds ≡ true → length (spell_decls ds xs) ≡ length xs
none_between [] xs e = refl
none_between (d ∷ ds) xs e = absurd cc

definition_met : (s : State) (b : Specified) (d : Declared) (ds : List Decl) (q : QType) → AreMet (definition_rules s (name_of d) b d ds q) → is_nil ds ≡ true
definition_met s b d ds q met = truth (is_nil ds) met.1.1.1.1.1.1.1.0

function_spends : (f : Function) (z : List Symbol) (s : State) → Post (function_rule f s) (Spends (length (spell_external (S.Definition f) z)) (length z) s)
unfolding function_rule
function_spends f z s =
    let body = spell_block f.body z in
    let n = length (spell_decls f.declarations body) in
    then_spends (length (spell_external (S.Definition f) z)) (length (spell_declarator f.declarator (spell_decls f.declarations body))) (length z) s _ _
    (specified_spends f.specifiers (spell_declarator f.declarator (spell_decls f.declarations body)) (first_of_declaration f.specifiers f.declarator) s) (λ b.
    then_spends (length (spell_declarator f.declarator (spell_decls f.declarations body))) n (length z) b.1 _ _ (declarator_spends f.declarator (spell_decls f.declarations body) b.1) (λ d.
    then_spends n n (length z) d.1 _ _ (still_spends n d.1 _ (built_still (spot_of d.0.name b.0.first b.0.tag) d.0.derivations b.0.ty d.1)) (λ q.
    asked_post q.1 _ _ (Spends n (length z) q.1)
    (post_bind _ _ (λ e. (e.1.made.hidden ≡ q.1.made.hidden) × (is_nil f.declarations ≡ true)) (Spends n (length z) q.1)
    (met_post q.1 _ _ (λ e. (e.1.made.hidden ≡ q.1.made.hidden) × (is_nil f.declarations ≡ true)) (λ met.
    post_weaken _ (Same q.1) (λ e. (e.1.made.hidden ≡ q.1.made.hidden) × (is_nil f.declarations ≡ true)) (declared_same (name_of d.0).text (name_of d.0).token b.0.tag (definition_asking b.0) q.0 q.1)
    (λ e same. (same, definition_met q.1 b.0 d.0 f.declarations q.0 met)))) (λ e h.
    asked_post (define_function e.0 e.1) tt _ (Spends n (length z) q.1)
    (changed_spends n (length z) q.1 (define_function e.0 e.1) _ (changed_same e.0 (λ l. record l { defined = true }) e.1 ∙ h.0)
    (subst (λ (k : ℕ). Post (body_rule (name_of d.0) e.0 q.0 (bindings_of d.0) f.body (define_function e.0 e.1)) (Spends k (length z) (define_function e.0 e.1))) (sym (none_between f.declarations body h.1))
    (body_spends (name_of d.0) e.0 q.0 (bindings_of d.0) f.body z (define_function e.0 e.1)))))))))

-- ---- modules

external_spends : (x : External) (z : List Symbol) (s : State) → Post (external_rule x s) (Spends (length (spell_external x z)) (length z) s)
unfolding external_rule
external_spends (S.Definition f) z s = function_spends f z s
external_spends (S.Declaration d) z s = then_spends _ _ _ s _ _ (decl_spends d z s) (λ r. stays (next_hidden r.1) (length z))

externals_spend : (xs : List External) (z : List Symbol) (s : State) → Post (externals_rule xs s) (Spends (length (spell_externals xs z)) (length z) s)
unfolding externals_rule
externals_spend [] z s = stays (next_hidden s) (length z)
externals_spend (x ∷ rest) z s = then_spends _ _ _ s _ _ (external_spends x (spell_externals rest z) s) (λ r. externals_spend rest z r.1)

-- at a module's end
abbrev IsMade : Module → ModuleValue × State → Type 0
IsMade m r = (r.0 ≡ module_in r.1) × (next_hidden r.1 ≤ length (symbols m))

module_made : (m : Module) → Post (module_rule m start) (IsMade m)
unfolding module_rule
module_made m =
    post_bind _ _ (λ r. next_hidden r.1 ≤ length (symbols m)) (IsMade m)
    (post_bind _ _ (Spends (length (symbols m)) 0 start) (λ r. next_hidden r.1 ≤ length (symbols m)) (externals_spend m.externals [] start) (λ r h. bounded (next_hidden r.1) (length (symbols m)) h)) (λ r h.
    post_bind _ _ (λ u. u.1 ≡ r.1) (IsMade m) (end_same r.0 r.1) (λ u e. (refl, subst (λ (t : State). next_hidden t ≤ length (symbols m)) (sym e) h)))
  where
    bounded : (x n : ℕ) → x + 0 ≤ 0 + n → x ≤ n
    bounded x n h = omega (arith, h)

-- ---- the objects of a module

linked_below : (n : ℕ) (l : LinkedName) → IsNumberedBelow n (symbol_of_linked l)
linked_below n l = by l.internal
  where
    by : (b : Bool) → IsNumberedBelow n (if b then Internal l.name else Shared l.name)
    by true = tt
    by false = tt

slot_below : (t : State) (n : ℕ) (x : Slot) → next_hidden t ≤ n → AllByRecursion (λ (g : GlobalValue). IsNumberedBelow n g.name) (global_in t x)
slot_below t n (slot.Named place) few = by (linked_at t place)
  where
    by : (o : Option LinkedName) → AllByRecursion (λ (g : GlobalValue). IsNumberedBelow n g.name) (option_map_or (λ l. named_global t l ∷ []) o [])
    by None = tt
    by (Some l) = (linked_below n l, tt)
slot_below t n (slot.Hidden k) few = by (slice_get t.made.hidden k) refl
  where
    by : (o : Option HiddenObject) → slice_get t.made.hidden k ≡ o → AllByRecursion (λ (g : GlobalValue). IsNumberedBelow n g.name) (option_map_or (λ h. hidden_global k h ∷ []) o [])
    by None e = tt
    by (Some h) e = (let below : k < length t.made.hidden = get_within t.made.hidden k h e in let all : length t.made.hidden ≤ n = few in omega (arith, below, all), tt)

slots_below : (t : State) (n : ℕ) (xs : List Slot) → next_hidden t ≤ n → AllByRecursion (λ (x : Slot). AllByRecursion (λ (g : GlobalValue). IsNumberedBelow n g.name) (global_in t x)) xs
slots_below t n [] few = tt
slots_below t n (x ∷ xs) few = (slot_below t n x few, slots_below t n xs few)

checking_few : (m : Module) → Post (bind (module_rule m start) (λ r. Done r.0)) (λ v. All (λ g. IsNumberedBelow (length (symbols m)) g.name) v.globals)
checking_few m =
    post_bind (module_rule m start) (λ r. Done r.0) (IsMade m) (λ v. All (λ g. IsNumberedBelow (length (symbols m)) g.name) v.globals) (module_made m)
    (λ r h. subst (λ (v : ModuleValue). All (λ g. IsNumberedBelow (length (symbols m)) g.name) v.globals) (sym h.0)
    (All-from_recursion (λ (g : GlobalValue). IsNumberedBelow (length (symbols m)) g.name) (module_in r.1).globals
    (all_flat (global_in r.1) (λ (g : GlobalValue). IsNumberedBelow (length (symbols m)) g.name) r.1.made.slots (slots_below r.1 (length (symbols m)) r.1.made.slots h.1))))

pub module_few : (tree : Module) (m : ModuleValue) → Checks tree (Ok m) → All (λ g. IsNumberedBelow (length (symbols tree)) g.name) m.globals
unfolding checking
module_few tree m h = post_end (checking tree) m (λ v. All (λ g. IsNumberedBelow (length (symbols tree)) g.name) v.globals) h (checking_few tree)
