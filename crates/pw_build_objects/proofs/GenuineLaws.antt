-- A kept object that the second phase made is what it would make again.
use Rattle.std.proofs.Common.{◌≡◌, ◌≢◌, ◌<◌, arith, ℕ, ⊎_elim, inl, inr, Bool, true, false, List, [], ◌∷◌, Option, Result, Ok, Err, map, length, refl, sym, ap, ◌∙◌, subst}
use Rattle.std.specs.Prelude.{All, Contains, nat_lt, ◌||◌}
use Rattle.std.specs.List.{AllByRecursion}
use Rattle.std.proofs.lemmas.List.Elements.{All-from_recursion}
use Rattle.std.proofs.lemmas.Bool.Decides.{nat_tests}
use Rattle.pw_value.specs.declared.fault.LinkFault.{LinkFault}
use Rattle.pw_files.proofs.Standing.{Has, contains_by, has_by, has_each, has_map, has_map_back, each_by}
use Rattle.pw_flow.specs.declared.flow.FlowModule.{FlowModule}
use Rattle.pw_flowfile.specs.FlowFile.{IsFlowFile}
use Rattle.pw_db.specs.declared.database.Directives.{Directives}
use Rattle.pw_db.specs.Database.{CanBeStored, EachTwo, HasDirectives, IsDatabase, IsStored, empty, says_something}
use Rattle.pw_db_file.specs.Spelling.{IsPayload}
use Rattle.pw_object.specs.declared.object.Object.{Object}
use Rattle.pw_phase_two.specs.Phases.{AreDirectivesOf, IsObjectOf, IsPayloadOf}
use Rattle.pw_build_objects.specs.Programs.{AreObjectsFrom, AreParts, Completes, DirectivesList, IsObjectFrom, Parts, first_kept, kept_behind}
use Rattle.pw_build_objects.specs.Kept.{IsGenuine, IsGenuineIfKept, all_fresh, anew}
use Rattle.pw_build_opts.specs.declared.opts.Opts.{Opts}

-- the laws on which it stands
pub record Laws : Type 0 where
  pub one_module : (bytes : List ℕ) (m n : FlowModule) → IsFlowFile bytes m → IsFlowFile bytes n → m ≡ n
  pub one_database : (bytes : List ℕ) (fs gs : DirectivesList) → IsPayload bytes fs → IsPayload bytes gs → fs ≡ gs
  pub directives : (fs : DirectivesList) → IsDatabase fs → (gs hs : DirectivesList) → All (HasDirectives fs) gs → All (HasDirectives fs) hs → map (λ f. f.0) gs ≡ map (λ f. f.0) hs → gs ≡ hs

-- ---- directives, by the payload that was made of them

one_of_two : (fs : DirectivesList) → EachTwo (λ f g. f.0 ≢ g.0) fs → (f g : List ℕ × Directives) → Has f fs → Has g fs → f.0 ≡ g.0 → f ≡ g
one_of_two [] two f g h k e = absurd h
one_of_two (x ∷ xs) two f g (inl a) (inl b) e = sym a ∙ b
one_of_two (x ∷ xs) two f g (inl a) (inr k) e = absurd (has_each (λ y. x.0 ≢ y.0) xs g two.0 k (ap (λ (y : List ℕ × Directives). y.0) a ∙ e))
one_of_two (x ∷ xs) two f g (inr h) (inl b) e = absurd (has_each (λ y. x.0 ≢ y.0) xs f two.0 h (ap (λ (y : List ℕ × Directives). y.0) b ∙ sym e))
one_of_two (x ∷ xs) two f g (inr h) (inr k) e = one_of_two xs two.1 f g h k e

not_none : (n : ℕ) → 0 < n → nat_lt 0 n ≡ false → ⊥
not_none n h e = grind (arith, nat_tests, e)

none_of : {X : Type 0} (xs : List X) → nat_lt 0 (length xs) ≡ false → xs ≡ []
none_of [] e = refl
none_of (x ∷ xs) e = absurd (not_none (length (x ∷ xs)) (omega arith) e)

or_none : (a b : Bool) → (a || b) ≡ false → (a ≡ false) × (b ≡ false)
or_none true b e = absurd cc
or_none false b e = (refl, e)

says_nothing : (f : List ℕ × Directives) → says_something f ≡ false → f.1 ≡ empty
says_nothing f e =
    let d = f.1 in
    let one = or_none (nat_lt 0 (length d.webs)) (nat_lt 0 (length d.free) || nat_lt 0 (length d.saves)) e in
    let two = or_none (nat_lt 0 (length d.free)) (nat_lt 0 (length d.saves)) one.1 in
    λ i. record { webs = none_of d.webs one.0 i; free = none_of d.free two.0 i; saves = none_of d.saves two.1 i }

stored_by : (fs s : DirectivesList) (f : List ℕ × Directives) (r : Bool) → CanBeStored fs → IsStored fs s → Has f fs → says_something f ≡ r → HasDirectives s f
stored_by fs s f true can stored h e =
    let there : Contains s f = (stored.of f).1 (contains_by f fs h, e) in
    record { found = λ k. there; lacks = λ not. absurd (not (contains_by f.0 (map (λ g. g.0) s) (has_map (λ g. g.0) f s (has_by f s there)))) }
stored_by fs s f false can stored h e = record {
  found = λ k. let g = has_map_back (λ g. g.0) f.0 s (has_by f.0 (map (λ g. g.0) s) k) in
      let in_fs : Has g.0 fs = has_by g.0 fs ((stored.of g.0).0 (contains_by g.0 s g.1)).0 in
      subst (Contains s) (one_of_two fs can.distinct g.0 f in_fs h g.2) (contains_by g.0 s g.1);
  lacks = λ not. says_nothing f e;
}

stored_gives : (fs s : DirectivesList) → CanBeStored fs → IsStored fs s → All (HasDirectives s) fs
stored_gives fs s can stored = All-from_recursion (HasDirectives s) fs (each_by (HasDirectives s) fs (λ f h. stored_by fs s f (says_something f) can stored h refl))

payload_one : Laws → (flow : FlowModule) (bytes : List ℕ) (ds es : DirectivesList) → AreDirectivesOf flow ds → AreDirectivesOf flow es → IsPayloadOf bytes ds → IsPayloadOf bytes es → ds ≡ es
payload_one laws flow bytes ds es a b p q =
    let same : q.0 ≡ p.0 = laws.one_database bytes q.0 p.0 q.2 p.2 in
    laws.directives p.0 p.2.1.contents.lawful.functions ds es (stored_gives ds p.0 a.storable p.1) (subst (λ (s : DirectivesList). All (HasDirectives s) es) same (stored_gives es q.0 b.storable q.1)) (a.functions ∙ sym b.functions)

-- ---- the object of a module

genuine_object : Laws → (flow : FlowModule) (ds : DirectivesList) (old : Option Object) (o : Object) (fresh : Bool) → IsGenuineIfKept old → AreDirectivesOf flow ds → IsObjectFrom flow ds old o fresh → IsObjectOf flow ds o
genuine_object laws flow ds old o true genuine of is = is.1
genuine_object laws flow ds old o false genuine of is =
    let g : IsGenuine o = subst IsGenuineIfKept is.0 genuine in
    let same : g.flow ≡ flow = laws.one_module o.flow g.flow flow g.made.flow_file is.1.flow_file in
    let of' : AreDirectivesOf flow g.directives = subst (λ (m : FlowModule). AreDirectivesOf m g.directives) same g.of_module in
    let made : IsObjectOf flow g.directives o = subst (λ (m : FlowModule). IsObjectOf m g.directives o) same g.made in
    subst (λ (es : DirectivesList). IsObjectOf flow es o) (payload_one laws flow o.directives g.directives ds of' of made.payload is.1.payload) made

first_genuine : (kept : List (Option Object)) → AllByRecursion IsGenuineIfKept kept → IsGenuineIfKept (first_kept kept)
first_genuine [] all = tt
first_genuine (k ∷ ks) all = all.0

behind_genuine : (kept : List (Option Object)) → AllByRecursion IsGenuineIfKept kept → AllByRecursion IsGenuineIfKept (kept_behind kept)
behind_genuine [] all = tt
behind_genuine (k ∷ ks) all = all.1

anew_objects : Laws → (db : DirectivesList) (flows : List FlowModule) (kept : List (Option Object)) (os : List Object) (bs : List Bool) → AllByRecursion IsGenuineIfKept kept → AreObjectsFrom db flows kept os bs → AreObjectsFrom db flows [] os (map (λ _. true) os)
anew_objects laws db [] kept [] [] all h = tt
anew_objects laws db [] kept [] (b ∷ bs) all h = absurd h
anew_objects laws db [] kept (o ∷ os) bs all h = absurd h
anew_objects laws db (f ∷ fs) kept [] bs all h = absurd h
anew_objects laws db (f ∷ fs) kept (o ∷ os) [] all h = absurd h
anew_objects laws db (f ∷ fs) kept (o ∷ os) (b ∷ bs) all h = (
  record {
    directives = h.0.directives;
    in_database = h.0.in_database;
    object = (λ none. none, genuine_object laws f h.0.directives (first_kept kept) o b (first_genuine kept all) h.0.in_database.of_module h.0.object);
  },
  anew_objects laws db fs (kept_behind kept) os bs (behind_genuine kept all) h.1,
)

anew_parts : Laws → (flows : List FlowModule) (kept : List (Option Object)) (opts : Opts) (parts : Parts) → AllByRecursion IsGenuineIfKept kept → AreParts flows kept opts parts → AreParts flows [] opts (all_fresh parts)
anew_parts laws flows kept opts parts all h = record {
  lawful = h.lawful;
  rules = h.rules;
  forms = h.forms;
  of_flows = h.of_flows;
  database = h.database;
  objects = anew_objects laws parts.database h.forms kept parts.objects parts.fresh all h.objects;
}

pub change_nothing : Laws → (flows : List FlowModule) (kept : List (Option Object)) (opts : Opts) (a : Result Parts LinkFault) → AllByRecursion IsGenuineIfKept kept → Completes flows kept opts a → Completes flows [] opts (anew a)
change_nothing laws flows kept opts (Ok parts) all h = (anew_parts laws flows kept opts parts all h.0, h.1)
change_nothing laws flows kept opts (Err fault) all h =
    ⊎_elim {C = Completes flows [] opts (Err fault)}
    (λ l. inl l)
    (λ r. inr (all_fresh r.0, anew_parts laws flows kept opts r.0 all r.1, r.2))
    h
