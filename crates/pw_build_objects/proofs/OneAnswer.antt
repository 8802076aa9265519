-- Flow graphs and kept objects come to one answer, and so many objects of theirs are made anew.
use Rattle.std.proofs.Common.{◌≡◌, ℕ, ◌≤◌, ⊎_elim, inl, inr, Bool, true, false, List, [], ◌∷◌, Option, Some, Result, Ok, Err, map, refl, sym, ap, ◌∙◌, subst}
use Rattle.std.specs.Prelude.{All, count_by}
use Rattle.std.specs.List.{AllByRecursion}
use Rattle.std.proofs.lemmas.List.Elements.{All-from_recursion}
use Rattle.pw_value.specs.declared.fault.LinkFault.{LinkFault}
use Rattle.pw_link_rules.specs.declared.interface.Interface.{Interface}
use Rattle.pw_link_rules.specs.Linking.{Links, Refusal}
use Rattle.pw_flow.specs.declared.flow.FlowModule.{FlowModule}
use Rattle.pw_flow.specs.ValidFlow.{IsValid}
use Rattle.pw_summary.specs.declared.summary.Summary.{Summary}
use Rattle.pw_summary.specs.Summary.{IsSummary}
use Rattle.pw_summarise.specs.Summarises.{Summarises}
use Rattle.pw_summarise.proofs.LawfulLaws.{lawful as summary_lawful}
use Rattle.pw_graph.specs.Program.{interface_of}
use Rattle.pw_colour.specs.Colours.{IsDatabaseOf}
use Rattle.pw_db.specs.Database.{HasDirectives, IsDatabase}
use Rattle.pw_object.specs.declared.object.Object.{Object}
use Rattle.pw_phase_two.specs.Phases.{IsObjectOf}
use Rattle.pw_link.specs.Linking.{AreLinked, IsRefusal}
use Rattle.pw_build_objects.specs.Programs.{AreForms, AreObjectsFrom, AreParts, AreSummariesOf, BreakRule, Completes, DirectivesList, HasDatabase, IsModuleFrom, IsObjectFrom, KeepRules, Parts, Stays, first_kept, kept_behind}
use Rattle.pw_build_objects.specs.Counting.{MakesAnew}
use Rattle.pw_build_objects.proofs.FormLaws.{OneForm, forms_one}
use Rattle.pw_db.specs.Limits.{colour_limit}
use Rattle.pw_build_opts.specs.declared.opts.Opts.{Opts}

-- the laws on which it stands
pub record Laws : Type 0 where
  pub summary : (m : FlowModule) (s t : Summary) → IsValid m → Summarises m s → Summarises m t → s ≡ t
  pub form : OneForm
  pub lawful_form : (o : Bool) (flows forms : List FlowModule) → AreForms o flows forms → AllByRecursion IsValid flows → AllByRecursion IsValid forms
  pub lawful : (ss : List Summary) (colours : ℕ) (d : DirectivesList) → colours ≤ colour_limit → All IsSummary ss → IsDatabaseOf ss colours d → IsDatabase d
  pub database : (ss : List Summary) (colours : ℕ) (d e : DirectivesList) → IsDatabaseOf ss colours d → IsDatabaseOf ss colours e → d ≡ e
  pub directives : (fs : DirectivesList) → IsDatabase fs → (gs hs : DirectivesList) → All (HasDirectives fs) gs → All (HasDirectives fs) hs → map (λ f. f.0) gs ≡ map (λ f. f.0) hs → gs ≡ hs
  pub object : (m : FlowModule) (ds : DirectivesList) (o p : Object) → IsObjectOf m ds o → IsObjectOf m ds p → o ≡ p
  pub not_both : (modules : List Interface) (fault : LinkFault) → Links modules → ¬ Refusal modules fault
  pub one_fault : (modules : List Interface) (fault other : LinkFault) → Refusal modules fault → Refusal modules other → fault ≡ other
  pub objects_not_both : (objects : List Object) (stack : ℕ) (fault : LinkFault) → AreLinked objects stack → ¬ IsRefusal objects stack fault
  pub objects_one_fault : (objects : List Object) (stack : ℕ) (fault other : LinkFault) → IsRefusal objects stack fault → IsRefusal objects stack other → fault ≡ other

summaries_one : Laws → (fs : List FlowModule) (ss ts : List Summary) → AllByRecursion IsValid fs → AreSummariesOf fs ss → AreSummariesOf fs ts → ss ≡ ts
summaries_one laws [] [] [] v a b = refl
summaries_one laws [] [] (t ∷ ts) v a b = absurd b
summaries_one laws [] (s ∷ ss) ts v a b = absurd a
summaries_one laws (f ∷ fs) [] ts v a b = absurd a
summaries_one laws (f ∷ fs) (s ∷ ss) [] v a b = absurd b
summaries_one laws (f ∷ fs) (s ∷ ss) (t ∷ ts) v a b =
    ap (λ (x : Summary). x ∷ ss) (laws.summary f s t v.0 a.0 b.0) ∙ ap (λ (xs : List Summary). t ∷ xs) (summaries_one laws fs ss ts v.1 a.1 b.1)

summaries_lawful : (fs : List FlowModule) (ss : List Summary) → AllByRecursion IsValid fs → AreSummariesOf fs ss → AllByRecursion IsSummary ss
summaries_lawful [] [] v a = tt
summaries_lawful [] (s ∷ ss) v a = absurd a
summaries_lawful (f ∷ fs) [] v a = absurd a
summaries_lawful (f ∷ fs) (s ∷ ss) v a = (summary_lawful f s v.0 a.0, summaries_lawful fs ss v.1 a.1)

-- ---- the object of a module

some_one : (o p : Object) → ◌≡◌ {A = Option Object} (Some o) (Some p) → o ≡ p
some_one o p e = cc

no_bool : true ≡ false → ⊥
no_bool e = cc

stays_both : (f : FlowModule) (ds : DirectivesList) (old : Option Object) (p : Object) → ¬ Stays f ds old → old ≡ Some p → Stays f ds (Some p) → ⊥
stays_both f ds old p not e is = not (subst (Stays f ds) (sym e) is)

object_one : Laws → (f : FlowModule) (ds : DirectivesList) (old : Option Object) (o p : Object) (b c : Bool) → IsObjectFrom f ds old o b → IsObjectFrom f ds old p c → (o ≡ p) × (b ≡ c)
object_one laws f ds old o p true true x y = (laws.object f ds o p x.1 y.1, refl)
object_one laws f ds old o p true false x y = absurd (stays_both f ds old p x.0 y.0 y.1)
object_one laws f ds old o p false true x y = absurd (stays_both f ds old o y.0 x.0 x.1)
object_one laws f ds old o p false false x y = (some_one o p (sym x.0 ∙ y.0), refl)

module_one : Laws → (db : DirectivesList) → IsDatabase db → (f : FlowModule) (old : Option Object) (o p : Object) (b c : Bool) → IsModuleFrom db f old o b → IsModuleFrom db f old p c → (o ≡ p) × (b ≡ c)
module_one laws db is f old o p b c x y =
    let same : y.directives ≡ x.directives = laws.directives db is y.directives x.directives y.in_database.each x.in_database.each (y.in_database.of_module.functions ∙ sym x.in_database.of_module.functions) in
    object_one laws f x.directives old o p b c x.object (subst (λ (ds : DirectivesList). IsObjectFrom f ds old p c) same y.object)

objects_one : Laws → (db : DirectivesList) → IsDatabase db → (fs : List FlowModule) (kept : List (Option Object)) (os ps : List Object) (bs cs : List Bool) → AreObjectsFrom db fs kept os bs → AreObjectsFrom db fs kept ps cs → (os ≡ ps) × (bs ≡ cs)
objects_one laws db is [] kept [] [] [] [] x y = (refl, refl)
objects_one laws db is [] kept [] [] [] (c ∷ cs) x y = absurd y
objects_one laws db is [] kept [] [] (b ∷ bs) cs x y = absurd x
objects_one laws db is [] kept [] (p ∷ ps) bs cs x y = absurd y
objects_one laws db is [] kept (o ∷ os) ps bs cs x y = absurd x
objects_one laws db is (f ∷ fs) kept [] ps bs cs x y = absurd x
objects_one laws db is (f ∷ fs) kept (o ∷ os) ps [] cs x y = absurd x
objects_one laws db is (f ∷ fs) kept (o ∷ os) [] (b ∷ bs) cs x y = absurd y
objects_one laws db is (f ∷ fs) kept (o ∷ os) (p ∷ ps) (b ∷ bs) [] x y = absurd y
objects_one laws db is (f ∷ fs) kept (o ∷ os) (p ∷ ps) (b ∷ bs) (c ∷ cs) x y =
    let one = module_one laws db is f (first_kept kept) o p b c x.0 y.0 in
    let more = objects_one laws db is fs (kept_behind kept) os ps bs cs x.1 y.1 in
    (ap (λ (z : Object). z ∷ os) one.0 ∙ ap (λ (zs : List Object). p ∷ zs) more.0, ap (λ (z : Bool). z ∷ bs) one.1 ∙ ap (λ (zs : List Bool). c ∷ zs) more.1)

-- ---- the parts

database_one : Laws → (fs : List FlowModule) (colours : ℕ) (d e : DirectivesList) → AllByRecursion IsValid fs → HasDatabase fs colours d → HasDatabase fs colours e → d ≡ e
database_one laws fs colours d e v a b =
    let same : b.summaries ≡ a.summaries = summaries_one laws fs b.summaries a.summaries v b.of_flows a.of_flows in
    laws.database a.summaries colours d e a.database (subst (λ (ss : List Summary). IsDatabaseOf ss colours e) same b.database)

-- those of the same forms
forms_parts_one : Laws → (fs : List FlowModule) (kept : List (Option Object)) (colours : ℕ) (p q : Parts) → colours ≤ colour_limit → AllByRecursion IsValid fs → HasDatabase fs colours p.database → HasDatabase fs colours q.database
    → AreObjectsFrom p.database fs kept p.objects p.fresh → AreObjectsFrom q.database fs kept q.objects q.fresh → p ≡ q
forms_parts_one laws fs kept colours p q few valid a b os ps =
    let db : q.database ≡ p.database = database_one laws fs colours q.database p.database valid b a in
    let all = All-from_recursion IsSummary a.summaries (summaries_lawful fs a.summaries valid a.of_flows) in
    let is : IsDatabase p.database = laws.lawful a.summaries colours p.database few all a.database in
    let both = objects_one laws p.database is fs kept p.objects q.objects p.fresh q.fresh os (subst (λ (d : DirectivesList). AreObjectsFrom d fs kept q.objects q.fresh) db ps) in
    λ i. record { database = sym db i; objects = both.0 i; fresh = both.1 i }

pub parts_one : Laws → (fs : List FlowModule) (kept : List (Option Object)) (opts : Opts) (p q : Parts) → opts.colours ≤ colour_limit → AreParts fs kept opts p → AreParts fs kept opts q → p ≡ q
parts_one laws fs kept opts p q few a b =
    let same : b.forms ≡ a.forms = forms_one laws.form opts.optimise fs b.forms a.forms b.of_flows a.of_flows in
    forms_parts_one laws a.forms kept opts.colours p q few (laws.lawful_form opts.optimise fs a.forms a.of_flows a.lawful) a.database
    (subst (λ (ms : List FlowModule). HasDatabase ms opts.colours q.database) same b.database) a.objects
    (subst (λ (ms : List FlowModule). AreObjectsFrom q.database ms kept q.objects q.fresh) same b.objects)

breaks_one : Laws → (fs : List FlowModule) (fault other : LinkFault) → AllByRecursion IsValid fs → BreakRule fs fault → BreakRule fs other → fault ≡ other
breaks_one laws fs fault other v a b =
    let same : b.summaries ≡ a.summaries = summaries_one laws fs b.summaries a.summaries v b.of_flows a.of_flows in
    laws.one_fault (map interface_of a.summaries) fault other a.refused (subst (λ (ss : List Summary). Refusal (map interface_of ss) other) same b.refused)

breaks_not : Laws → (fs : List FlowModule) (fault : LinkFault) → AllByRecursion IsValid fs → KeepRules fs → BreakRule fs fault → ⊥
breaks_not laws fs fault v a b =
    let same : b.summaries ≡ a.summaries = summaries_one laws fs b.summaries a.summaries v b.of_flows a.of_flows in
    laws.not_both (map interface_of a.summaries) fault a.linked (subst (λ (ss : List Summary). Refusal (map interface_of ss) fault) same b.refused)

made_not_refused : Laws → (fs : List FlowModule) (kept : List (Option Object)) (opts : Opts) (p : Parts) (fault : LinkFault) → opts.colours ≤ colour_limit → Completes fs kept opts (Ok p) → Completes fs kept opts (Err fault) → ⊥
made_not_refused laws fs kept opts p fault few a b =
    ⊎_elim {C = ⊥}
    (λ l. breaks_not laws fs fault a.0.lawful a.0.rules l.1)
    (λ r. laws.objects_not_both p.objects opts.stack fault a.1 (subst (λ (x : Parts). IsRefusal x.objects opts.stack fault) (parts_one laws fs kept opts r.0 p few r.1 a.0) r.2))
    b

refusals_one : Laws → (fs : List FlowModule) (kept : List (Option Object)) (opts : Opts) (fault other : LinkFault) → opts.colours ≤ colour_limit → Completes fs kept opts (Err fault) → Completes fs kept opts (Err other) → fault ≡ other
refusals_one laws fs kept opts fault other few a b =
    ⊎_elim {C = fault ≡ other}
    (λ l. ⊎_elim {C = fault ≡ other}
    (λ m. breaks_one laws fs fault other l.0 l.1 m.1)
    (λ r. absurd (breaks_not laws fs fault l.0 r.1.rules l.1))
    b)
    (λ r. ⊎_elim {C = fault ≡ other}
    (λ m. absurd (breaks_not laws fs other m.0 r.1.rules m.1))
    (λ s. laws.objects_one_fault r.0.objects opts.stack fault other r.2 (subst (λ (x : Parts). IsRefusal x.objects opts.stack other) (parts_one laws fs kept opts s.0 r.0 few s.1 r.1) s.2))
    b)
    a

pub one_answer : Laws → (fs : List FlowModule) (kept : List (Option Object)) (opts : Opts) (a b : Result Parts LinkFault) → opts.colours ≤ colour_limit → Completes fs kept opts a → Completes fs kept opts b → a ≡ b
one_answer laws fs kept opts (Ok p) (Ok q) few a b = ap Ok (parts_one laws fs kept opts p q few a.0 b.0)
one_answer laws fs kept opts (Ok p) (Err fault) few a b = absurd (made_not_refused laws fs kept opts p fault few a b)
one_answer laws fs kept opts (Err fault) (Ok q) few a b = absurd (made_not_refused laws fs kept opts q fault few b a)
one_answer laws fs kept opts (Err fault) (Err other) few a b = ap Err (refusals_one laws fs kept opts fault other few a b)

-- ---- how many objects are made anew

pub one_count : Laws → (fs : List FlowModule) (kept : List (Option Object)) (opts : Opts) (made other : ℕ) → opts.colours ≤ colour_limit → MakesAnew fs kept opts made → MakesAnew fs kept opts other → made ≡ other
one_count laws fs kept opts made other few (inl a) (inl b) = a.2 ∙ sym b.2
one_count laws fs kept opts made other few (inl a) (inr b) = absurd (breaks_not laws fs a.0 b.1.lawful b.1.rules a.1)
one_count laws fs kept opts made other few (inr a) (inl b) = absurd (breaks_not laws fs b.0 a.1.lawful a.1.rules b.1)
one_count laws fs kept opts made other few (inr a) (inr b) = a.2 ∙ ap (λ (p : Parts). count_by (λ f. f) p.fresh) (parts_one laws fs kept opts a.0 b.0 few a.1 b.1) ∙ sym b.2
