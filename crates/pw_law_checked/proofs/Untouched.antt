-- Rules for tags, members, enumerators and parameters change neither the names with linkage nor the objects without a name.
use Rattle.std.specs.Prelude.{ℕ, ◌≡◌, Bool, Option, None, Some, List, refl}
use Rattle.std.proofs.Common.{ap, ◌∙◌}
use Rattle.pw_tree.specs.Trees.{Word}
use Rattle.pw_types.specs.declared.record.RecordKind.{RecordKind}
use Rattle.pw_types.specs.TypeTrees.{MemberValue}
use Rattle.pw_check_walk.specs.Walks.{Walk, bind}
use Rattle.pw_check_rules.specs.Leaves.{new_record, new_tag, reference_by, reference_rule, opening_by, opening_rule, member_rule, closing_rule, enumerating_rule, enumerator_name, enumerator_rule, parameter_rule, enter_parameter}
use Rattle.pw_check_rules.specs.SpecifierLists.{Specified}
use Rattle.pw_check_rules.specs.Derivations.{Declared, ParameterValue, built}
use Rattle.pw_check_rules.specs.States.{State, Entity, tag_of, tag_here}
use Rattle.pw_check_rules.specs.declared.names.Tag.{Tag}
use Rattle.pw_check_rules.specs.declared.names.Tag.TheVariants as G
use Rattle.pw_law_checked.proofs.Walking.{Post, post_bind, post_weaken}
use Rattle.pw_law_checked.proofs.Still.{Still, built_still}

abbrev pub Untouched : {A : Type 0} → State → A × State → Type 0
Untouched s r = (r.1.types.linked ≡ s.types.linked) × (r.1.made.hidden ≡ s.made.hidden)

then_untouched : {A B : Type 0} (s : State) (w : Walk (A × State)) (next : A × State → Walk (B × State)) → Post w (Untouched s) → ((r : A × State) → Post (next r) (Untouched r.1)) → Post (bind w next) (Untouched s)
then_untouched {A} {B} s w next h k =
    post_bind w next (Untouched s) (Untouched s) h (λ r e. post_weaken (next r) (Untouched r.1) (Untouched s) (k r) (λ u f. (f.0 ∙ e.0, f.1 ∙ e.1)))

still_untouched : {A : Type 0} (s : State) (w : Walk (A × State)) → Post w (Still s) → Post w (Untouched s)
still_untouched s w h = post_weaken w (Still s) (Untouched s) h (λ r e. (ap (λ (t : State). t.types.linked) e, ap (λ (t : State). t.made.hidden) e))

pub new_tag_untouched : (kind : RecordKind) (w : Word) (s : State) → Post (new_tag kind w s) (Untouched s)
unfolding new_tag new_record bind
new_tag_untouched kind w s = λ met. (refl, refl)

pub reference_by_untouched : (kind : RecordKind) (w : Word) (o : Option Tag) (s : State) → Post (reference_by kind w o s) (Untouched s)
unfolding reference_by bind
reference_by_untouched kind w None s = then_untouched s (new_tag kind w s) _ (new_tag_untouched kind w s) (λ r. (refl, refl))
reference_by_untouched kind w (Some (G.Record n)) s = λ met. (refl, refl)
reference_by_untouched kind w (Some G.Enumeration) s = tt

pub reference_untouched : (kind : RecordKind) (w : Word) (s : State) → Post (reference_rule kind w s) (Untouched s)
unfolding reference_rule bind
reference_untouched kind w s = reference_by_untouched kind w (tag_of s w.text) s

pub opening_by_untouched : (kind : RecordKind) (w : Word) (o : Option Tag) (s : State) → Post (opening_by kind w o s) (Untouched s)
unfolding opening_by bind
opening_by_untouched kind w None s = new_tag_untouched kind w s
opening_by_untouched kind w (Some (G.Record n)) s = λ met. (refl, refl)
opening_by_untouched kind w (Some G.Enumeration) s = tt

pub opening_untouched : (kind : RecordKind) (o : Option Word) (s : State) → Post (opening_rule kind o s) (Untouched s)
unfolding opening_rule new_record bind
opening_untouched kind None s = (refl, refl)
opening_untouched kind (Some w) s = then_untouched s (opening_by kind w (tag_here s w.text) s) _ (opening_by_untouched kind w (tag_here s w.text) s) (λ r. (refl, refl))

pub member_untouched : (b : Specified) (d : Declared) (ms : List MemberValue) (s : State) → Post (member_rule b d ms s) (Untouched s)
unfolding member_rule bind
member_untouched b d ms s = then_untouched s (built _ d.derivations b.ty s) _ (still_untouched s _ (built_still _ d.derivations b.ty s)) (λ r met. (refl, refl))

pub closing_untouched : (kind : RecordKind) (token n : ℕ) (ms : List MemberValue) (s : State) → Post (closing_rule kind token n ms s) (Untouched s)
unfolding closing_rule bind
closing_untouched kind token n ms s = λ met. (refl, refl)

pub enumerating_untouched : (o : Option Word) (s : State) → Post (enumerating_rule o s) (Untouched s)
unfolding enumerating_rule bind
enumerating_untouched None s = (refl, refl)
enumerating_untouched (Some w) s = λ met. (refl, refl)

pub enumerator_untouched : (w : Word) (value : Option ℕ) (s : State) → Post (enumerator_rule w value s) (Untouched s)
unfolding enumerator_rule enumerator_name bind
enumerator_untouched w value s = λ met counted. (refl, refl)

entered : (o : Option Word) (x : Entity) (s : State) → ((enter_parameter o x s).types.linked ≡ s.types.linked) × ((enter_parameter o x s).made.hidden ≡ s.made.hidden)
entered None x s = (refl, refl)
entered (Some w) x s = (refl, refl)

pub parameter_untouched : (sole : Bool) (b : Specified) (d : Declared) (ps : List ParameterValue) (s : State) → Post (parameter_rule sole b d ps s) (Untouched s)
unfolding parameter_rule bind
parameter_untouched sole b d ps s = then_untouched s (built _ d.derivations b.ty s) _ (still_untouched s _ (built_still _ d.derivations b.ty s)) (λ r met. entered d.name _ r.1)
