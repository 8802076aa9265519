-- The functions of a linked program are framed.
use Rattle.std.specs.Prelude.{ℕ, suc, if◌then◌else◌, ◌≡◌, ◌≢◌, ◌+◌, ◌*◌, ◌<◌, ◌≤◌, ◌⊎◌, ◌==◌, Bool, Some, None, List, [], ◌∷◌, find, length, Contains}
use Rattle.std.specs.List.{AllByRecursion}
use Rattle.std.specs.Str.{bytes_eq}
use Rattle.std.proofs.Common.{arith, subst, sym, ap, refl, ◌∙◌, inl, inr}
use Rattle.std.proofs.lemmas.Bool.{ne_eqb}
use Rattle.pw_object.specs.declared.object.Object.{Object}
use Rattle.pw_alloc.specs.declared.located.Located.{Located}
use Rattle.pw_link.specs.Linking.{linked}
use Rattle.pw_select.specs.Selection.{selected}
use Rattle.pw_delay.specs.Placement.{sizes, placed}
use Rattle.pw_run_languages.specs.Programs.{Program, names_of, globals_of}
use Rattle.pw_run_languages.specs.LineRun.{LineFn}
use Rattle.pw_run_languages.specs.SelectionLaws.{arranged, with_items}
use Rattle.pw_run_languages.specs.LinkingLaws.{address_of}
use Rattle.pw_run_languages.specs.MachineRun.{function_at}
use Rattle.pw_law_link_run.specs.Steps.{map_in}
use Rattle.pw_law_link_run.specs.Placing.{own_address, words_of}
use Rattle.pw_law_link_run.specs.Leveled.{IsFramed, AreFramed}
use Rattle.pw_law_linked.specs.Settings.{linked_setting}
use Rattle.pw_law_linked.specs.Standing.{IsFoundAmong, ItsAddressIsItsOwn}
use Rattle.pw_law_linked.proofs.Names.{at}
use Rattle.pw_law_linked.proofs.Known.{long_is}
use Rattle.pw_law_linked.proofs.Sizes.{placed_length}
use Rattle.pw_law_linked.proofs.Linked.{one_of, all_of}

none_at : (named : List ℕ → ℕ) (names : List (List ℕ)) (a : ℕ) → ((f : List ℕ) → Contains names f → named f ≢ a) → find (λ f. named f == a) names ≡ None
none_at named [] a apart = refl
none_at named (n ∷ names) a apart =
    ap (λ (b : Bool). if b then Some n else find (λ f. named f == a) names) (ne_eqb (named n) a (apart n (0, omega arith, refl)))
    ∙ none_at named names a (λ f h. apart f (suc h.0, omega (arith, h.1), h.2))

-- how many words it has
words_are : (p : Program) (functions : List Located) (objects : List Object) (input : List ℕ) (l : Located) → IsFoundAmong functions l
    → words_of (linked_setting p functions objects input) (with_items l) (with_items l).items ≡ length (placed (selected l)).words
words_are p functions objects input l found = ap (λ (b : Bool). sizes b (arranged (selected l))) (long_is functions l found) ∙ sym (placed_length (selected l))

-- no function begins inside
pub none_inside : (p : Program) (functions : List Located) (objects : List Object) (input : List ℕ) (l : Located) → IsFoundAmong functions l → ItsAddressIsItsOwn p objects l → (m : ℕ) → 1 ≤ m
    → m < words_of (linked_setting p functions objects input) (with_items l) (with_items l).items
    → function_at (map_in (linked_setting p functions objects input)) (own_address (linked_setting p functions objects input) (with_items l) + 4 * m) ≡ None
none_inside p functions objects input l found own m some lt =
    let named = address_of (linked objects p.stack) in
    let count = words_are p functions objects input l found in
    none_at named (names_of p) (named l.body.name + 4 * m) (λ f there e.
    elim (own.inside f there) [
      | inl below ↦ omega (arith, below, e, some)
      | inr above ↦ omega (arith, above, e, lt, count)
    ])

some_same : (a b : Located) → Some a ≡ Some b → a ≡ b
some_same a b e = cc

-- two functions at one address are one
same_function : (p : Program) (functions : List Located) (objects : List Object) (l k : Located) → IsFoundAmong functions l → IsFoundAmong functions k → ItsAddressIsItsOwn p objects l → ItsAddressIsItsOwn p objects k
    → address_of (linked objects p.stack) k.body.name ≡ address_of (linked objects p.stack) l.body.name → l ≡ k
same_function p functions objects l k one two own other e =
    let name : k.body.name ≡ l.body.name = own.own k.body.name other.there e in
    let found : find (λ g. bytes_eq g.body.name l.body.name) functions ≡ Some k = ap (λ (n : List ℕ). find (λ g. bytes_eq g.body.name n) functions) (sym name) ∙ two in
    some_same l k (sym one ∙ found)

apart_by : (p : Program) (functions : List Located) (objects : List Object) (input : List ℕ) (l k : Located) → IsFoundAmong functions l → IsFoundAmong functions k → ItsAddressIsItsOwn p objects l → ItsAddressIsItsOwn p objects k
    → (with_items l ≡ with_items k)
    ⊎ ((own_address (linked_setting p functions objects input) (with_items l) + 4 * words_of (linked_setting p functions objects input) (with_items l) (with_items l).items ≤ own_address (linked_setting p functions objects input) (with_items k))
    ⊎ (own_address (linked_setting p functions objects input) (with_items k) + 4 * words_of (linked_setting p functions objects input) (with_items k) (with_items k).items ≤ own_address (linked_setting p functions objects input) (with_items l)))
apart_by p functions objects input l k one two own other =
    let count = words_are p functions objects input l one in
    let size = words_are p functions objects input k two in
    elim (own.inside k.body.name other.there) [
      | inr behind ↦ inr (inl (omega (arith, behind, count)))
      | inl below ↦ elim (other.inside l.body.name own.there) [
        | inr behind ↦ inr (inr (omega (arith, behind, size)))
        | inl above ↦ inl (ap with_items (same_function p functions objects l k one two own other (omega (arith, below, above))))
      ]
    ]

pub framed_by : (p : Program) (functions : List Located) (objects : List Object) (input : List ℕ) → AllByRecursion (λ l. IsFramed (linked_setting p functions objects input) (with_items l)) functions
    → AllByRecursion (IsFoundAmong functions) functions → AllByRecursion (ItsAddressIsItsOwn p objects) functions
    → AllByRecursion (λ v. (linked_setting p functions objects input).addresses.data_start ≤ address_of (linked objects p.stack) v.name) (globals_of p) → AreFramed (linked_setting p functions objects input)
framed_by p functions objects input framed found own globals =
    let x = linked_setting p functions objects input in
    record {
      framed = all_of (λ f. IsFramed x f) functions framed;
      apart = λ f g cf cg.
          let one = one_of functions f cf in
          let two = one_of functions g cg in
          let l = one.located in
          let k = two.located in
          subst (λ (f : LineFn). (f ≡ g) ⊎ ((own_address x f + 4 * words_of x f f.items ≤ own_address x g) ⊎ (own_address x g + 4 * words_of x g g.items ≤ own_address x f))) one.is
          (subst (λ (g : LineFn). (with_items l ≡ g) ⊎ ((own_address x (with_items l) + 4 * words_of x (with_items l) (with_items l).items ≤ own_address x g) ⊎ (own_address x g + 4 * words_of x g g.items ≤ own_address x (with_items l)))) two.is
          (apart_by p functions objects input l k (at (IsFoundAmong functions) functions l found one.there) (at (IsFoundAmong functions) functions k found two.there)
          (at (ItsAddressIsItsOwn p objects) functions l own one.there) (at (ItsAddressIsItsOwn p objects) functions k own two.there)));
      globals = globals;
    }
