-- A linked program is in its place, where its memory is as it should be.
use Rattle.std.specs.Prelude.{ℕ, zero, suc, ◌≡◌, ◌+◌, ◌*◌, ◌<◌, ◌≤◌, Bool, true, false, if◌then◌else◌, Some, List, [], ◌∷◌, map, find, length, Contains}
use Rattle.std.specs.List.{AllByRecursion}
use Rattle.std.specs.Str.{bytes_eq}
use Rattle.std.proofs.Common.{arith, subst, sym, ap, refl, ◌∙◌, get_or}
use Rattle.std.proofs.lemmas.Slice.Eq.{bytes_eq-Decides}
use Rattle.pw_value.specs.Limits.{text_start, word_limit}
use Rattle.pw_value.specs.ProgramNames.{start_name}
use Rattle.pw_value.specs.Rounding.{stack_start}
use Rattle.pw_db.specs.declared.database.Directives.{Directives}
use Rattle.pw_object.specs.declared.object.Object.{Object}
use Rattle.pw_image.specs.Image.{data_start}
use Rattle.pw_alloc.specs.declared.located.Located.{Located}
use Rattle.pw_link.specs.Layout.{word_count, data_begin, data_size}
use Rattle.pw_link.specs.Linking.{linked}
use Rattle.pw_machine.specs.Start.{stack_start_of, start_core}
use Rattle.pw_law_link.specs.Standing.{sites}
use Rattle.pw_run_languages.specs.Programs.{Program}
use Rattle.pw_run_languages.specs.Addresses.{AreLawful}
use Rattle.pw_run_languages.specs.LineRun.{LineFn}
use Rattle.pw_run_languages.specs.CodeStands.{SelectionIsReady}
use Rattle.pw_run_languages.specs.SelectionLaws.{with_items}
use Rattle.pw_run_languages.specs.LinkingLaws.{address_of}
use Rattle.pw_law_linked.specs.Settings.{linked_setting}
use Rattle.pw_law_linked.specs.Standing.{HasItsWords, AtItsAddress, CodeAt, ItsAddressIsItsOwn}
use Rattle.pw_law_linked.specs.Given.{IsGiven}
use Rattle.pw_law_linked.specs.InMemory.{HasKnownFixes, IsInMemory}
use Rattle.pw_law_linked.specs.Whole.{IsInPlace}
use Rattle.pw_law_linked.proofs.Text.{OrderStays}
use Rattle.pw_law_linked.proofs.Addresses.{address_is, each_function}
use Rattle.pw_law_linked.proofs.Relocated.{words_there}
use Rattle.pw_law_linked.proofs.Spans.{few_words, names_served, names_distinct, EndsBy, functions_within, words_count, text_count, GivesLawfulAddresses, addresses_lawful, globals_given, own_given}
use Rattle.pw_law_linked.proofs.LibraryBehind.{all_stand}
use Rattle.pw_law_linked.proofs.Held.{Words, StandInText, words_held, StartsLawfully, start_lawful}
use Rattle.pw_law_linked.proofs.Ready.{ready_given, frames_given, sparing_given}

-- ---- the machine at its start

data_starts : (p : Program) (functions : List Located) (objects : List Object) (input : List ℕ) → (linked_setting p functions objects input).start.core.data_start ≡ data_begin objects
unfolding start_core
data_starts p functions objects input = ap data_start (words_count objects p.stack)

data_sized : (objects : List Object) (stack : ℕ) → (linked objects stack).memory.data_size ≡ data_size objects
unfolding linked
data_sized objects stack = refl

base_is : (p : Program) (functions : List Located) (objects : List Object) (input : List ℕ)
    → (linked_setting p functions objects input).addresses.base ≡ stack_start_of (linked objects p.stack).memory.words (linked objects p.stack).memory.data_size
base_is p functions objects input =
    ap (λ (n : ℕ). stack_start (data_start n + data_size objects)) (sym (words_count objects p.stack))
    ∙ ap (λ (n : ℕ). stack_start (data_start (length (linked objects p.stack).memory.words) + n)) (sym (data_sized objects p.stack))

-- a function of a name, as the lines find it
record FoundNamed (ls : List Located) (name : List ℕ) : Type 0 where
  first : LineFn
  named : find (λ f. bytes_eq f.located.body.name name) (map with_items ls) ≡ Some first
  is : first.located.body.name ≡ name

found_named : (ls : List Located) (name : List ℕ) → Contains (map (λ l. l.body.name) ls) name → FoundNamed ls name
found_named [] name c = absurd (omega (arith, c.1))
found_named (l ∷ ls) name c = by (bytes_eq l.body.name name) refl (λ there. found_named ls name there)
  where
    by : (b : Bool) → bytes_eq l.body.name name ≡ b → (Contains (map (λ l. l.body.name) ls) name → FoundNamed ls name) → FoundNamed (l ∷ ls) name
    by true e later = record {
      first = with_items l;
      named = ap (λ (b : Bool). if b then Some (with_items l) else find (λ (f : LineFn). bytes_eq f.located.body.name name) (map with_items ls)) e;
      is = (bytes_eq-Decides l.body.name name).0 e;
    }
    by false e later =
        let rest = later (behind c.0 c.1 c.2) in
        record {
          first = rest.first;
          named = ap (λ (b : Bool). if b then Some (with_items l) else find (λ (f : LineFn). bytes_eq f.located.body.name name) (map with_items ls)) e ∙ rest.named;
          is = rest.is;
        }
      where
        behind : (k : ℕ) → k < length (map (λ (l : Located). l.body.name) (l ∷ ls)) → get_or (map (λ (l : Located). l.body.name) (l ∷ ls)) k name ≡ name → Contains (map (λ l. l.body.name) ls) name
        behind zero lt same = absurd (let yes : bytes_eq l.body.name name ≡ true = (bytes_eq-Decides l.body.name name).1 same in let both : true ≡ false = sym yes ∙ e in cc)
        behind (suc k) lt same = (k, omega (arith, lt), same)

entry_is : (objects : List Object) (stack : ℕ) → (linked objects stack).memory.entry ≡ address_of (linked objects stack) start_name
unfolding linked
entry_is objects stack = sym (address_is objects stack start_name)

-- ---- code

each_code : (p : Program) (functions : List Located) (objects : List Object) (input : List ℕ) (top : ℕ) (ls : List Located) → AreLawful p (linked_setting p functions objects input).addresses
    → top + 4 ≡ text_start + 4 * word_count objects → word_count objects ≤ word_limit
    → AllByRecursion (ItsAddressIsItsOwn p objects) ls → AllByRecursion (AtItsAddress (EndsBy top) objects p.stack) ls
    → AllByRecursion (AtItsAddress (HasItsWords (linked_setting p functions objects input).start.core.memory objects p.stack) objects p.stack) ls
    → AllByRecursion (HasKnownFixes p functions objects input) ls → AllByRecursion (CodeAt p functions objects input (sites objects p.stack)) ls
each_code p functions objects input top [] lawful end few own ends words fixes = tt
each_code p functions objects input top (l ∷ ls) lawful end few own ends words fixes =
    let count = text_count p functions objects input in (
      record {
        aligned = lawful.function_aligned l.body.name own.0.there;
        above = lawful.function_above l.body.name own.0.there;
        below = omega (arith, ends.0, end, count);
        few = omega (arith, count, few);
        words = words_there (linked_setting p functions objects input).start.core.memory objects p.stack l words.0;
        symbols = fixes.0;
      },
      each_code p functions objects input top ls lawful end few own.1 ends.1 words.1 fixes.1,
    )

-- ---- all of it

pub in_place : OrderStays → GivesLawfulAddresses → SelectionIsReady → Words → StandInText → StartsLawfully → (p : Program) (d : List (List ℕ × Directives)) (functions : List Located) (objects : List Object) (input : List ℕ)
    → IsGiven p d functions objects → IsInMemory p functions objects input → IsInPlace p functions objects input
in_place stays addresses ready law stand starts p d functions objects input given h =
    let words = words_held law stand p functions objects input h.image in
    let lawful = addresses_lawful stays addresses p d functions objects input given in
    let distinct = names_distinct p d functions objects given in
    let own = own_given stays addresses p d functions objects given in
    let few = few_words objects p.stack given.fits in
    let x = linked_setting p functions objects input in
    let top = 4092 + 4 * word_count objects in
    let ends = functions_within stays p d functions objects top given (omega arith) in
    let start = found_named functions start_name (subst (λ (names : List (List ℕ)). Contains names start_name) (sym (names_served p d functions objects given)) given.program.start) in
    let limit = lawful.stack in
    let memory = lawful.memory in
    record {
      distinct = distinct;
      ready = ready_given ready p d functions objects given;
      sparing = sparing_given p d functions objects given;
      frames = frames_given p d functions objects given;
      sites = sites objects p.stack;
      code = each_code p functions objects input top functions lawful (omega arith) few own ends
          (each_function stays (HasItsWords x.start.core.memory objects p.stack) p functions objects given.program given.made distinct words) h.fixes;
      own = own;
      behind = all_stand stays addresses p d functions objects input given words;
      addresses = lawful;
      globals = globals_given stays addresses p d functions objects given;
      lawful = start_lawful starts p functions objects input h.image h.bytes h.read;
      starts = data_starts p functions objects input;
      first = start.first;
      named = start.named;
      entry = entry_is objects p.stack ∙ ap (address_of (linked objects p.stack)) (sym start.is);
      base = base_is p functions objects input;
      small = omega (arith, limit, memory);
      memory = h.memory;
    }
