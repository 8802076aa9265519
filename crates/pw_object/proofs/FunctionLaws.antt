-- The functions of an object file: what is read is spelled so, and what is spelled so is read again.
use Rattle.std.proofs.Common.{◌≡◌, ℕ, ◌<◌, List, [], ◌∷◌, ◌++◌, length, Ok, refl, sym, subst, arith}
use Rattle.std.specs.List.{AllByRecursion, flat_map}
use Rattle.std.proofs.lemmas.List.Concat.{flat_map-cons}
use Rattle.std.specs.Prelude.{IsTrue, Contains, Some, nat_lt, slice_get}
use Rattle.std.proofs.lemmas.Bool.{ltb-true, lt-ltb}
use Rattle.pw_fields.specs.Fields.{checked, u32_at, choice_at, u8, u32, FitsU8, FitsU32}
use Rattle.pw_fields.specs.FieldLaws.{Spells}
use Rattle.pw_fields.specs.FieldNames.{name_at, name_index, IsNameTable}
use Rattle.pw_fields.proofs.FieldLaws.{checked_spells, choice_spells, u32_spells}
use Rattle.pw_fields.proofs.FieldSteps.{finish, step, step_where, format}
use Rattle.pw_fields.proofs.NameLaws.{name_spells, AllUsed}
use Rattle.pw_files.specs.Rising.{counted, counted_at, FitsList}
use Rattle.pw_files.proofs.RisingLaws.{counted_spells, each_weaker, used_append, used_front, used_back}
use Rattle.pw_flow_ops.specs.Reading.{one_of_at}
use Rattle.pw_flow_ops.proofs.FieldChains.{Takes, takes_field, takes_done, again_field, chained}
use Rattle.pw_flow_ops.proofs.ChoiceLaws.{Any, one_spells}
use Rattle.pw_inst.specs.Limits.{routine_count}
use Rattle.pw_inst.specs.declared.relocation.FixKind.{FixKind}
use Rattle.pw_inst.specs.declared.relocation.FixKind.TheVariants as kind
use Rattle.pw_inst.specs.declared.relocation.Symbol.{Symbol}
use Rattle.pw_inst.specs.declared.relocation.Symbol.TheVariants as symbol
use Rattle.pw_inst.specs.declared.relocation.Fix.{Fix}
use Rattle.pw_object.specs.declared.functions.ObjectFn.{ObjectFn}
use Rattle.pw_object.specs.declared.functions.SymbolForm.{SymbolForm}
use Rattle.pw_object.specs.declared.functions.SymbolForm.TheVariants as form
use Rattle.pw_object.specs.Functions.{IsSymbol, IsFix, IsFunction, fix_kinds, kind_code, symbol_forms, form_number, symbol_spelling, fix, function, names_of_symbol, names_of_function}
use Rattle.pw_object.specs.Reading.{named_at, word_at, routine_at, symbol_of_form_at, symbol_at, fix_at, function_at}

-- ---- kinds

kind_back : (k : FixKind) → slice_get fix_kinds (kind_code k) ≡ Some k
kind_back kind.Ldil = refl
kind_back kind.Im14 = refl
kind_back kind.Bl = refl

kind_spells : Spells (λ k. u8 (kind_code k)) Any (one_of_at fix_kinds)
kind_spells = one_spells kind_code fix_kinds (refl, (refl, (refl, tt))) kind_back

-- ---- symbols

abbrev pub FitsSymbol : List (List ℕ) → Symbol → Type 0
FitsSymbol names (symbol.Named name) = Contains names name
FitsSymbol names (symbol.Word word) = FitsU32 word
FitsSymbol names symbol.StackLimit = Unit {0}
FitsSymbol names (symbol.Routine number) = number < routine_count

abbrev IsRoutine : ℕ → Type 0
IsRoutine number = FitsU8 number × IsTrue (nat_lt number routine_count)

form_back : (f : SymbolForm) → slice_get symbol_forms (form_number f) ≡ Some f
form_back form.Named = refl
form_back form.Word = refl
form_back form.StackLimit = refl
form_back form.Routine = refl

form_spells : Spells (λ f. u8 (form_number f)) Any (one_of_at symbol_forms)
form_spells = one_spells form_number symbol_forms (refl, (refl, (refl, (refl, tt)))) form_back

-- the text of a symbol behind its form
symbol_take : (names : List (List ℕ)) → IsNameTable names → (f : SymbolForm) → Takes (λ text rest s. (u8 (form_number f) ++ text ≡ symbol_spelling names s) × FitsSymbol names s) (symbol_of_form_at names f)
unfolding named_at word_at routine_at
symbol_take names table form.Named = takes_field _ (name_index names) (Contains names) (name_at names) _ (name_spells names table) (λ name h. takes_done _ (symbol.Named name) (λ rest. (refl, h)))
symbol_take names table form.Word = takes_field _ u32 FitsU32 u32_at _ u32_spells (λ word h. takes_done _ (symbol.Word word) (λ rest. (refl, h)))
symbol_take names table form.StackLimit = takes_done _ symbol.StackLimit (λ rest. (refl, tt))
symbol_take names table form.Routine = takes_field _ u8 IsRoutine (choice_at routine_count) _ (choice_spells routine_count) (λ number h. takes_done _ (symbol.Routine number) (λ rest. (refl, ltb-true _ _ h.1)))

symbol_again : (names : List (List ℕ)) → IsNameTable names → (s : Symbol) (rest : List ℕ) → FitsSymbol names s → symbol_at names (symbol_spelling names s ++ rest) ≡ Ok (s, rest)
unfolding symbol_at named_at word_at routine_at
symbol_again names table (symbol.Named name) rest h =
    again_field (λ f. u8 (form_number f)) Any (one_of_at symbol_forms) _ form_spells form.Named tt (name_index names name ++ []) rest (symbol.Named name)
    (again_field (name_index names) (Contains names) (name_at names) _ (name_spells names table) name h [] rest (symbol.Named name) refl)
symbol_again names table (symbol.Word word) rest h =
    again_field (λ f. u8 (form_number f)) Any (one_of_at symbol_forms) _ form_spells form.Word tt (u32 word ++ []) rest (symbol.Word word)
    (again_field u32 FitsU32 u32_at _ u32_spells word h [] rest (symbol.Word word) refl)
symbol_again names table symbol.StackLimit rest h = again_field (λ f. u8 (form_number f)) Any (one_of_at symbol_forms) _ form_spells form.StackLimit tt [] rest symbol.StackLimit refl
symbol_again names table (symbol.Routine number) rest h =
    again_field (λ f. u8 (form_number f)) Any (one_of_at symbol_forms) _ form_spells form.Routine tt (u8 number ++ []) rest (symbol.Routine number)
    (again_field u8 IsRoutine (choice_at routine_count) _ (choice_spells routine_count) number (omega (arith, h), lt-ltb _ _ h) [] rest (symbol.Routine number) refl)

symbol_spells : (names : List (List ℕ)) → IsNameTable names → Spells (symbol_spelling names) (FitsSymbol names) (symbol_at names)
unfolding symbol_at
symbol_spells names table = chained (symbol_spelling names) (FitsSymbol names) _
    (takes_field _ (λ f. u8 (form_number f)) Any (one_of_at symbol_forms) _ form_spells (λ f h. symbol_take names table f))
    (symbol_again names table)

-- ---- fixes

abbrev pub FitsFix : List (List ℕ) → ℕ → Fix → Type 0
FitsFix names words f = (FitsU32 f.word × IsTrue (nat_lt f.word words)) × (Unit {0} × (FitsSymbol names f.symbol × (FitsU32 f.addend × Unit {0})))

pub fix_spells : (names : List (List ℕ)) → IsNameTable names → (words : ℕ) → Spells (fix names) (FitsFix names words) (fix_at names words)
unfolding fix_at
fix_spells names table words = format (fix names) (FitsFix names words) (fix names) (FitsFix names words) _
    (step _ _ u32 (λ w. FitsU32 w × IsTrue (nat_lt w words)) (checked (λ w. nat_lt w words) u32_at) _ _ _ (λ f. f.word) (checked_spells u32 FitsU32 u32_at (λ w. nat_lt w words) u32_spells)
    (λ word word_fits. step _ _ (λ k. u8 (kind_code k)) Any (one_of_at fix_kinds) _ _ _ (λ f. f.kind) kind_spells
    (λ k kind_fits. step _ _ (symbol_spelling names) (FitsSymbol names) (symbol_at names) _ _ _ (λ f. f.symbol) (symbol_spells names table)
    (λ s symbol_fits. step _ _ u32 FitsU32 u32_at _ _ _ (λ f. f.addend) u32_spells
    (λ addend addend_fits. finish _ (record { word = word; kind = k; symbol = s; addend = addend }) ((((tt, refl), refl), refl), refl) (λ f h. sym (λ j. record { word = h.0.0.0.1 j; kind = h.0.0.1 j; symbol = h.0.1 j; addend = h.1 j })))))))
    (λ f. refl) (λ f h. h) (λ f h. h)

-- ---- functions

abbrev pub FitsFunction : List (List ℕ) → ObjectFn → Type 0
FitsFunction names f = Contains names f.name × (FitsU32 f.frame × (FitsList FitsU32 f.words × (FitsList (FitsFix names (length f.words)) f.fixes × Unit {0})))

pub function_spells : (names : List (List ℕ)) → IsNameTable names → Spells (function names) (FitsFunction names) (function_at names)
unfolding function_at
function_spells names table = format (function names) (FitsFunction names) (function names) (FitsFunction names) _
    (step _ _ (name_index names) (Contains names) (name_at names) _ _ _ (λ f. f.name) (name_spells names table)
    (λ name name_fits. step _ _ u32 FitsU32 u32_at _ _ _ (λ f. f.frame) u32_spells
    (λ frame frame_fits. step _ _ (counted u32) (FitsList FitsU32) (counted_at u32_at) _ _ _ (λ f. f.words) (counted_spells u32 FitsU32 u32_at u32_spells)
    (λ words words_fit. step_where _ _ (counted (fix names)) (FitsList (FitsFix names (length words))) (counted_at (fix_at names (length words))) _ (λ f. FitsList (FitsFix names (length f.words)) f.fixes) _ _ (λ f. f.fixes)
    (counted_spells (fix names) (FitsFix names (length words)) (fix_at names (length words)) (fix_spells names table (length words)))
    (λ f k h. subst (λ (ws : List ℕ). FitsList (FitsFix names (length ws)) f.fixes) (sym k.1) h)
    (λ f k h. subst (λ (ws : List ℕ). FitsList (FitsFix names (length ws)) f.fixes) k.1 h)
    (λ fixes fixes_fit. finish _ (record { name = name; frame = frame; words = words; fixes = fixes }) ((((tt, refl), refl), refl), refl) (λ f h. sym (λ j. record { name = h.0.0.0.1 j; frame = h.0.0.1 j; words = h.0.1 j; fixes = h.1 j })))))))
    (λ f. refl) (λ f h. h) (λ f h. h)

symbol_lawful : (names : List (List ℕ)) (s : Symbol) → FitsSymbol names s → IsSymbol s
symbol_lawful names (symbol.Named name) fits = tt
symbol_lawful names (symbol.Word word) fits = fits
symbol_lawful names symbol.StackLimit fits = tt
symbol_lawful names (symbol.Routine number) fits = fits

pub lawful : (names : List (List ℕ)) (f : ObjectFn) → FitsFunction names f → IsFunction f
lawful names f fits = record {
  frame = fits.1.0;
  words = fits.1.1.0.1;
  fixes = each_weaker (FitsFix names (length f.words)) (IsFix (length f.words)) (λ x h. record { word = ltb-true _ _ h.0.1; symbol = symbol_lawful names x.symbol h.1.1.0; addend = h.1.1.1.0 }) f.fixes fits.1.1.1.0.1;
}

-- ---- names that fixes use

symbol_used : (names : List (List ℕ)) (s : Symbol) → FitsSymbol names s → AllUsed (names_of_symbol s) names
symbol_used names (symbol.Named name) fits = (fits, tt)
symbol_used names (symbol.Word word) fits = tt
symbol_used names symbol.StackLimit fits = tt
symbol_used names (symbol.Routine number) fits = tt

fixes_used : (names : List (List ℕ)) (words : ℕ) (fs : List Fix) → AllByRecursion (FitsFix names words) fs → AllUsed (flat_map (λ x. names_of_symbol x.symbol) fs) names
fixes_used names words [] all = tt
fixes_used names words (f ∷ fs) all =
    subst (λ (ns : List (List ℕ)). AllUsed ns names) (sym (flat_map-cons (λ (x : Fix). names_of_symbol x.symbol) f fs))
    (used_append (names_of_symbol f.symbol) (flat_map (λ x. names_of_symbol x.symbol) fs) names (symbol_used names f.symbol all.0.1.1.0) (fixes_used names words fs all.1))

pub function_used : (names : List (List ℕ)) (f : ObjectFn) → FitsFunction names f → AllUsed (names_of_function f) names
function_used names f fits = (fits.0, fixes_used names (length f.words) f.fixes fits.1.1.1.0.1)

symbol_back : (names : List (List ℕ)) (s : Symbol) → IsSymbol s → AllUsed (names_of_symbol s) names → FitsSymbol names s
symbol_back names (symbol.Named name) is used = used.0
symbol_back names (symbol.Word word) is used = is
symbol_back names symbol.StackLimit is used = tt
symbol_back names (symbol.Routine number) is used = is

fixes_back : (names : List (List ℕ)) (words : ℕ) (fs : List Fix) → FitsU32 words → AllByRecursion (IsFix words) fs → AllUsed (flat_map (λ x. names_of_symbol x.symbol) fs) names → AllByRecursion (FitsFix names words) fs
fixes_back names words [] few is used = tt
fixes_back names words (f ∷ fs) few is used =
    let both = subst (λ (ns : List (List ℕ)). AllUsed ns names) (flat_map-cons (λ (x : Fix). names_of_symbol x.symbol) f fs) used in (
      ((omega (arith, is.0.word, few), lt-ltb _ _ is.0.word), (tt, (symbol_back names f.symbol is.0.symbol (used_front (names_of_symbol f.symbol) (flat_map (λ x. names_of_symbol x.symbol) fs) names both), (is.0.addend, tt)))),
      fixes_back names words fs few is.1 (used_back (names_of_symbol f.symbol) (flat_map (λ x. names_of_symbol x.symbol) fs) names both),
    )

pub function_back : (names : List (List ℕ)) (f : ObjectFn) → IsFunction f → FitsU32 (length f.words) → FitsU32 (length f.fixes) → AllUsed (names_of_function f) names → FitsFunction names f
function_back names f is words fixes used = (used.0, (is.frame, ((words, is.words), ((fixes, fixes_back names (length f.words) f.fixes words is.fixes used.1), tt))))
