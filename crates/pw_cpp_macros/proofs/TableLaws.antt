-- The table of macros as a list of names with what they stand for.
use Rattle.std.proofs.Common.{◌≡◌, ℕ, ◌<◌, ◌≤◌, Bool, true, false, List, [], ◌∷◌, ◌++◌, map, length, Option, Some, None, Result, Ok, Err, refl, sym, ap, ◌∙◌, arith}
use Rattle.std.proofs.lemmas.Bool.{le-leb, lt-leb}
use Rattle.std.proofs.lemmas.List.{length-map, map-append}
use Rattle.std.specs.Borrow.{Bor}
use Rattle.std.specs.Map.{lookup, remove_entry}
use Rattle.std.specs.Prelude.{if◌then◌else◌}
use Rattle.std.specs.Str.{bytes_eq}
use Rattle.pw_token.specs.Roles.{spelling}
use Rattle.pw_cpp_macros.specs.Limits.{macro_limit}
use Rattle.pw_cpp_macros.specs.Macros.{Macros, defined, defined_again, find, is_alike, without}
use Rattle.pw_cpp_macros.specs.declared.definition.Definition.{Definition}
use Rattle.pw_cpp_macros.specs.declared.definition.Macro.{Macro}
use Rattle.pw_cpp_macros.specs.declared.table.MacroFault.TheVariants.{Differs, Full}

-- entries of the table, and what they say
abbrev pub Entry : Type 0
Entry = Bor (List ℕ) × Macro

abbrev pub said : Entry → List ℕ × Macro
said entry = (entry.0.now, entry.1)

abbrev pub same_name : Bor (List ℕ) → Bor (List ℕ) → Bool
same_name a b = bytes_eq a.now b.now

pub find-said : (entries : List Entry) (name : Bor (List ℕ)) → lookup (same_name name) entries ≡ find (map said entries) name.now
find-said [] name = refl
find-said (entry ∷ others) name = ap (λ x. if bytes_eq name.now entry.0.now then Some entry.1 else x) (find-said others name)

pub without-said : (entries : List Entry) (name : Bor (List ℕ)) → map said (remove_entry (same_name name) entries) ≡ without (map said entries) name.now
without-said [] name = refl
without-said (entry ∷ others) name = by (bytes_eq name.now entry.0.now) (without-said others name)
  where
    by : (b : Bool) → map said (remove_entry (same_name name) others) ≡ without (map said others) name.now
        → map said (if b then others else entry ∷ remove_entry (same_name name) others) ≡ (if b then map said others else said entry ∷ without (map said others) name.now)
    by true later = refl
    by false later = ap (λ x. said entry ∷ x) later

-- ---- definitions, by what the table has for their name

module _ (text : List ℕ) (definition : Definition) (macros : Macros) (entries : List Entry) (is : map said entries ≡ macros) (name : Bor (List ℕ)) (spells : name.now ≡ spelling text definition.name) where
  by_found : (found : Option Macro) → found ≡ lookup (same_name name) entries → defined text macros definition ≡ defined_again text macros definition found
  by_found found e =
      ap (defined_again text macros definition)
      (ap (find macros) (sym spells) ∙ ap (λ m. find m name.now) (sym is) ∙ sym (find-said entries name) ∙ sym e)

  pub define-alike : (old : Macro) → Some old ≡ lookup (same_name name) entries → is_alike text old definition.meaning ≡ true → defined text macros definition ≡ Ok macros
  define-alike old e a = by_found (Some old) e ∙ rw a refl

  pub define-differs : (old : Macro) → Some old ≡ lookup (same_name name) entries → is_alike text old definition.meaning ≡ false → defined text macros definition ≡ Err Differs
  define-differs old e a = by_found (Some old) e ∙ rw a refl

  count : length macros ≡ length entries
  count = ap length (sym is) ∙ length-map entries said

  pub define-full : None ≡ lookup (same_name name) entries → macro_limit ≤ length entries → defined text macros definition ≡ Err Full
  define-full e l = by_found None e ∙ rw (le-leb macro_limit (length macros) (omega (arith, l, count))) refl

  pub define-added : (new : List Entry) → None ≡ lookup (same_name name) entries → length entries < macro_limit → new ≡ entries ++ (name, definition.meaning) ∷ []
      → defined text macros definition ≡ Ok (map said new)
  define-added new e l n = by_found None e ∙ rw (lt-leb macro_limit (length macros) (omega (arith, l, count))) (ap Ok (sym all))
    where
      all : map said new ≡ macros ++ (spelling text definition.name, definition.meaning) ∷ []
      all =
          ap (map said) n
          ∙ map-append said entries ((name, definition.meaning) ∷ [])
          ∙ ap (λ m. m ++ (name.now, definition.meaning) ∷ []) is
          ∙ ap (λ n. macros ++ (n, definition.meaning) ∷ []) spells
