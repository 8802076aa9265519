-- The webs that a function enters, register by register.
use Rattle.std.proofs.Common.{ℕ, zero, suc, ◌≡◌, ◌≢◌, ◌+◌, arith, refl, ap, ap₂, sym, ◌∙◌, Bool, true, false, if◌then◌else◌, ◌==◌, ◌&&◌, Option, Some, None, List, [], ◌∷◌, ◌++◌, map, append_assoc, append-nil}
use Rattle.std.specs.List.{AllByRecursion, flat_map, range_with_len}
use Rattle.std.proofs.lemmas.Bool.{eqb-true, ne_eqb}
use Rattle.pw_inst.specs.declared.line.Line.{Line}
use Rattle.pw_db.specs.Limits.{first_register, register_count}
use Rattle.pw_db.specs.declared.database.Web.{Web}
use Rattle.pw_db.specs.declared.database.Role.{Role}
use Rattle.pw_db.specs.Database.{IsDirectives, EachTwo}
use Rattle.pw_alloc.specs.declared.located.Located.{Located}
use Rattle.pw_alloc.specs.Allocation.{is_entry}
use Rattle.pw_select.specs.Selection.{entered_web, lines_of_web, entered_lines, loaded_web, stored_back, webs_loaded, webs_stored}
use Rattle.pw_run_languages.specs.PlacedRun.{entered_webs}

-- the web, where it is entered in the register
abbrev entered_in : ℕ → Web × Role → List Web
entered_in r w = if is_entry w.1 && (w.0.reg == r) then w.0 ∷ [] else []

abbrev listed : Option Web → List Web
listed None = []
listed (Some w) = w ∷ []

-- no other web has the register of one
no_other : (r : ℕ) (w : Web) (webs : List (Web × Role)) → AllByRecursion (λ (b : Web). w.reg ≢ b.reg) (map (λ x. x.0) webs) → w.reg ≡ r → flat_map (entered_in r) webs ≡ []
no_other r w [] apart same = refl
no_other r w (x ∷ rest) apart same =
    ap₂ (λ (t : Bool) (l : List Web). (if is_entry x.1 && t then x.0 ∷ [] else []) ++ l) (ne_eqb x.0.reg r (λ e. apart.0 (same ∙ sym e))) (no_other r w rest apart.1 same)
    ∙ none (is_entry x.1)
  where
    none : (t : Bool) → (if t && false then x.0 ∷ [] else []) ++ [] ≡ []
    none true = refl
    none false = refl

of_register : (r : ℕ) (webs : List (Web × Role)) → EachTwo (λ (a b : Web). a.reg ≢ b.reg) (map (λ x. x.0) webs) → flat_map (entered_in r) webs ≡ listed (entered_web webs r)
of_register r [] apart = refl
of_register r (x ∷ rest) apart = by_test (is_entry x.1) (x.0.reg == r) refl (of_register r rest apart.1)
  where
    by_test : (t u : Bool) → (x.0.reg == r) ≡ u → flat_map (entered_in r) rest ≡ listed (entered_web rest r)
        → (if t && u then x.0 ∷ [] else []) ++ flat_map (entered_in r) rest ≡ listed (if u && t then Some x.0 else entered_web rest r)
    by_test true true e h = ap (λ (l : List Web). x.0 ∷ l) (no_other r x.0 rest apart.0 (eqb-true x.0.reg r e))
    by_test true false e h = h
    by_test false true e h = h
    by_test false false e h = h

lines_joined : (lines : Web → List Line) (xs ys : List Web) → flat_map lines (xs ++ ys) ≡ flat_map lines xs ++ flat_map lines ys
lines_joined lines [] ys = refl
lines_joined lines (x ∷ xs) ys = ap (λ (l : List Line). lines x ++ l) (lines_joined lines xs ys) ∙ sym (append_assoc (lines x) (flat_map lines xs) (flat_map lines ys))

lines_listed : (lines : Web → List Line) (o : Option Web) → lines_of_web lines o ≡ flat_map lines (listed o)
lines_listed lines None = refl
lines_listed lines (Some w) = sym (append-nil (lines w))

in_order : (lines : Web → List Line) (webs : List (Web × Role)) (r n : ℕ) → EachTwo (λ (a b : Web). a.reg ≢ b.reg) (map (λ x. x.0) webs)
    → entered_lines lines webs r n ≡ flat_map lines (flat_map (λ r. flat_map (entered_in r) webs) (range_with_len r n))
unfolding entered_lines
in_order lines webs r zero apart = refl
in_order lines webs r (suc n) apart =
    let next : suc r ≡ r + 1 = omega arith in
    ap₂ (λ (a b : List Line). a ++ b)
    (lines_listed lines (entered_web webs r) ∙ ap (flat_map lines) (sym (of_register r webs apart)))
    (in_order lines webs (suc r) n apart ∙ ap (λ k. flat_map lines (flat_map (λ r. flat_map (entered_in r) webs) (range_with_len k n))) next)
    ∙ sym (lines_joined lines (flat_map (entered_in r) webs) (flat_map (λ r. flat_map (entered_in r) webs) (range_with_len (r + 1) n)))

pub loaded_in_order : (f : Located) → IsDirectives f.body.directives → webs_loaded f.body.directives.webs ≡ flat_map loaded_web (entered_webs f)
loaded_in_order f is = in_order loaded_web f.body.directives.webs first_register register_count is.registers

pub stored_in_order : (f : Located) → IsDirectives f.body.directives → webs_stored f.body.directives.webs ≡ flat_map stored_back (entered_webs f)
stored_in_order f is = in_order stored_back f.body.directives.webs first_register register_count is.registers
