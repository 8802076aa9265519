-- What the relocations of a linked program's functions are of has its address, and branches lead into the text.
use Rattle.std.specs.Prelude.{ℕ, zero, suc, ◌≡◌, ◌+◌, ◌-◌, ◌*◌, ◌%◌, ◌<◌, ◌≤◌, None, List, [], ◌∷◌, ◌++◌, map, drop, length, slice_index_or, Contains}
use Rattle.std.specs.List.{AllByRecursion, sum_by}
use Rattle.std.proofs.Common.{arith, subst, refl, get_or, length-append}
use Rattle.std.proofs.lemmas.List.Sums.{sum_by-cons}
use Rattle.pw_value.specs.Limits.{text_start}
use Rattle.pw_db.specs.declared.database.Directives.{Directives}
use Rattle.pw_inst.specs.Limits.{routine_count}
use Rattle.pw_inst.specs.declared.relocation.Fix.{Fix}
use Rattle.pw_inst.specs.declared.relocation.FixKind.{FixKind}
use Rattle.pw_inst.specs.declared.relocation.FixKind.TheVariants as kind
use Rattle.pw_inst.specs.declared.relocation.Symbol.{Symbol}
use Rattle.pw_inst.specs.declared.relocation.Symbol.TheVariants as symbol
use Rattle.pw_object.specs.declared.object.Object.{Object}
use Rattle.pw_alloc.specs.declared.located.Located.{Located}
use Rattle.pw_select.specs.Selection.{selected}
use Rattle.pw_delay.specs.Placement.{placed}
use Rattle.pw_link.specs.Layout.{in_order, function_pieces, Piece, Placed, placed_from, routine_pieces, pieces_of, text_of, routine_addresses}
use Rattle.pw_link.specs.Linking.{linked, symbol_address, size_fault}
use Rattle.pw_law_link.specs.Standing.{sites}
use Rattle.pw_run_languages.specs.Programs.{Program, functions_of}
use Rattle.pw_run_languages.specs.LawfulPrograms.{IsProgram, IsFunctionName}
use Rattle.pw_run_languages.specs.Addresses.{AreLawful}
use Rattle.pw_run_languages.specs.Direction.{directed_functions}
use Rattle.pw_run_languages.specs.Serving.{AllServe}
use Rattle.pw_run_languages.specs.CodeStands.{InText, Reaches, IsKnown}
use Rattle.pw_run_languages.specs.SelectionLaws.{with_items}
use Rattle.pw_run_languages.specs.LinkingLaws.{address_of}
use Rattle.pw_law_link_run.specs.Placing as placing
use Rattle.pw_law_select_walk.proofs.EachLine.{selected_lines}
use Rattle.pw_law_code.specs.LinkedAddresses.{linked_addresses}
use Rattle.pw_law_linked.specs.Settings.{linked_setting}
use Rattle.pw_law_linked.specs.Relocations.{IsRelocation}
use Rattle.pw_law_linked.specs.InMemory.{HasKnownFixes}
use Rattle.pw_law_linked.proofs.Addresses.{address_is}
use Rattle.pw_law_linked.proofs.Relocated.{named_there, limit_there, routine_there}
use Rattle.pw_law_linked.proofs.Spans.{few_words}
use Rattle.pw_law_linked.proofs.Fixes.{OfFix, placed_fixes}
use Rattle.pw_law_linked.proofs.Callees.{Anything, KnowsCallees, functions_know}

-- ---- routines stand in the text

-- a piece stands between two addresses
abbrev IsBetween : ℕ → ℕ → ℕ → Type 0
IsBetween low high a = (a % 4 ≡ 0) × (low ≤ a) × (a ≤ high)

between : (low at : ℕ) (ps : List Piece) (high : ℕ) → at % 4 ≡ 0 → low ≤ at → at + 4 * sum_by (λ p. length p.words) ps ≤ high → AllByRecursion (IsBetween low high) (map (λ q. q.address) (placed_from at ps))
between low at [] high aligned above below = tt
between low at (p ∷ ps) high aligned above below =
    let count = sum_by-cons (λ (p : Piece). length p.words) p ps in
    ((aligned, above, omega (arith, count, below)), between low (at + 4 * length p.words) ps high (omega (arith, aligned)) (omega (arith, above)) (omega (arith, count, below)))

left_out : (P : ℕ → Type 0) (n : ℕ) (qs : List Placed) → AllByRecursion P (map (λ q. q.address) qs) → AllByRecursion P (map (λ q. q.address) (drop n qs))
left_out P zero qs h = h
left_out P (suc n) [] h = h
left_out P (suc n) (q ∷ qs) h = left_out P n qs h.1

kept : (n : ℕ) (qs : List Placed) → length qs ≤ n + length (map (λ q. q.address) (drop n qs))
kept zero [] = omega arith
kept zero (q ∷ qs) = let rest = kept zero qs in omega (arith, rest)
kept (suc n) [] = omega arith
kept (suc n) (q ∷ qs) = let rest = kept n qs in omega (arith, rest)

one_of : (P : ℕ → Type 0) (xs : List ℕ) (k : ℕ) → AllByRecursion P xs → k < length xs → P (slice_index_or xs k 0)
one_of P [] k h lt = absurd (omega (arith, lt))
one_of P (x ∷ xs) zero h lt = h.0
one_of P (x ∷ xs) (suc k) h lt = one_of P xs k h.1 (omega (arith, lt))

placed_count : (at : ℕ) (ps : List Piece) → length (placed_from at ps) ≡ length ps
placed_count at [] = refl
placed_count at (p ∷ ps) = let rest = placed_count (at + 4 * length p.words) ps in omega (arith, rest)

enough : (xs : List Piece) → routine_count ≤ length (xs ++ routine_pieces)
enough xs = let both = length-append xs routine_pieces in omega (arith, both)

pub routine_in_text : (objects : List Object) (stack k : ℕ) → size_fault objects stack ≡ None → k < routine_count → InText (slice_index_or (routine_addresses (text_of objects)) k 0)
routine_in_text objects stack k fits small =
    let text = text_of objects in
    let few = few_words objects stack fits in
    let high = text_start + 4 * sum_by (λ (p : Piece). length p.words) (pieces_of objects) in
    let n = length text - routine_count in
    let all = between text_start text_start (pieces_of objects) high (omega arith) (omega arith) (omega arith) in
    let many : routine_count ≤ length (pieces_of objects) = enough (function_pieces (in_order objects)) in
    let count = placed_count text_start (pieces_of objects) in
    let left = kept n text in
    let h = one_of (IsBetween text_start high) (routine_addresses text) k (left_out (IsBetween text_start high) n text all) (omega (arith, small, many, count, left)) in
    (h.0, h.1, omega (arith, few, h.2))

-- ---- functions too

pub name_in_text : (p : Program) (objects : List Object) (behind : List ℕ → ℕ → ℕ) → size_fault objects p.stack ≡ None → AreLawful p (linked_addresses objects p.stack behind) → (own : ℕ) (name : List ℕ) → IsFunctionName p name
    → InText (symbol_address (sites objects p.stack) own (symbol.Named name))
name_in_text p objects behind fits lawful own name c =
    let few = few_words objects p.stack fits in
    let below = lawful.function_below name c in
    subst InText (address_is objects p.stack name) (lawful.function_aligned name c, lawful.function_above name c, omega (arith, few, below))

-- ---- relocations

module _ (p : Program) (functions : List Located) (objects : List Object) (input : List ℕ) (fits : size_fault objects p.stack ≡ None) (lawful : AreLawful p (linked_setting p functions objects input).addresses) where
  abbrev IsKnownIn : Located → Fix → Symbol → Type 0
  IsKnownIn l f s = IsKnown (sites objects p.stack) (placing.text_of (linked_setting p functions objects input) (with_items l)) (address_of (linked objects p.stack) l.body.name) f s

  named_reach : (k : FixKind) (own : ℕ) (name : List ℕ) → IsRelocation (IsFunctionName p) k (symbol.Named name) → Reaches k (symbol_address (sites objects p.stack) own (symbol.Named name))
  named_reach kind.Ldil own name h = tt
  named_reach kind.Im14 own name h = tt
  named_reach kind.Bl own name h = name_in_text p objects (linked_setting p functions objects input).addresses.behind fits lawful own name h

  limit_reach : (k : FixKind) (own : ℕ) → IsRelocation (IsFunctionName p) k symbol.StackLimit → Reaches k (symbol_address (sites objects p.stack) own symbol.StackLimit)
  limit_reach kind.Ldil own h = tt
  limit_reach kind.Im14 own h = tt
  limit_reach kind.Bl own h = absurd h

  routine_reach : (k : FixKind) (own j : ℕ) → IsRelocation (IsFunctionName p) k (symbol.Routine j) → Reaches k (symbol_address (sites objects p.stack) own (symbol.Routine j))
  routine_reach kind.Ldil own j h = tt
  routine_reach kind.Im14 own j h = tt
  routine_reach kind.Bl own j h = routine_in_text objects p.stack j fits h

  symbol_known : (l : Located) (f : Fix) (s : Symbol) → IsRelocation (IsFunctionName p) f.kind s → IsKnownIn l f s
  symbol_known l f (symbol.Word k) h = tt
  symbol_known l f (symbol.Named name) h =
      let own = address_of (linked objects p.stack) l.body.name in
      (named_there objects p.stack own (linked_setting p functions objects input).addresses.behind name, named_reach f.kind own name h)
  symbol_known l f symbol.StackLimit h =
      let own = address_of (linked objects p.stack) l.body.name in
      (limit_there objects p.stack own (linked_setting p functions objects input).addresses.behind, limit_reach f.kind own h)
  symbol_known l f (symbol.Routine k) h =
      let own = address_of (linked objects p.stack) l.body.name in
      (routine_there objects p.stack own (linked_setting p functions objects input).addresses.behind k, routine_reach f.kind own k h)

  fix_at : (fixes : List Fix) (f : Fix) → AllByRecursion (OfFix Anything (IsFunctionName p)) fixes → Contains fixes f → OfFix Anything (IsFunctionName p) f
  fix_at [] f all c = absurd (omega (arith, c.1))
  fix_at (x ∷ fixes) f all c = by c.0 c.1 c.2 (fix_at fixes f all.1)
    where
      by : (k : ℕ) → k < length (x ∷ fixes) → get_or (x ∷ fixes) k f ≡ f → (Contains fixes f → OfFix Anything (IsFunctionName p) f) → OfFix Anything (IsFunctionName p) f
      by zero lt e later = subst (OfFix Anything (IsFunctionName p)) e all.0
      by (suc k) lt e later = later (k, omega (arith, lt), e)

  each_known : (ls : List Located) → AllByRecursion (KnowsCallees p) ls → AllByRecursion (HasKnownFixes p functions objects input) ls
  each_known [] h = tt
  each_known (l ∷ ls) h = (
    (λ f c. symbol_known l f f.symbol (fix_at (placed (selected l)).fixes f (placed_fixes Anything (IsFunctionName p) (selected l) (selected_lines Anything (IsFunctionName p) l h.0)) c)),
    each_known ls h.1,
  )

pub fixes_known : (p : Program) (d : List (List ℕ × Directives)) (functions : List Located) (objects : List Object) (input : List ℕ) → IsProgram p → AllServe (directed_functions p d) functions
    → size_fault objects p.stack ≡ None → AreLawful p (linked_setting p functions objects input).addresses → AllByRecursion (HasKnownFixes p functions objects input) functions
fixes_known p d functions objects input is serve fits lawful =
    each_known p functions objects input fits lawful functions (functions_know p d (functions_of p) functions is.ops serve)
