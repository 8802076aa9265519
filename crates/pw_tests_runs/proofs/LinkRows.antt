-- Where the return addresses of bump and main stand at each call and return; and where they do not, if no function stores
-- its own.
use Rattle.std.specs.Prelude.{ℕ, zero, suc, ◌≡◌, ◌+◌, ◌-◌, ◌==◌, ◌&&◌, not, Bool, true, false, if◌then◌else◌, List, [], ◌∷◌, map, filter, length, drop, take}
use Rattle.std.specs.List.{list_any}
use Rattle.std.proofs.Common.{refl}
use Rattle.pw_inst.specs.declared.Inst.{Inst}
use Rattle.pw_inst.specs.declared.Inst.TheVariants.{Stw}
use Rattle.pw_inst.specs.declared.relocation.Symbol.TheVariants as symbol
use Rattle.pw_webflow.specs.Direction.{directed}
use Rattle.pw_alloc.specs.Frames.{link_place}
use Rattle.pw_alloc.specs.declared.located.Located.{Located}
use Rattle.pw_alloc.specs.Allocation.{entered_from}
use Rattle.pw_tests_runs.proofs.InWords.{in_words}
use Rattle.pw_select.specs.Selection.{selected, entered_lines}
use Rattle.pw_delay.specs.declared.items.Item.{Item}
use Rattle.pw_delay.specs.declared.items.Turn.TheVariants.{CallTo, CallReg}
use Rattle.pw_delay.specs.declared.items.Item.TheVariants.{Plain, Turns}
use Rattle.pw_run_languages.specs.Direction.{directed_functions}
use Rattle.pw_run_languages.specs.Addresses.{Addresses}
use Rattle.pw_run_languages.specs.Acts.{Core, number_at}
use Rattle.pw_run_languages.specs.LineRun.{LineFn, LineProgram, Frame, Machine, Step, On, return_address, step}
use Rattle.pw_run_languages.specs.LineRun as lines
use Rattle.pw_run_languages.specs.SelectionLaws.{line_program}
use Rattle.pw_tests_runs.proofs.LineRows.{addresses}
use Rattle.pw_tests_runs.proofs.Programs.{bumping, bump_directives}

-- ---- the same by tests

abbrev stand : Addresses → Core → List Frame → Bool
stand w c [] = true
stand w c (f ∷ []) = true
stand w c (f ∷ caller ∷ callers) =
    (number_at 4 c.memory (f.stack - link_place) == return_address w caller caller.left) && stand w c (caller ∷ callers)

abbrev begins : Frame → Bool
begins f = length f.left == length f.function.items

abbrev is_call : Item → Bool
is_call (Turns (CallTo (symbol.Named f) link) slot) = true
is_call (Turns CallReg slot) = true
is_call _ = false

-- the item before those that are left calls a function
abbrev goes_on : Frame → Bool
goes_on f = list_any is_call (take 1 (drop (length f.function.items - (length f.left + 1)) f.function.items))

abbrev looked_at : Addresses → Machine → List Bool → List Bool
looked_at w m rest =
    if begins m.frame then stand w m.core m.callers ∷ rest else
    if goes_on m.frame then stand w m.core (m.frame ∷ m.callers) ∷ rest else rest

-- at each call and each return of so many steps, whether the return addresses stand
links : LineProgram → Addresses → ℕ → Step → List Bool
links p w zero s = []
links p w (suc n) (On m) = looked_at w m (links p w n (step p w (λ k registers r. 99) m))
links p w (suc n) s = []

abbrev links_of : LineProgram → List Bool
links_of p = links p (addresses 4096) 200 (lines.start p (addresses 4096) [])

-- ---- bump and main

abbrev bumped : LineProgram
bumped = line_program bumping (map in_words (directed_functions bumping bump_directives))

-- `$start`, main, bump and bump begin; main goes on behind bump, bump and putchar, and `$start` behind main
bump_links : links_of bumped ≡ true ∷ true ∷ true ∷ true ∷ true ∷ true ∷ true ∷ true ∷ []
unfolding step directed in_words entered_from selected entered_lines links
bump_links = refl

abbrev is_link_store : Inst → Bool
is_link_store (Stw r offset base) = r == 2
is_link_store i = false

abbrev stores_link : Item → Bool
stores_link (Plain word) = is_link_store word.inst
stores_link item = false

abbrev unlinked : LineFn → LineFn
unlinked f = record f { items = filter (λ item. not (stores_link item)) f.items }

-- where bump begins, main's is missing
no_links : links_of (record bumped { functions = map unlinked bumped.functions }) ≡ true ∷ true ∷ false ∷ []
unfolding step directed in_words entered_from selected entered_lines links
no_links = refl
