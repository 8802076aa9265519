-- States on the way through lines that call nothing are neither at a function's start nor behind a call.
use Rattle.std.proofs.Common.{◌≡◌, List, [], ◌∷◌, ◌++◌, length, sym, ap, subst, ◌∙◌, arith}
use Rattle.std.proofs.lemmas.List.{length-append}
use Rattle.pw_run_languages.specs.Addresses.{Addresses}
use Rattle.pw_run_languages.specs.Acts.{Core}
use Rattle.pw_run_languages.specs.LineRun.{Frame, Machine, On}
use Rattle.pw_run_languages.specs.Links.{LinksStand, Begins, IsFunctionCall, GoesOn, HasLinks}
use Rattle.pw_law_select_states.specs.Passes.{IsAmid}
use Rattle.pw_law_select_frames.specs.Stepping.{ReturnAddressesStand}
use Rattle.pw_law_selection.specs.Linking.{StatesHaveLinks}

-- ---- amid a function

tail_same : {X : Type 0} (x y : X) (xs ys : List X) → x ∷ xs ≡ y ∷ ys → xs ≡ ys
tail_same x y xs ys e = cc

head_same : {X : Type 0} (x y : X) (xs ys : List X) → x ∷ xs ≡ y ∷ ys → x ≡ y
head_same x y xs ys e = cc

-- what stands before the same rest is the same
same_at : {X : Type 0} (front bs : List X) (x y : X) (rest : List X) → length front ≡ length bs → front ++ x ∷ rest ≡ bs ++ y ∷ rest → x ≡ y
same_at [] [] x y rest long e = head_same x y rest rest e
same_at [] (b ∷ bs) x y rest long e = absurd (omega (arith, long))
same_at (a ∷ front) [] x y rest long e = absurd (omega (arith, long))
same_at (a ∷ front) (b ∷ bs) x y rest long e = same_at front bs x y rest (omega (arith, long)) (tail_same a b (front ++ x ∷ rest) (bs ++ y ∷ rest) e)

not_begins : (f : Frame) → IsAmid f → Begins f → ⊥
not_begins f amid begins =
    let long = length-append amid.before (amid.item ∷ f.left) in
    let whole : length f.function.items ≡ length (amid.before ++ amid.item ∷ f.left) = ap length amid.items in
    let same : length f.left ≡ length f.function.items = ap length begins in
    omega (arith, long, whole, same)

not_behind : (f : Frame) → IsAmid f → GoesOn f → ⊥
not_behind f amid goes =
    let one = length-append amid.before (amid.item ∷ f.left) in
    let two = length-append goes.before (goes.item ∷ f.left) in
    let both : amid.before ++ amid.item ∷ f.left ≡ goes.before ++ goes.item ∷ f.left = sym amid.items ∙ goes.items in
    let long : length (amid.before ++ amid.item ∷ f.left) ≡ length (goes.before ++ goes.item ∷ f.left) = ap length both in
    let same = same_at amid.before goes.before amid.item goes.item f.left (omega (arith, one, two, long)) both in
    amid.quiet (subst IsFunctionCall (sym same) goes.call)

pub amid_links : (w : Addresses) (m : Machine) → IsAmid m.frame → HasLinks w m
amid_links w m amid = record { at_call = λ b. absurd (not_begins m.frame amid b); at_return = λ g. absurd (not_behind m.frame amid g) }

-- ---- whole states

links_below : (w : Addresses) (c : Core) (f : Frame) (fs : List Frame) → LinksStand w c (f ∷ fs) → LinksStand w c fs
links_below w c f [] h = tt
links_below w c f (caller ∷ callers) h = h.1

pub states_have_links : ReturnAddressesStand → StatesHaveLinks
states_have_links stand p w site m l both =
    let all = stand p w site m l both in
    record { at_call = λ b. links_below w l.core l.frame l.callers all; at_return = λ g. all }

-- ---- on the way

pub same_machine : (m n : Machine) → On m ≡ On n → m ≡ n
same_machine m n e = cc
