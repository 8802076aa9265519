-- Where no call leads back to.
use Rattle.std.specs.Prelude.{ℕ, ◌≡◌, ◌≢◌, ◌+◌, ◌<◌, ◌≤◌, Bool, List, [], ◌∷◌, ◌++◌}
use Rattle.std.proofs.Common.{arith, subst, sym, ap, ◌∙◌}
use Rattle.std.proofs.lemmas.List.Sums.{sum_by-cons, sum_by-append}
use Rattle.pw_delay.specs.declared.items.Turn.TheVariants.{Back, Goto, If, CallTo, CallReg, Leave}
use Rattle.pw_delay.specs.declared.items.Item.{Item}
use Rattle.pw_delay.specs.declared.items.Item.TheVariants.{Plain, Turns, Mark}
use Rattle.pw_delay.specs.Placement.{size, sizes}
use Rattle.pw_run_languages.specs.LineRun.{LineFn, IsCalling}
use Rattle.pw_law_link_run.specs.Steps.{Setting}
use Rattle.pw_law_link_run.specs.Placing.{name_in, words_of}
use Rattle.pw_law_link_run.specs.Leveled.{IsCold}

pub more : (long : Bool) (item : Item) (rest : List Item) → sizes long (item ∷ rest) ≡ size long item + sizes long rest
more long item rest = sum_by-cons (size long) item rest

pub joined : (long : Bool) (before rest : List Item) → sizes long (before ++ rest) ≡ sizes long before + sizes long rest
joined long before rest = sum_by-append (size long) before rest

calling_size : (long : Bool) (item : Item) → IsCalling item → 1 ≤ size long item
calling_size long (Plain w) h = absurd h
calling_size long (Mark b) h = absurd h
calling_size long (Turns (Back i) slot) h = absurd h
calling_size long (Turns (Goto b) slot) h = absurd h
calling_size long (Turns (If r b) slot) h = absurd h
calling_size long (Turns (CallTo s link) slot) h = omega arith
calling_size long (Turns CallReg slot) h = omega arith
calling_size long (Turns Leave slot) h = absurd h

-- up to a call and with it there are words
ends_some : (long : Bool) (before : List Item) (item : Item) → 1 ≤ size long item → 1 ≤ sizes long (before ++ item ∷ [])
ends_some long before item some = omega (arith, joined long before (item ∷ []), more long item [], some)

-- Two places in one list: behind an item that is no call, and behind a call.
ends_apart : (long : Bool) (before left other rest : List Item) (last item : Item) → before ++ last ∷ left ≡ other ++ item ∷ rest → (IsCalling last → ⊥) → IsCalling item
    → 1 ≤ size long last → sizes long (before ++ last ∷ []) ≢ sizes long (other ++ item ∷ [])
ends_apart long [] left [] rest last item e differs call some =
    let same : last ≡ item = cc in
    absurd (differs (subst (λ i. IsCalling i) (sym same) call))
ends_apart long [] left (o ∷ other) rest last item e differs call some =
    let same : last ≡ o = cc in
    let size_is : size long last ≡ size long o = ap (size long) same in
    λ eq. omega (arith, eq, size_is, more long last [], more long o (other ++ item ∷ []), ends_some long other item (calling_size long item call))
ends_apart long (b ∷ before) left [] rest last item e differs call some =
    let same : b ≡ item = cc in
    let size_is : size long b ≡ size long item = ap (size long) same in
    λ eq. omega (arith, eq, size_is, more long item [], more long b (before ++ last ∷ []), ends_some long before last some)
ends_apart long (b ∷ before) left (o ∷ other) rest last item e differs call some =
    let same : b ≡ o = cc in
    let tail : before ++ last ∷ left ≡ other ++ item ∷ rest = cc in
    let size_is : size long b ≡ size long o = ap (size long) same in
    let later = ends_apart long before left other rest last item tail differs call some in
    λ eq. later (omega (arith, eq, size_is, more long b (before ++ last ∷ []), more long o (other ++ item ∷ [])))

pub cold_behind : (x : Setting) (f : LineFn) (before left : List Item) (last : Item) (n : ℕ) → f.items ≡ before ++ last ∷ left → (IsCalling last → ⊥)
    → 1 ≤ size (x.long (name_in f)) last → n ≡ words_of x f (before ++ last ∷ []) → IsCold x f n
cold_behind x f before left last n parts differs some is = λ other rest item e call eq.
    ends_apart (x.long (name_in f)) before left other rest last item (sym parts ∙ e) differs call some (sym is ∙ eq)

-- nor to a place before which words alone stand
abbrev pub AreWords : List Item → Type 0
AreWords [] = Unit {0}
AreWords (Plain w ∷ rest) = AreWords rest
AreWords (Mark b ∷ rest) = ⊥
AreWords (Turns turn slot ∷ rest) = ⊥

words_before : (long : Bool) (before left other rest : List Item) (item : Item) → AreWords before → before ++ left ≡ other ++ item ∷ rest → IsCalling item
    → sizes long before < sizes long (other ++ item ∷ [])
words_before long [] left other rest item words e call = omega (arith, ends_some long other item (calling_size long item call))
words_before long (Plain w ∷ before) left [] rest item words e call =
    let same : Plain w ≡ item = cc in
    absurd (subst (λ i. IsCalling i) (sym same) call)
words_before long (Plain w ∷ before) left (o ∷ other) rest item words e call =
    let same : Plain w ≡ o = cc in
    let tail : before ++ left ≡ other ++ item ∷ rest = cc in
    let size_is : size long (Plain w) ≡ size long o = ap (size long) same in
    omega (arith, size_is, more long (Plain w) before, more long o (other ++ item ∷ []), words_before long before left other rest item words tail call)
words_before long (Mark b ∷ before) left other rest item words e call = absurd words
words_before long (Turns turn slot ∷ before) left other rest item words e call = absurd words

pub cold_first : (x : Setting) (f : LineFn) (before left : List Item) → AreWords before → f.items ≡ before ++ left → IsCold x f (words_of x f before)
cold_first x f before left words parts = λ other rest item e call eq.
    let lt = words_before (x.long (name_in f)) before left other rest item words (sym parts ∙ e) call in
    omega (arith, lt, eq)
