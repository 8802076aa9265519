-- Changes of files, one behind another.
use Rattle.std.proofs.Common.{◌≡◌, inl, inr, ℕ, List, [], ◌∷◌, ◌++◌, map, Option, Some, refl, sym, ap, ◌∙◌, subst, append_assoc, append-nil}
use Rattle.std.specs.List.{AllByRecursion}
use Rattle.std.proofs.lemmas.List.{map-append}
use Rattle.pw_io.specs.Files.{Told, after_put}
use Rattle.pw_top_answer.specs.declared.answer.Answer.{Answer}
use Rattle.pw_top_answer.specs.declared.answer.Answer.TheVariants.{ReadFault, WriteFault, StoreFault, NoMemory}
use Rattle.pw_top_answer.specs.Effects.{NamedFile, IsLeft, PutPrefix, PutPart, PutsFiles, after_puts}
use Rattle.pw_build_files.specs.Genuine.{IsBuiltName}
use Rattle.pw_session.specs.Changes.{AreOwnChanges, Change, ChangePrefix, ChangePart, IsChanged, MakesChanges, MakesSome, Puts, Removes, after_change, after_changes}

pub after_both : (told : Told) (first second : List Change) → after_changes told (first ++ second) ≡ after_changes (after_changes told first) second
after_both told [] second = refl
after_both told (change ∷ first) second = after_both (after_change told change) first second

-- ---- all of them, and none

pub front_all : (changes : List Change) (told : Told) (new : Option Told) → new ≡ Some (after_changes told changes) → ChangePrefix told changes new
front_all changes told new e = record { done = changes; more = []; split = sym (append-nil changes); left = e }

pub front_none : (changes : List Change) (told : Told) (new : Option Told) → new ≡ Some told → ChangePrefix told changes new
front_none changes told new e = record { done = []; more = changes; split = refl; left = e }

changed_none : (told : Told) (changes : List Change) (new : Option Told) → new ≡ Some told → IsChanged told changes new
changed_none told [] new e = e
changed_none told (Puts file ∷ changes) new e = inl e
changed_none told (Removes name ∷ changes) new e = e

pub part_all : (changes : List Change) (told : Told) (new : Option Told) → new ≡ Some (after_changes told changes) → ChangePart told changes new
part_all changes told new e = record { done = changes; more = []; split = sym (append-nil changes); left = e }

pub part_none : (changes : List Change) (told : Told) (new : Option Told) → new ≡ Some told → ChangePart told changes new
part_none changes told new e = record { done = []; more = changes; split = refl; left = changed_none told changes new e }

-- all were made, whatever the answer
pub makes_all : (changes : List Change) (answer : Answer) (told : Told) (new : Option Told) → new ≡ Some (after_changes told changes) → MakesChanges changes answer told new
makes_all changes StoreFault told new e = part_all changes told new e
makes_all changes ReadFault told new e = front_all changes told new e
makes_all changes WriteFault told new e = front_all changes told new e
makes_all changes NoMemory told new e = front_all changes told new e
makes_all changes _ told new e = e

-- ---- more of them

changed_more : (told : Told) (first second : List Change) (new : Option Told) → IsChanged told first new → IsChanged told (first ++ second) new
changed_more told [] second new h = changed_none told second new h
changed_more told (Puts file ∷ first) second new h = h
changed_more told (Removes name ∷ first) second new h = h

front_more : (first second : List Change) (told : Told) (new : Option Told) → ChangePrefix told first new → ChangePrefix told (first ++ second) new
front_more first second told new p = record { done = p.done; more = p.more ++ second; split = ap (λ (xs : List Change). xs ++ second) p.split ∙ append_assoc p.done p.more second; left = p.left }

part_more : (first second : List Change) (told : Told) (new : Option Told) → ChangePart told first new → ChangePart told (first ++ second) new
part_more first second told new p = record {
  done = p.done;
  more = p.more ++ second;
  split = ap (λ (xs : List Change). xs ++ second) p.split ∙ append_assoc p.done p.more second;
  left = changed_more (after_changes told p.done) p.more second new p.left;
}

-- the answers after which a prefix stands
abbrev pub IsFault : Answer → Type 0
IsFault ReadFault = Unit {0}
IsFault WriteFault = Unit {0}
IsFault StoreFault = Unit {0}
IsFault NoMemory = Unit {0}
IsFault _ = ⊥

-- a fault came before the second changes
pub makes_stop : (first second : List Change) (answer : Answer) (told : Told) (new : Option Told) → IsFault answer → MakesChanges first answer told new → MakesChanges (first ++ second) answer told new
makes_stop first second StoreFault told new h p = part_more first second told new p
makes_stop first second ReadFault told new h p = front_more first second told new p
makes_stop first second WriteFault told new h p = front_more first second told new p
makes_stop first second NoMemory told new h p = front_more first second told new p
makes_stop first second _ told new h p = absurd h

-- ---- one behind another

front_then : (first second : List Change) (told : Told) (new : Option Told) → ChangePrefix (after_changes told first) second new → ChangePrefix told (first ++ second) new
front_then first second told new p = record {
  done = first ++ p.done;
  more = p.more;
  split = ap (λ (xs : List Change). first ++ xs) p.split ∙ sym (append_assoc first p.done p.more);
  left = p.left ∙ ap (λ (t : Told). Some t) (sym (after_both told first p.done));
}

part_then : (first second : List Change) (told : Told) (new : Option Told) → ChangePart (after_changes told first) second new → ChangePart told (first ++ second) new
part_then first second told new p = record {
  done = first ++ p.done;
  more = p.more;
  split = ap (λ (xs : List Change). first ++ xs) p.split ∙ sym (append_assoc first p.done p.more);
  left = subst (λ (t : Told). IsChanged t p.more new) (sym (after_both told first p.done)) p.left;
}

pub makes_then : (first second : List Change) (answer : Answer) (told : Told) (new : Option Told) → MakesChanges second answer (after_changes told first) new → MakesChanges (first ++ second) answer told new
makes_then first second StoreFault told new p = part_then first second told new p
makes_then first second ReadFault told new p = front_then first second told new p
makes_then first second WriteFault told new p = front_then first second told new p
makes_then first second NoMemory told new p = front_then first second told new p
makes_then first second _ told new p = p ∙ ap (λ (t : Told). Some t) (sym (after_both told first second))

-- ---- files that were put

pub puts_are_changes : (told : Told) (files : List NamedFile) → after_puts told files ≡ after_changes told (map Puts files)
puts_are_changes told [] = refl
puts_are_changes told (file ∷ files) = puts_are_changes (after_put told file.0 file.1) files

puts_split : (files done more : List NamedFile) → files ≡ done ++ more → map Puts files ≡ map Puts done ++ map Puts more
puts_split files done more e = ap (map Puts) e ∙ map-append Puts done more

put_front : (files : List NamedFile) (told : Told) (new : Option Told) → PutPrefix told files new → ChangePrefix told (map Puts files) new
put_front files told new p = record { done = map Puts p.done; more = map Puts p.more; split = puts_split files p.done p.more p.split; left = p.left ∙ ap (λ (t : Told). Some t) (puts_are_changes told p.done) }

left_so : (told : Told) (files : List NamedFile) (new : Option Told) → IsLeft told files new → IsChanged told (map Puts files) new
left_so told [] new h = h
left_so told (file ∷ files) new h = h

pub put_part : (files : List NamedFile) (told : Told) (new : Option Told) → PutPart told files new → ChangePart told (map Puts files) new
put_part files told new p = record {
  done = map Puts p.done;
  more = map Puts p.more;
  split = puts_split files p.done p.more p.split;
  left = subst (λ (t : Told). IsChanged t (map Puts p.more) new) (puts_are_changes told p.done) (left_so (after_puts told p.done) p.more new p.left);
}

pub puts_make : (files : List NamedFile) (answer : Answer) (told : Told) (new : Option Told) → PutsFiles files answer told new → MakesChanges (map Puts files) answer told new
puts_make files StoreFault told new p = put_part files told new p
puts_make files ReadFault told new p = front_all (map Puts files) told new (p ∙ ap (λ (t : Told). Some t) (puts_are_changes told files))
puts_make files WriteFault told new p = front_all (map Puts files) told new (p ∙ ap (λ (t : Told). Some t) (puts_are_changes told files))
puts_make files NoMemory told new p = put_front files told new p
puts_make files _ told new p = p ∙ ap (λ (t : Told). Some t) (puts_are_changes told files)

-- ---- some changes

own_front : (may : List ℕ → Type 0) (done more : List Change) → AreOwnChanges may (done ++ more) → AreOwnChanges may done
own_front may [] more own = tt
own_front may (change ∷ done) more own = (own.0, own_front may done more own.1)

own_both : (may : List ℕ → Type 0) (first second : List Change) → AreOwnChanges may first → AreOwnChanges may second → AreOwnChanges may (first ++ second)
own_both may [] second a b = b
own_both may (change ∷ first) second a b = (a.0, own_both may first second a.1 b)

own_weaker : (may might : List ℕ → Type 0) → ((name : List ℕ) → may name → might name) → (changes : List Change) → AreOwnChanges may changes → AreOwnChanges might changes
own_weaker may might f [] own = tt
own_weaker may might f (Puts file ∷ changes) own = (own.0, own_weaker may might f changes own.1)
own_weaker may might f (Removes name ∷ changes) own = (f name own.0, own_weaker may might f changes own.1)

-- the puts of a build are a session's
pub own_puts : (may : List ℕ → Type 0) (files : List NamedFile) → AllByRecursion (λ file. IsBuiltName file.0) files → AreOwnChanges may (map Puts files)
own_puts may [] own = tt
own_puts may (file ∷ files) own = (inr own.0, own_puts may files own.1)

front_own : (may : List ℕ → Type 0) (changes : List Change) (told : Told) (new : Option Told) (p : ChangePrefix told changes new) → AreOwnChanges may changes → AreOwnChanges may p.done
front_own may changes told new p own = own_front may p.done p.more (subst (AreOwnChanges may) p.split own)

pub makes_some : (may : List ℕ → Type 0) (changes : List Change) (answer : Answer) (told : Told) (new : Option Told) → AreOwnChanges may changes → MakesChanges changes answer told new → MakesSome may answer told new
makes_some may changes StoreFault told new own h = (changes, own, h)
makes_some may changes ReadFault told new own h = (h.done, front_own may changes told new h own, h.left)
makes_some may changes WriteFault told new own h = (h.done, front_own may changes told new h own, h.left)
makes_some may changes NoMemory told new own h = (h.done, front_own may changes told new h own, h.left)
makes_some may changes _ told new own h = (changes, own, h)

-- files of a build were put
pub puts_some : (may : List ℕ → Type 0) (files : List NamedFile) (answer : Answer) (told : Told) (new : Option Told) → AllByRecursion (λ file. IsBuiltName file.0) files → new ≡ Some (after_puts told files) → MakesSome may answer told new
puts_some may files answer told new own e =
    makes_some may (map Puts files) answer told new (own_puts may files own) (makes_all (map Puts files) answer told new (e ∙ ap (λ (t : Told). Some t) (puts_are_changes told files)))

-- some changes that were made, and then some more
pub some_then : (may : List ℕ → Type 0) (first : List Change) (answer : Answer) (told : Told) (new : Option Told) → AreOwnChanges may first → MakesSome may answer (after_changes told first) new → MakesSome may answer told new
some_then may first StoreFault told new own h = (first ++ h.0, own_both may first h.0 own h.1, part_then first h.0 told new h.2)
some_then may first _ told new own h = (first ++ h.0, own_both may first h.0 own h.1, h.2 ∙ ap (λ (t : Told). Some t) (sym (after_both told first h.0)))

-- of what more may be removed
pub some_weaker : (may might : List ℕ → Type 0) → ((name : List ℕ) → may name → might name) → (answer : Answer) (told : Told) (new : Option Told) → MakesSome may answer told new → MakesSome might answer told new
some_weaker may might f StoreFault told new h = (h.0, own_weaker may might f h.0 h.1, h.2)
some_weaker may might f _ told new h = (h.0, own_weaker may might f h.0 h.1, h.2)
