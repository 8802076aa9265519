-- Two files that are put, one behind the other.
use Rattle.std.proofs.Common.{◌≡◌, inl, List, [], ◌∷◌, ◌++◌, Option, Some, None, refl, ap, ◌∙◌, subst, append_assoc}
use Rattle.std.specs.Prelude.{IfSome}
use Rattle.pw_io.specs.Files.{Told, after_put}
use Rattle.pw_top_answer.specs.declared.answer.Answer.{Answer}
use Rattle.pw_top_answer.specs.declared.answer.Answer.TheVariants.{Done, StoreFault, NoMemory}
use Rattle.pw_top_answer.specs.Effects.{NamedFile, PutsFiles, IsLeft, after_puts}
use Rattle.pw_commands.specs.Outcome.{IsPutAnswer}

-- the second was put behind the first
second_put : (told : Told) (new : Option Told) (f g : NamedFile) (answer : Answer) → PutsFiles (g ∷ []) answer (after_put told f.0 f.1) new → PutsFiles (f ∷ g ∷ []) answer told new
second_put told new f g StoreFault h = record { done = f ∷ h.done; more = h.more; split = ap (λ (fs : List NamedFile). f ∷ fs) h.split; left = h.left }
second_put told new f g NoMemory h = record { done = f ∷ h.done; more = h.more; split = ap (λ (fs : List NamedFile). f ∷ fs) h.split; left = h.left }
second_put told new f g _ h = h

pub both_put : (first mid new : Option Told) (f g : NamedFile) (answer : Answer) → IfSome first (λ t. PutsFiles (f ∷ []) Done t mid) → IfSome mid (λ t. PutsFiles (g ∷ []) answer t new)
    → IfSome first (λ t. PutsFiles (f ∷ g ∷ []) answer t new)
both_put None mid new f g answer h k = tt
both_put (Some told) mid new f g answer h k =
    let P : Option Told → Type 0 = λ o. IfSome o (λ t. PutsFiles (g ∷ []) answer t new) in
    second_put told new f g answer (subst P h k)

-- the first was not put, whole
left_more : (told : Told) (files : List NamedFile) (g : NamedFile) (new : Option Told) → IsLeft told files new → IsLeft told (files ++ g ∷ []) new
left_more told [] g new h = inl h
left_more told (f ∷ files) g new h = h

first_failed : (told : Told) (new : Option Told) (f g : NamedFile) (answer : Answer) → IsPutAnswer answer → (answer ≡ Done → ⊥) → PutsFiles (f ∷ []) answer told new → PutsFiles (f ∷ g ∷ []) answer told new
first_failed told new f g Done h not k = absurd (not refl)
first_failed told new f g StoreFault h not k = record {
  done = k.done;
  more = k.more ++ g ∷ [];
  split = ap (λ (fs : List NamedFile). fs ++ g ∷ []) k.split ∙ append_assoc k.done k.more (g ∷ []);
  left = left_more (after_puts told k.done) k.more g new k.left;
}
first_failed told new f g NoMemory h not k = record {
  done = k.done;
  more = k.more ++ g ∷ [];
  split = ap (λ (fs : List NamedFile). fs ++ g ∷ []) k.split ∙ append_assoc k.done k.more (g ∷ []);
  left = k.left;
}
first_failed told new f g _ h not k = absurd h

pub one_failed : (first new : Option Told) (f g : NamedFile) (answer : Answer) → IsPutAnswer answer → (answer ≡ Done → ⊥) → IfSome first (λ t. PutsFiles (f ∷ []) answer t new) → IfSome first (λ t. PutsFiles (f ∷ g ∷ []) answer t new)
one_failed None new f g answer h not k = tt
one_failed (Some told) new f g answer h not k = first_failed told new f g answer h not k

-- nothing was put
pub nothing_put : (first : Option Told) (files : List NamedFile) → IfSome first (λ t. PutsFiles files NoMemory t first)
nothing_put None files = tt
nothing_put (Some told) files = record { done = []; more = files; split = refl; left = refl }
