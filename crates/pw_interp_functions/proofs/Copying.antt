-- The bytes of an object, written into another.
use Rattle.std.proofs.Common.{ℕ, ◌≡◌, refl, sym, ap, subst, ◌∙◌, List, Ok, Err, Option, Some, None}
use Rattle.pw_value.specs.declared.value.Value.{Value}
use Rattle.pw_value.specs.declared.value.Value.TheVariants as V
use Rattle.pw_value.specs.declared.value.Pointer.TheVariants as P
use Rattle.pw_value.specs.Objects.{Object, object_at, written}
use Rattle.pw_cmean.specs.Worlds.{World}
use Rattle.pw_cmean.specs.Acts.{Act, wrong, look, write, go_on, ◌>>=◌}
use Rattle.pw_cmean.specs.Access.{within}
use Rattle.pw_interp_state.specs.Shown.{Shown, Streams}
use Rattle.pw_interp_calls.specs.declared.ending.Ending.TheVariants as E
use Rattle.pw_interp_calls.specs.declared.ending.Stop.TheVariants as S
use Rattle.pw_interp_calls.specs.Answers.{Answers}
use Rattle.pw_interp_calls.proofs.AnswerLaws.{same, ends_so}
use Rattle.pw_interp_functions.specs.Copies.{object_of, ends, copying}

-- ---- all bytes of an object

-- a place that is in no object
pub within_none : {A : Type 0} (place : Value) (next : ℕ → ℕ → Act A) → object_of place ≡ None → within place next ≡ wrong
unfolding within
within_none (V.At (P.Object number offset)) next e = cc e
within_none (V.At (P.Function f)) next e = refl
within_none V.Undefined next e = refl
within_none (V.Num n) next e = refl
within_none V.Null next e = refl
within_none (V.Piece p i) next e = refl

pub within_some : {A : Type 0} (place : Value) (number offset : ℕ) (next : ℕ → ℕ → Act A) → object_of place ≡ Some (number, offset) → within place next ≡ next number offset
unfolding within
within_some (V.At (P.Object n o)) number offset next e =
    let found : ℕ × ℕ = (n, o) in
    let wanted : ℕ × ℕ = (number, offset) in
    let pair : found ≡ wanted = cc e in
    ap (λ (p : ℕ × ℕ). next p.0 p.1) pair
within_some (V.At (P.Function f)) number offset next e = cc e
within_some V.Undefined number offset next e = cc e
within_some (V.Num n) number offset next e = cc e
within_some V.Null number offset next e = cc e
within_some (V.Piece p i) number offset next e = cc e

module _ {world : World} {w : Shown} (source place : Value) where
  no_source : object_of source ≡ None → Answers {B = Unit {0}} (λ d. tt) world (copying source place) w (Err (S.Ended E.Wrong)) w
  unfolding copying wrong
  no_source e = same (within_none source _ e) (ends_so refl)

  no_place : (from i : ℕ) → object_of source ≡ Some (from, i) → object_of place ≡ None → Answers {B = Unit {0}} (λ d. tt) world (copying source place) w (Err (S.Ended E.Wrong)) w
  unfolding copying wrong
  no_place from i e none = same (within_some source from i _ e ∙ within_none place _ none) (ends_so refl)

  copied : (from i to j : ℕ) → object_of source ≡ Some (from, i) → object_of place ≡ Some (to, j)
      → Answers {B = Unit {0}} (λ d. tt) world (copying source place) w (Ok tt) (record w { objects = written to j (object_at w.objects from).bytes w.objects })
  unfolding copying look write ◌>>=◌ go_on
  copied from i to j e there =
      same (within_some source from i _ e ∙ within_some place to j _ there)
      (record { given = record { comes = λ st s at. (refl, ap {A = Shown × Streams} (λ v. (record v.0 { objects = written to j (object_at v.0.objects from).bytes v.0.objects }, v.1)) at) }; stopped = tt })

  pub no_ends : ends (object_of source) (object_of place) ≡ None → Answers {B = Unit {0}} (λ d. tt) world (copying source place) w (Err (S.Ended E.Wrong)) w
  no_ends e = by (object_of source) (object_of place) refl refl e
    where
      by : (a b : Option (ℕ × ℕ)) → object_of source ≡ a → object_of place ≡ b → ends a b ≡ None → Answers {B = Unit {0}} (λ d. tt) world (copying source place) w (Err (S.Ended E.Wrong)) w
      by None b p q e = no_source p
      by (Some (from, i)) None p q e = no_place from i p q
      by (Some a) (Some b) p q e = cc e

  pub all_copied : (from to j : ℕ) (now : List Object) → ends (object_of source) (object_of place) ≡ Some (from, to, j) → now ≡ written to j (object_at w.objects from).bytes w.objects
      → Answers {B = Unit {0}} (λ d. tt) world (copying source place) w (Ok tt) (record w { objects = now })
  all_copied from to j now e new =
      subst (λ os. Answers {B = Unit {0}} (λ d. tt) world (copying source place) w (Ok tt) (record w { objects = os })) (sym new)
      (by (object_of source) (object_of place) refl refl e)
    where
      by : (a b : Option (ℕ × ℕ)) → object_of source ≡ a → object_of place ≡ b → ends a b ≡ Some (from, to, j)
          → Answers {B = Unit {0}} (λ d. tt) world (copying source place) w (Ok tt) (record w { objects = written to j (object_at w.objects from).bytes w.objects })
      by None b p q e = cc e
      by (Some a) None p q e = cc e
      by (Some (f, i)) (Some (t, o)) p q e =
          let found : ℕ × ℕ × ℕ = (f, t, o) in
          let wanted : ℕ × ℕ × ℕ = (from, to, j) in
          let same : found ≡ wanted = cc e in
          subst (λ (x : ℕ × ℕ × ℕ). Answers {B = Unit {0}} (λ d. tt) world (copying source place) w (Ok tt) (record w { objects = written x.1 x.2 (object_at w.objects x.0).bytes w.objects })) same
          (copied f i t o p q)
