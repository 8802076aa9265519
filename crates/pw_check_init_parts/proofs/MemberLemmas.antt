-- Members with their offsets.
use Rattle.std.proofs.Common.{◌≡◌, ℕ, zero, suc, List, [], ◌∷◌, None, Some, option_map, slice_get, zip, refl, ap, ◌∙◌}
use Rattle.std.proofs.lemmas.Option.{none-some, slice_get-map}
use Rattle.pw_types.specs.Views.{view_member, view_members}
use Rattle.pw_types.specs.declared.record.Member.{Member}

module _ {X Y : Type 0} where
  zip_both : (xs : List X) (ys : List Y) (n : ℕ) (x : X) (y : Y) → slice_get xs n ≡ Some x → slice_get ys n ≡ Some y → slice_get (zip xs ys) n ≡ Some (x, y)
  zip_both [] ys n x y e d = absurd (none-some x e)
  zip_both (a ∷ xs) [] n x y e d = absurd (none-some y d)
  zip_both (a ∷ xs) (b ∷ ys) zero x y e d = cc
  zip_both (a ∷ xs) (b ∷ ys) (suc n) x y e d = zip_both xs ys n x y e d

  zip_no_left : (xs : List X) (ys : List Y) (n : ℕ) → slice_get xs n ≡ None → slice_get (zip xs ys) n ≡ None
  zip_no_left [] ys n e = refl
  zip_no_left (a ∷ xs) [] n e = refl
  zip_no_left (a ∷ xs) (b ∷ ys) zero e = absurd (none-some a (cc))
  zip_no_left (a ∷ xs) (b ∷ ys) (suc n) e = zip_no_left xs ys n e

  zip_no_right : (xs : List X) (ys : List Y) (n : ℕ) → slice_get ys n ≡ None → slice_get (zip xs ys) n ≡ None
  zip_no_right [] ys n e = refl
  zip_no_right (a ∷ xs) [] n e = refl
  zip_no_right (a ∷ xs) (b ∷ ys) zero e = absurd (none-some b (cc))
  zip_no_right (a ∷ xs) (b ∷ ys) (suc n) e = zip_no_right xs ys n e

module _ (ms : List Member) (os : List ℕ) (n : ℕ) where
  pub both_found : (m : Member) (o : ℕ) → slice_get ms n ≡ Some m → slice_get os n ≡ Some o → slice_get (zip (view_members ms) os) n ≡ Some (view_member m, o)
  both_found m o e d = zip_both (view_members ms) os n (view_member m) o (slice_get-map view_member ms n ∙ ap (option_map view_member) e) d

  pub no_member : slice_get ms n ≡ None → slice_get (zip (view_members ms) os) n ≡ None
  no_member e = zip_no_left (view_members ms) os n (slice_get-map view_member ms n ∙ ap (option_map view_member) e)

  pub no_offset : slice_get os n ≡ None → slice_get (zip (view_members ms) os) n ≡ None
  no_offset e = zip_no_right (view_members ms) os n e
