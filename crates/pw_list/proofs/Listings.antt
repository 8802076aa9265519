-- Listings: an image has one.
use Rattle.std.proofs.Common.{◌≡◌, ℕ, zero, suc, List, [], ◌∷◌, map, sym, ap, ◌∙◌, Bor, arith}
use Rattle.std.specs.List.{All, AllByRecursion}
use Rattle.std.specs.List.Sorted.{IsPermutation}
use Rattle.pw_fields.specs.Fields.{FitsU32}
use Rattle.pw_image.specs.declared.image.Image.{Image}
use Rattle.pw_image.specs.Image.{IsInText}
use Rattle.pw_image.specs.declared.image.Function.{Function}
use Rattle.pw_list.specs.Listing.{IsListing, lines_of}
use Rattle.pw_list.proofs.Ordered.{moved, one_order}

pub one_listing : (image : Image) (one other : List ℕ) → IsListing image one → IsListing image other → one ≡ other
one_listing image one other a b =
    let same = one_order (λ (f : Function). f.address) a.ordered b.ordered a.order.rising b.order.rising (λ n. a.order.each n ∙ sym (b.order.each n)) in
    a.lines ∙ ap (lines_of image.memory.words) same ∙ sym b.lines

seen : {X : Type 0} (P : X → Type 0) (xs : List (Bor X)) → AllByRecursion P (map (λ x. x.now) xs) → All (λ x. P x.now) xs
seen P [] all k d lt = absurd (omega (arith, lt))
seen P (x ∷ xs) all zero d lt = all.0
seen P (x ∷ xs) all (suc k) d lt = seen P xs all.1 k d (omega (arith, lt))

-- functions that stand in the text stand there in any order
pub all_within : (words : ℕ) (fs : List Function) (refs : List (Bor Function)) → AllByRecursion (λ f. IsInText words f.address × FitsU32 f.frame) fs → IsPermutation fs (map (λ f. f.now) refs) → All (λ f. IsInText words f.now.address) refs
all_within words fs refs all perm k d lt =
    let ordered : AllByRecursion (λ (f : Function). IsInText words f.address × FitsU32 f.frame) (map (λ f. f.now) refs) = moved (λ (f : Function). IsInText words f.address × FitsU32 f.frame) fs (map (λ f. f.now) refs) perm all in
    (seen (λ (f : Function). IsInText words f.address × FitsU32 f.frame) refs ordered k d lt).0
