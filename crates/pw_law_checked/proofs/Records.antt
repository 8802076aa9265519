-- Records that are laid out keep the limit on sizes, so their members' offsets are words of 32 bits.
use Rattle.std.specs.Prelude.{ℕ, zero, suc, ◌≡◌, ◌+◌, ◌<◌, ◌≤◌, ◌^◌, Some, List, [], ◌∷◌, map, slice_get, All}
use Rattle.std.proofs.Common.{arith, ap, sym, subst}
use Rattle.std.proofs.lemmas.Option.{slice_get-get_or}
use Rattle.pw_types.specs.declared.record.Layout.{Layout}
use Rattle.pw_types.specs.declared.record.RecordKind.{RecordKind}
use Rattle.pw_types.specs.declared.record.RecordKind.TheVariants.{Structure, Union}
use Rattle.pw_types.specs.Layouts.{content_at, round_up, offsets_from, end_from, align_of, greatest}
use Rattle.pw_types.specs.Records.{Follows, IsLaid, layouts_of, kind_at}
use Rattle.pw_types.specs.TypeTrees.{ContentValue, RecordValue}
use Rattle.pw_value.specs.Limits.{size_limit}
use Rattle.pw_law_checked.proofs.Lists.{some_same, never_some, get_map}
use Rattle.pw_law_checked.proofs.Parts.{AreAligned, round_behind, end_behind, at_least_one, members_aligned}

offset_before : (from : ℕ) (ls : List Layout) → AreAligned ls → (i o : ℕ) → slice_get (offsets_from from ls) i ≡ Some o → o ≤ end_from from ls
offset_before from [] h i o e = never_some e
offset_before from (l ∷ rest) h zero o e =
    let on : round_up from l.align + l.size ≤ end_from (round_up from l.align + l.size) rest = end_behind (round_up from l.align + l.size) rest (λ i x f. h (suc i) x f) in
    let is : round_up from l.align ≡ o = some_same e in
    omega (arith, on, is)
offset_before from (l ∷ rest) h (suc i) o e = offset_before (round_up from l.align + l.size) rest (λ k x f. h (suc k) x f) i o e

below_limit : (o end size : ℕ) → o ≤ end → end ≤ size → size ≤ size_limit → o < 2 ^ 32
below_limit o end size a b c = omega (arith, a, b, c)

offset_word : (r : List RecordValue) (kind : RecordKind) (c : ContentValue) → IsLaid r → Follows r kind c → (i o : ℕ) → slice_get c.offsets i ≡ Some o → o < 2 ^ 32
offset_word r Structure c laid f i o e =
    let ls : List Layout = layouts_of r c.members in
    let size : c.layout.size ≡ round_up (end_from 0 (layouts_of r c.members)) (align_of (layouts_of r c.members)) = ap (λ (l : Layout). l.size) f.laid in
    below_limit o (end_from 0 (layouts_of r c.members)) c.layout.size
    (offset_before 0 (layouts_of r c.members) (members_aligned r Structure c laid f) i o (subst (λ xs. slice_get xs i ≡ Some o) f.placed e))
    (subst (λ n. end_from 0 (layouts_of r c.members) ≤ n) (sym size)
    (round_behind (end_from 0 (layouts_of r c.members)) (align_of (layouts_of r c.members)) (at_least_one (greatest (map (λ (l : Layout). l.align) (layouts_of r c.members))))))
    f.within
offset_word r Union c laid f i o e =
    let x = get_map (λ (l : Layout). 0) (layouts_of r c.members) i o (subst (λ xs. slice_get xs i ≡ Some o) f.placed e) in
    subst (λ n. n < 2 ^ 32) x.2 (omega arith)

-- ---- the laws, from that on records

pub offsets_words : (r : List RecordValue) → IsLaid r → (number : ℕ) (c : ContentValue) → content_at r number ≡ Some c → All (λ o. o < 2 ^ 32) c.offsets
offsets_words r laid number c e = λ k d below. offset_word r (kind_at r number) c laid (laid number c e) k _ (slice_get-get_or c.offsets k d below)
