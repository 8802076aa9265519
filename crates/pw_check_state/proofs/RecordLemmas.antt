-- Structures and unions that are not defined yet.
use Rattle.std.proofs.Common.{◌≡◌, ℕ, false, List, set, Option, None, Some, is_some, slice_get, refl, ap, sym, ◌∙◌}
use Rattle.std.specs.Option.{option_map_or}
use Rattle.pw_types.specs.TypeTrees.{RecordValue, ContentValue}
use Rattle.pw_types.specs.Records.{declared, defined, kind_at}
use Rattle.pw_types.specs.Views.{view_known, view_record}
use Rattle.pw_types.specs.declared.record.Content.{Content}
use Rattle.pw_types.specs.declared.record.RecordKind.{RecordKind}
use Rattle.pw_types.specs.declared.record.RecordKind.TheVariants.{Structure}
use Rattle.pw_types.specs.declared.record.RecordType.{RecordType}
use Rattle.pw_check_rules.specs.States.{put_at}
use Rattle.pw_check_state.proofs.PlaceLemmas.{put_within}

none_known : (o : Option Content) → is_some o ≡ false → view_known o ≡ None
none_known None e = refl
none_known (Some c) e = absurd (cc)

none_shown : (o : Option Content) → view_known o ≡ None → is_some o ≡ false
none_shown None e = refl
none_shown (Some c) e = absurd (cc)

pub declared_shown : (r : RecordType) (kind : RecordKind) → is_some r.content ≡ false → r.kind ≡ kind → view_record r ≡ declared kind
declared_shown r kind e f = cc (none_known r.content e)

pub declared_open : (r : RecordType) (kind : RecordKind) → view_record r ≡ declared kind → is_some r.content ≡ false
declared_open r kind e = none_shown r.content (ap (λ v. v.content) e)

pub declared_kind : (r : RecordType) (kind : RecordKind) → view_record r ≡ declared kind → r.kind ≡ kind
declared_kind r kind e = ap (λ v. v.kind) e

module _ (records : List RecordValue) (number : ℕ) (kind : RecordKind) (is : slice_get records number ≡ Some (declared kind)) where
  pub kind_found : kind_at records number ≡ kind
  kind_found = ap (λ o. option_map_or (λ r. r.kind) o Structure) is

  pub kind_is : slice_get records number ≡ Some (declared (kind_at records number))
  kind_is = is ∙ ap (λ k. Some (declared k)) (sym kind_found)

  pub defined_put : (c : ContentValue) → set records number (defined (kind_at records number) c) ≡ put_at number (defined kind c) records
  defined_put c =
      put_within number (defined (kind_at records number) c) records ∙ ap (λ k. put_at number (defined k c) records) kind_found
